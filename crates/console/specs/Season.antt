-- What the program prints for its whole input, under Remainders.
use Rattle.std.specs.Prelude.{ℕ, List, [], ◌∷◌, ◌++◌, map, length, codes, Ok, Err, Result}
use Rattle.fault.specs.declared.refusal.Fault.{Fault}
use Rattle.sharing.specs.Rule.{Shares}
use Rattle.sharing.specs.Remainders.{remainders}
use Rattle.house.specs.Plan.{Plan}
use Rattle.forms.specs.Lines.{lines}
use Rattle.input.specs.Parts.{event_part, unended}
use Rattle.events.specs.Events.{event_of}
use Rattle.heat_account.specs.State.{State, no_state}
use Rattle.listing.specs.Performed.{line_printed, line_after}
use Rattle.console.specs.Opened.{house_in, opening_text}

-- the events of an input, each without its line end
abbrev pub event_lines : List ℕ → List (List ℕ)
event_lines events = map unended (lines events)

-- each event is performed on the account that those before it left
abbrev pub events_text : Shares → Plan → State → List (List ℕ) → List ℕ
events_text shares plan s [] = []
events_text shares plan s (line ∷ lines) =
    line_printed shares plan s (event_of line) ++ events_text shares plan (line_after shares plan s (event_of line)) lines

-- nothing more is printed for an input without a house
abbrev pub kept_text : Result Plan Fault → List (List ℕ) → List ℕ
kept_text (Ok plan) events = events_text remainders plan (no_state (length plan.rooms)) events
kept_text (Err fault) events = []

abbrev pub season_text : List ℕ → List ℕ
season_text input = opening_text (codes "remainders") (house_in input) ++ kept_text (house_in input) (event_lines (event_part input))
