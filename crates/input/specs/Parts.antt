-- The parts of the program's input: a paper, an empty line, and events.
use Rattle.std.specs.Prelude.{ℕ, suc, Bool, true, cond, ◌&&◌, List, [], ◌∷◌, length, take, drop, ◌==◌, nat_lt}
use Rattle.forms.specs.Lines.{line_length}

-- how many bytes come before the first empty line, where the text begins a line or goes on with one
abbrev pub before_blank : Bool → List ℕ → ℕ
before_blank begins [] = 0
before_blank begins (b ∷ bs) = cond (begins && b == 10) 0 (suc (before_blank (b == 10) bs))

-- the paper ends before the first empty line, and the events follow behind it
abbrev pub paper_part : List ℕ → List ℕ
paper_part input = take (before_blank true input) input

abbrev pub event_part : List ℕ → List ℕ
event_part input = drop 1 (drop (before_blank true input) input)

-- a line without its end
abbrev pub unended : List ℕ → List ℕ
unended [] = []
unended (b ∷ []) = cond (b == 10) [] (b ∷ [])
unended (b ∷ c ∷ bs) = b ∷ unended (c ∷ bs)

-- the first event, and those behind its line
abbrev pub first_event : List ℕ → List ℕ
first_event events = unended (take (line_length events) events)

abbrev pub other_events : List ℕ → List ℕ
other_events events = drop (line_length events) events

abbrev pub too_long : List ℕ → Bool
too_long input = nat_lt 65536 (length input)
