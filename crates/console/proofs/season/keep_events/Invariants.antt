use Rattle.std.proofs.Common.{◌≡◌, ℕ, List, [], string_bytes, Option}
use Rattle.std.specs.Io.KnownBytes.{Appends}
use Rattle.sharing.specs.Remainders.{remainders}
use Rattle.console.specs.Season.{event_lines, events_text}
use Rattle.console.proofs.season.keep_events.Given as goal

-- what the events that are left bring, in whatever writing it ends, completes what all of them bring
abbrev pub invariant-loop-line : goal.invariant-loop-line
invariant-loop-line g l = record {
  emptied : string_bytes l.out ≡ [];
  written : (last : Option (List ℕ)) → Appends (g.W.Write.contents l.writer) last (events_text remainders l.account.house l.account.state l.line-iterator) → Appends (g.W.Write.contents l.initial.writer) last (events_text remainders l.initial.account.house l.initial.account.state (event_lines l.events));
}
