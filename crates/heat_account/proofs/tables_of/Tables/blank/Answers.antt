use Rattle.std.proofs.Common.{◌≡◌, min}
use native.Mathlib.Nat.{min-eq_left}
use Rattle.heat_account.proofs.tables_of.Tables.blank.Goals as goal

pub returns : goal.returns
returns c = let e : min c.args.rooms 256 ≡ c.args.rooms = min-eq_left c.requires in cc
