-- What holds of every paper and of every line.
use Rattle.std.specs.Prelude.{◌≡◌, ℕ, true, List, Ok}
use Rattle.house.specs.Plan.{Plan, lawful}
use Rattle.forms.specs.Form.{follow}
use Rattle.forms.specs.Lawful.{Told}
use Rattle.paper_text.specs.Text.{paper_text}
use Rattle.paper.specs.Lines.{house_form, room_form}
use Rattle.paper.specs.Reading.{reading}

-- the paper of every lawful house is accepted, and gives that house
abbrev pub Accepted : Type 0
Accepted = (plan : Plan) → lawful plan.number plan.method plan.rooms ≡ true → reading (paper_text plan) ≡ Ok plan

-- a line says what its lawful form says, or the column is the first at which it is no longer the start of a lawful line
pub record Lawful : Type 0 where
  pub house : (line : ℕ) (bs : List ℕ) → Told (house_form line) 1 bs (follow (house_form line) 1 bs)
  pub room : (line : ℕ) (bs : List ℕ) → Told (room_form line) 1 bs (follow (room_form line) 1 bs)
