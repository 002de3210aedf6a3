use Rattle.std.proofs.Common.{◌≡◌, ℕ, List, IfOk, Ok, Err, Result, sym}
use Rattle.fault.specs.declared.refusal.Fault.{Fault}
use Rattle.house.specs.declared.House.{House}
use Rattle.forms.proofs.FollowLaws.{followed}
use Rattle.paper_text.specs.Text.{paper_text}
use Rattle.paper.specs.Lines.{house_form, room_form}
use Rattle.paper.specs.Reading.{reading}
use Rattle.paper.proofs.OnlyPaper.{only_paper}
use Rattle.paper.proofs.Accepted.{lawful_accepted}
use Rattle.paper.proofs.Sounding.{house_sound, room_sound}
use Rattle.paper.proofs.reading.read_paper.Goals as goal

written_back : (bs : List ℕ) (r : Result House Fault) → r ≡ reading bs → IfOk r (λ (house : House). paper_text house ≡ bs)
written_back bs (Ok house) e = only_paper bs house (sym e)
written_back bs (Err fault) e = tt

pub returns : goal.returns
returns c = record {
  value = c.read_lines.ensures;
  written = written_back c.args.paper.now c.read_lines.result c.read_lines.ensures;
  accepted = λ plan. lawful_accepted plan.number plan.method plan.rooms;
  lawful = record {
    house = λ line bs. followed (house_form line) (house_sound line) 1 bs;
    room = λ line bs. followed (room_form line) (room_sound line) 1 bs;
  };
}
