-- Texts put on a page one after the other.
use Rattle.std.proofs.Common.{◌≡◌, ℕ, suc, ◌+◌, ◌^◌, ◌<◌, ◌≤◌, List, [], ◌∷◌, ◌++◌, length, get_or, take, drop, set, sym, ap, ◌∙◌, subst, zero-add, arith, length-append}
use Rattle.std.proofs.lemmas.List.{take_more, flat_map_more}
use Rattle.std.proofs.lemmas.List.Edits.{sets, sets-eq}
use Rattle.std.proofs.lemmas.Bool.{cond-false, le-ltb}
use Rattle.std.proofs.Math.Seq.{length-sets}
use Rattle.std.specs.List.{replace_range}
use Rattle.house.specs.declared.room.Room.{Room}
use Rattle.paper_text.specs.declared.page.Page.{Page}
use Rattle.paper_text.specs.Page.{Put}
use Rattle.paper_text.specs.Text.{room_line, room_lines, written}

-- from the next place on, whatever number stands for it
sets_join : (held : List ℕ) (at next : ℕ) (s t : List ℕ) → next ≡ at + length s → sets (sets held at s) next t ≡ sets held at (s ++ t)
sets_join held at next [] t e = ap (λ n. sets held n t) (omega arith)
sets_join held at next (b ∷ s) t e = sets_join (set held at b) (suc at) next s t (omega arith)

-- one text and then the next
module _ {s t : List ℕ} {old mid new : Page} (p : Put s old mid) (q : Put t mid new) where
  fits : old.len + length (s ++ t) < 2 ^ 64 → (mid.len ≡ old.len + length s) × (old.len + length s + length t < 2 ^ 64)
  fits h = let n = length-append s t in (p.len (omega arith), omega arith)

  then_bytes : old.len + length (s ++ t) < 2 ^ 64 → old.len + length (s ++ t) ≤ length old.buffer.now → new.buffer.now ≡ replace_range old.buffer.now old.len (old.len + length (s ++ t)) (s ++ t)
  then_bytes h room =
      let n = length-append s t in
      let f = fits h in
      let held = old.buffer.now in
      let half = mid.buffer.now in
      let first : half ≡ sets held old.len s = p.bytes (omega arith) (omega arith) ∙ sym (sets-eq s held old.len (omega arith)) in
      let same : length half ≡ length held = ap length first ∙ length-sets held old.len s in
      q.bytes (omega arith) (omega arith) ∙ sym (sets-eq t half mid.len (omega arith))
      ∙ ap (λ b. sets b mid.len t) first ∙ sets_join held old.len mid.len s t f.0
      ∙ sets-eq (s ++ t) held old.len room

  pub then : Put (s ++ t) old new
  then = record {
    same_buffer = q.same_buffer ∙ p.same_buffer;
    len = λ h. let n = length-append s t in let f = fits h in omega (arith, q.len (omega arith));
    bytes = then_bytes;
  }

-- the same text under another name
pub put_as : {s t : List ℕ} {old new : Page} → s ≡ t → Put s old new → Put t old new
put_as {s} {t} {old} {new} e p = subst (λ u. Put u old new) e p

-- the rooms one after the other
pub rooms_more : (rooms : List Room) (i : ℕ) (d : Room) {old mid new : Page} → i < length rooms → Put (room_lines (take i rooms)) old mid → Put (room_line (get_or rooms i d)) mid new → Put (room_lines (take (i + 1) rooms)) old new
rooms_more rooms i d l p q = put_as (flat_map_more room_line [] (take i rooms) (get_or rooms i d) ∙ sym (ap room_lines (take_more rooms i d l))) (then p q)

-- a whole paper from the front of a buffer on
module _ (text : List ℕ) {old new : Page} (empty : old.len ≡ 0) (few : length text < 2 ^ 64) (p : Put text old new) where
  pub len_all : new.len ≡ length text
  len_all = omega (arith, p.len (omega arith))

  pub bytes_all : new.len ≤ length old.buffer.now → new.buffer.now ≡ written text old.buffer.now
  bytes_all fit =
      let held = old.buffer.now in
      let all = len_all in
      p.bytes (omega arith) (omega arith)
      ∙ ap (λ n. replace_range held n (n + length text) text) empty
      ∙ ap (λ n. text ++ drop n held) (zero-add (length text))
      ∙ sym (cond-false _ _ _ (le-ltb (length held) (length text) (omega arith)))
