-- A text put on a page.
use Rattle.std.specs.Prelude.{◌≡◌, ℕ, ◌+◌, ◌^◌, ◌<◌, ◌≤◌, List, length}
use Rattle.std.specs.List.{replace_range}
use Rattle.paper_text.specs.declared.page.Page.{Page}

-- `new` is the page `old` with the text behind what was put there; of more text than a `usize` counts, and of the bytes where it does not fit, this says nothing
pub record Put (text : List ℕ) (old new : Page) : Type 0 where
  pub same_buffer : new.buffer.ghost_name ≡ old.buffer.ghost_name
  pub len : old.len + length text < 2 ^ 64 → new.len ≡ old.len + length text
  pub bytes : old.len + length text < 2 ^ 64 → old.len + length text ≤ length old.buffer.now → new.buffer.now ≡ replace_range old.buffer.now old.len (old.len + length text) text
