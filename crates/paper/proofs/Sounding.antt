-- The lines of a house paper are told apart by their words.
use Rattle.std.proofs.Common.{ℕ, refl}
use Rattle.forms.specs.Lawful.{Sound}
use Rattle.paper.specs.Lines.{house_form, room_form}

pub house_sound : (line : ℕ) → Sound (house_form line)
house_sound line = λ _ _. (refl, (refl, λ _ _. (refl, tt), λ _ _. (refl, tt)))

pub room_sound : (line : ℕ) → Sound (room_form line)
room_sound line =
    λ _ _. (refl, λ _. ((refl, refl), λ _ _. (refl, tt), (refl, λ _ _. (refl, tt), λ _ _. (refl, λ _ _. (refl, tt)))))
