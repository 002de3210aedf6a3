-- The paper of a house has a line for the house and one for each room.
use Rattle.std.proofs.Common.{◌≡◌, ℕ, ◌<◌, Bool, true, not, ◌&&◌, eqb, List, [], ◌∷◌, ◌++◌, decimal, refl, ap, ◌∙◌, arith}
use Rattle.std.specs.Str.Parse.{AllDigits, digits_value}
use Rattle.std.proofs.lemmas.Fmt.{digits_decimal}
use Rattle.std.proofs.lemmas.Str.Parse.{IsNumeralModel, numerals_by_value, tells_digits, digit_from_value}
use Rattle.std.proofs.lemmas.Bool.{and_parts, and_from, not-true, not_from_false, ne_eqb, cond-false}
use Rattle.house.specs.declared.method.Method.{Method}
use Rattle.house.specs.declared.method.Method.TheVariants.{Remainder, Stated}
use Rattle.house.specs.declared.room.Kind.{Kind}
use Rattle.house.specs.declared.room.Kind.TheVariants.{Metered, Plain, Detached}
use Rattle.house.specs.declared.room.Room.{Room}
use Rattle.house.specs.Plan.{pipe_of}
use Rattle.forms.specs.Lines.{onto, lines}
use Rattle.paper_text.specs.Text.{house_word, room_word, opening, remainder_word, stated_word, metered_word, plain_word, detached_word, blank, closing, method_text, kind_text, house_line, room_line}

own : IsNumeralModel (AllDigits 10) (digits_value 10)
own = numerals_by_value (AllDigits 10) tells_digits

-- no byte ends a line
abbrev clear : List ℕ → Bool
clear [] = true
clear (b ∷ bs) = not (eqb b 10) && clear bs

clear_digits : (ds : List ℕ) → AllDigits 10 ds → clear ds ≡ true
clear_digits [] h = refl
clear_digits (d ∷ ds) h =
    let digit = digit_from_value d h.0 in
    and_from _ _ (not_from_false (eqb d 10) (ne_eqb d 10 (λ e. omega arith))) (clear_digits ds h.1)

clear_decimal : (n : ℕ) → n < 1000000000 → clear (decimal n) ≡ true
clear_decimal n small = clear_digits (decimal n) (digits_decimal own n (omega arith))

-- a whole line, whatever stands behind it
abbrev pub Lined : List ℕ → Type 0
Lined l = (rest : List ℕ) → lines (l ++ rest) ≡ l ∷ lines rest

lined_after : (w t : List ℕ) → clear w ≡ true → Lined t → Lined (w ++ t)
lined_after [] t c h = h
lined_after (b ∷ w) t c h =
    let p = and_parts (not (eqb b 10)) (clear w) c in
    λ rest. cond-false (eqb b 10) _ _ (not-true (eqb b 10) p.0) ∙ ap (onto b) (lined_after w t p.1 h rest)

lined_closing : Lined closing
lined_closing rest = refl

lined_figure : (n : ℕ) → n < 1000000000 → Lined (decimal n ++ closing)
lined_figure n small = lined_after (decimal n) closing (clear_decimal n small) lined_closing

abbrev pub method_figure : Method → ℕ
method_figure (Remainder area) = area
method_figure (Stated percent) = percent

lined_method : (m : Method) → method_figure m < 1000000000 → Lined (method_text m)
lined_method (Remainder area) small = lined_after remainder_word (decimal area ++ closing) refl (lined_figure area small)
lined_method (Stated percent) small = lined_after stated_word (decimal percent ++ closing) refl (lined_figure percent small)

lined_kind : (kind : Kind) (area : ℕ) → area < 1000000000 → pipe_of kind < 1000000000 → Lined (kind_text kind area)
lined_kind Metered area small thin = lined_after metered_word (decimal area ++ closing) refl (lined_figure area small)
lined_kind Plain area small thin = lined_after plain_word (decimal area ++ closing) refl (lined_figure area small)
lined_kind (Detached pipe) area small thin =
    lined_after detached_word (decimal area ++ (blank ++ (decimal pipe ++ closing))) refl
    (lined_after (decimal area) (blank ++ (decimal pipe ++ closing)) (clear_decimal area small)
    (lined_after blank (decimal pipe ++ closing) refl (lined_figure pipe thin)))

lined_number : (w : List ℕ) (n : ℕ) (t : List ℕ) → clear w ≡ true → n < 1000000000 → Lined t → Lined (w ++ (decimal n ++ (opening ++ t)))
lined_number w n t c small h =
    lined_after w (decimal n ++ (opening ++ t)) c (lined_after (decimal n) (opening ++ t) (clear_decimal n small) (lined_after opening t refl h))

pub lined_house : (n : ℕ) (m : Method) → n < 1000000000 → method_figure m < 1000000000 → Lined (house_line n m)
lined_house n m small fig = lined_number house_word n (method_text m) refl small (lined_method m fig)

pub lined_room : (room : Room) → room.number < 1000000000 → room.area < 1000000000 → pipe_of room.kind < 1000000000 → Lined (room_line room)
lined_room room small fig thin = lined_number room_word room.number (kind_text room.kind room.area) refl small (lined_kind room.kind room.area fig thin)
