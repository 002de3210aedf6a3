-- How long a paper is at most.
use Rattle.std.proofs.Common.{◌≡◌, ℕ, ◌+◌, ◌*◌, ◌^◌, ◌<◌, ◌≤◌, true, List, [], ◌∷◌, ◌++◌, length, decimal, arith, length-append}
use Rattle.std.proofs.lemmas.Bool.{and_parts}
use Rattle.std.proofs.lemmas.Bool.Decides.{nat_tests}
use Rattle.std.proofs.lemmas.Fmt.{length-decimal-le}
use Rattle.house.specs.Plan.{most_number, most_area, most_percent, method_fits, pipe_of, room_fits, every, lawful}
use Rattle.house.specs.declared.method.Method.{Method}
use Rattle.house.specs.declared.method.Method.TheVariants.{Remainder, Stated}
use Rattle.house.specs.declared.room.Kind.{Kind}
use Rattle.house.specs.declared.room.Kind.TheVariants.{Metered, Plain, Detached}
use Rattle.house.specs.declared.room.Room.{Room}
use Rattle.house.proofs.Laws.{laws_of}
use Rattle.paper_text.specs.Text.{house_word, room_word, opening, remainder_word, stated_word, metered_word, plain_word, detached_word, blank, closing, method_text, kind_text, house_line, room_line, room_lines}

-- no figure of a house has more digits than its greatest area
number_short : (n : ℕ) → n ≤ most_area → length (decimal n) ≤ 9
number_short n h = length-decimal-le 9 n (omega arith) (omega arith) (omega arith)

framed_short : (a c : List ℕ) (n : ℕ) → n ≤ most_area → length (a ++ (decimal n ++ c)) ≤ length a + 9 + length c
framed_short a c n h = omega (arith, length-append a (decimal n ++ c), length-append (decimal n) c, number_short n h)

method_short : (method : Method) → method_fits method ≡ true → length (method_text method) ≤ 32
method_short (Remainder area) h = let fit : area ≤ most_area = grind (arith, nat_tests) in omega (arith, framed_short remainder_word closing area fit)
method_short (Stated percent) h = let fit : percent ≤ most_percent = grind (arith, nat_tests) in omega (arith, framed_short stated_word closing percent (omega arith))

kind_short : (kind : Kind) (area : ℕ) → area ≤ most_area → pipe_of kind ≤ most_area → length (kind_text kind area) ≤ 40
kind_short Metered area a p = omega (arith, framed_short metered_word closing area a)
kind_short Plain area a p = omega (arith, framed_short plain_word closing area a)
kind_short (Detached pipe) area a p =
    omega (arith, framed_short detached_word (blank ++ (decimal pipe ++ closing)) area a, framed_short blank closing pipe p)

room_short : (room : Room) → room_fits room ≡ true → length (room_line room) ≤ 64
room_short room h =
    let number : room.number ≤ most_number = grind (arith, nat_tests) in
    let area : room.area ≤ most_area = grind (arith, nat_tests) in
    let pipe : pipe_of room.kind ≤ most_area = grind (arith, nat_tests) in
    let kind = kind_short room.kind room.area area pipe in
    omega (arith, framed_short room_word (opening ++ kind_text room.kind room.area) room.number (omega arith))

rooms_short : (rooms : List Room) → every room_fits rooms ≡ true → length (room_lines rooms) ≤ 64 * length rooms
rooms_short [] h = omega arith
rooms_short (room ∷ rooms) h =
    let p = and_parts (room_fits room) (every room_fits rooms) h in
    omega (arith, length-append (room_line room) (room_lines rooms), room_short room p.0, rooms_short rooms p.1)

pub paper_short : (number : ℕ) (method : Method) (rooms : List Room) → lawful number method rooms ≡ true → length (house_line number method ++ room_lines rooms) < 2 ^ 64
paper_short number method rooms h =
    let laws = laws_of number method rooms h in
    let fit : number ≤ most_number = grind (arith, nat_tests, laws.number_in) in
    let line = framed_short house_word (opening ++ method_text method) number (omega arith) in
    let figure = method_short method laws.method_in in
    let lines = rooms_short rooms laws.fit in
    omega (arith, length-append (house_line number method) (room_lines rooms), laws.few)
