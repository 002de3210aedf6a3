-- The paper of a house, byte by byte, and what writing it gives and leaves.
use Rattle.std.specs.Prelude.{ℕ, if◌then◌else◌, List, ◌++◌, length, drop, Ok, Err, codes, decimal, Result, nat_lt}
use Rattle.std.specs.List.{flat_map}
use Rattle.fault.specs.Numbers.{fault_of}
use Rattle.fault.specs.declared.place.Place.TheVariants.{Nowhere}
use Rattle.fault.specs.declared.reason.Reason.TheVariants.{BufferTooShort}
use Rattle.fault.specs.declared.refusal.Fault.{Fault}
use Rattle.house.specs.declared.method.Method.{Method}
use Rattle.house.specs.declared.method.Method.TheVariants.{Remainder, Stated}
use Rattle.house.specs.declared.room.Kind.{Kind}
use Rattle.house.specs.declared.room.Kind.TheVariants.{Metered, Plain, Detached}
use Rattle.house.specs.declared.room.Room.{Room}
use Rattle.house.specs.Plan.{Plan}

abbrev pub house_word : List ℕ
house_word = codes "(house "

abbrev pub room_word : List ℕ
room_word = codes "(room "

abbrev pub opening : List ℕ
opening = codes " ("

abbrev pub remainder_word : List ℕ
remainder_word = codes "remainder "

abbrev pub stated_word : List ℕ
stated_word = codes "stated "

abbrev pub metered_word : List ℕ
metered_word = codes "metered "

abbrev pub plain_word : List ℕ
plain_word = codes "plain "

abbrev pub detached_word : List ℕ
detached_word = codes "detached "

abbrev pub blank : List ℕ
blank = codes " "

-- the end of a line
abbrev pub closing : List ℕ
closing = codes "))\n"

-- from the bracket on, to the end of the line
abbrev pub method_text : Method → List ℕ
method_text (Remainder area) = remainder_word ++ (decimal area ++ closing)
method_text (Stated percent) = stated_word ++ (decimal percent ++ closing)

abbrev pub kind_text : Kind → ℕ → List ℕ
kind_text Metered area = metered_word ++ (decimal area ++ closing)
kind_text Plain area = plain_word ++ (decimal area ++ closing)
kind_text (Detached pipe) area = detached_word ++ (decimal area ++ (blank ++ (decimal pipe ++ closing)))

abbrev pub house_line : ℕ → Method → List ℕ
house_line number method = house_word ++ (decimal number ++ (opening ++ method_text method))

abbrev pub room_line : Room → List ℕ
room_line room = room_word ++ (decimal room.number ++ (opening ++ kind_text room.kind room.area))

abbrev pub room_lines : List Room → List ℕ
room_lines rooms = flat_map room_line rooms

abbrev pub paper_text : Plan → List ℕ
paper_text plan = house_line plan.number plan.method ++ room_lines plan.rooms

-- what a buffer holds once the text is written into it: a short one what it held
abbrev pub written : List ℕ → List ℕ → List ℕ
written text held = if nat_lt (length held) (length text) then held else text ++ drop (length text) held

-- and what the writer is told: the text's length
abbrev pub told : List ℕ → List ℕ → Result ℕ Fault
told text held = if nat_lt (length held) (length text) then Err (fault_of BufferTooShort Nowhere) else Ok (length text)
