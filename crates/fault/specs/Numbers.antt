-- The number and the layer of every reason for a refusal.
use Rattle.std.specs.Prelude.{ℕ}
use Rattle.fault.specs.declared.layer.Layer.{Layer}
use Rattle.fault.specs.declared.layer.Layer.TheVariants as layers
use Rattle.fault.specs.declared.place.Place.{Place}
use Rattle.fault.specs.declared.reason.Reason.{Reason}
use Rattle.fault.specs.declared.reason.Reason.TheVariants.{MalformedLine, NoRoomLine, NumberOutOfRange, TooManyRooms, RoomNotAscending, KindNotTaken, AreasTooLarge, UnknownRoom, NotMetered, ReadingTooLarge, CorrectionOpen, PeriodsFull, FigureTooLarge, CommonFigure, ReadingsAboveTotal, RestUnclaimed, NothingClosed, SlipMismatch, PlaceTooShort, SharingTooLarge, NoWeight, BufferTooShort, InputTooLong}
use Rattle.fault.specs.declared.refusal.Fault.{Fault}

abbrev pub layer_number : Layer → ℕ
layer_number layers.Paper = 1
layer_number layers.House = 2
layer_number layers.Account = 3
layer_number layers.Sharing = 4

-- number and layer of each reason
abbrev pub listed : Reason → ℕ × Layer
listed MalformedLine = (1, layers.Paper)
listed NoRoomLine = (2, layers.Paper)
listed NumberOutOfRange = (3, layers.Paper)
listed TooManyRooms = (4, layers.House)
listed RoomNotAscending = (5, layers.House)
listed KindNotTaken = (6, layers.House)
listed AreasTooLarge = (7, layers.House)
listed UnknownRoom = (11, layers.Account)
listed NotMetered = (12, layers.Account)
listed ReadingTooLarge = (13, layers.Account)
listed CorrectionOpen = (21, layers.Account)
listed PeriodsFull = (22, layers.Account)
listed FigureTooLarge = (23, layers.Account)
listed CommonFigure = (24, layers.Account)
listed ReadingsAboveTotal = (25, layers.Account)
listed RestUnclaimed = (26, layers.Account)
listed NothingClosed = (31, layers.Account)
listed SlipMismatch = (32, layers.Account)
listed PlaceTooShort = (41, layers.Sharing)
listed SharingTooLarge = (42, layers.Sharing)
listed NoWeight = (43, layers.Sharing)
listed BufferTooShort = (51, layers.Paper)
listed InputTooLong = (52, layers.Paper)

abbrev pub number : Reason → ℕ
number r = (listed r).0

abbrev pub layer : Reason → Layer
layer r = (listed r).1

-- a refusal in the layer of its reason
abbrev pub fault_of : Reason → Place → Fault
fault_of r p = record { reason = r; layer = layer r; place = p }
