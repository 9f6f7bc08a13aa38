-- The number of 01's table that each refusal stands for.
use Rattle.std.specs.Prelude.{ℕ}
use Rattle.framing.specs.declared.refusal.Refusal.{Refusal}
use Rattle.framing.specs.declared.refusal.Refusal.TheVariants.{StoreShort, OutputShort, Unsendable, NewStart, TooLong, TooShort, WrongCode}
use Rattle.framing.specs.declared.refusal.Refusal.TheVariants.{WrongCheck, WrongField, WrongLength, UnknownState, BadlyPacked, Busy, NoStep}
use Rattle.framing.specs.declared.refusal.Refusal.TheVariants.{Malformed, OtherSign, NoElement, OutsideProfile}

abbrev pub number_of : Refusal → ℕ
number_of StoreShort = 1
number_of OutputShort = 2
number_of Unsendable = 3
number_of NewStart = 4
number_of TooLong = 5
number_of TooShort = 6
number_of WrongCode = 7
number_of WrongCheck = 8
number_of WrongField = 9
number_of WrongLength = 10
number_of UnknownState = 12
number_of BadlyPacked = 13
number_of Busy = 14
number_of NoStep = 15
number_of Malformed = 16
number_of OtherSign = 17
number_of NoElement = 18
number_of OutsideProfile = 21
