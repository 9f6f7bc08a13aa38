-- What is claimed of the DLE link besides the claims on every link.
use Rattle.std.specs.Prelude.{ℕ, List, [], ◌∷◌}
use Rattle.framing.specs.Refusals as Refusals
use Rattle.framing.specs.Places as Places
use Rattle.dle.specs.Contract.{link}

-- a new start, a byte too many, the least size, a wrong code, the length; there is no check value, and any sequence and node are allowed
abbrev pub stream_numbers : List ℕ
stream_numbers = 4 ∷ 5 ∷ 6 ∷ 7 ∷ 10 ∷ []

abbrev pub GivesExactly : Type 0
GivesExactly = Refusals.GivesExactly link stream_numbers

abbrev pub ReceiveGives : Type 0
ReceiveGives = Refusals.ReceiveGives link stream_numbers

-- a byte that makes an event is not gathered; nothing is unpacked
abbrev pub StoresGathered : Type 0
StoresGathered = Places.StoresGathered link (λ g b. g) (λ m. [])

-- no call tells a message with more than 255 bytes of data
abbrev pub DataWithin : Type 0
DataWithin = Places.DataWithin link (λ v. v.length) 255
