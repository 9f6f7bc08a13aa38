-- What is claimed of the MDU link besides the claims on every link.
use Rattle.std.specs.Prelude.{ℕ, List, [], ◌∷◌, ◌++◌}
use Rattle.framing.specs.Refusals as Refusals
use Rattle.framing.specs.Places as Places
use Rattle.mdu.specs.Contract.{link}

-- the header sum or the CRC, the version or the address, the length; the stated length ends a frame, so no new start, no byte too many and no end too
-- early
abbrev pub stream_numbers : List ℕ
stream_numbers = 8 ∷ 9 ∷ 10 ∷ []

abbrev pub GivesExactly : Type 0
GivesExactly = Refusals.GivesExactly link stream_numbers

abbrev pub ReceiveGives : Type 0
ReceiveGives = Refusals.ReceiveGives link stream_numbers

-- a byte that makes an event is gathered like any other; nothing is unpacked
abbrev pub StoresGathered : Type 0
StoresGathered = Places.StoresGathered link (λ g b. g ++ (b ∷ [])) (λ m. [])

-- no call tells a message with more than 1,025 bytes of body
abbrev pub DataWithin : Type 0
DataWithin = Places.DataWithin link (λ v. v.length) 1025
