-- What is claimed of the PCS link besides the claims on every link.
use Rattle.std.specs.Prelude.{ℕ, ◌≡◌, ◌≢◌, true, false, List, [], ◌∷◌, length}
use Rattle.runs.specs.Runs.{Bytes}
use Rattle.framing.specs.Refusals as Refusals
use Rattle.framing.specs.Places as Places
use Rattle.checksum.specs.Claims.{DifferWithin}
use Rattle.pcs.specs.Frame.{with_fields, ok, trailer}
use Rattle.pcs.specs.Contract.{link}

-- a new start, a byte too many, and the tests at the end of a frame: size, check values, fields, length, data badly packed
abbrev pub stream_numbers : List ℕ
stream_numbers = 4 ∷ 5 ∷ 6 ∷ 8 ∷ 9 ∷ 10 ∷ 13 ∷ []

abbrev pub GivesExactly : Type 0
GivesExactly = Refusals.GivesExactly link stream_numbers

abbrev pub ReceiveGives : Type 0
ReceiveGives = Refusals.ReceiveGives link stream_numbers

-- a byte that makes an event is not gathered; an accepted message leaves its data unpacked from place 0 on
abbrev pub StoresGathered : Type 0
StoresGathered = Places.StoresGathered link (λ g b. g) (λ m. m.payload)

-- no call tells a message with more than 1,024 bytes of data
abbrev pub DataWithin : Type 0
DataWithin = Places.DataWithin link (λ v. v.length) 1024

-- a CRC is never the reason for 3: a message may be sent with one exactly if it may be sent without, an acknowledgement too
abbrev pub EitherWay : Type 0
EitherWay =
    (receiver sender kind number from to : ℕ) (d : List ℕ)
    → ok (with_fields receiver sender kind number from to true d) ≡ ok (with_fields receiver sender kind number from to false d)

-- the CRC covers the whole body: two that are equally long and differ only within two neighbouring bytes have different trailers
abbrev pub CrcDetects : Type 0
CrcDetects =
    (u v : List ℕ) → Bytes u → Bytes v → length u ≡ length v → DifferWithin 2 u v → u ≢ v → trailer true u ≢ trailer true v
