-- What is claimed of the MDU link besides the claims on every link, which follow from `lawful` (framing/proofs/Lawful.antt, Wire.antt, Whole.antt); and what its check value detects.
use Rattle.framing.proofs.Refusals as any
use Rattle.framing.proofs.Places as Places
use Rattle.std.proofs.Common.{[], ◌∷◌, ◌++◌}
use Rattle.checksum.specs.Claims.{Crc16Detects}
use Rattle.checksum.proofs.CheckValue.{crc16_detects}
use Rattle.mdu.specs.Contract.{link}
use Rattle.mdu.specs.Claims.{stream_numbers, GivesExactly, ReceiveGives, StoresGathered, DataWithin}
use Rattle.mdu.proofs.Lawful.{lawful}
use Rattle.mdu.proofs.Numbers.{given}
use Rattle.mdu.proofs.Places.{storing, few}

-- a stream gives exactly these numbers
pub gives_exactly : GivesExactly
gives_exactly = any.gives_exactly link lawful stream_numbers given

-- and a call of `receive` 12, 1 and these
pub receive_gives : ReceiveGives
receive_gives = any.receive_gives link lawful stream_numbers given

-- what a call leaves in the store, place by place
pub stores_gathered : StoresGathered
stores_gathered = Places.stores_gathered link (λ g b. g ++ (b ∷ [])) (λ m. []) storing

-- how much data a message has that a call tells
pub data_within : DataWithin
data_within = Places.data_within link (λ g b. g ++ (b ∷ [])) (λ m. []) storing (λ v. v.length) 1025 few

-- two bodies of equal length that differ only within two neighbouring bytes have different check values
pub check_value : Crc16Detects
check_value = crc16_detects
