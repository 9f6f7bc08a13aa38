-- What is claimed of the DLE link besides the claims on every link, which follow from `lawful` (framing/proofs/Lawful.antt, Wire.antt, Whole.antt).
use Rattle.framing.proofs.Refusals as any
use Rattle.framing.proofs.Places as Places
use mathlib.Core.List.{[]}
use Rattle.dle.specs.Contract.{link}
use Rattle.dle.specs.Claims.{stream_numbers, GivesExactly, ReceiveGives, StoresGathered, DataWithin}
use Rattle.dle.proofs.Lawful.{lawful}
use Rattle.dle.proofs.Numbers.{given}
use Rattle.dle.proofs.Places.{storing, few}

-- a stream gives exactly these numbers
pub gives_exactly : GivesExactly
gives_exactly = any.gives_exactly link lawful stream_numbers given

-- and a call of `receive` 12, 1 and these
pub receive_gives : ReceiveGives
receive_gives = any.receive_gives link lawful stream_numbers given

-- what a call leaves in the store, place by place
pub stores_gathered : StoresGathered
stores_gathered = Places.stores_gathered link (λ g b. g) (λ m. []) storing

-- how much data a message has that a call tells
pub data_within : DataWithin
data_within = Places.data_within link (λ g b. g) (λ m. []) storing (λ v. v.length) 255 few
