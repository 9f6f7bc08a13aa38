-- What is claimed of the expansion link besides the claims on every link, which follow from `lawful` (framing/proofs/Lawful.antt, Wire.antt, Whole.antt); the bound on
-- its frames, its check value, and what a wrong check value leaves.
use Rattle.framing.proofs.Refusals as any
use Rattle.framing.proofs.Places as Places
use mathlib.Core.List.{[]}
use Rattle.escape.proofs.ExpansionTheorems.{expansion_bound}
use Rattle.checksum.specs.Claims.{Crc32Detects}
use Rattle.checksum.proofs.CheckValue.{crc32_detects}
use Rattle.expansion.specs.Contract.{link}
use Rattle.expansion.specs.Claims.{stream_numbers, GivesExactly, ReceiveGives, StoresGathered, DataWithin, FrameBound, RefusedHeader, RefusedAsSent}
use Rattle.expansion.proofs.Lawful.{lawful}
use Rattle.expansion.proofs.Numbers.{given}
use Rattle.expansion.proofs.Places.{storing, few}
use Rattle.expansion.proofs.Judge.{content, content-fits}
use Rattle.expansion.proofs.Refused as wrong

-- a stream gives exactly these numbers
pub gives_exactly : GivesExactly
gives_exactly = any.gives_exactly link lawful stream_numbers given

-- and a call of `receive` 12, 1 and these
pub receive_gives : ReceiveGives
receive_gives = any.receive_gives link lawful stream_numbers given

-- what a call leaves in the store, place by place
pub stores_gathered : StoresGathered
stores_gathered = Places.stores_gathered link (λ g b. g) (λ m. []) storing

-- how much data a message has that a call tells
pub data_within : DataWithin
data_within = Places.data_within link (λ g b. g) (λ m. []) storing (λ v. v.length) 1024 few

pub frame_bound : FrameBound
frame_bound m h = expansion_bound (content m) (content-fits m h)

pub check_value : Crc32Detects
check_value = crc32_detects

pub refused_header : RefusedHeader
refused_header = wrong.refused_header

pub refused_as_sent : RefusedAsSent
refused_as_sent = wrong.refused_as_sent
