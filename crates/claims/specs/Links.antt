-- The four links, as one type.
use Rattle.std.specs.Prelude.{ℕ, List}
use Rattle.framing.specs.Link.{Link}
use Rattle.pcs.specs.Contract as Pcs
use Rattle.mdu.specs.Contract as Mdu
use Rattle.dle.specs.Contract as Dle
use Rattle.expansion.specs.Contract as Expansion
use Rattle.pcs.specs.Claims as PcsClaims
use Rattle.mdu.specs.Claims as MduClaims
use Rattle.dle.specs.Claims as DleClaims
use Rattle.expansion.specs.Claims as ExpansionClaims

pub data Which : Type 0 where
  pcs : Which
  mdu : Which
  dle : Which
  expansion : Which

-- the messages, frames and rules of each, by which its functions' contracts go
abbrev pub link_of : Which → Link
link_of pcs = Pcs.link
link_of mdu = Mdu.link
link_of dle = Dle.link
link_of expansion = Expansion.link

-- the numbers that a stream gives on each
abbrev pub stream_numbers_of : Which → List ℕ
stream_numbers_of pcs = PcsClaims.stream_numbers
stream_numbers_of mdu = MduClaims.stream_numbers
stream_numbers_of dle = DleClaims.stream_numbers
stream_numbers_of expansion = ExpansionClaims.stream_numbers

-- what a call leaves in the store on each
abbrev pub StoresGathered : Which → Type 0
StoresGathered pcs = PcsClaims.StoresGathered
StoresGathered mdu = MduClaims.StoresGathered
StoresGathered dle = DleClaims.StoresGathered
StoresGathered expansion = ExpansionClaims.StoresGathered

-- how much data a message has that a call tells on each
abbrev pub DataWithin : Which → Type 0
DataWithin pcs = PcsClaims.DataWithin
DataWithin mdu = MduClaims.DataWithin
DataWithin dle = DleClaims.DataWithin
DataWithin expansion = ExpansionClaims.DataWithin
