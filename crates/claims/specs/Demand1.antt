-- Of demand 1, over all four links, what the contracts alone do not show at once: which numbers a receiver gives, exactly, what it leaves in the
-- store, place by place, and how much data a message has at most.
use Rattle.framing.specs.Refusals.{GivesExactly, ReceiveGives}
use Rattle.claims.specs.Links.{Which, link_of, stream_numbers_of, StoresGathered, DataWithin}

pub record Demand1Of (w : Which) : Type 0 where
  pub gives_exactly : GivesExactly (link_of w) (stream_numbers_of w)
  pub receive_gives : ReceiveGives (link_of w) (stream_numbers_of w)
  pub stores_gathered : StoresGathered w
  pub data_within : DataWithin w

abbrev pub Demand1 : Type 0
Demand1 = (w : Which) → Demand1Of w
