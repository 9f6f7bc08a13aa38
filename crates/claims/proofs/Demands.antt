-- The demands, over all four links.
use Rattle.checksum.proofs.CheckValue.{crc16_detects, crc32_detects}
use Rattle.framing.proofs.Lawful.{Lawful}
use Rattle.framing.proofs.Lawful as any
use Rattle.framing.proofs.Wire as Wire
use Rattle.pcs.proofs.Lawful as pcs-lawful
use Rattle.mdu.proofs.Lawful as mdu-lawful
use Rattle.dle.proofs.Lawful as dle_lawful
use Rattle.expansion.proofs.Lawful as expansion_lawful
use Rattle.pcs.proofs.Theorems as Pcs
use Rattle.mdu.proofs.Theorems as Mdu
use Rattle.dle.proofs.Theorems as Dle
use Rattle.expansion.proofs.Theorems as Expansion
use Rattle.claims.specs.Links.{Which, pcs, mdu, dle, expansion, link_of}
use Rattle.claims.specs.Demand1.{Demand1}
use Rattle.claims.specs.Demand2.{Demand2}
use Rattle.claims.specs.Demand3.{Demand3}

-- each link is lawful
pub lawful_of : (w : Which) → Lawful (link_of w)
lawful_of pcs = pcs-lawful.lawful
lawful_of mdu = mdu-lawful.lawful
lawful_of dle = dle_lawful.lawful
lawful_of expansion = expansion_lawful.lawful

pub demand1 : Demand1
demand1 pcs =
    record { gives_exactly = Pcs.gives_exactly; receive_gives = Pcs.receive_gives; stores_gathered = Pcs.stores_gathered; data_within = Pcs.data_within }
demand1 mdu =
    record { gives_exactly = Mdu.gives_exactly; receive_gives = Mdu.receive_gives; stores_gathered = Mdu.stores_gathered; data_within = Mdu.data_within }
demand1 dle =
    record { gives_exactly = Dle.gives_exactly; receive_gives = Dle.receive_gives; stores_gathered = Dle.stores_gathered; data_within = Dle.data_within }
demand1 expansion =
    record { gives_exactly = Expansion.gives_exactly; receive_gives = Expansion.receive_gives; stores_gathered = Expansion.stores_gathered; data_within = Expansion.data_within }

pub demand2 : Demand2
demand2 w =
    record {
      writes-frame = any.writes-frame (link_of w);
      reads_back = any.reads_back (link_of w) (lawful_of w);
      calls_read_back = Wire.calls_read_back (link_of w) (lawful_of w);
      canonical = any.canonical (link_of w) (lawful_of w);
      cut_anywhere = any.cut_anywhere (link_of w) (lawful_of w);
      accounted = any.accounted (link_of w) (lawful_of w);
    }

pub demand3 : Demand3
demand3 =
    record {
      calls = λ w. Wire.calls_told (link_of w) (lawful_of w);
      mdu_check = crc16_detects;
      expansion_check = crc32_detects;
    }
