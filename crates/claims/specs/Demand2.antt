-- Demand 2, over all four links: what is written is the frame and reads back, one message or any list of calls; what is read, however it is cut,
-- is what the rules say of the uncut stream; what is accepted is the writer's frame; every byte is accounted for.
use Rattle.framing.specs.Link.{Link}
use Rattle.framing.specs.Claims.{WritesFrame, ReadsBack, CallsReadBack, Canonical, CutAnywhere, Accounted}
use Rattle.claims.specs.Links.{Which, link_of}

pub record Demand2Of (L : Link) : Type 0 where
  pub writes-frame : WritesFrame L
  pub reads_back : ReadsBack L
  pub calls_read_back : CallsReadBack L
  pub canonical : Canonical L
  pub cut_anywhere : CutAnywhere L
  pub accounted : Accounted L

abbrev pub Demand2 : Type 0
Demand2 = (w : Which) → Demand2Of (link_of w)
