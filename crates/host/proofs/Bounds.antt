-- The frames of each link are short.
use Prim.Native.Nat.{◌^◌, ◌≤◌, ◌<◌}
use mathlib.Core.Path.{◌≡◌}
use mathlib.Core.Bool.{true}
use native.Mathlib.Omega.{arith}
use lib.Dec.{leb}
use lib.ListN.{length, length-append}
use Rattle.runs.proofs.Cases.{and_both}
use Rattle.framing.specs.Link.{Link}
use Rattle.escape.proofs.Lawful.{hide_short}
use Rattle.escape.specs.Dle.{dle}
use Rattle.escape.specs.Laws.{dle_lawful}
use Rattle.pcs.specs.Contract as Pcs
use Rattle.pcs.specs.Frame.{ok}
use Rattle.pcs.proofs.Theorems as pcs
use Rattle.display.specs.Profile.{largest, message_of, order_ok, order_frame}
use Rattle.display.specs.declared.Order.{Order}
use Rattle.mdu.specs.Contract as Mdu
use Rattle.mdu.specs.Frame.{length_ok}
use Rattle.mdu.proofs.Known.{length_most}
use Rattle.dle.specs.Contract as Dle
use Rattle.dle.specs.Frame.{body}
use Rattle.dle.proofs.Body.{body_short}
use Rattle.expansion.specs.Contract as Expansion
use Rattle.expansion.proofs.Theorems as expansion
use Rattle.host.specs.Claims.{FrameBound}

pub pcs_bound : FrameBound Pcs.link
pcs_bound m h = omega (arith, pcs.frame_bound m h)

-- an order's frame is one of PCS
pub order_bound : (o : Order) → order_ok o ≡ true → length (order_frame o) ≤ 2066
order_bound o h = pcs_bound (message_of o) (and_both (leb o.value largest) (ok (message_of o)) h).1

pub mdu_bound : FrameBound Mdu.link
mdu_bound m h =
    let k = length_most (length m.body) (and_both (leb 1 m.address) (length_ok (length m.body)) h).1 in
    simp length-append (omega arith)

pub dle_bound : FrameBound Dle.link
dle_bound m h = simp length-append (omega (arith, body_short m h, hide_short dle dle_lawful (body m)))

pub expansion_bound : FrameBound Expansion.link
expansion_bound = expansion.frame_bound

-- so no length goes round
pub short : (L : Link) → FrameBound L → (m : L.Message) → L.ok m ≡ true → length (L.frame m) < 2 ^ 32
short L bound m h = omega (arith, bound m h)
