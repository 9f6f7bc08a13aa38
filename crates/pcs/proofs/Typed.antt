-- The numbers of a message that may be sent are bytes.
use mathlib.Core.Path.{◌≡◌}
use mathlib.Core.Bool.{Bool, true, false, ◌||◌}
use Prim.Native.Nat.{ℕ, ◌≤◌, ◌<◌}
use native.Mathlib.Omega.{arith}
use lib.Dec.{eqb}
use lib.ListN.{length}
use borrow.Author.Tests.{eqb-true}
use Rattle.runs.specs.Runs.{Bytes}
use Rattle.pcs.specs.Frame.{Message, Typed, plain_ok, receiver_ok, ok}
use Rattle.pcs.proofs.Allowed.{plain_most, kind_most, sendable}

receiver_small : (b : ℕ) → receiver_ok b ≡ true → b < 256
receiver_small b = go (plain_ok b) (plain_most b)
  where
    go : (t : Bool) → (t ≡ true → b ≤ 250) → t || eqb b 255 ≡ true → b < 256
    go true l h = let m = l h in omega arith
    go false l h = let e = eqb-true b 255 h in omega arith

-- where its data are
pub typed : (m : Message) → ok m ≡ true → Bytes m.payload → Typed m
typed m h y =
    let s = sendable m h in
    record {
      receiver = receiver_small m.receiver s.plain.receiver;
      sender = omega (arith, plain_most m.sender s.plain.sender);
      kind = omega (arith, kind_most m.kind (length m.payload) s.kind);
      number = omega (arith, plain_most m.number s.plain.number);
      sender_port = omega (arith, plain_most m.sender_port s.plain.sender_port);
      receiver_port = omega (arith, plain_most m.receiver_port s.plain.receiver_port);
      payload = y;
    }
