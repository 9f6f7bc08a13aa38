-- A message whose content is of bytes is of bytes.
use Prim.Native.Nat.{suc}
use Rattle.runs.specs.Runs.{Bytes}
use Rattle.runs.proofs.Bytes.{bytes_left}
use Rattle.expansion.specs.Frame.{Message, Typed, body, trailer}
use Rattle.expansion.proofs.Judge.{content}

pub typed : (m : Message) → Bytes (content m) → Typed m
typed m y =
    let b = bytes_left (body m) (trailer (body m)) y in
    record { id = b 0; kind = b 1; repeat = b 2; address = b 3; payload = λ i. b (suc (suc (suc (suc i)))) }
