-- A message whose frame is of bytes is of bytes.
use Prim.Native.Nat.{suc}
use mathlib.Core.List.{[], ◌∷◌}
use Rattle.runs.specs.Runs.{Bytes}
use Rattle.runs.proofs.Bytes.{bytes_left}
use Rattle.escape.specs.Code.{hide}
use Rattle.escape.specs.Dle.{dle}
use Rattle.escape.proofs.DleTheorems.{dle-small}
use Rattle.dle.specs.Frame.{Message, content, error, Typed, body, frame}

body-small : (m : Message) → Bytes (body m) → Typed m
body-small (content s n d) y = (y 0, y 1, λ i. y (suc (suc (suc i))))
body-small (error s n e) y = (y 0, y 1, y 3)

pub typed : (m : Message) → Bytes (frame m) → Typed m
typed m y = body-small m (dle-small (body m) (bytes_left (hide dle (body m)) (0x10 ∷ 0x03 ∷ []) (λ i. y (suc (suc i)))))
