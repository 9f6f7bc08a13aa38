-- A frame is a run of bytes.
use Prim.Native.Nat.{suc, zero}
use mathlib.Core.Path.{◌≡◌}
use mathlib.Core.Bool.{true}
use mathlib.Core.List.{[], ◌∷◌}
use native.Mathlib.Omega.{arith}
use lib.Dec.{lit<}
use lib.ListN.{length}
use Rattle.runs.specs.Runs.{Bytes}
use Rattle.runs.proofs.Bytes.{bytes_append, bytes_two}
use Rattle.escape.specs.Code.{hide}
use Rattle.escape.specs.Dle.{dle}
use Rattle.escape.proofs.DleTheorems.{dle_bytes}
use Rattle.dle.specs.Frame.{Message, content, error, Typed, ok, body, frame}
use Rattle.dle.proofs.Body.{ok-length}

body_bytes : (m : Message) → Typed m → ok m ≡ true → Bytes (body m)
body_bytes (content s n d) t o zero = t.0
body_bytes (content s n d) t o (suc zero) = t.1
body_bytes (content s n d) t o (suc (suc zero)) = omega (arith, (ok-length (length d) o).1)
body_bytes (content s n d) t o (suc (suc (suc i))) = t.2 i
body_bytes (error s n e) t o zero = t.0
body_bytes (error s n e) t o (suc zero) = t.1
body_bytes (error s n e) t o (suc (suc i)) = bytes_two 0 e (lit< tt) t.2 i

pub frame_bytes : (m : Message) → Typed m → ok m ≡ true → Bytes (frame m)
frame_bytes m t o zero = lit< tt
frame_bytes m t o (suc zero) = lit< tt
frame_bytes m t o (suc (suc i)) =
    bytes_append (hide dle (body m)) (0x10 ∷ 0x03 ∷ []) (dle_bytes (body m) (body_bytes m t o))
    (bytes_two 0x10 0x03 (lit< tt) (lit< tt)) i
