-- A hunting receiver reads back the frame of each message that may be sent, whatever follows it.
use Prim.Native.Nat.{ℕ, ◌<◌}
use mathlib.Core.Path.{◌≡◌, refl, ap, ◌∙◌}
use mathlib.Core.Bool.{Bool, true, false}
use mathlib.Core.List.{List, [], ◌∷◌, ◌++◌}
use mathlib.Core.Option.{none, some}
use native.Mathlib.Omega.{arith}
use lib.ListN.{length}
use borrow.Author.Tests.{lt-ltb}
use Rattle.framing.specs.Receiver.{feed}
use Rattle.framing.specs.Segment.{Segment, message}
use Rattle.framing.proofs.Feed.{Quiet, quiet_cons, feed_event}
use Rattle.framing.proofs.Segments.{step, step_accept}
use Rattle.framing.proofs.Lawful.{at}
use Rattle.escape.specs.Code.{byte, waits, meaning, hide}
use Rattle.escape.specs.Expansion.{expansion}
use Rattle.escape.specs.Laws.{expansion_lawful}
use Rattle.escape.proofs.Gathered.{gathers}
use Rattle.expansion.specs.Frame.{Message, Typed, ok, frame}
use Rattle.expansion.specs.Rules.{hunting, inside, size, held, act, on_byte}
use Rattle.expansion.proofs.Judge.{content, content-fits, judge-content}

-- a wire byte that waits, and one that completes a byte
waits_inside : (g : List ℕ) (w : ℕ) → expansion.plain w ≡ waits → on_byte (inside false g) w ≡ (inside true g, none)
waits_inside g w e = ap (act g (held (inside false g)) (held (inside false g) ++ (w ∷ []))) e

gathers_inside : (waiting : Bool) (g : List ℕ) (w b : ℕ) → length g < size → meaning expansion waiting w ≡ byte b → on_byte (inside waiting g) w ≡ (inside false (g ++ (b ∷ [])), none)
gathers_inside waiting g w b l e = ap (act g (held (inside waiting g)) (held (inside waiting g) ++ (w ∷ []))) e ∙ rw (lt-ltb (length g) size l)

pub reads-frame : (m : Message) (rest : List ℕ) (n : ℕ) → Typed m → ok m ≡ true
    → feed (step on_byte) (at hunting n) (frame m ++ rest) ≡ record { event = some (message m); used = length (frame m); after = at hunting n }
reads-frame m rest n t h =
    feed_event (step on_byte) (0xFD ∷ hide expansion (content m)) 0xFE rest opens
    (step_accept on_byte (inside false (content m)) hunting n 0xFE m (ap (λ (s : Segment Message). (hunting, some s)) (judge-content m t h _)))
  where
    opens : Quiet (step on_byte) (at hunting n) (0xFD ∷ hide expansion (content m)) (at (inside false (content m)) n)
    opens = quiet_cons (step on_byte) refl (gathers expansion expansion_lawful on_byte inside size waits_inside gathers_inside [] (content m) n (omega (arith, content-fits m h)))
