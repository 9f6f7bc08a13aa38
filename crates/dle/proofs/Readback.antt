-- A hunting receiver reads back each frame of a message that may be sent, whatever follows it.
use Prim.Native.Nat.{ℕ, ◌<◌}
use mathlib.Core.Path.{◌≡◌, refl, ap, sym, ◌∙◌}
use mathlib.Core.Bool.{Bool, true, false}
use mathlib.Core.List.{List, [], ◌∷◌, ◌++◌}
use mathlib.Core.Option.{none, some}
use native.Mathlib.Omega.{arith}
use lib.ListN.{length}
use lib.Seq.{append_snoc}
use borrow.Author.Tests.{lt-ltb}
use Rattle.framing.specs.Receiver.{feed}
use Rattle.framing.specs.Segment.{Segment, message}
use Rattle.framing.proofs.Feed.{Quiet, quiet_nil, quiet_cons, quiet_append, feed_event}
use Rattle.framing.proofs.Segments.{step, step_accept}
use Rattle.framing.proofs.Lawful.{at}
use Rattle.escape.specs.Code.{byte, waits, meaning, hide}
use Rattle.escape.specs.Dle.{dle}
use Rattle.escape.specs.Laws.{dle_lawful}
use Rattle.escape.proofs.Gathered.{gathers}
use Rattle.dle.specs.Frame.{Message, ok, body, frame}
use Rattle.dle.specs.Rules.{hunting, inside, size, act, on_byte}
use Rattle.dle.proofs.Body.{body_short, judge-body}

-- a wire byte that waits, and one that completes a byte
waits_inside : (g : List ℕ) (w : ℕ) → dle.plain w ≡ waits → on_byte (inside false g) w ≡ (inside true g, none)
waits_inside g w e = ap (act g _) e

gathers_inside : (waiting : Bool) (g : List ℕ) (w b : ℕ) → length g < size → meaning dle waiting w ≡ byte b → on_byte (inside waiting g) w ≡ (inside false (g ++ (b ∷ [])), none)
gathers_inside waiting g w b l e = ap (act g _) e ∙ rw (lt-ltb (length g) size l)

-- exactly the message, having used exactly the frame, with no change in noise
pub reads-frame : (m : Message) (rest : List ℕ) (n : ℕ) → ok m ≡ true
    → feed (step on_byte) (at hunting n) (frame m ++ rest) ≡ record { event = some (message m); used = length (frame m); after = at hunting n }
reads-frame m rest n h =
    ap (λ (w : List ℕ). feed (step on_byte) (at hunting n) (w ++ rest)) is
    ∙ feed_event (step on_byte) start 0x03 rest opens (step_accept on_byte (inside true (body m)) hunting n 0x03 m (ap (λ (s : Segment Message). (hunting, some s)) (judge-body m _ h)))
    ∙ ap (λ (w : List ℕ). record { event = some (message m); used = length w; after = at hunting n }) (sym is)
  where
    start : List ℕ
    start = 0x10 ∷ 0x02 ∷ hide dle (body m) ++ (0x10 ∷ [])

    is : frame m ≡ start ++ (0x03 ∷ [])
    is = ap (λ (w : List ℕ). 0x10 ∷ 0x02 ∷ w) (sym (append_snoc (hide dle (body m)) 0x10 (0x03 ∷ [])))

    opens : Quiet (step on_byte) (at hunting n) start (at (inside true (body m)) n)
    opens =
        quiet_cons (step on_byte) refl (quiet_cons (step on_byte) refl
        (quiet_append (step on_byte) (hide dle (body m)) (gathers dle dle_lawful on_byte inside size waits_inside gathers_inside [] (body m) n (omega (arith, body_short m h)))
        (quiet_cons (step on_byte) refl (quiet_nil (step on_byte) (at (inside true (body m)) n)))))
