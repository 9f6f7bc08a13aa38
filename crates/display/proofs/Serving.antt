-- An order for this display: its answer may be sent, so it is written or does not fit.
use Prim.Native.Nat.{ℕ}
use mathlib.Core.Path.{◌≡◌, ap, ◌∙◌}
use mathlib.Core.Bool.{true}
use mathlib.Core.List.{List}
use borrow.Author.Tests.{eq-eqb}
use Rattle.framing.specs.Answer.{Outcome, stored_at}
use Rattle.framing.specs.Writer.{writes}
use Rattle.framing.proofs.Stored.{writes_stored}
use Rattle.pcs.specs.Frame.{plain_ok, ok, frame}
use Rattle.display.specs.End.{Reply, answer_to, answering, served}
use Rattle.display.specs.declared.Order.{Order}
use Rattle.display.specs.declared.Display.{Display}

pub answer_ok : (o : Order) → plain_ok o.sender ≡ true → plain_ok o.receiver ≡ true → plain_ok o.number ≡ true → ok (answer_to o) ≡ true
answer_ok o s r n = simp (s, r, n)

pub served_own : (d : Display) (o : Order) (memory after : List ℕ) (t : Reply × Display) (a : Outcome ℕ) → plain_ok d.own ≡ true
    → plain_ok o.sender ≡ true → plain_ok o.number ≡ true → o.receiver ≡ d.own → t ≡ answering d o a
    → (a, after) ≡ writes ok frame (answer_to o) memory → (t, after) ≡ served d o memory
served_own d o memory after t a p s n h e w =
    let fit = answer_ok o s (ap plain_ok h ∙ p) n in
    let stored : ◌≡◌ {A = Outcome ℕ × List ℕ} (a, after) (stored_at (frame (answer_to o)) memory 0) = w ∙ writes_stored ok frame (answer_to o) memory fit in
    rw (eq-eqb o.receiver d.own h, e) (ap (λ (x : Outcome ℕ × List ℕ). (answering d o x.0, x.1)) stored)
