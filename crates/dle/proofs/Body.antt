-- The body of a message and the gathered bytes of a frame: the end of a frame accepts exactly the bodies of messages that may be sent.
use Prim.Native.Nat.{ℕ, ◌≤◌}
use mathlib.Core.Path.{◌≡◌, refl, ap, sym, ◌∙◌, subst}
use mathlib.Core.Bool.{true, ◌&&◌}
use mathlib.Core.List.{List, [], ◌∷◌, append-nil}
use native.Mathlib.Omega.{arith}
use lib.ListN.{length, get_or, take, drop, length-drop}
use lib.Dec.{leb}
use borrow.Author.Tests.{eq-eqb, ne_eqb, le-leb, leb-true}
use Rattle.runs.proofs.Cases.{by_eqb, and_both}
use Rattle.framing.specs.Segment.{accepted_frame}
use Rattle.framing.proofs.Byte.{data_stands}
use Rattle.dle.specs.Frame.{Message, content, error, ok, body}
use Rattle.dle.specs.Rules.{size, bytes_behind, fault_of, message_in, judge}
use Rattle.dle.specs.Contract.{numbers_of, message_of}
use Rattle.dle.proofs.Passed.{Passed, no_fault}

-- three gathered bytes or more are sequence, node, length and the rest
three : (g : List ℕ) → 3 ≤ length g → g ≡ get_or g 0 0 ∷ get_or g 1 0 ∷ get_or g 2 0 ∷ drop 3 g
three [] h = absurd (omega arith)
three (a ∷ []) h = absurd (omega arith)
three (a ∷ b ∷ []) h = absurd (omega arith)
three (a ∷ b ∷ c ∷ g) h = refl

one : (g : List ℕ) → length g ≡ 4 → drop 3 g ≡ get_or g 3 0 ∷ []
one [] h = absurd (omega arith)
one (a ∷ []) h = absurd (omega arith)
one (a ∷ b ∷ []) h = absurd (omega arith)
one (a ∷ b ∷ c ∷ []) h = absurd (omega arith)
one (a ∷ b ∷ c ∷ d ∷ []) h = refl
one (a ∷ b ∷ c ∷ d ∷ e ∷ g) h = absurd (omega arith)

-- gathered bytes of which no test fires: the stated length is that of the data, and they are the body of their message
module _ (g : List ℕ) (p : Passed g) where
  pub stated_in : (get_or g 2 0 ≡ 0 → ⊥) → get_or g 2 0 ≡ length (drop 3 g)
  stated_in n = (rw (ne_eqb (get_or g 2 0) 0 n) at p.present) ∙ sym (length-drop 3 g)

  pub body_in : body (message_in g) ≡ g
  body_in =
      by_eqb (λ (m : Message). body m ≡ g) (get_or g 2 0) 0
      (λ z. let k : length g ≡ 4 = omega (arith, p.long, ap bytes_behind (sym z) ∙ p.present) in sym (three g (omega arith) ∙ rw (z, one g k)))
      (λ n. sym (three g (omega (arith, p.long)) ∙ ap (λ (k : ℕ). get_or g 0 0 ∷ get_or g 1 0 ∷ k ∷ drop 3 g) (stated_in n)))

pub length-ok : (k : ℕ) → 1 ≤ k → k ≤ 255 → leb 1 k && leb k 255 ≡ true
length-ok k l h = rw (le-leb 1 k l, le-leb k 255 h)

pub ok-length : (k : ℕ) → leb 1 k && leb k 255 ≡ true → (1 ≤ k) × (k ≤ 255)
ok-length k h = let t = and_both (leb 1 k) (leb k 255) h in (leb-true 1 k t.0, leb-true k 255 t.1)

pub body_short : (m : Message) → ok m ≡ true → length (body m) ≤ size
body_short (error s n e) h = omega arith
body_short (content s n d) h = omega (arith, (ok-length (length d) h).1)

pub judge-body : (m : Message) (wire : List ℕ) → ok m ≡ true → judge (body m) wire ≡ accepted_frame m
judge-body (error s n e) wire h = rw (eq-eqb (fault_of (body (error s n e))) 0 (no_fault _ (record { long = omega arith; present = refl })))
judge-body (content s n d) wire h =
    let l = (ok-length (length d) h).0 in
    let z = ne_eqb (length d) 0 (omega arith) in
    let p : Passed (body (content s n d)) = record { long = omega arith; present = rw z (omega arith) } in
    rw (eq-eqb (fault_of (body (content s n d))) 0 (no_fault _ p), z)

-- a message is read back from its numbers and a store that begins with its body
pub message_back : (m : Message) (store : List ℕ) → ok m ≡ true → take (length (body m)) store ≡ body m → message_of store (numbers_of m) ≡ m
message_back (error s n e) store h t = refl
message_back (content s n d) store h t =
    rw (ne_eqb (length d) 0 (omega (arith, (ok-length (length d) h).0)))
    (ap (content s n) (data_stands (s ∷ n ∷ length d ∷ []) d [] store
    (subst (λ (x : List ℕ). take (length (s ∷ n ∷ length d ∷ x)) store ≡ s ∷ n ∷ length d ∷ x) (sym (append-nil d)) t)))
