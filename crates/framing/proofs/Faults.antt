-- What the answer of a call's tests says, for the writers and the receivers that ask for it.
use Rattle.std.proofs.Common.{◌≡◌, ℕ, ◌≤◌, Result, Ok, Err, Bool, true, false, not, nat_le, List, [], ◌∷◌, length, sym, refl, ap, ◌∙◌, ap₂, arith, ne_eqb, le-leb, leb-true}
use lib.Seq.{sets}
use borrow.Author.Tests.{not-false}
use Rattle.framing.specs.Number.{number_of}
use Rattle.framing.specs.Answer.{done, refused, outcome_of, fault_of}
use Rattle.framing.specs.declared.refusal.Refusal.{Refusal}
use Rattle.framing.specs.Receiver.{feed}
use Rattle.framing.specs.Tests.{write_fault, call_fault}
use Rattle.framing.specs.Writer.{writes}
use Rattle.framing.specs.Link.{Link, Lent, step_on, reported, receives}
use Rattle.framing.specs.Link as Link
use Rattle.framing.proofs.Numbers.{not_zero, none_told, some_told}
use Rattle.framing.proofs.Tests.{none_fires}
use Rattle.framing.proofs.Stored.{by_writer, writes_done}

-- r: what a writer was told of a message, by a test of it and a length that its frame has at least
module _ {M : Type 0} (ok : M → Bool) (frame : M → List ℕ) (m : M) (memory : List ℕ) (sendable : Bool) (least : ℕ) (r : Result Unit Refusal)
    (s : sendable ≡ ok m) (l : least ≤ length (frame m)) (e : fault_of (outcome_of r) ≡ write_fault sendable (nat_le least (length memory))) where
  -- with this test of the message, and that one of the memory
  told : (o t : Bool) → ok m ≡ o → nat_le least (length memory) ≡ t → fault_of (outcome_of r) ≡ write_fault o t
  told o t h k = e ∙ ap₂ write_fault (s ∙ h) k

  short : (f : Refusal) → r ≡ Err f → ok m ≡ true → number_of f ≡ 2
  short f h o = go (nat_le least (length memory)) refl
    where
      go : (t : Bool) → nat_le least (length memory) ≡ t → number_of f ≡ 2
      go true k = absurd (not_zero f (sym (some_told r _ (told true true o k) f h)))
      go false k = sym (some_told r _ (told true false o k) f h)

  pub least_refused : (f : Refusal) → r ≡ Err f → (refused (number_of f), memory) ≡ writes ok frame m memory
  least_refused f h =
      let n = number_of f in
      by_writer ok frame m memory (λ w. (refused n, memory) ≡ w)
      (λ o. ap (λ (k : ℕ). (refused k, memory)) (sym (some_told r _ (told false _ o refl) f h)))
      (λ o _. ap (λ (k : ℕ). (refused k, memory)) (short f h o))
      (λ o g. absurd (not_zero f (sym (some_told r _ (told true true o (le-leb least (length memory) (omega arith))) f h))))

  pub least_passed : (v : Unit) → r ≡ Ok v → (ok m ≡ true) × (least ≤ length memory)
  least_passed v h =
      let f = none_fires ((not sendable, 3) ∷ (not (nat_le least (length memory)), 2) ∷ []) refl (none_told r _ e v h) in
      (sym s ∙ not-false _ f.0, leb-true _ _ (not-false _ f.1.0))

-- by the length of its frame itself
module _ {M : Type 0} (ok : M → Bool) (frame : M → List ℕ) (m : M) (memory : List ℕ) (sendable : Bool) (size : ℕ) (r : Result Unit Refusal)
    (s : sendable ≡ ok m) (t : size ≡ length (frame m)) (e : fault_of (outcome_of r) ≡ write_fault sendable (nat_le size (length memory))) where
  pub write_refused : (f : Refusal) → r ≡ Err f → (refused (number_of f), memory) ≡ writes ok frame m memory
  write_refused = least_refused ok frame m memory sendable size r s (omega (arith, t)) e

  pub write_taken : (v : Unit) → r ≡ Ok v → (ok m ≡ true) × (size ≤ length memory)
  write_taken = least_passed ok frame m memory sendable size r s (omega (arith, t)) e

  pub write_done : (after : List ℕ) (v : Unit) → r ≡ Ok v → after ≡ sets memory 0 (frame m) → (done size, after) ≡ writes ok frame m memory
  write_done after v h a = writes_done ok frame m memory after size (write_taken v h).0 t (write_taken v h).1 a

-- r: what a receiver was told of a call, by a test of its state
module _ (L : Link) (c : Lent L) (piece : List ℕ) (known : Bool) (r : Result Unit Refusal) (k : known ≡ L.known c.0)
    (e : fault_of (outcome_of r) ≡ call_fault known (nat_le L.size (length c.1))) where
  asked : fault_of (outcome_of r) ≡ call_fault (L.known c.0) (nat_le L.size (length c.1))
  asked = e ∙ (λ i. call_fault (k i) (nat_le L.size (length c.1)))

  pub call_refused : (f : Refusal) → r ≡ Err f → (Link.refused (number_of f), 0, c) ≡ receives L c piece
  call_refused f h =
      let n : call_fault (L.known c.0) (nat_le L.size (length c.1)) ≡ number_of f = some_told r _ asked f h in
      rw (n, ne_eqb (number_of f) 0 (not_zero f))

  pub call_taken : (v : Unit) → r ≡ Ok v → (L.known c.0 ≡ true) × (L.size ≤ length c.1)
  call_taken v h =
      let f = none_fires ((not known, 12) ∷ (not (nat_le L.size (length c.1)), 1) ∷ []) refl (none_told r _ e v h) in
      (sym k ∙ not-false _ f.0, leb-true _ _ (not-false _ f.1.0))

  pub call-fed : (v : Unit) → r ≡ Ok v → reported L (feed (step_on L) c piece) ≡ receives L c piece
  call-fed v h = rw (none_told r _ asked v h)
