-- Bits 0 to 7 of a read's answer tell the number that it is refused with: from the numbers of each link.
use Prim.Native.Nat.{ℕ, zero, suc, ◌≤◌}
use mathlib.Core.Path.{◌≡◌, refl, sym, ap, ◌∙◌}
use mathlib.Core.Bool.{Bool, true, false, not, ◌&&◌, false≢true}
use mathlib.Core.List.{List, ◌∷◌}
use native.Mathlib.Omega.{arith}
use lib.Dec.{eqb, leb}
use lib.IntN.{ℤ, pos, negsuc}
use borrow.Author.Tests.{leb-true}
use Rattle.runs.proofs.Cases.{and_both}
use Rattle.framing.specs.Answer.{Outcome, done, refused, fault_of}
use Rattle.framing.specs.Link.{Link, write_on}
use Rattle.framing.specs.Whole.{read_on}
use Rattle.framing.proofs.Lawful.{Lawful}
use Rattle.framing.proofs.Refusals.{either, every, Given, read_passes, writes_give}
use Rattle.host.specs.Read.{encode, refusal_of}
use Rattle.pcs.specs.Contract as Pcs
use Rattle.host.specs.Write.{int32_of}
use Rattle.host.specs.Claims.{RefusalsFit, RefusalTold, ReadNever, WriteNever, ChosenNever}

module _ (L : Link) (laws : Lawful L) (numbers : List ℕ) (given : Given L numbers) (few : every (λ n. leb 1 n && leb n 13) (6 ∷ 1 ∷ numbers) ≡ true) where
  pub refusals_fit : RefusalsFit L
  refusals_fit run store n e =
      let c = and_both (leb 1 n) (leb n 13) (read_passes L laws numbers given (λ n. leb 1 n && leb n 13) few run store n e) in
      (leb-true 1 n c.0, leb-true n 13 c.1)

  pub refusal_told : (code : L.Numbers → ℕ) → ((v : L.Numbers) → refusal_of (code v) ≡ 0) → RefusalTold L code
  refusal_told code zero_bits run store = go (read_on L run store).0 (refusals_fit run store)
    where
      go : (o : Outcome L.Numbers) → ((n : ℕ) → o ≡ refused n → (1 ≤ n) × (n ≤ 13)) → refusal_of (encode code o) ≡ fault_of o
      go (done v) f = zero_bits v
      go (refused n) f = let k = f n refl in omega arith

  pub read_never : every (λ n. not (eqb n 11)) (6 ∷ 1 ∷ numbers) ≡ true → (code : L.Numbers → ℕ) → ((v : L.Numbers) → refusal_of (code v) ≡ 0)
      → ReadNever L code
  read_never others code zero_bits run store e =
      go (read_on L run store).0 (λ n. read_passes L laws numbers given (λ n. not (eqb n 11)) others run store n) (sym (refusal_told code zero_bits run store) ∙ e)
    where
      go : (o : Outcome L.Numbers) → ((n : ℕ) → o ≡ refused n → not (eqb n 11) ≡ true) → fault_of o ≡ 11 → ⊥
      go (done v) f e = omega arith
      go (refused n) f e = false≢true (rw e at (f n refl))

is_minus : ℤ → Bool
is_minus (pos n) = false
is_minus (negsuc n) = true

-- a writer's answer that is minus 11 is a refusal with 11
pub minus_eleven : (o : Outcome ℕ) → int32_of o ≡ int32_of (refused 11) → o ≡ refused 11
unfolding is_minus
minus_eleven (done n) e = absurd (false≢true (ap is_minus e))
minus_eleven (refused zero) e = absurd (false≢true (ap is_minus e))
minus_eleven (refused (suc n)) e = let z : n ≡ 10 = cc in ap (λ (k : ℕ). refused (suc k)) z

pub write_never : (L : Link) → WriteNever L
write_never L m out e = false≢true (writes_give L m out 11 (minus_eleven (write_on L m out).0 e))

pub chosen_never : ChosenNever
chosen_never crc m out =
    either (λ (w : ℤ × List ℕ). w.0 ≡ int32_of (refused 11) → ⊥) (leb crc 1) (write_never Pcs.link (m (eqb crc 1)) out)
    (λ e. let z : ◌≡◌ {A = ℕ} 3 11 = ap fault_of (minus_eleven (refused 3) e) in omega arith)
