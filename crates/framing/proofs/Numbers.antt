-- The numbers of refusals.
use Rattle.std.proofs.Common.{◌≡◌, ℕ, Result, Ok, Err, sym, ap, ◌∙◌, arith}
use Rattle.std.specs.Prelude.{IsErr, IsErrAnd}
use Rattle.framing.specs.Number.{number_of}
use Rattle.framing.specs.Answer.{outcome_of, fault_of}
use Rattle.framing.specs.declared.refusal.Refusal.{Refusal}
use Rattle.framing.specs.declared.refusal.Refusal.TheVariants.{StoreShort, OutputShort, Unsendable, NewStart, TooLong, TooShort, WrongCode}
use Rattle.framing.specs.declared.refusal.Refusal.TheVariants.{WrongCheck, WrongField, WrongLength, UnknownState, BadlyPacked, Busy, NoStep}
use Rattle.framing.specs.declared.refusal.Refusal.TheVariants.{Malformed, OtherSign, NoElement, OutsideProfile}

-- none is 0, which stands for no refusal
pub not_zero : (r : Refusal) → number_of r ≡ 0 → ⊥
not_zero StoreShort h = omega arith
not_zero OutputShort h = omega arith
not_zero Unsendable h = omega arith
not_zero NewStart h = omega arith
not_zero TooLong h = omega arith
not_zero TooShort h = omega arith
not_zero WrongCode h = omega arith
not_zero WrongCheck h = omega arith
not_zero WrongField h = omega arith
not_zero WrongLength h = omega arith
not_zero UnknownState h = omega arith
not_zero BadlyPacked h = omega arith
not_zero Busy h = omega arith
not_zero NoStep h = omega arith
not_zero Malformed h = omega arith
not_zero OtherSign h = omega arith
not_zero NoElement h = omega arith
not_zero OutsideProfile h = omega arith

-- what a test answered, by the number that it stands for
module _ {A : Type 0} (r : Result A Refusal) (n : ℕ) (e : fault_of (outcome_of r) ≡ n) where
  pub none_told : (v : A) → r ≡ Ok v → n ≡ 0
  none_told v h = sym e ∙ rw h

  pub some_told : (f : Refusal) → r ≡ Err f → n ≡ number_of f
  some_told f h = sym e ∙ rw h

-- a refusal that `?` passes up
pub passed_up : {A : Type 0} (r : Result A Refusal) (f : Refusal) → IsErr r × IsErrAnd r (λ y. y ≡ f) → r ≡ Err f
passed_up (Ok v) f h = absurd h.1
passed_up (Err y) f h = ap Err h.1
