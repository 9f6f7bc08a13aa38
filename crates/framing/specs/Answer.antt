-- The answer of a call: a value, or a number of 01's table. Of a call that makes bytes the value is how many.
use Rattle.std.specs.Prelude.{ℕ, ◌+◌, cond, List, length, nat_le, Result, Ok, Err}
use Rattle.std.proofs.lemmas.List.Edits.{sets}
use Rattle.framing.specs.Number.{number_of}
use Rattle.framing.specs.declared.refusal.Refusal.{Refusal}

pub data Outcome (A : Type 0) : Type 0 where
  done : A → Outcome A
  refused : ℕ → Outcome A

-- each case of an answer in code: the value, or the number that stands for a refusal
abbrev pub outcome_by : {A E : Type 0} → (E → ℕ) → Result A E → Outcome A
outcome_by number (Ok v) = done v
outcome_by number (Err r) = refused (number r)

abbrev pub outcome_of : {A : Type 0} → Result A Refusal → Outcome A
outcome_of = outcome_by number_of

-- how many bytes were made: none by a refusal
abbrev pub count_of : Outcome ℕ → ℕ
count_of (done n) = n
count_of (refused n) = 0

-- the number of the refusal, and 0 where there is none
abbrev pub fault_of : {A : Type 0} → Outcome A → ℕ
fault_of (done v) = 0
fault_of (refused n) = n

-- a run stored into lent memory from a place on, and how many bytes it has; 2, and the memory as it came, where it does not fit there
unfoldable pub stored_at : List ℕ → List ℕ → ℕ → Outcome ℕ × List ℕ
stored_at run memory at = cond (nat_le (at + length run) (length memory)) (done (length run), sets memory at run) (refused 2, memory)
