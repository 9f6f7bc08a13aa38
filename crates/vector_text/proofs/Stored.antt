-- A loop that stores the elements of a list one by one, from place 0 on.
use Prim.Native.Nat.{ℕ, ◌+◌, ◌≤◌, ◌<◌}
use mathlib.Core.Path.{◌≡◌, refl, ap, subst, ◌∙◌}
use mathlib.Core.List.{List, ◌++◌, append-nil}
use native.Mathlib.Nat.{zero-add}
use native.Mathlib.Omega.{arith}
use lib.ListN.{length, drop, get_or, set}
use lib.Seq.{drop-length}
use Rattle.runs.specs.Runs.{over}
use Rattle.runs.proofs.Bytes.{drop-next}
use Rattle.runs.proofs.Run.{Run, run-start, run-one, run_end, sets_over}

-- out is d with the first n elements of `whole` stored
abbrev pub Stored : List ℕ → List ℕ → ℕ → List ℕ → Type 0
Stored d whole n out = Run d 0 whole n (drop n whole) out

module _ {d whole : List ℕ} where
  pub stored_none : length whole ≤ length d → Stored d whole 0 d
  stored_none h = run-start (omega arith) refl

  pub stored_next : {n v : ℕ} {out : List ℕ} → Stored d whole n out → n < length whole → v ≡ get_or whole n 0 → Stored d whole (n + 1) (set out n v)
  stored_next {n} {v} {out} s h e =
      subst (λ (k : ℕ). Stored d whole (n + 1) (set out k v)) (zero-add n) (run-one s (drop-next whole n h) e)

  pub stored_all : {n : ℕ} {out : List ℕ} → Stored d whole n out → n ≡ length whole → out ≡ over whole d
  stored_all {n} {out} s e =
      run_end s (ap (λ (k : ℕ). drop k whole) e ∙ drop-length whole) ∙ sets_over whole d (omega (arith, s))

-- a run as long as the memory is all that is left
pub over-all : (run d : List ℕ) → length run ≡ length d → over run d ≡ run
over-all run d h = ap (λ (l : List ℕ). run ++ l) (ap (λ (n : ℕ). drop n d) h ∙ drop-length d) ∙ append-nil run
