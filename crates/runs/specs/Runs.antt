-- Runs: lists of bytes or of other elements, as every crate speaks of them. A run stored into memory from a place on is the
-- library's `sets memory place run`.
use Rattle.std.specs.Prelude.{◌≡◌, ℕ, suc, ◌<◌, ◌≤◌, Bool, cond, ◌&&◌, List, [], ◌∷◌, ◌++◌, length, drop, nat_le, slice_index}
use Rattle.std.proofs.Math.ListN.{get_elem?}

-- every element is a byte
abbrev pub Bytes : List ℕ → Type 0
Bytes u = (i : ℕ) → slice_index u i < 256

-- memory with a run laid over its start; what lies behind the run is as it was
abbrev pub over : {A : Type 0} → List A → List A → List A
over run memory = run ++ drop (length run) memory

-- xs begins ys: ys has every place of xs, and holds the same there
abbrev pub Begins : {A : Type 0} → List A → List A → Type 0
Begins xs ys = (length xs ≤ length ys) × ((i : ℕ) → i < length xs → get_elem? xs i ≡ get_elem? ys i)

-- the elements of a list one after the other, each as f shows it
unfoldable pub each : (ℕ → List ℕ) → List ℕ → List ℕ
each f [] = []
each f (b ∷ bs) = f b ++ each f bs

-- a number from low to high
abbrev pub between : ℕ → ℕ → ℕ → Bool
between low high b = nat_le low b && nat_le b high

-- how many elements of a run lie before the first from low to high; all of them where there is none
unfoldable pub before : ℕ → ℕ → List ℕ → ℕ
before low high [] = 0
before low high (b ∷ bs) = cond (between low high b) 0 (suc (before low high bs))
