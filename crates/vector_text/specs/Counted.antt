-- What counts promise.
use Rattle.std.specs.Prelude.{ℕ, ◌≤◌, ◌≡◌, List, length, take}
use Rattle.runs.specs.Runs.{over}

-- n counts elements at the start of xs; said twice, so that lending these elements needs no proof
abbrev pub Counted : {A : Type 0} → ℕ → List A → Type 0
Counted n xs = (n ≤ length xs) × (n ≡ length (take n xs))

-- a run laid over the start of memory, and its length
abbrev pub PutAtStart : List ℕ → List ℕ → List ℕ → ℕ → Type 0
PutAtStart run before after n = (n ≡ length run) × Counted n after × (after ≡ over run before)
