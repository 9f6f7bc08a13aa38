-- What the calls answer and what the lent memory holds after them. Packing alone is `stored_at` of framing, of the packed bytes.
use Rattle.std.specs.Prelude.{ℕ, ◌+◌, cond, List, length, take, drop, nat_le}
use Rattle.std.proofs.Math.Option.{Option, none, some}
use Rattle.std.proofs.lemmas.List.Edits.{sets}
use Rattle.runs.specs.Total.{total_from}
use Rattle.framing.specs.Answer.{Outcome, done, refused}
use Rattle.packing.specs.Unpacked.{unpacked}

-- a run stored into lent memory from a place on, and the total carried on from s over it; s, and the memory as it came, where it does not fit there
unfoldable pub summed_at : ℕ → List ℕ → List ℕ → ℕ → ℕ × List ℕ
summed_at s run memory at = cond (nat_le (at + length run) (length memory)) (total_from s run, sets memory at run) (s, memory)

-- data found in a store: from place 0 on, and their count; 13, and the store as it came, where there are none
unfoldable pub stored_first : List ℕ → Option (List ℕ) → Outcome ℕ × List ℕ
stored_first store none = (refused 13, store)
stored_first store (some d) = (done (length d), sets store 0 d)

-- unpacking the count bytes from place from on, as far as they lie in the store
unfoldable pub unpacked_in : List ℕ → ℕ → ℕ → Outcome ℕ × List ℕ
unpacked_in store from count = stored_first store (unpacked (take count (drop from store)))
