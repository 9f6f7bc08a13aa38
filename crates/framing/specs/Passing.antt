-- Bytes of a piece that a call of a receiver passes without an event. This serves the contracts of what a link gives its receiver, of the same outside
-- of a call, and of the links' private functions.
use Rattle.std.specs.Prelude.{◌≡◌, ℕ, ◌≤◌, List, length, drop}
use Rattle.framing.specs.Receiver.{later, feed}
use Rattle.std.proofs.Math.Option.{Option}

module _ {S E : Type 0} (step : S × List ℕ → ℕ → (S × List ℕ) × Option E) where
  -- from c₀ the call has passed i bytes of the piece without an event and come to c
  abbrev pub Passed : S × List ℕ → List ℕ → S × List ℕ → ℕ → Type 0
  Passed c₀ piece c i = feed step c₀ piece ≡ later i (feed step c (drop i piece))

  -- a call that has come to c at place i of a piece goes on without an event to d at place j
  pub record Leads (piece : List ℕ) (c : S × List ℕ) (i : ℕ) (d : S × List ℕ) (j : ℕ) : Type 0 where
    pub onward : i ≤ j
    pub within : j ≤ length piece
    pub same_length : length d.1 ≡ length c.1
    pub passes : (c₀ : S × List ℕ) → Passed c₀ piece c i → Passed c₀ piece d j
