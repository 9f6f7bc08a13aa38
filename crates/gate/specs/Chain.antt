-- The steps of an address along the chain of boards.
use Rattle.std.specs.Prelude.{ℕ, ◌+◌, ◌-◌, cond, ◌==◌}

-- the frame is meant for here, or goes on with this address; or the number of a refusal
pub data Hop : Type 0 where
  here : Hop
  onward : (address : ℕ) → Hop
  refused : ℕ → Hop

-- downward one less: a 1 has arrived, a 0 cannot step
abbrev pub steps_down : ℕ → Hop
steps_down address = cond (address == 0) (refused 15) (cond (address - 1 == 0) here (onward (address - 1)))

-- upward one more; 255 gives 15
abbrev pub steps_up : ℕ → Hop
steps_up address = cond (address == 255) (refused 15) (onward (address + 1))
