-- The receiver state that all links share, and its rules.
use Rattle.std.specs.Prelude.{ℕ, ◌+◌, ◌%◌, ◌^◌, Bool, cond, ◌&&◌, List, length, drop, ◌==◌, nat_le, nat_lt}
use Rattle.std.proofs.Math.Option.{Option, none, some}
use Rattle.framing.specs.Segment.{Segment, noise_after}
use Rattle.runs.specs.Runs.{before}
use Rattle.framing.specs.declared.State.{State}
use Rattle.framing.specs.declared.Reached.{Reached}

-- nothing read yet
abbrev pub fresh_state : State
fresh_state = record { mode = 0; count = 0; «open» = 0; noise = 0 }

-- a state that does not give 12, on a link with so many modes, of which the first so many hunt, and of this size: the mode is known, the
-- count is at most the size and, hunting, 0
abbrev pub known_state : ℕ → ℕ → ℕ → State → Bool
known_state modes hunting size s = nat_lt s.mode modes && cond (nat_lt s.mode hunting) (s.count == 0) (nat_le s.count size)

-- the state after n bytes of noise in plain hunting: none change nothing, whatever stands in `open`
abbrev pub after_noise : State → ℕ → State
after_noise s n = cond (n == 0) s (record { mode = 0; count = 0; «open» = 0; noise = (s.noise + n) % 2 ^ 32 })

-- what noise from place i of a piece on leads to, up to the mark: the state after it, and the place of the mark or the end
abbrev pub hunted_from : State → List ℕ → ℕ → ℕ → Reached State
hunted_from s piece i mark = record { state = after_noise s (before mark mark (drop i piece)); next = i + before mark mark (drop i piece) }

-- the wire bytes held after a byte: those now held, where it closed a segment or came in plain hunting (mode 0; the papers leave free what was
-- carried there); else one more, in 32 bits
abbrev pub open_after : {M : Type 0} → Option (Segment M) → State → ℕ → ℕ
open_after none s held = cond (s.mode == 0) held ((s.«open» + 1) % 2 ^ 32)
open_after (some x) s held = held

-- with the mode, the gathered bytes and the held wire bytes of each phase of a link
module _ {P : Type 0} (mode_of : P → ℕ) (gathered held : P → List ℕ) where
  -- the state after a byte that led to a phase and closed a segment or none
  abbrev pub state_after : {M : Type 0} → State → P → Option (Segment M) → State
  state_after s p o =
      record { mode = mode_of p; count = length (gathered p); «open» = open_after o s (length (held p)); noise = noise_after o s.noise }
