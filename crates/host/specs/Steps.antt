-- What the private functions ask.
use Rattle.std.specs.Prelude.{ℕ, ◌^◌, ◌<◌}
use Rattle.framing.specs.Answer.{Outcome, done, refused}

-- a length that a signed 32-bit number holds
abbrev pub Short : Outcome ℕ → Type 0
Short (done n) = n < 2 ^ 31
Short (refused n) = Unit
