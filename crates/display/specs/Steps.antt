-- What a private function answers.
use Rattle.std.specs.Prelude.{ℕ, ◌+◌, ◌/◌, ◌%◌, cond, ltb}

-- the place of a unit, 10 or 100: its digit, or a space where the value is smaller
abbrev pub place_of : ℕ → ℕ → ℕ
place_of v unit = cond (ltb v unit) 32 (48 + v / unit % 10)
