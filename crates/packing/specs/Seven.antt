-- Seven-bit values on the PCS wire.
use Rattle.std.specs.Prelude.{ℕ, ◌%◌, Bool, cond, ◌&&◌, ◌==◌, nat_le}

-- a value is sent as it is, but for 0, which is sent as 128
abbrev pub sent : ℕ → ℕ
sent v = cond (v == 0) 128 v

-- the value that a byte stands for
abbrev pub value_of : ℕ → ℕ
value_of b = b % 128

-- a byte stands for a seven-bit value exactly from 1 to 128
unfoldable pub is_sent : ℕ → Bool
is_sent b = nat_le 1 b && nat_le b 128
