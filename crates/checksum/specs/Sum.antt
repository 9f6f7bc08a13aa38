-- The sum of a PCS frame's body as it is sent: header and packed data.
use Rattle.std.specs.Prelude.{ℕ, ◌+◌, ◌-◌, ◌%◌, cond, ltb}
use mathlib.Core.List.{List, sum}
use Rattle.packing.specs.Seven.{sent}

-- the bytes added up, modulo 256
abbrev pub total_of : List ℕ → ℕ
total_of bs = sum ◌+◌ 0 bs % 256

-- above 250 take away 128
abbrev pub lowered : ℕ → ℕ
lowered r = cond (ltb 250 r) (r - 128) r

-- as it goes out: the total, lowered where it is above 250, with 128 in place of 0
abbrev pub sum_of : List ℕ → ℕ
sum_of bs = sent (lowered (total_of bs))
