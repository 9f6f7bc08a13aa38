-- Bytes added up, modulo 256.
use Rattle.std.specs.Prelude.{ℕ, ◌+◌, ◌%◌, List}
use mathlib.Core.List.{sum}

-- the total of bytes, carried on from s
abbrev pub total_from : ℕ → List ℕ → ℕ
total_from s bs = (s + sum ◌+◌ 0 bs) % 256
