-- What is claimed of check values beyond the contracts of the functions. proofs/CheckValue.antt proves which damage shows,
-- proofs/Run.antt that a value can be carried on.
use Rattle.std.specs.Prelude.{ℕ, ◌+◌, ◌*◌, ◌-◌, ◌^◌, ◌≤◌, ◌<◌, ◌≡◌, ◌≢◌, length}
use mathlib.Core.List.{List, foldl, flatten}
use Rattle.std.proofs.Math.ListN.{get_elem?}
use Rattle.runs.specs.Runs.{Bytes}
use Rattle.checksum.specs.Crc.{run, crc16_from, crc16_of, crc32_of}

-- outside the n bytes from some place k on, the two runs hold the same
pub record DifferWithin (n : ℕ) (u v : List ℕ) : Type 0 where
  pub k : ℕ
  pub below : (i : ℕ) → i < k → get_elem? u i ≡ get_elem? v i
  pub above : (i : ℕ) → k + n ≤ i → get_elem? u i ≡ get_elem? v i

-- f tells apart different runs of bytes that differ only within n neighbouring bytes and are equally long: with n bytes more every value can be had
-- again, at both widths ([] and 00 share their CRC-16 from 0, [] and 9D 0A D9 6D their CRC-32)
abbrev pub Detects : ℕ → (List ℕ → ℕ) → Type 0
Detects n f = (u v : List ℕ) → Bytes u → Bytes v → length u ≡ length v → DifferWithin n u v → u ≢ v → f u ≢ f v

-- a register of n bytes, from any start, detects n bytes where the register constant p has its top bit set
abbrev pub CheckValueLaw : Type 0
CheckValueLaw = (n p start : ℕ) → 2 ^ (8 * n - 1) ≤ p → p < 2 ^ (8 * n) → start < 2 ^ (8 * n) → Detects n (run p start)

-- the CRC of MDU and PCS detects two bytes
abbrev pub Crc16Detects : Type 0
Crc16Detects = Detects 2 crc16_of

-- the CRC of the expansion link detects four bytes
abbrev pub Crc32Detects : Type 0
Crc32Detects = Detects 4 crc32_of

-- a value can be carried on: blocks one after the other, the first from the start, each of the others from the value reached before it, give
-- what one pass over the blocks joined gives
abbrev pub CarriedOn : Type 0
CarriedOn = (start : ℕ) (blocks : List (List ℕ)) → foldl crc16_from start blocks ≡ crc16_from start (flatten blocks)
