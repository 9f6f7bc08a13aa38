-- For private contracts only. A braid: registers side by side. Of n registers each takes every n-th word of a run, so that none waits for another.
use Rattle.std.specs.Prelude.{ℕ, ◌*◌, ◌≡◌, List, [], ◌∷◌, length}
use Rattle.std.specs.Int.Bits.{bit_xor}
use Rattle.checksum.specs.Crc.{shifts}

-- words xored, one by one
unfoldable pub both : List ℕ → List ℕ → List ℕ
both [] ys = ys
both (x ∷ xs) [] = x ∷ xs
both (x ∷ xs) (y ∷ ys) = bit_xor x y ∷ both xs ys

-- the register after words of 32 bits
unfoldable pub run_words : ℕ → ℕ → List ℕ → ℕ
run_words p c [] = c
run_words p c (w ∷ ws) = run_words p (shifts p 32 (bit_xor c w)) ws

-- a braid stands for the register c: as words, from 0, its registers lead to where c is led by as many words of zeros
unfoldable pub StandsFor : ℕ → List ℕ → ℕ → Type 0
StandsFor p braid c = run_words p 0 braid ≡ shifts p (32 * length braid) c
