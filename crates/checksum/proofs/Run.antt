-- The register after a run in parts, for any register constant p: two parts, any blocks, some bytes more, all bits at once.
use mathlib.Core.Path.{◌≡◌, refl, sym, ap, ap₂, ◌∙◌}
use mathlib.Core.List.{List, [], ◌∷◌, ◌++◌, foldl, flatten, map}
use Prim.Native.Nat.{ℕ, zero, suc, ◌+◌, ◌*◌, ◌/◌, ◌-◌, ◌^◌, ◌≤◌, ◌<◌}
use native.Mathlib.Omega.{arith}
use lib.Bits.{bit_xor, xor_zero_r, xor_comm, xor_shifted}
use lib.ListN.{length, get_or, take, drop, length-drop, drop_of_length-le, take-append-drop}
use lib.Seq.{drop-drop, length-take-le, take-add}
use Rattle.std.specs.List.{fold}
use Rattle.std.specs.Int.{from_le_bytes}
use Rattle.std.specs.Simd.{first_chunks}
use Rattle.std.proofs.Common.{w32}
use Rattle.runs.proofs.Bytes.{drop-next, bytes_take, bytes_drop}
use Rattle.runs.specs.Runs.{Bytes}
use Rattle.runs.specs.Number.{little_endian}
use Rattle.checksum.specs.Crc.{shifts, byte_step, run, crc32_of}
use Rattle.checksum.specs.Braids.{run_words}
use Rattle.checksum.specs.Tables.{AfterBytes}
use Rattle.checksum.specs.Claims.{CarriedOn}
use Rattle.checksum.proofs.Xor.{xor_undo, xor_assoc}
use Rattle.checksum.proofs.Linear.{shifts_add, shifts-sum, shifts-zeros}

pub run_append : (p c : ℕ) (u v : List ℕ) → run p c (u ++ v) ≡ run p (run p c u) v
unfolding run
run_append p c [] v = refl
run_append p c (b ∷ u) v = run_append p (byte_step p c b) u v

-- the second part of a run starts from the register after the first
pub run-joined : (p s : ℕ) (u v : List ℕ) {c d : ℕ} → c ≡ run p s u → d ≡ run p c v → d ≡ run p s (u ++ v)
run-joined p s u v q e = e ∙ ap (λ (x : ℕ). run p x v) q ∙ sym (run_append p s u v)

-- any blocks one after the other are one pass over them joined
run_blocks : (p c : ℕ) (blocks : List (List ℕ)) → foldl (run p) c blocks ≡ run p c (flatten blocks)
unfolding run flatten
run_blocks p c [] = refl
run_blocks p c (u ∷ blocks) = run_blocks p (run p c u) blocks ∙ sym (run_append p c u (flatten blocks))

pub carried_on : CarriedOn
carried_on = run_blocks 0xA001

-- at 32 bits a value is carried on over v once the final xor of the value of u is taken back
pub crc32_append : (u v : List ℕ)
    → bit_xor (run 0xEDB88320 (bit_xor (crc32_of u) (2 ^ 32 - 1)) v) (2 ^ 32 - 1) ≡ crc32_of (u ++ v)
crc32_append u v =
    ap (λ (x : ℕ). bit_xor x (2 ^ 32 - 1))
    (run-joined 0xEDB88320 (2 ^ 32 - 1) u v (xor_undo (run 0xEDB88320 (2 ^ 32 - 1) u) (2 ^ 32 - 1)) refl)

-- the register after a run of bytes, as one number: all their bits leave at once
pub run_number : (p c : ℕ) (u : List ℕ) → Bytes u → run p c u ≡ shifts p (8 * length u) (bit_xor c (little_endian u))
unfolding run byte_step little_endian shifts
run_number p c [] h = sym (xor_zero_r c)
run_number p c (b ∷ u) h =
    run_number p (shifts p 8 (bit_xor c b)) u (λ i. h (suc i))
    ∙ ap (λ (x : ℕ). shifts p (8 * length u) (bit_xor (shifts p 8 (bit_xor c b)) x)) (sym (shifts-zeros p 8 (little_endian u)))
    ∙ ap (shifts p (8 * length u)) (sym (shifts-sum p 8 (bit_xor c b) (little_endian u * 2 ^ 8)))
    ∙ sym (shifts_add p 8 (8 * length u) (bit_xor (bit_xor c b) (little_endian u * 2 ^ 8)))
    ∙ ap₂ (shifts p) bits joined
  where
    bits : 8 + 8 * length u ≡ 8 * suc (length u)
    bits = omega arith

    joined : bit_xor (bit_xor c b) (little_endian u * 2 ^ 8) ≡ bit_xor c (little_endian u * 2 ^ 8 + b)
    joined = xor_assoc c b (little_endian u * 2 ^ 8) ∙ ap (bit_xor c) (xor_comm b (little_endian u * 2 ^ 8) ∙ xor_shifted (little_endian u) 8 b (h 0))

pub bytes_start : (p s : ℕ) (u : List ℕ) → AfterBytes p s u 0 s
bytes_start p s u = (omega arith, refl)

-- n bytes more
pub bytes_more : (p s : ℕ) (u : List ℕ) (i n c d : ℕ) → AfterBytes p s u i c → i + n ≤ length u → d ≡ run p c (take n (drop i u)) → AfterBytes p s u (i + n) d
bytes_more p s u i n c d a h e = (
  h,
  ap₂ (run p) e (sym (drop-drop n i u)) ∙ sym (run_append p c (take n (drop i u)) (drop n (drop i u))) ∙ ap (run p c) (take-append-drop n (drop i u)) ∙ a.1,
)

-- one byte more
pub bytes_next : (p s : ℕ) (u : List ℕ) (i c d : ℕ) → AfterBytes p s u i c → i < length u → d ≡ shifts p 8 (bit_xor c (get_or u i 0)) → AfterBytes p s u (i + 1) d
unfolding run byte_step
bytes_next p s u i c d a h e = bytes_more p s u i 1 c d a (omega arith) (e ∙ sym (ap (λ (l : List ℕ). run p c (take 1 l)) (drop-next u i h)))

pub bytes_end : (p s : ℕ) (u : List ℕ) (i c : ℕ) → AfterBytes p s u i c → length u ≤ i → c ≡ run p s u
unfolding run
bytes_end p s u i c a h = sym (ap (run p c) (drop_of_length-le u h)) ∙ a.1

-- the register along a run of bytes, as a fold
pub run_fold : (p c : ℕ) (u : List ℕ) → fold (byte_step p) c u ≡ run p c u
unfolding run
run_fold p c [] = refl
run_fold p c (b ∷ u) = run_fold p (byte_step p c b) u

pub words_fold : (p c : ℕ) (ws : List (List ℕ)) → fold (λ c b. shifts p 32 (bit_xor c (little_endian b))) c ws ≡ run_words p c (map little_endian ws)
unfolding run_words
words_fold p c [] = refl
words_fold p c (w ∷ ws) = words_fold p (shifts p 32 (bit_xor c (little_endian w))) ws

-- a run of whole words, word by word
pub run_of_words : (p c k : ℕ) (u : List ℕ) → Bytes u → k * 4 ≤ length u → run_words p c (map little_endian (first_chunks 4 k u)) ≡ run p c (take (k * 4) u)
unfolding run_words run
run_of_words p c zero u h l = refl
run_of_words p c (suc k) u h l =
    let part = take 4 u in
    let four : suc k * 4 ≡ 4 + k * 4 = omega arith in
    let long : length part ≡ 4 = length-take-le 4 u (omega arith) in
    run_of_words p (shifts p 32 (bit_xor c (little_endian part))) k (drop 4 u) (bytes_drop 4 u h) (simp length-drop (omega arith))
    ∙ ap (λ (x : ℕ). run p x (take (k * 4) (drop 4 u)))
    (ap (λ (n : ℕ). shifts p (8 * n) (bit_xor c (little_endian part))) (sym long) ∙ sym (run_number p c part (bytes_take 4 u h)))
    ∙ sym (run_append p c part (take (k * 4) (drop 4 u))) ∙ ap (run p c) (sym (take-add 4 (k * 4) u) ∙ ap (λ (n : ℕ). take n u) (sym four))

-- a run as the words that it has and the bytes behind them
pub run_in_words : (p c : ℕ) (u : List ℕ) → Bytes u → run p (run_words p c (map little_endian (first_chunks 4 (length u / 4) u))) (drop (length u / 4 * 4) u) ≡ run p c u
run_in_words p c u h =
    let n = length u / 4 in
    ap (λ (x : ℕ). run p x (drop (n * 4) u)) (run_of_words p c n u h (omega arith)) ∙ sym (run_append p c (take (n * 4) u) (drop (n * 4) u))
    ∙ ap (run p c) (take-append-drop (n * 4) u)

-- the library's number of four bytes
pub four_bytes : (b : List ℕ) → length b ≡ 4 → from_le_bytes w32 b ≡ little_endian b
unfolding little_endian
four_bytes (v ∷ x ∷ y ∷ z ∷ []) e = omega arith
four_bytes [] e = absurd (omega (arith, e))
four_bytes (v ∷ []) e = absurd (omega (arith, e))
four_bytes (v ∷ x ∷ []) e = absurd (omega (arith, e))
four_bytes (v ∷ x ∷ y ∷ []) e = absurd (omega (arith, e))
four_bytes (v ∷ x ∷ y ∷ z ∷ t ∷ b) e = absurd (omega (arith, e))
