-- Laws of numbers as bytes, low byte first, over the size.
use Rattle.std.proofs.Common.{◌≡◌, ℕ, zero, suc, ◌+◌, ◌-◌, ◌*◌, ◌/◌, ◌%◌, ◌^◌, ◌<◌, ◌≤◌, min, List, [], ◌∷◌, ◌++◌, length, get_or, take, drop, set, refl, ap, ◌∙◌, append-nil, div-lt_iff_lt-mul, pow-suc, div-add-mod', arith, lit<, length-drop, drop_of_length-le, length-take, get_or-drop, drop-cons, get_or-take}
use native.Mathlib.Nat.{pow-zero, one-le-pow, min-eq_left}
use native.Mathlib.Decide.{dec_le}
use lib.Arith.{digits_lt, digits_div, digits_mod}
use lib.Seq.{drop-length, sets, set_out}
use Rattle.runs.specs.Runs.{Bytes}
use Rattle.runs.specs.Number.{little_endian, bytes_of}
use Rattle.runs.proofs.Bytes.{bytes_take, bytes_drop}
use Rattle.runs.proofs.Run.{sets_over}

pub number_lt : (m : ℕ) (bs : List ℕ) → Bytes bs → length bs ≤ m → little_endian bs < 256 ^ m
unfolding little_endian
number_lt m [] h l = one-le-pow m 256 (lit< tt)
number_lt zero (b ∷ bs) h l = absurd (omega arith)
number_lt (suc m) (b ∷ bs) h l = rw pow-suc (digits_lt (number_lt m bs (λ i. h (suc i)) (omega arith)) (h zero))

pub length-bytes_of : (size n : ℕ) → length (bytes_of size n) ≡ size
unfolding bytes_of
length-bytes_of zero n = refl
length-bytes_of (suc size) n = ap suc (length-bytes_of size (n / 256))

pub bytes_bytes_of : (size n : ℕ) → Bytes (bytes_of size n)
unfolding bytes_of
bytes_bytes_of zero n i = omega arith
bytes_bytes_of (suc size) n zero = omega arith
bytes_bytes_of (suc size) n (suc i) = bytes_bytes_of size (n / 256) i

pub number_bytes_of : (size n : ℕ) → n < 256 ^ size → little_endian (bytes_of size n) ≡ n
unfolding little_endian bytes_of
number_bytes_of zero n l = let h : n < 1 = rw pow-zero at l in omega arith
number_bytes_of (suc size) n l =
    rw (number_bytes_of size (n / 256) ((div-lt_iff_lt-mul (lit< tt)).1 (rw pow-suc at l))) (div-add-mod' n 256)

pub bytes_of_number : (bs : List ℕ) → Bytes bs → bytes_of (length bs) (little_endian bs) ≡ bs
unfolding little_endian bytes_of
bytes_of_number [] h = refl
bytes_of_number (b ∷ bs) h =
    rw (digits_mod (little_endian bs) {m = 256} {r = b} (h zero), digits_div (little_endian bs) {m = 256} {r = b} (h zero))
    (ap (λ l. b ∷ l) (bytes_of_number bs (λ i. h (suc i))))

-- ---- reading, from the last byte down: the at most m bytes of s from a place
module _ (s : List ℕ) (at m : ℕ) where
  abbrev pub part : List ℕ
  part = take m (drop at s)

  pub part_length : length part ≡ min m (length s - at)
  part_length = simp (length-take, length-drop)

  pub part-start : little_endian (drop (length part) part) ≡ 0
  unfolding little_endian
  part-start = rw drop-length

  pub part_step : (k : ℕ) → 0 < k → k ≤ length part → little_endian (drop k part) * 256 + get_or s (at + (k - 1)) 0 ≡ little_endian (drop (k - 1) part)
  unfolding little_endian
  part_step zero l h = absurd (omega arith)
  part_step (suc k) l h =
      let e : suc k - 1 ≡ k = omega arith in
      let below : k < m = omega (arith, part_length) in
      rw (e, drop-cons part k 0 h, get_or-take m (drop at s) k 0 below, get_or-drop at s k 0)

  pub part_lt : (k j : ℕ) → Bytes s → m ≤ k + j → little_endian (drop k part) < 256 ^ j
  part_lt k j h l = number_lt j _ (bytes_drop k _ (bytes_take m _ (bytes_drop at s h))) (rw length-drop (omega (arith, part_length)))

-- what `number_at` answers at a size of at most four
pub sized : (s : List ℕ) (at size n : ℕ) → size ≤ 4 → n ≡ little_endian (take (min size 4) (drop at s)) → n ≡ little_endian (take size (drop at s))
sized s at size n l e = e ∙ rw (min-eq_left l)

pub sized_lt : (s : List ℕ) (at size n : ℕ) → Bytes s → n ≡ little_endian (take size (drop at s)) → n < 256 ^ size
sized_lt s at size n h e = rw e (part_lt s at size 0 size h (omega arith))

-- ---- storing, the rest gives the whole; beyond the end nothing is stored
pub sets_beyond : (vs out : List ℕ) (at : ℕ) → length out ≤ at → sets out at vs ≡ out
sets_beyond [] out at l = refl
sets_beyond (v ∷ vs) out at l = rw (set_out out at v l) (sets_beyond vs out (suc at) (omega arith))

pub put_step : (out : List ℕ) (at size k n : ℕ) → k < size
    → sets (set out (at + k) (n % 256)) (at + (k + 1)) (bytes_of (size - (k + 1)) (n / 256)) ≡ sets out (at + k) (bytes_of (size - k) n)
unfolding bytes_of
put_step out at size k n l =
    let e : size - k ≡ suc (size - (k + 1)) = omega arith in
    let q : at + (k + 1) ≡ suc (at + k) = omega arith in
    rw (e, q)

pub put_end : (out : List ℕ) (at size k n : ℕ) → min size (length out - at) ≤ k → sets out (at + k) (bytes_of (size - k) n) ≡ out
unfolding bytes_of
put_end out at size k n l = go (dec_le size k)
  where
    go : Dec (size ≤ k) → sets out (at + k) (bytes_of (size - k) n) ≡ out
    go (yes h) = let e : size - k ≡ 0 = omega arith in rw e
    go (no h) = sets_beyond (bytes_of (size - k) n) out (at + k) (omega arith)

-- a number stored over as many bytes as it takes is all that stands there
pub number_put : (width n : ℕ) (memory after : List ℕ) → length memory ≡ width → after ≡ sets memory 0 (bytes_of width n) → after ≡ bytes_of width n
number_put width n memory after l e =
    let k = length-bytes_of width n in
    e ∙ sets_over (bytes_of width n) memory (omega arith)
    ∙ ap (λ (x : List ℕ). bytes_of width n ++ x) (drop_of_length-le memory {i = length (bytes_of width n)} (omega arith)) ∙ append-nil (bytes_of width n)
