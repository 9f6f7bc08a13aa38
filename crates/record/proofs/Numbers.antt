-- Laws of lists of numbers of one size.
use Prim.Native.Nat.{ℕ, zero, suc, ◌+◌, ◌*◌, ◌^◌, ◌≤◌, ◌<◌}
use mathlib.Core.Path.{◌≡◌, refl, ap, ◌∙◌}
use mathlib.Core.List.{List, [], ◌∷◌}
use mathlib.Core.Bool.{Bool, true}
use native.Mathlib.Omega.{arith}
use native.Mathlib.Nat.{mul-suc, mul-zero}
use lib.Dec.{ltb}
use lib.ListN.{length, get_or, take, drop, length-append, length-take, length-drop, take-append-drop}
use lib.Seq.{length-take-le, take_at, drop_at, drop-drop}
use borrow.Author.Tests.{ltb-true, lt-ltb}
use Rattle.std.specs.List.{list_all}
use Rattle.runs.specs.Runs.{Bytes, each}
use Rattle.runs.specs.Number.{little_endian, bytes_of}
use Rattle.runs.proofs.Bytes.{bytes_drop, bytes_take}
use Rattle.runs.proofs.Cases.{and_both}
use Rattle.runs.proofs.Number.{number_lt, length-bytes_of, number_bytes_of, bytes_of_number}
use Rattle.record.specs.Numbers.{numbers, number_at, bytes_of_all}

-- size bytes hold a number
abbrev pub fits : ℕ → ℕ → Bool
fits size n = ltb n (256 ^ size)

pub bytes_of_sized : (size : ℕ) (bs : List ℕ) → Bytes bs → length bs ≡ size → bytes_of size (little_endian bs) ≡ bs
bytes_of_sized size bs h l = rw l at (bytes_of_number bs h)

pub length-numbers : (size k : ℕ) (bs : List ℕ) → length (numbers size k bs) ≡ k
unfolding numbers
length-numbers size zero bs = refl
length-numbers size (suc k) bs = ap suc (length-numbers size k (drop size bs))

pub get_d_numbers : (size k : ℕ) (bs : List ℕ) (i : ℕ) → i < k → get_or (numbers size k bs) i 0 ≡ number_at size bs i
unfolding numbers
get_d_numbers size zero bs i l = absurd (omega arith)
get_d_numbers size (suc k) bs zero l = rw mul-zero
get_d_numbers size (suc k) bs (suc i) l =
    let e : size + size * i ≡ size * suc i = omega (arith, mul-suc size i) in
    get_d_numbers size k (drop size bs) i (omega arith) ∙ rw (drop-drop, e)

pub length-bytes_of_all : (size : ℕ) (ns : List ℕ) → length (bytes_of_all size ns) ≡ size * length ns
unfolding each
length-bytes_of_all size [] = rw mul-zero
length-bytes_of_all size (n ∷ ns) =
    rw (length-append, length-bytes_of, length-bytes_of_all size ns) (omega (arith, mul-suc size (length ns)))

pub numbers-bytes_of_all : (size : ℕ) (ns : List ℕ) → list_all (fits size) ns ≡ true → numbers size (length ns) (bytes_of_all size ns) ≡ ns
unfolding numbers each
numbers-bytes_of_all size [] e = refl
numbers-bytes_of_all size (n ∷ ns) e =
    let h : (fits size n ≡ true) × (list_all (fits size) ns ≡ true) = and_both _ _ e in
    let l : length (bytes_of size n) ≡ size = length-bytes_of size n in
    rw (take_at (bytes_of size n) (bytes_of_all size ns) size l, drop_at (bytes_of size n) (bytes_of_all size ns) size l, number_bytes_of size n (ltb-true n (256 ^ size) h.0))
    (ap (λ m. n ∷ m) (numbers-bytes_of_all size ns h.1))

pub bytes_of_all-numbers : (size k : ℕ) (bs : List ℕ) → Bytes bs → length bs ≡ size * k → bytes_of_all size (numbers size k bs) ≡ bs
unfolding numbers each
bytes_of_all-numbers size zero bs h l = empty bs (l ∙ mul-zero size)
  where
    empty : (bs : List ℕ) → length bs ≡ 0 → [] ≡ bs
    empty [] e = refl
    empty (b ∷ bs) e = absurd (omega arith)
bytes_of_all-numbers size (suc k) bs h l =
    let m : length bs ≡ size * k + size = l ∙ mul-suc size k in
    let t : length (take size bs) ≡ size = length-take-le size bs (omega arith) in
    let first : bytes_of size (little_endian (take size bs)) ≡ take size bs =
    bytes_of_sized size (take size bs) (bytes_take size bs h) t in
    let rest : bytes_of_all size (numbers size k (drop size bs)) ≡ drop size bs =
    bytes_of_all-numbers size k (drop size bs) (bytes_drop size bs h) (rw length-drop (omega arith)) in
    rw (first, rest) (take-append-drop size bs)

pub every-numbers : (size k : ℕ) (bs : List ℕ) → Bytes bs → list_all (fits size) (numbers size k bs) ≡ true
unfolding numbers
every-numbers size zero bs h = refl
every-numbers size (suc k) bs h =
    let l : length (take size bs) ≤ size = rw length-take (omega arith) in
    rw (lt-ltb _ _ (number_lt size (take size bs) (bytes_take size bs h) l)) (every-numbers size k (drop size bs) (bytes_drop size bs h))
