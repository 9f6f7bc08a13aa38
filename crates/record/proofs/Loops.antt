-- The loops that store, whatever the signedness: the fares of a record into a run, and the bytes of fares behind the header.
use Prim.Native.Nat.{ℕ, suc, ◌+◌, ◌*◌, ◌≤◌, ◌<◌}
use mathlib.Core.Path.{◌≡◌, refl, sym, ap, ◌∙◌}
use mathlib.Core.List.{List, ◌∷◌, ◌++◌, map}
use native.Mathlib.Omega.{arith}
use native.Mathlib.Numerals.{add-one}
use native.Mathlib.Nat.{mul-suc, mul-le-mul_left, zero-add, mul-zero}
use lib.ListN.{length, get_or, drop, set, drop_of_length-le, get_or-map, length-map}
use lib.Seq.{sets, drop-cons}
use Rattle.runs.specs.Runs.{each}
use Rattle.runs.specs.Number.{bytes_of}
use Rattle.runs.proofs.Number.{length-bytes_of}
use Rattle.runs.proofs.Run.{Run, run-start, run-one, run-part, run_end, sets_append}
use Rattle.record.specs.Numbers.{numbers, number_at, bytes_of_all}
use Rattle.record.specs.Fares.{Signedness, fares_in, elements}
use Rattle.record.proofs.Numbers.{get_d_numbers, length-numbers, length-bytes_of_all}

-- element i lies within count elements
pub within : (size : ℕ) {i count : ℕ} → i < count → size * i + size ≤ size * count
within size {i} l = rw (← mul-suc) (mul-le-mul_left size l)

-- the fares of a record's elements, one by one
module _ {A : Type 0} (F : Signedness A) (r : List ℕ) (size count : ℕ) where
  abbrev fares : List A
  fares = fares_in F size count r

  pub length-fares : length fares ≡ count
  length-fares = simp (length-map, length-numbers)

  pub fare-at : (i : ℕ) → i < count → get_or fares i (F.fare_of size 0) ≡ F.fare_of size (number_at size (drop 5 r) i)
  fare-at i l =
      get_or-map (F.fare_of size) (numbers size count (drop 5 r)) i 0 ∙ ap (F.fare_of size) (get_d_numbers size count (drop 5 r) i l)

  -- i fares are stored
  abbrev pub Filled : List A → ℕ → List A → Type 0
  Filled out₀ i out = Run out₀ 0 fares i (drop i fares) out

  pub fill_start : (out₀ : List A) → count ≤ length out₀ → Filled out₀ 0 out₀
  fill_start out₀ h = run-start (omega (arith, length-fares)) refl

  pub fill_step : {out₀ out : List A} (i : ℕ) (a : A) → Filled out₀ i out → i < count
      → a ≡ F.fare_of size (number_at size (drop 5 r) i) → Filled out₀ (i + 1) (set out i a)
  fill_step {out₀} {out} i a run l e =
      let next : drop i fares ≡ get_or fares i (F.fare_of size 0) ∷ drop (i + 1) fares =
      rw add-one (drop-cons fares i (F.fare_of size 0) (rw length-fares l)) in
      rw zero-add at (run-one run next (e ∙ sym (fare-at i l)))

  pub fill_end : {out₀ out : List A} (i : ℕ) → Filled out₀ i out → count ≤ i → out ≡ sets out₀ 0 fares
  fill_end i run l = run_end run (drop_of_length-le fares {i = i} (rw length-fares l))

-- the bytes of fares, one fare after the other
module _ {A : Type 0} (F : Signedness A) (size : ℕ) (l : List A) where
  abbrev bytes_from : ℕ → List ℕ
  bytes_from i = bytes_of_all size (drop i (map (F.number_of size) l))

  -- the bytes of i fares are stored
  abbrev pub Put : List ℕ → ℕ → List ℕ → Type 0
  Put out₀ i out = Run out₀ 5 (elements F size l) (size * i) (bytes_from i) out

  pub put_start : (out₀ : List ℕ) → 5 + size * length l ≤ length out₀ → Put out₀ 0 out₀
  put_start out₀ h = rw mul-zero (run-start (rw (length-bytes_of_all, length-map) h) refl)

  pub put_step : {out₀ out out' : List ℕ} (i n : ℕ) (d : A) → Put out₀ i out → i < length l → n ≡ F.number_of size (get_or l i d)
      → out' ≡ sets out (5 + size * i) (bytes_of size n) → Put out₀ (i + 1) out'
  unfolding each
  put_step i n d run h e o =
      let ns = map (F.number_of size) l in
      let here : drop i ns ≡ n ∷ drop (i + 1) ns =
      rw add-one (drop-cons ns i (F.number_of size d) (rw length-map h) ∙ ap (λ (x : ℕ). x ∷ drop (suc i) ns) (get_or-map (F.number_of size) l i d ∙ sym e)) in
      run-part (bytes_of size n) run (ap (bytes_of_all size) here) (rw (length-bytes_of, add-one) (mul-suc size i)) o

  pub put_end : {out₀ out : List ℕ} (i : ℕ) → Put out₀ i out → length l ≤ i → out ≡ sets out₀ 5 (elements F size l)
  unfolding each
  put_end i run h = run_end run (ap (bytes_of_all size) (drop_of_length-le (map (F.number_of size) l) {i = i} (rw length-map h)))

-- the header: the type, and two numbers of two bytes
pub put_header : (out : List ℕ) (kind address count : ℕ)
    → sets (sets (set out 0 kind) 1 (bytes_of 2 address)) 3 (bytes_of 2 count) ≡ sets out 0 ((kind ∷ bytes_of 2 address) ++ bytes_of 2 count)
put_header out kind address count =
    let e : 1 + length (bytes_of 2 address) ≡ 3 = rw length-bytes_of in
    sym (rw e at (sets_append (bytes_of 2 address) (bytes_of 2 count) (set out 0 kind) 1))
