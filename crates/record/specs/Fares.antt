-- 01, "Fare records": the fares that a record holds, and the record of given fares, once for both signednesses.
use Rattle.std.specs.Prelude.{ℕ, suc, ◌-◌, ◌/◌, ◌^◌, List, ◌∷◌, ◌++◌, map, Bool, true, false, cond, not, ◌&&◌, length, drop, ltb, ℤ, pos, negsuc}
use Rattle.std.specs.List.{list_all}
use Rattle.std.specs.Int.Signed.{mag}
use Rattle.runs.specs.Number.{bytes_of}
use Rattle.record.specs.Numbers.{numbers, number_at, bytes_of_all}
use Rattle.record.specs.Form.{size_of, signed_of, kind_of, count_of, allowed}

-- how fares of one signedness stand for numbers of a size: the fare of a number, the number of a fare, and which fares a size can hold
pub record Signedness (A : Type 0) : Type 0 where
  pub signed : Bool
  pub fare_of : ℕ → ℕ → A
  pub number_of : ℕ → A → ℕ
  pub holds : ℕ → A → Bool

-- an unsigned fare is its number
abbrev pub unsigned_fares : Signedness ℕ
unsigned_fares = record { signed = false; fare_of = λ size n. n; number_of = λ size n. n; holds = λ size n. ltb n (256 ^ size) }

-- two's complement: the upper half of the numbers stands for the negative fares
abbrev pub signed_fare : ℕ → ℕ → ℤ
signed_fare size n = cond (ltb n (256 ^ size / 2)) (pos n) (negsuc (256 ^ size - suc n))

abbrev pub signed_number : ℕ → ℤ → ℕ
signed_number size (pos n) = n
signed_number size (negsuc n) = 256 ^ size - suc n

-- `mag` of n and of -1 - n is n, so a size holds as many fares below 0 as from 0 on
abbrev pub signed_fares : Signedness ℤ
signed_fares = record { signed = true; fare_of = signed_fare; number_of = signed_number; holds = λ size z. ltb (mag z) (256 ^ size / 2) }

-- two signednesses are the same
abbrev pub same : Bool → Bool → Bool
same true b = b
same false b = not b

module _ {A : Type 0} (F : Signedness A) where
  -- the fares of so many elements of a size, behind the header
  abbrev pub fares_in : ℕ → ℕ → List ℕ → List A
  fares_in size count r = map (F.fare_of size) (numbers size count (drop 5 r))

  -- the fares of a well-formed record
  abbrev pub fares_of : List ℕ → List A
  fares_of r = fares_in (size_of (kind_of r)) (count_of r) r

  -- the fare at an index
  abbrev pub fare_at : List ℕ → ℕ → A
  fare_at r i = F.fare_of (size_of (kind_of r)) (number_at (size_of (kind_of r)) (drop 5 r) i)

  -- fares may be written: the type is of their signedness, the header is allowed, and the type can hold each of them
  unfoldable pub writable : ℕ → ℕ → List A → Bool
  writable kind address fares =
      same F.signed (signed_of kind) && (allowed kind address (length fares) && list_all (F.holds (size_of kind)) fares)

  -- fares as elements of a size
  abbrev pub elements : ℕ → List A → List ℕ
  elements size fares = bytes_of_all size (map (F.number_of size) fares)

  -- the record of fares: type, address, count, elements
  abbrev pub record_bytes : ℕ → ℕ → List A → List ℕ
  record_bytes kind address fares = (kind ∷ bytes_of 2 address) ++ bytes_of 2 (length fares) ++ elements (size_of kind) fares
