-- 01, "Fare records": the decision over the type, the fields of a record's header, and which records are well formed.
use Rattle.std.specs.Prelude.{ℕ, ◌+◌, ◌*◌, List, Bool, true, false, cond, ◌&&◌, length, get_or, take, drop, leb, ltb, eqb, Option, Some, None}
use Rattle.runs.specs.Number.{little_endian}
use Rattle.record.specs.declared.form.Form.{Form}
use Rattle.record.specs.declared.form.Size.{Size}
use Rattle.record.specs.declared.form.Size.TheVariants.{One, Two, Four}

-- how many bytes an element of a size has
abbrev pub bytes_in : Size → ℕ
bytes_in One = 1
bytes_in Two = 2
bytes_in Four = 4

-- a form by its element size, signedness, and limit of address plus count
abbrev pub form : Size → Bool → ℕ → Option Form
form s b l = Some (record { size = s; signed = b; limit = l })

-- the decision over the type, from 1 on: byte, word, integer, long integer, double word; no other number is a type
unfoldable pub form_of : ℕ → Option Form
form_of kind =
    cond (eqb kind 1) (form One false 2000)
    (cond (eqb kind 2) (form Two false 1000)
    (cond (eqb kind 3) (form Two true 1000)
    (cond (eqb kind 4) (form Four true 500)
    (cond (eqb kind 5) (form Four false 500)
    None))))

-- each part of the decision by itself; of what is no type, where the papers leave them free, size and limit are 0
abbrev pub size_in : Option Form → ℕ
size_in (Some f) = bytes_in f.size
size_in None = 0

abbrev pub signed_in : Option Form → Bool
signed_in (Some f) = f.signed
signed_in None = false

abbrev pub limit_in : Option Form → ℕ
limit_in (Some f) = f.limit
limit_in None = 0

abbrev pub size_of : ℕ → ℕ
size_of kind = size_in (form_of kind)

abbrev pub signed_of : ℕ → Bool
signed_of kind = signed_in (form_of kind)

abbrev pub limit_of : ℕ → ℕ
limit_of kind = limit_in (form_of kind)

-- the type
abbrev pub kind_of : List ℕ → ℕ
kind_of r = get_or r 0 0

-- the address, two bytes
abbrev pub address_of : List ℕ → ℕ
address_of r = little_endian (take 2 (drop 1 r))

-- the count, two bytes
abbrev pub count_of : List ℕ → ℕ
count_of r = little_endian (take 2 (drop 3 r))

-- a known type, at least one element, address plus count within the type's limit, and a whole length of at most 1,024
unfoldable pub allowed : ℕ → ℕ → ℕ → Bool
allowed kind address count =
    ltb 0 (size_of kind) && (ltb 0 count && (leb (address + count) (limit_of kind) && leb (5 + size_of kind * count) 1024))

-- a whole header, whose fields are allowed, and exactly the elements that it counts
unfoldable pub well_formed : List ℕ → Bool
well_formed r =
    leb 5 (length r)
    && (allowed (kind_of r) (address_of r) (count_of r) && eqb (length r) (5 + size_of (kind_of r) * count_of r))

-- the type and the count of a well-formed record; of any other run, where the papers leave them free, 0 and 0
unfoldable pub header_of : List ℕ → ℕ × ℕ
header_of r = cond (well_formed r) (kind_of r, count_of r) (0, 0)
