-- Lists of numbers of one size in bytes, low byte first. Nothing here knows of records.
use Rattle.std.specs.Prelude.{ℕ, zero, suc, ◌*◌, List, [], ◌∷◌, take, drop}
use Rattle.runs.specs.Runs.{each}
use Rattle.runs.specs.Number.{little_endian, bytes_of}

-- the first count numbers of size bytes each
unfoldable pub numbers : ℕ → ℕ → List ℕ → List ℕ
numbers size zero bs = []
numbers size (suc count) bs = little_endian (take size bs) ∷ numbers size count (drop size bs)

-- the number at an index
abbrev pub number_at : ℕ → List ℕ → ℕ → ℕ
number_at size bs i = little_endian (take size (drop (size * i) bs))

-- numbers as bytes, size bytes each
abbrev pub bytes_of_all : ℕ → List ℕ → List ℕ
bytes_of_all size ns = each (bytes_of size) ns
