-- Packing: data goes out in groups of at most seven bytes, seven bits of each and then one byte with the top bits.
use Rattle.std.specs.Prelude.{ℕ, zero, suc, ◌+◌, ◌-◌, ◌*◌, ◌/◌, ◌%◌, ◌^◌, List, [], ◌∷◌, ◌++◌, map, length, take, drop}
use Rattle.packing.specs.Seven.{sent}

-- in the byte of the top bits the last of k bytes stands at this place, and each byte before it one place higher: so the first of
-- every group stands at place 6, and the places that a shorter group does not use are the low ones
unfoldable pub last_place : ℕ → ℕ
last_place k = 7 - k

-- the bits t, followed by the top bit of each byte of g
unfoldable pub tops_after : ℕ → List ℕ → ℕ
tops_after t [] = t
tops_after t (b ∷ g) = tops_after (2 * t + b / 128) g

-- the byte of the top bits of a group; unused places are 0
unfoldable pub tops_of : List ℕ → ℕ
tops_of g = tops_after 0 g * 2 ^ last_place (length g)

-- a group as it goes out: the low seven bits of each byte, then the top bits
unfoldable pub packed_group : List ℕ → List ℕ
packed_group g = map (λ b. sent (b % 128)) g ++ (sent (tops_of g) ∷ [])

-- the first n groups of d, one after the other
unfoldable pub packed_groups : ℕ → List ℕ → List ℕ
packed_groups zero d = []
packed_groups (suc n) d = packed_group (take 7 d) ++ packed_groups n (drop 7 d)

-- data as they go out: all groups, of which only the last can be shorter than seven
unfoldable pub packed : List ℕ → List ℕ
packed d = packed_groups ((length d + 6) / 7) d

-- how many bytes n data bytes pack to: one more for each group
abbrev pub packed_length : ℕ → ℕ
packed_length n = n + (n + 6) / 7
