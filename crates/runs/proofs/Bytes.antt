-- Lists of bytes, and their parts.
use Rattle.std.proofs.Common.{◌≡◌, ℕ, zero, suc, ◌+◌, ◌-◌, ◌<◌, List, [], ◌∷◌, ◌++◌, map, length, get_or, take, drop, refl, add-one, arith, lit<, length-drop, get_or-drop, take_all, drop-cons, get_or-append-add}
use Rattle.runs.specs.Runs.{Bytes}

-- an element of the list that f makes of l
pub map_at : (f : ℕ → ℕ) (l : List ℕ) (i : ℕ) → i < length l → get_or (map f l) i 0 ≡ f (get_or l i 0)
map_at f [] i h = absurd (omega arith)
map_at f (x ∷ l) zero h = refl
map_at f (x ∷ l) (suc i) h = map_at f l i (omega arith)

-- what is left of l at index i, as a loop that counts up by one meets it
pub drop-next : (l : List ℕ) (i : ℕ) → i < length l → drop i l ≡ get_or l i 0 ∷ drop (i + 1) l
drop-next l i h = rw (add-one i) (drop-cons l i 0 h)

-- the part of l from index i on, as a call that is lent it has it
pub part_rest : (l : List ℕ) (i : ℕ) → take (length l - i) (drop i l) ≡ drop i l
part_rest l i = take_all (length l - i) (drop i l) (simp length-drop (omega arith))

pub bytes_left : (u v : List ℕ) → Bytes (u ++ v) → Bytes u
bytes_left [] v h i = lit< tt
bytes_left (b ∷ u) v h zero = h 0
bytes_left (b ∷ u) v h (suc i) = bytes_left u v (λ j. h (suc j)) i

pub bytes_right : (u v : List ℕ) → Bytes (u ++ v) → Bytes v
bytes_right u v h i = rw get_or-append-add at (h (length u + i))

-- what holds of every element of two lists holds of every element of one after the other
pub every_append : (P : ℕ → Type 0) (u v : List ℕ) → ((i : ℕ) → P (get_or u i 0)) → ((i : ℕ) → P (get_or v i 0)) → (i : ℕ) → P (get_or (u ++ v) i 0)
every_append P [] v hu hv i = hv i
every_append P (b ∷ u) v hu hv zero = hu 0
every_append P (b ∷ u) v hu hv (suc i) = every_append P u v (λ j. hu (suc j)) hv i

pub bytes_append : (u v : List ℕ) → Bytes u → Bytes v → Bytes (u ++ v)
bytes_append u v hu hv = every_append (λ b. b < 256) u v hu hv

pub bytes_one : (b : ℕ) → b < 256 → Bytes (b ∷ [])
bytes_one b h zero = h
bytes_one b h (suc i) = lit< tt

pub bytes_more : (u : List ℕ) (b : ℕ) → Bytes u → b < 256 → Bytes (u ++ (b ∷ []))
bytes_more u b h y = bytes_append u (b ∷ []) h (bytes_one b y)

pub bytes_two : (a b : ℕ) → a < 256 → b < 256 → Bytes (a ∷ b ∷ [])
bytes_two a b h k zero = h
bytes_two a b h k (suc i) = bytes_one b k i

pub bytes_take : (n : ℕ) (u : List ℕ) → Bytes u → Bytes (take n u)
bytes_take zero u h i = lit< tt
bytes_take (suc n) [] h i = lit< tt
bytes_take (suc n) (b ∷ u) h zero = h zero
bytes_take (suc n) (b ∷ u) h (suc i) = bytes_take n u (λ j. h (suc j)) i

pub bytes_drop : (n : ℕ) (u : List ℕ) → Bytes u → Bytes (drop n u)
bytes_drop n u h i = rw get_or-drop (h (n + i))
