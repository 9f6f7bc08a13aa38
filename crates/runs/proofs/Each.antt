-- Elements one after the other, each as f shows it.
use Rattle.std.proofs.Common.{◌≡◌, ℕ, suc, ◌+◌, ◌*◌, ◌<◌, ◌≤◌, List, [], ◌∷◌, ◌++◌, length, get_or, take, drop, sym, refl, ap, ◌∙◌, append_assoc, append-nil, add-one, arith, lit<, length-append, take-append-drop, take-suc}
use Rattle.runs.proofs.Bytes.{drop-next, every_append, bytes_append}
use Rattle.runs.specs.Runs.{Bytes, each}

module _ (f : ℕ → List ℕ) where
  pub each_nil : each f [] ≡ []
  unfolding each
  each_nil = refl

  pub each_append : (xs ys : List ℕ) → each f (xs ++ ys) ≡ each f xs ++ each f ys
  unfolding each
  each_append [] ys = refl
  each_append (x ∷ xs) ys = rw (each_append xs ys) (sym (append_assoc (f x) (each f xs) (each f ys)))

  pub each_snoc : (bytes : List ℕ) (b : ℕ) → each f (bytes ++ (b ∷ [])) ≡ each f bytes ++ f b
  unfolding each
  each_snoc bytes b = each_append bytes (b ∷ []) ∙ ap (λ (x : List ℕ). each f bytes ++ x) (append-nil (f b))

  -- what is left at index i, as a loop that counts up by one meets it
  pub each_next : (l : List ℕ) (i : ℕ) → i < length l → each f (drop i l) ≡ f (get_or l i 0) ++ each f (drop (i + 1) l)
  unfolding each
  each_next l i h = ap (each f) (drop-next l i h)

  pub each-length : (l : List ℕ) (i : ℕ) → i < length l
      → length (each f (drop i l)) ≡ length (f (get_or l i 0)) + length (each f (drop (i + 1) l))
  each-length l i h = ap length (each_next l i h) ∙ length-append (f (get_or l i 0)) (each f (drop (i + 1) l))

  -- of the first i elements, one more; with it they are no more than all
  pub each_take : (l : List ℕ) (i : ℕ) → i < length l → each f (take (i + 1) l) ≡ each f (take i l) ++ f (get_or l i 0)
  each_take l i h = rw (add-one, take-suc l i 0) (each_snoc (take i l) (get_or l i 0))

  pub each_room : (l : List ℕ) (i : ℕ) → i < length l → length (each f (take i l)) + length (f (get_or l i 0)) ≤ length (each f l)
  each_room l i h =
      let e : each f l ≡ each f (take (i + 1) l) ++ each f (drop (i + 1) l) =
      ap (each f) (sym (take-append-drop (i + 1) l)) ∙ each_append (take (i + 1) l) (drop (i + 1) l) in
      rw (e, each_take l i h, length-append, length-append) (omega arith)

  -- what holds of every byte that f gives holds of all
  pub each_all : (P : ℕ → Type 0) → P 0 → ((b i : ℕ) → P (get_or (f b) i 0)) → (bytes : List ℕ) (i : ℕ) → P (get_or (each f bytes) i 0)
  unfolding each
  each_all P z h [] i = z
  each_all P z h (b ∷ bytes) i = every_append P (f b) (each f bytes) (h b) (each_all P z h bytes) i

  -- at most twice as many, where f gives one byte or two
  pub each_short : ((b : ℕ) → length (f b) ≤ 2) → (bytes : List ℕ) → length (each f bytes) ≤ 2 * length bytes
  unfolding each
  each_short two [] = omega arith
  each_short two (b ∷ bytes) = simp length-append (omega (arith, two b, each_short two bytes))

  -- bytes, where f gives bytes for a byte
  pub each_bytes : ((b : ℕ) → b < 256 → Bytes (f b)) → (bytes : List ℕ) → Bytes bytes → Bytes (each f bytes)
  unfolding each
  each_bytes h [] y i = lit< tt
  each_bytes h (b ∷ bytes) y i = bytes_append (f b) (each f bytes) (h b (y 0)) (each_bytes h bytes (λ j. y (suc j))) i

-- bytes as they are
pub each-one : (l : List ℕ) → each (λ b. b ∷ []) l ≡ l
unfolding each
each-one [] = refl
each-one (b ∷ l) = ap (λ (t : List ℕ). b ∷ t) (each-one l)
