-- Registers side by side: what a braid stands for, one block of words on, and where its last block leads.
use mathlib.Core.Path.{◌≡◌, refl, sym, ap, ap₂, ◌∙◌, subst}
use mathlib.Core.List.{List, [], ◌∷◌, ◌++◌, map}
use Prim.Native.Nat.{ℕ, zero, suc, ◌+◌, ◌*◌, ◌/◌, ◌<◌, ◌≤◌}
use native.Mathlib.Nat.{add_comm}
use native.Mathlib.Omega.{arith}
use lib.Bits.{bit_xor, xor_zero_r}
use lib.ListN.{length, get_or, take, drop, length-drop, length-map, take-append-drop}
use lib.Seq.{length-take-le, take-add}
use Rattle.std.specs.List.{fold, zip}
use Rattle.std.specs.Simd.{first_chunks}
use Rattle.std.proofs.lemmas.List.{map-append}
use Rattle.std.proofs.lemmas.List.Sums.{fold-append}
use Rattle.runs.specs.Number.{little_endian}
use Rattle.checksum.specs.Crc.{shifts}
use Rattle.checksum.specs.Braids.{both, run_words, StandsFor}
use Rattle.checksum.proofs.Linear.{xor_swap, shifts_add, shifts-sum, shifts_none}
use Rattle.checksum.proofs.Xor.{xor_assoc}

-- the order in which bits leave does not matter
shifts-swap : (p i j a : ℕ) → shifts p i (shifts p j a) ≡ shifts p j (shifts p i a)
shifts-swap p i j a = sym (shifts_add p j i a) ∙ ap (λ (n : ℕ). shifts p n a) (add_comm j i) ∙ shifts_add p i j a

-- the register after words is linear in register and words
words_sum : (p a b : ℕ) (xs ys : List ℕ) → length xs ≡ length ys → run_words p (bit_xor a b) (both xs ys) ≡ bit_xor (run_words p a xs) (run_words p b ys)
unfolding run_words both
words_sum p a b [] [] e = refl
words_sum p a b [] (y ∷ ys) e = absurd (omega (arith, e))
words_sum p a b (x ∷ xs) [] e = absurd (omega (arith, e))
words_sum p a b (x ∷ xs) (y ∷ ys) e =
    ap (λ (c : ℕ). run_words p c (both xs ys)) (ap (shifts p 32) (xor_swap a b x y) ∙ shifts-sum p 32 (bit_xor a x) (bit_xor b y))
    ∙ words_sum p (shifts p 32 (bit_xor a x)) (shifts p 32 (bit_xor b y)) xs ys (omega (arith, e))

-- bits may leave before the words or after them
words_shifts : (p n c : ℕ) (xs : List ℕ) → run_words p (shifts p n c) (map (shifts p n) xs) ≡ shifts p n (run_words p c xs)
unfolding run_words
words_shifts p n c [] = refl
words_shifts p n c (x ∷ xs) =
    ap (λ (a : ℕ). run_words p a (map (shifts p n) xs)) (ap (shifts p 32) (sym (shifts-sum p n c x)) ∙ shifts-swap p 32 n (bit_xor c x))
    ∙ words_shifts p n (shifts p 32 (bit_xor c x)) xs

-- what a register and words lead to, apart
words_from_lem : (p c : ℕ) (ws : List ℕ) → run_words p c ws ≡ bit_xor (shifts p (32 * length ws) c) (run_words p 0 ws)
unfolding run_words shifts
words_from_lem p c [] = sym (xor_zero_r c)
words_from_lem p c (w ∷ ws) =
    words_from_lem p (shifts p 32 (bit_xor c w)) ws
    ∙ ap (λ (x : ℕ). bit_xor x (run_words p 0 ws)) (ap (shifts p n) (shifts-sum p 32 c w) ∙ shifts-sum p n (shifts p 32 c) (shifts p 32 w))
    ∙ xor_assoc (shifts p n (shifts p 32 c)) (shifts p n (shifts p 32 w)) (run_words p 0 ws)
    ∙ ap₂ bit_xor (sym (shifts_add p 32 n c) ∙ ap (λ (k : ℕ). shifts p k c) one_more) (sym (words_from_lem p (shifts p 32 w) ws))
  where
    n : ℕ
    n = 32 * length ws

    one_more : 32 + n ≡ 32 * suc (length ws)
    one_more = omega arith

-- as many words as a braid has registers: with these they lead from 0 to where they lead from what the braid stands for
pub words_with : (p c : ℕ) (braid ws : List ℕ) → length braid ≡ length ws → StandsFor p braid c → run_words p 0 (both braid ws) ≡ run_words p c ws
unfolding StandsFor
words_with p c braid ws e h =
    words_sum p 0 0 braid ws e ∙ ap (λ (x : ℕ). bit_xor x (run_words p 0 ws)) (h ∙ ap (λ (n : ℕ). shifts p (32 * n) c) e) ∙ sym (words_from_lem p c ws)

unfoldable zeros : ℕ → List ℕ
zeros zero = []
zeros (suc n) = 0 ∷ zeros n

zeros-run : (p c n : ℕ) → run_words p c (zeros n) ≡ shifts p (32 * n) c
unfolding run_words zeros shifts
zeros-run p c zero = refl
zeros-run p c (suc n) =
    let one_more : 32 + 32 * n ≡ 32 * suc n = omega arith in
    ap (λ (x : ℕ). run_words p (shifts p 32 x) (zeros n)) (xor_zero_r c) ∙ zeros-run p (shifts p 32 c) n
    ∙ sym (shifts_add p 32 (32 * n) c) ∙ ap (λ (k : ℕ). shifts p k c) one_more

-- the start, and zeros for the other registers
pub braid_start : (p s : ℕ) → StandsFor p (s ∷ 0 ∷ 0 ∷ 0 ∷ 0 ∷ 0 ∷ []) s
unfolding StandsFor run_words zeros
braid_start p s = zeros-run p (shifts p 32 s) 5 ∙ sym (shifts_add p 32 160 s)

both-length : (xs ys : List ℕ) → length xs ≡ length ys → length (both xs ys) ≡ length xs
unfolding both
both-length [] [] e = refl
both-length [] (y ∷ ys) e = absurd (omega (arith, e))
both-length (x ∷ xs) [] e = refl
both-length (x ∷ xs) (y ∷ ys) e = ap suc (both-length xs ys (omega (arith, e)))

-- one block on: each of six registers with its word, once the bits of a block have left
braid_next : (p c : ℕ) (braid ws : List ℕ) → length braid ≡ 6 → length ws ≡ 6 → StandsFor p braid c → StandsFor p (map (shifts p 192) (both braid ws)) (run_words p c ws)
unfolding StandsFor
braid_next p c braid ws e h stands =
    let same : length braid ≡ length ws = e ∙ sym h in
    let six : length (map (shifts p 192) (both braid ws)) ≡ 6 = length-map (both braid ws) (shifts p 192) ∙ both-length braid ws same ∙ e in
    ap (λ (y : ℕ). run_words p y (map (shifts p 192) (both braid ws))) (sym (shifts_none p 192))
    ∙ words_shifts p 192 0 (both braid ws) ∙ ap (shifts p 192) (words_with p c braid ws same stands)
    ∙ ap (λ (n : ℕ). shifts p (32 * n) (run_words p c ws)) (sym six)

-- every block has six words
unfoldable pub Sixes : List (List (List ℕ)) → Type 0
Sixes [] = Unit {0}
Sixes (b ∷ bs) = (length b ≡ 6) × Sixes bs

sixes_chunks : (m : ℕ) (ws : List (List ℕ)) → m * 6 ≤ length ws → Sixes (first_chunks 6 m ws)
unfolding Sixes
sixes_chunks zero ws h = tt
sixes_chunks (suc m) ws h = (length-take-le 6 ws (omega arith), sixes_chunks m (drop 6 ws) (simp length-drop (omega arith)))

sixes_front : (xs ys : List (List (List ℕ))) → Sixes (xs ++ ys) → Sixes xs
unfolding Sixes
sixes_front [] ys h = tt
sixes_front (x ∷ xs) ys h = (h.0, sixes_front xs ys h.1)

-- a braid, and the register that it stands for, a block on
abbrev pub braid_step : ℕ → List ℕ → List (List ℕ) → List ℕ
braid_step p braid b = map (shifts p 192) (both braid (map little_endian b))

abbrev block_step : ℕ → ℕ → List (List ℕ) → ℕ
block_step p c b = run_words p c (map little_endian b)

braid_blocks : (p c : ℕ) (braid : List ℕ) (bs : List (List (List ℕ))) → length braid ≡ 6 → Sixes bs → StandsFor p braid c
    → StandsFor p (fold (braid_step p) braid bs) (fold (block_step p) c bs)
unfolding Sixes
braid_blocks p c braid [] e h stands = stands
braid_blocks p c braid (b ∷ bs) e h stands =
    let ws = map little_endian b in
    let six : length ws ≡ 6 = length-map b little_endian ∙ h.0 in
    braid_blocks p (run_words p c ws) (map (shifts p 192) (both braid ws)) bs
    (length-map (both braid ws) (shifts p 192) ∙ both-length braid ws (e ∙ sym six) ∙ e) h.1 (braid_next p c braid ws e six stands)

-- blocks one after the other are their words one after the other
words_append : (p c : ℕ) (xs ys : List ℕ) → run_words p c (xs ++ ys) ≡ run_words p (run_words p c xs) ys
unfolding run_words
words_append p c [] ys = refl
words_append p c (x ∷ xs) ys = words_append p (shifts p 32 (bit_xor c x)) xs ys

blocks_words : (p c m : ℕ) (ws : List (List ℕ)) → fold (block_step p) c (first_chunks 6 m ws) ≡ run_words p c (map little_endian (take (m * 6) ws))
unfolding run_words
blocks_words p c zero ws = refl
blocks_words p c (suc m) ws =
    let six : suc m * 6 ≡ 6 + m * 6 = omega arith in
    blocks_words p (run_words p c (map little_endian (take 6 ws))) m (drop 6 ws)
    ∙ sym (words_append p c (map little_endian (take 6 ws)) (map little_endian (take (m * 6) (drop 6 ws))))
    ∙ ap (run_words p c) (sym (map-append little_endian (take 6 ws) (take (m * 6) (drop 6 ws)))
    ∙ ap (map little_endian) (sym (take-add 6 (m * 6) ws) ∙ ap (λ (n : ℕ). take n ws) (sym six)))

-- all blocks but the last by a braid, the last joined, and the words behind them
pub words_by_blocks : (p s j : ℕ) (ws : List (List ℕ)) (bs : List (List (List ℕ))) (last : List (List ℕ)) → first_chunks 6 (length ws / 6) ws ≡ bs ++ last ∷ []
    → ((c : ℕ) → StandsFor p (fold (braid_step p) (s ∷ 0 ∷ 0 ∷ 0 ∷ 0 ∷ 0 ∷ []) bs) c → j ≡ run_words p c (map little_endian last))
    → run_words p j (map little_endian (drop (length ws / 6 * 6) ws)) ≡ run_words p s (map little_endian ws)
words_by_blocks p s j ws bs last e joined =
    let m = length ws / 6 in
    let before = map little_endian (take (m * 6) ws) in
    let behind = map little_endian (drop (m * 6) ws) in
    let sixes = sixes_front bs (last ∷ []) (subst Sixes e (sixes_chunks m ws (omega arith))) in
    let all : fold (block_step p) s (first_chunks 6 m ws) ≡ run_words p s before = blocks_words p s m ws in
    let split : fold (block_step p) s (bs ++ last ∷ []) ≡ run_words p (fold (block_step p) s bs) (map little_endian last) = fold-append (block_step p) s bs (last ∷ []) in
    ap (λ (x : ℕ). run_words p x behind)
    (joined (fold (block_step p) s bs) (braid_blocks p s (s ∷ 0 ∷ 0 ∷ 0 ∷ 0 ∷ 0 ∷ []) bs refl sixes (braid_start p s))
    ∙ sym split ∙ ap (fold (block_step p) s) (sym e) ∙ all)
    ∙ sym (words_append p s before behind)
    ∙ ap (run_words p s) (sym (map-append little_endian (take (m * 6) ws) (drop (m * 6) ws)) ∙ ap (map little_endian) (take-append-drop (m * 6) ws))

-- a braid and a block, as pairs
pub join_fold : (p c : ℕ) (braid : List ℕ) (b : List (List ℕ)) → length braid ≡ length b
    → fold (λ c x. shifts p 32 (bit_xor c (bit_xor x.0 (little_endian x.1)))) c (zip braid b) ≡ run_words p c (both braid (map little_endian b))
unfolding run_words both
join_fold p c [] [] e = refl
join_fold p c [] (y ∷ ys) e = absurd (omega (arith, e))
join_fold p c (x ∷ xs) [] e = absurd (omega (arith, e))
join_fold p c (x ∷ xs) (y ∷ ys) e = join_fold p (shifts p 32 (bit_xor c (bit_xor x (little_endian y)))) xs ys (omega (arith, e))

-- six elements, one by one
six_by : {A : Type 0} (P : List A → Type 0) → ((a b c d e f : A) → P (a ∷ b ∷ c ∷ d ∷ e ∷ f ∷ [])) → (xs : List A) → length xs ≡ 6 → P xs
six_by P h (a ∷ b ∷ c ∷ d ∷ e ∷ f ∷ []) q = h a b c d e f
six_by P h [] q = absurd (omega (arith, q))
six_by P h (a ∷ []) q = absurd (omega (arith, q))
six_by P h (a ∷ b ∷ []) q = absurd (omega (arith, q))
six_by P h (a ∷ b ∷ c ∷ []) q = absurd (omega (arith, q))
six_by P h (a ∷ b ∷ c ∷ d ∷ []) q = absurd (omega (arith, q))
six_by P h (a ∷ b ∷ c ∷ d ∷ e ∷ []) q = absurd (omega (arith, q))
six_by P h (a ∷ b ∷ c ∷ d ∷ e ∷ f ∷ g ∷ xs) q = absurd (omega (arith, q))

module _ (p : ℕ) where
  -- register i a block on
  abbrev pub stepped : List ℕ → List (List ℕ) → ℕ → ℕ
  stepped braid b i = shifts p 192 (bit_xor (get_or braid i 0) (little_endian (get_or b i [])))

  six_stepped : (braid : List ℕ) (b : List (List ℕ)) → length braid ≡ 6 → length b ≡ 6
      → stepped braid b 0 ∷ stepped braid b 1 ∷ stepped braid b 2 ∷ stepped braid b 3 ∷ stepped braid b 4 ∷ stepped braid b 5 ∷ [] ≡ braid_step p braid b
  unfolding both
  six_stepped braid b q =
      six_by (λ ys. stepped braid ys 0 ∷ stepped braid ys 1 ∷ stepped braid ys 2 ∷ stepped braid ys 3 ∷ stepped braid ys 4 ∷ stepped braid ys 5 ∷ [] ≡ braid_step p braid ys)
      (λ v₀ v₁ v₂ v₃ v₄ v₅.
      six_by (λ xs. let ys = v₀ ∷ v₁ ∷ v₂ ∷ v₃ ∷ v₄ ∷ v₅ ∷ [] in
      stepped xs ys 0 ∷ stepped xs ys 1 ∷ stepped xs ys 2 ∷ stepped xs ys 3 ∷ stepped xs ys 4 ∷ stepped xs ys 5 ∷ [] ≡ braid_step p xs ys) (λ x₀ x₁ x₂ x₃ x₄ x₅. refl) braid q) b

-- six elements that are known one by one
six_filled : (f : ℕ → ℕ) (xs : List ℕ) → length xs ≡ 6 → ((i : ℕ) → i < 6 → get_or xs i 0 ≡ f i) → xs ≡ f 0 ∷ f 1 ∷ f 2 ∷ f 3 ∷ f 4 ∷ f 5 ∷ []
six_filled f =
    six_by (λ xs. ((i : ℕ) → i < 6 → get_or xs i 0 ≡ f i) → xs ≡ f 0 ∷ f 1 ∷ f 2 ∷ f 3 ∷ f 4 ∷ f 5 ∷ [])
    (λ x₀ x₁ x₂ x₃ x₄ x₅ h.
    ap₂ ◌∷◌ (h 0 (omega arith)) (ap₂ ◌∷◌ (h 1 (omega arith)) (ap₂ ◌∷◌ (h 2 (omega arith)) (ap₂ ◌∷◌ (h 3 (omega arith)) (ap₂ ◌∷◌ (h 4 (omega arith)) (ap₂ ◌∷◌ (h 5 (omega arith)) refl))))))

pub block_taken : (p : ℕ) (braid next : List ℕ) (b : List (List ℕ)) → length braid ≡ 6 → length next ≡ 6 → length b ≡ 6 → ((i : ℕ) → i < 6 → get_or next i 0 ≡ stepped p braid b i)
    → next ≡ braid_step p braid b
block_taken p braid next b q r s h = six_filled (stepped p braid b) next r h ∙ six_stepped p braid b q s
