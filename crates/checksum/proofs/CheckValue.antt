-- The check_value law, proved once over the width and used at 16 and 32 bits; and that a value fits its width.
use mathlib.Core.Path.{◌≡◌, refl, sym, ap, ap₂, ◌∙◌, subst}
use mathlib.Core.List.{List, [], ◌∷◌}
use Prim.Native.Nat.{ℕ, zero, suc, ◌+◌, ◌-◌, ◌*◌, ◌/◌, ◌%◌, ◌^◌, ◌≤◌, ◌<◌, zero-le}
use native.Mathlib.Nat.{div-eq_of_lt, lt_of_lt_of_le, mod-eq_of_lt}
use native.Mathlib.Omega.{arith}
use lib.Bits.{bit_xor, xor_shr, xor_mod, xor_lt, xor_zero_r}
use lib.Pow.{pow_mono, split}
use lib.Dec.{lit<, lit≤}
use mathlib.Core.Option
use mathlib.Core.Option.{Option}
use lib.ListN.{length, get_or, get_elem?}
use lib.Seq.{ext_get_or}
use Rattle.checksum.specs.Crc.{byte_step, run, crc16_from, crc16_of, crc32_of}
use Rattle.runs.specs.Runs.{Bytes}
use Rattle.checksum.specs.Claims.{CheckValueLaw, Crc16Detects, Crc32Detects}
use Rattle.checksum.proofs.Xor.{xor_cancel, xor_cancel_left}
use Rattle.checksum.proofs.Register.{shifts_back, shifts_lt}

-- a byte does not reach the bits from place 8 up
byte_high : (c b k : ℕ) → b < 256 → bit_xor c b / 2 ^ (k + 8) ≡ c / 2 ^ (k + 8)
byte_high c b k hb =
    let below : b < 2 ^ (k + 8) = lt_of_lt_of_le hb (pow_mono {i = 8} (omega arith)) in
    xor_shr c b (k + 8) ∙ ap (bit_xor (c / 2 ^ (k + 8))) (div-eq_of_lt below) ∙ xor_zero_r (c / 2 ^ (k + 8))

-- it changes the lowest eight alone
byte_low : (c b : ℕ) → b < 256 → bit_xor c b % 2 ^ 8 ≡ bit_xor (c % 2 ^ 8) b
byte_low c b hb = xor_mod c b 8 ∙ ap (bit_xor (c % 2 ^ 8)) (mod-eq_of_lt hb)

-- a register of h + 1 bits, at least eight, whose constant p has its top bit set
module _ (h p : ℕ) (h8 : 8 ≤ suc h) (top : 2 ^ h ≤ p) (fits : p < 2 ^ suc h) where
  added_lt : {c b : ℕ} → c < 2 ^ suc h → b < 256 → bit_xor c b < 2 ^ suc h
  added_lt {c} {b} hc hb = xor_lt (suc h) c b hc (lt_of_lt_of_le hb (pow_mono h8))

  step_lt : {c b : ℕ} → c < 2 ^ suc h → b < 256 → byte_step p c b < 2 ^ suc h
  unfolding byte_step
  step_lt hc hb = shifts_lt h p top fits 8 (added_lt hc hb)

  pub run_lt : {c : ℕ} (u : List ℕ) → c < 2 ^ suc h → Bytes u → run p c u < 2 ^ suc h
  unfolding run
  run_lt [] hc hu = hc
  run_lt {c = c} (b ∷ u) hc hu = run_lt {c = byte_step p c b} u (step_lt hc (hu 0)) (λ i. hu (suc i))

  -- registers that agree from place k up after a byte each had the same lowest eight bits, with the byte, and agreed from k + 8 up
  step_back : (k c d a b : ℕ) → k + 8 ≤ suc h → c < 2 ^ suc h → d < 2 ^ suc h → a < 256 → b < 256
      → byte_step p c a / 2 ^ k ≡ byte_step p d b / 2 ^ k
      → (bit_xor (c % 2 ^ 8) a ≡ bit_xor (d % 2 ^ 8) b) × (c / 2 ^ (k + 8) ≡ d / 2 ^ (k + 8))
  unfolding byte_step
  step_back k c d a b hk hc hd ha hb e =
      let back : (bit_xor c a % 2 ^ 8 ≡ bit_xor d b % 2 ^ 8) × (bit_xor c a / 2 ^ (k + 8) ≡ bit_xor d b / 2 ^ (k + 8)) =
      shifts_back h p top fits 8 k (bit_xor c a) (bit_xor d b) hk (added_lt hc ha) (added_lt hd hb) e in (
        sym (byte_low c a ha) ∙ back.0 ∙ byte_low d b hb,
        sym (byte_high c a k ha) ∙ back.1 ∙ byte_high d b k hb,
      )

  -- the same bytes keep different registers different
  run_injective : (u : List ℕ) (c d : ℕ) → c < 2 ^ suc h → d < 2 ^ suc h → Bytes u → run p c u ≡ run p d u → c ≡ d
  unfolding run
  run_injective [] c d hc hd hu e = e
  run_injective (b ∷ u) c d hc hd hu e =
      let ih : byte_step p c b ≡ byte_step p d b =
      run_injective u (byte_step p c b) (byte_step p d b) (step_lt hc (hu 0)) (step_lt hd (hu 0)) (λ i. hu (suc i)) e in
      let back : (bit_xor (c % 2 ^ 8) b ≡ bit_xor (d % 2 ^ 8) b) × (c / 2 ^ 8 ≡ d / 2 ^ 8) =
      step_back 0 c d b b h8 hc hd (hu 0) (hu 0) (ap (λ (x : ℕ). x / 2 ^ 0) ih) in
      sym (split c 8) ∙ ap₂ (λ (q r : ℕ). q * 2 ^ 8 + r) back.1 (xor_cancel b back.0) ∙ split d 8

  -- runs that agree from place n on and leave the same register came from registers that agree from place 8 n up; and if those were
  -- equal, so are the runs
  from_start : (n : ℕ) (u v : List ℕ) (c d : ℕ) → 8 * n ≤ suc h → length u ≡ length v → Bytes u → Bytes v
      → c < 2 ^ suc h → d < 2 ^ suc h → ((i : ℕ) → n ≤ i → get_or u i 0 ≡ get_or v i 0) → run p c u ≡ run p d v
      → (c / 2 ^ (8 * n) ≡ d / 2 ^ (8 * n)) × (c ≡ d → u ≡ v)
  unfolding run
  from_start zero u v c d hn hl hu hv hc hd above e =
      let same : u ≡ v = ext_get_or 0 u v hl (λ i hi. above i zero-le) in
      (ap (λ (x : ℕ). x / 2 ^ 0) (run_injective u c d hc hd hu (e ∙ ap (run p d) (sym same))), λ q. same)
  from_start (suc n) [] [] c d hn hl hu hv hc hd above e = (ap (λ (x : ℕ). x / 2 ^ (8 * suc n)) e, λ q. refl)
  from_start (suc n) [] (b ∷ v) c d hn hl hu hv hc hd above e = absurd (omega arith)
  from_start (suc n) (a ∷ u) [] c d hn hl hu hv hc hd above e = absurd (omega arith)
  from_start (suc n) (a ∷ u) (b ∷ v) c d hn hl hu hv hc hd above e =
      let ih : (byte_step p c a / 2 ^ (8 * n) ≡ byte_step p d b / 2 ^ (8 * n)) × (byte_step p c a ≡ byte_step p d b → u ≡ v) =
      from_start n u v (byte_step p c a) (byte_step p d b) (omega arith) (omega arith) (λ i. hu (suc i)) (λ i. hv (suc i))
      (step_lt hc (hu 0)) (step_lt hd (hv 0)) (λ i hi. above (suc i) (omega arith)) e in
      let back : (bit_xor (c % 2 ^ 8) a ≡ bit_xor (d % 2 ^ 8) b) × (c / 2 ^ (8 * n + 8) ≡ d / 2 ^ (8 * n + 8)) =
      step_back (8 * n) c d a b (omega arith) hc hd (hu 0) (hv 0) ih.0 in
      let place : 8 * n + 8 ≡ 8 * suc n = omega arith in (
        subst (λ (i : ℕ). c / 2 ^ i ≡ d / 2 ^ i) place back.1,
        λ q.
            let same : a ≡ b = xor_cancel_left (c % 2 ^ 8) (back.0 ∙ ap (λ (x : ℕ). bit_xor (x % 2 ^ 8) b) (sym q)) in
            ap₂ (λ (x : ℕ) (xs : List ℕ). x ∷ xs) same (ih.1 (ap₂ (byte_step p) q same)),
      )

  -- the same behind k places at which the runs agree
  from_place : (k n : ℕ) (u v : List ℕ) (c : ℕ) → 8 * n ≤ suc h → length u ≡ length v → Bytes u → Bytes v → c < 2 ^ suc h
      → ((i : ℕ) → i < k → get_or u i 0 ≡ get_or v i 0) → ((i : ℕ) → k + n ≤ i → get_or u i 0 ≡ get_or v i 0)
      → run p c u ≡ run p c v → u ≡ v
  unfolding run
  from_place zero n u v c hn hl hu hv hc below above e =
      (from_start n u v c c hn hl hu hv hc hc (λ i hi. above i (omega arith)) e).1 refl
  from_place (suc k) n [] [] c hn hl hu hv hc below above e = refl
  from_place (suc k) n [] (b ∷ v) c hn hl hu hv hc below above e = absurd (omega arith)
  from_place (suc k) n (a ∷ u) [] c hn hl hu hv hc below above e = absurd (omega arith)
  from_place (suc k) n (a ∷ u) (b ∷ v) c hn hl hu hv hc below above e =
      let same : a ≡ b = below 0 (omega arith) in
      ap₂ (λ (x : ℕ) (xs : List ℕ). x ∷ xs) same
      (from_place k n u v (byte_step p c a) hn (omega arith) (λ i. hu (suc i)) (λ i. hv (suc i)) (step_lt hc (hu 0))
      (λ i hi. below (suc i) (omega arith)) (λ i hi. above (suc i) (omega arith))
      (e ∙ ap (λ (x : ℕ). run p (byte_step p c x) v) (sym same)))

-- runs that agree at a place have the same byte there
byte_at : (u v : List ℕ) (i : ℕ) → get_elem? u i ≡ get_elem? v i → get_or u i 0 ≡ get_or v i 0
byte_at u v i e = at u i ∙ ap (λ (o : Option ℕ). Option.get_or o 0) e ∙ sym (at v i)
  where
    at : (w : List ℕ) (j : ℕ) → get_or w j 0 ≡ Option.get_or (get_elem? w j) 0
    at [] j = refl
    at (b ∷ w) zero = refl
    at (b ∷ w) (suc j) = at w j

pub check_value : CheckValueLaw
check_value zero p start top fits hs u v hu hv hl w ne e = absurd (omega arith)
check_value (suc m) p start top fits hs u v hu hv hl w ne e =
    let width : 8 * suc m ≡ suc (8 * suc m - 1) = omega arith in
    ne
    (from_place (8 * suc m - 1) p (omega arith) (omega arith) (rw width at fits) w.k (suc m) u v start (omega arith) hl hu hv
    (rw width at hs) (λ i hi. byte_at u v i (w.below i hi)) (λ i hi. byte_at u v i (w.above i (omega arith))) e)

pub crc16_detects : Crc16Detects
crc16_detects = check_value 2 0xA001 0 (lit≤ tt) (lit< tt) (lit< tt)

pub crc32_detects : Crc32Detects
crc32_detects u v hu hv hl w ne e =
    check_value 4 0xEDB88320 (2 ^ 32 - 1) (lit≤ tt) (lit< tt) (lit< tt) u v hu hv hl w ne (xor_cancel (2 ^ 32 - 1) e)

-- check values fit their width
pub crc16_from_lt : {start : ℕ} (u : List ℕ) → start < 2 ^ 16 → Bytes u → crc16_from start u < 2 ^ 16
crc16_from_lt u hs hu = run_lt 15 0xA001 (lit≤ tt) (lit≤ tt) (lit< tt) u hs hu

pub crc16_lt : (u : List ℕ) → Bytes u → crc16_of u < 2 ^ 16
crc16_lt u hu = crc16_from_lt u (lit< tt) hu

pub crc32_lt : (u : List ℕ) → Bytes u → crc32_of u < 2 ^ 32
crc32_lt u hu =
    xor_lt 32 (run 0xEDB88320 (2 ^ 32 - 1) u) (2 ^ 32 - 1)
    (run_lt 31 0xEDB88320 (lit≤ tt) (lit≤ tt) (lit< tt) u (lit< tt) hu) (lit< tt)
