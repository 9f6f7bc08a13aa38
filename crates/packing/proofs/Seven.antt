-- Seven-bit values: a value comes back from the byte that it goes out as, and a byte from 1 to 128 from its value.
use Rattle.std.proofs.Common.{◌≡◌, ℕ, zero, suc, ◌%◌, ◌<◌, ◌≤◌, Bool, true, ◌&&◌, leb, List, [], ◌∷◌, ◌++◌, length, get_or, sym, refl, ap, ◌∙◌, mod-eq_of_lt, arith, le-leb, leb-true}
use mathlib.Core.Bool.{and_assoc}
use Rattle.packing.specs.Seven.{sent, is_sent}
use Rattle.packing.specs.Unpacked.{all_sent}
use Rattle.runs.proofs.Cases.{by_eqb, and_both}

pub sent_value : {v : ℕ} → v < 128 → sent v % 128 ≡ v
sent_value {v} h = by_eqb (λ (b : ℕ). b % 128 ≡ v) v 0 (λ e. omega arith) (λ n. mod-eq_of_lt h)

pub sent_range : (b : ℕ) → is_sent b ≡ true → (1 ≤ b) × (b ≤ 128)
unfolding is_sent
sent_range b s =
    let both : (leb 1 b ≡ true) × (leb b 128 ≡ true) = and_both (leb 1 b) (leb b 128) s in
    (leb-true 1 b both.0, leb-true b 128 both.1)

pub range_sent : (b : ℕ) → 1 ≤ b → b ≤ 128 → is_sent b ≡ true
unfolding is_sent
range_sent b l h = rw (le-leb 1 b l, le-leb b 128 h)

pub value_sent : (b : ℕ) → is_sent b ≡ true → sent (b % 128) ≡ b
value_sent b s =
    let range = sent_range b s in
    by_eqb (λ (x : ℕ). x ≡ b) (b % 128) 0 (λ e. omega arith) (λ n. omega arith)

pub sent_is : {v : ℕ} → v < 128 → is_sent (sent v) ≡ true
sent_is {v} h =
    by_eqb (λ (b : ℕ). is_sent b ≡ true) v 0 (λ e. range_sent 128 (omega arith) (omega arith)) (λ n. range_sent v (omega arith) (omega arith))

pub all_sent_append : (p q : List ℕ) → all_sent (p ++ q) ≡ (all_sent p && all_sent q)
unfolding all_sent
all_sent_append [] q = refl
all_sent_append (b ∷ p) q = ap (λ (x : Bool). is_sent b && x) (all_sent_append p q) ∙ sym (and_assoc (is_sent b) (all_sent p) (all_sent q))

pub all_sent-at : (p : List ℕ) → all_sent p ≡ true → (i : ℕ) → i < length p → (1 ≤ get_or p i 0) × (get_or p i 0 ≤ 128)
unfolding all_sent
all_sent-at [] s i h = absurd (omega arith)
all_sent-at (b ∷ p) s zero h = sent_range b (and_both (is_sent b) (all_sent p) s).0
all_sent-at (b ∷ p) s (suc i) h = all_sent-at p (and_both (is_sent b) (all_sent p) s).1 i (omega arith)
