-- When unpacking is refused.
use Rattle.std.proofs.Common.{◌≡◌, ℕ, ◌+◌, ◌-◌, ◌*◌, ◌/◌, ◌%◌, ◌^◌, ◌<◌, ◌≤◌, Bool, true, false, not, ◌&&◌, ◌||◌, eqb, ◌↔◌, List, length, get_or, take, drop, sym, refl, ap, ◌∙◌, mod-lt, arith, lit<, eq-eqb, ne_eqb}
use mathlib.Core.Bool.{false≢true}
use native.Mathlib.Decide.{dec_le}
use lib.Pow.{recompose}
use Rattle.framing.specs.Answer.{refused, fault_of}
use Rattle.packing.specs.Seven.{value_of}
use Rattle.packing.specs.Packed.{last_place}
use Rattle.packing.specs.Unpacked.{data_in_groups, all_sent, unused_clear, well_ended, well_packed}
use Rattle.packing.specs.Contract.{unpacked_in}
use Rattle.packing.specs.Claims.{badly_packed, BadlyPackedRefused}
use Rattle.packing.proofs.Tops.{place-last}
use Rattle.packing.proofs.Contract.{unpacked_done, unpacked_refused, well_unpacks, badly_unpacks}

-- in the top bits v of a group of k bytes no unused place is set exactly if the low 7 - k places are 0
pub low_clear : (k v : ℕ) → k ≤ 7 → v < 128 → unused_clear k v ≡ eqb (v % 2 ^ (7 - k)) 0
unfolding unused_clear
low_clear k v l h =
    let place : ℕ = last_place k in
    let own : ℕ = v / 2 ^ place % 2 ^ k * 2 ^ place in
    let low : ℕ = v % 2 ^ place in
    let seven : k + place ≡ 7 = omega (arith, place-last k l) in
    let parts : own + low ≡ v = recompose k place (rw seven h) in
    let tested : eqb own v ≡ eqb low 0 =
    elim (dec_le 1 low) [
      | yes set ↦ ne_eqb own v (λ e. omega arith) ∙ sym (ne_eqb low 0 (λ e. omega arith))
      | no clear ↦ eq-eqb own v (omega arith) ∙ sym (eq-eqb low 0 (omega arith))
    ] in
    tested ∙ ap (λ (n : ℕ). eqb (v % 2 ^ n) 0) (place-last k l)

-- all tests pass exactly if none fails
none_fails : (sent odd clear : Bool) → (sent && (not odd && clear)) ≡ not (not sent || odd || not clear)
none_fails false odd clear = refl
none_fails true true clear = refl
none_fails true false true = refl
none_fails true false false = refl

well_badly : (p : List ℕ) → well_packed p ≡ not (badly_packed p)
unfolding well_packed well_ended
well_badly p =
    let tops : ℕ = value_of (get_or p (length p - 1) 0) in
    let k : ℕ = (length p + 7) % 8 in
    rw (low_clear k tops (omega arith) (mod-lt (get_or p (length p - 1) 0) (lit< tt)))
    (none_fails (all_sent p) (eqb (length p % 8) 1) (eqb (tops % 2 ^ (7 - k)) 0))

pub badly_packed_refused : BadlyPackedRefused
badly_packed_refused store from count = by_case (badly_packed p) refl
  where
    p : List ℕ
    p = take count (drop from store)

    by_case : (b : Bool) → badly_packed p ≡ b → ((unpacked_in store from count).0 ≡ refused 13) ↔ (b ≡ true)
    by_case true e = (λ h. refl, λ h. ap (λ a. a.0) (unpacked_refused store from count (badly_unpacks p (well_badly p ∙ ap not e))))
    by_case false e =
        let d = unpacked_done store from count (data_in_groups p) (well_unpacks p (well_badly p ∙ ap not e)) in (
          λ h. absurd (let z : ◌≡◌ {A = ℕ} 0 13 = ap fault_of (sym (ap (λ a. a.0) d) ∙ h) in omega arith),
          λ h. absurd (false≢true h),
        )
