use Rattle.std.proofs.Common.{◌≡◌, ℕ, ◌-◌, ◌%◌, ◌^◌, ◌≤◌, eqb, sym, ap, ◌∙◌, arith, pow_pos}
use Rattle.packing.proofs.Tops.{place-last, one_shl}
use Rattle.packing.proofs.Refused.{low_clear}
use Rattle.packing.proofs.unused_clear.Goals as goal

pub overflow_shl-lowest : goal.overflow_shl-lowest
overflow_shl-lowest c = omega (arith, c.last_place-lowest.ensures, place-last c.args.k c.requires.0)

pub nonzero_rem-result : goal.nonzero_rem-result
nonzero_rem-result c =
    let place : c.last_place-lowest.result ≤ 7 = omega (arith, c.last_place-lowest.ensures, place-last c.args.k c.requires.0) in
    rw (one_shl place) (pow_pos c.last_place-lowest.result)

-- the unused places are those below the last byte's
pub returns : goal.returns
returns c =
    let s = c.before in
    let p : c.last_place-lowest.result ≡ 7 - s.args.k = c.last_place-lowest.ensures ∙ place-last s.args.k s.requires.0 in
    let place : c.last_place-lowest.result ≤ 7 = omega arith in
    rw (one_shl place) (ap (λ (n : ℕ). eqb (s.args.v % 2 ^ n) 0) p ∙ sym (low_clear s.args.k s.args.v s.requires.0 s.requires.1))
