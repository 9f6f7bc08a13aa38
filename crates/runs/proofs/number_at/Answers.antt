use Rattle.std.proofs.Common.{◌≡◌, ℕ, ◌+◌, ◌-◌, ◌^◌, ◌<◌, min, List, length, drop, get_or, Fits, w8, sym, arith}
use Rattle.runs.specs.Number.{little_endian}
use Rattle.runs.proofs.Number.{part, part_length, part-start, part_step, part_lt}
use Rattle.runs.proofs.number_at.Goals as goal

-- what was read so far fits three bytes
small : (s : List ℕ) (at size k n : ℕ) → ((i : ℕ) → Fits w8 (get_or s i 0)) → n ≡ little_endian (drop k (part s at (min size 4))) → 0 < k → n < 256 ^ 3
small s at size k n fits is some = rw is (part_lt s at (min size 4) k 3 (λ i. omega (arith, fits i)) (omega arith))

pub loop-k-init : goal.loop-k-init
loop-k-init c =
    let a = c.args in
    let e : c.min-many.result ≡ length (part a.s.now a.at (min a.size 4)) = omega (arith, part_length a.s.now a.at (min a.size 4)) in
    sym (rw e (part-start a.s.now a.at (min a.size 4)))

pub overflow_mul-n : goal.overflow_mul-n
overflow_mul-n c =
    let a = c.args in
    let l = c.loop-k in
    omega (arith, small a.s.now a.at a.size l.k l.n c.type_inv.s l.invariant c.loop-k-test.true)

pub overflow_add-n : goal.overflow_add-n
overflow_add-n c =
    let a = c.args in
    let l = c.loop-k in
    omega (arith, small a.s.now a.at a.size l.k l.n c.type_inv.s l.invariant c.loop-k-test.true, c.type_inv.s (a.at + (l.k - 1)))

pub loop-k-preserved : goal.loop-k-preserved
loop-k-preserved c =
    let a = c.args in
    let l = c.loop-k in
    rw (l.invariant, c.from.ensures) (part_step a.s.now a.at (min a.size 4) l.k c.loop-k-test.true (omega (arith, part_length a.s.now a.at (min a.size 4))))
