use Prim.Native.Nat.{ℕ, ◌+◌, ◌*◌, ◌/◌, ◌<◌, min}
use mathlib.Core.Path.{◌≡◌, sym, ap₂, ◌∙◌}
use native.Mathlib.Omega.{arith}
use lib.ListN.{length, take, get_or}
use Rattle.vector_text.specs.Words.{hex_of, unhexed}
use Rattle.vector_text.proofs.Counted.{puts_so}
use Rattle.vector_text.proofs.Line.{whole_length, whole-at}
use Rattle.vector_text.proofs.Stored.{stored_none, stored_next, stored_all}
use Rattle.vector_text.proofs.words.unhex.Goals as goal

pub loop-n-init : goal.loop-n-init
loop-n-init c =
    let a = c.args in
    stored_none (omega (arith, whole_length a.word.now (length a.out.now)))

-- the two promises of `hex_digit` together give the byte at place n of the word's bytes
pub loop-n-preserved : goal.loop-n-preserved
loop-n-preserved c =
    let l = c.loop-n in
    let a = c.args in
    let word = a.word.now in
    let room = length a.out.now in
    let less : l.n < min (length word / 2) room = omega (arith, c.min-most.ensures) in
    let stored : hex_of (get_or word (2 * l.n) 0) * 16 + hex_of (get_or word (2 * l.n + 1) 0) ≡ get_or (take room (unhexed word)) l.n 0 =
    sym (whole-at word room l.n less) in
    let byte = ap₂ (λ (x y : ℕ). x * 16 + y) c.hex_digit.ensures.0 c.hex_digit-in-loop-n.ensures.0 ∙ stored in
    stored_next l.invariant (omega (arith, whole_length word room, less)) byte

pub returns : goal.returns
returns c =
    let l = c.loop-n in
    let a = c.args in
    let word = a.word.now in
    let room = length a.out.now in
    let all : c.min-most.result ≡ length (take room (unhexed word)) = omega (arith, whole_length word room, c.min-most.ensures) in
    let done : l.n ≡ c.min-most.result = omega arith in
    puts_so (take room (unhexed word)) a.out.now l.out c.min-most.result (omega (arith, whole_length word room)) all
    (stored_all (rw done at l.invariant) all)
