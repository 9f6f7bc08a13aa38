use Rattle.std.proofs.Common.{◌≡◌, ℕ, ◌+◌, drop, sym, ap, ◌∙◌, add-zero, arith, drop_of_length-le}
use Rattle.runs.specs.Runs.{before}
use Rattle.runs.proofs.Bytes.{part_rest}
use Rattle.framing.specs.State.{after_noise}
use Rattle.framing.proofs.State.pass_hunting.Goals as goal

pub returns-then-from-piece : goal.returns-then-from-piece
returns-then-from-piece c =
    let a = c.args in
    let n : c.count_before-n.result ≡ before a.mark a.mark (drop a.from a.piece.now) =
    c.count_before-n.ensures.count ∙ ap (before a.mark a.mark) (part_rest a.piece.now a.from) in
    let s = c.pass_noise.ensures ∙ ap (after_noise a.self) n in
    λ i. record { state = s i; next = a.from + n i }

-- behind the end of the piece there is no noise
pub returns-else-from-piece : goal.returns-else-from-piece
unfolding before
returns-else-from-piece c =
    let a = c.args in
    let none : 0 ≡ before a.mark a.mark (drop a.from a.piece.now) =
    sym (ap (before a.mark a.mark) (drop_of_length-le a.piece.now {i = a.from} (omega (arith, c.if-from-piece.false)))) in
    let s = ap (after_noise a.self) none in
    let next = sym (add-zero a.from) ∙ ap (λ (n : ℕ). a.from + n) none in
    λ i. record { state = s i; next = next i }
