use Rattle.std.proofs.Common.{◌≡◌, ℕ, ◌+◌, ◌-◌, ◌^◌, ◌<◌, ◌≤◌, length, take, drop, ap, ◌∙◌, arith}
use lib.Seq.{sets}
use Rattle.mdu.proofs.Body.{passes_body}
use Rattle.mdu.proofs.receiver.pass_body.Goals as goal

-- `min` promises that the piece has the n bytes and that the frame's last byte is not among them; they are stored, and `pass_open` counts them
pub returns : goal.returns
returns c =
    let a = c.args in
    let n = c.min-n.result in
    let at = a.state.base.count in
    let long : a.from + n - a.from ≡ n = omega arith in
    let fits : a.state.base.«open» < 2 ^ 32 = omega arith in
    let within : a.from + n ≤ length a.piece.now = omega (arith, c.min-n.ensures) in
    passes_body a.piece.now a.store.now _ a.state (record { base = c.pass_open.result; length = a.state.length }) a.from n
    c.requires.0.mode c.requires.1 c.requires.0.room fits within (omega (arith, c.min-n.ensures, c.requires.1))
    (λ h. omega (arith, c.min-n.ensures)) (simp (c.pass_open.ensures, c.requires.0.mode))
    (c.put_bytes.ensures ∙ ap (λ (k : ℕ). sets a.store.now at (take k (drop a.from a.piece.now))) long)
