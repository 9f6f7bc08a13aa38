use Rattle.std.proofs.Common.{◌-◌, length, get_or, sym, ◌∙◌, lt-ltb, le-ltb, eq-eqb, ne_eqb}
use Rattle.framing.specs.Answer.{done}
use Rattle.dle.specs.Rules.{bytes_behind, fault_of}
use Rattle.dle.proofs.Passed.{Passed, no_fault}
use Rattle.dle.proofs.Body.{stated_in}
use Rattle.dle.proofs.DleEnclosed.judge.Goals as goal

pub returns-in_default : goal.returns-in_default
unfolding fault_of
returns-in_default c = rw (lt-ltb (length c.args.gathered.now) 4 c.in_default.len_below)

pub returns-then-gathered-bytes_behind : goal.returns-then-gathered-bytes_behind
unfolding fault_of
returns-then-gathered-bytes_behind c =
    let g = c.args.gathered.now in
    rw (
      le-ltb (length g) 4 c.in-len4-up.len_at_least,
      ne_eqb (bytes_behind (get_or g 2 0)) (length g - 3) (λ e. c.if-gathered-bytes_behind.true (sym (c.bytes_behind.ensures ∙ e))),
    )

-- with no fault, an error message has length 0, and another as much data as stated
pub returns-then-length-eq0 : goal.returns-then-length-eq0
returns-then-length-eq0 c =
    let g = c.args.gathered.now in
    let z = c.if-length-eq0.true in
    let p : Passed g = record { long = c.in-len4-up.len_at_least; present = sym c.bytes_behind.ensures ∙ sym c.if-gathered-bytes_behind.false } in
    rw (eq-eqb (fault_of g) 0 (no_fault g p), eq-eqb (get_or g 2 0) 0 z)
    (λ i. done (record { sequence = get_or g 0 0; length = z i; node = get_or g 1 0; error = get_or g 3 0 }))

pub returns-else-length-eq0 : goal.returns-else-length-eq0
returns-else-length-eq0 c =
    let g = c.args.gathered.now in
    let n = c.if-length-eq0.false in
    let p : Passed g = record { long = c.in-len4-up.len_at_least; present = sym c.bytes_behind.ensures ∙ sym c.if-gathered-bytes_behind.false } in
    rw (eq-eqb (fault_of g) 0 (no_fault g p), ne_eqb (get_or g 2 0) 0 n)
    (λ i. done (record { sequence = get_or g 0 0; length = stated_in g p n i; node = get_or g 1 0; error = 0 }))
