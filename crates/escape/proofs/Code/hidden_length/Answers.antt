use Rattle.std.proofs.Common.{◌≡◌, ◌^◌, ◌<◌, length, arith, rules, sym, ◌∙◌}
use Rattle.std.specs.Prelude.{sum_by}
use Rattle.escape.proofs.Lawful.{hidden-sum, hide_short}
use Rattle.escape.proofs.Code.hidden_length.Goals as goal

-- a byte takes two wire bytes at most, and a slice is short enough for twice its length to be a usize
pub sum-requires-clause-fits : goal.sum-requires-clause-fits
sum-requires-clause-fits g c =
    let code = g.Self.Code.code in
    let bytes = c.args.bytes.now in
    let short = hide_short code g.met.Self.Code.lawful bytes in
    let fits : sum_by (λ b. length (code.hide_byte b)) bytes < 2 ^ 64 = omega (arith, short, hidden-sum code bytes, c.well_formed.0.1) in
    search rules

pub returns : goal.returns
returns g c =
    let code = g.Self.Code.code in
    let total : c.sum.result ≡ sum_by (λ b. length (code.hide_byte b)) c.args.bytes.now = search rules in
    total ∙ sym (hidden-sum code c.args.bytes.now)
