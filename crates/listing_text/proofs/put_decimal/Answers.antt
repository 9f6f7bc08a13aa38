use Prim.Native.Nat.{ℕ, ◌+◌}
use mathlib.Core.Path.{ap, ◌∙◌}
use native.Mathlib.Omega.{arith}
use Rattle.framing.proofs.Stored.{stored_fits}
use Rattle.decimal.specs.Decimal.{decimal}
use Rattle.listing_text.proofs.put_decimal.Goals as goal

pub overflow_add-result : goal.overflow_add-result
overflow_add-result c =
    omega (arith, c.requires, (stored_fits (decimal c.args.n) c.args.out.now c.args.at _ _ c.put.ensures c.requires).0, c.count_of.ensures)

pub returns : goal.returns
returns c =
    let f = stored_fits (decimal c.args.n) c.args.out.now c.args.at _ _ c.put.ensures c.requires in
    record { memory = f.1; place = ap (λ (k : ℕ). c.args.at + k) (c.count_of.ensures ∙ f.0) }
