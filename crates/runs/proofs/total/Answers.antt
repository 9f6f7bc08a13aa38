use Rattle.std.proofs.Common.{rules, tests, ◌∙◌}
use Rattle.std.proofs.lemmas.Iterator.{YieldsList-from_slice}
use Rattle.std.proofs.lemmas.Iterator.Consumers.{fold_from_yields_List}
use Rattle.runs.proofs.Carried.{total_fold}
use Rattle.runs.proofs.total.Goals as goal

pub returns : goal.returns
returns c =
    fold_from_yields_List _ _ _ _ c.fold.ensures.ran (YieldsList-from_slice c.args.bytes.now cc) (λ t x s q k. search (rules, tests))
    ∙ total_fold c.args.start c.args.bytes.now c.ranges.start.fits
