use Rattle.std.proofs.Common.{rules, tests}
use Rattle.std.proofs.lemmas.Iterator.{YieldsList-from_slice}
use Rattle.std.proofs.lemmas.Iterator.Search.{position_from_yields_List}
use Rattle.runs.proofs.Before.{before_found}
use Rattle.runs.specs.Runs.{between}
use Rattle.runs.proofs.count_before.Goals as goal

pub returns-clause-count : goal.returns-clause-count
returns-clause-count c =
    let a = c.args in
    before_found a.low a.high a.s.now c.unwrap_or.ensures
    (position_from_yields_List (between a.low a.high) _ _ _ c.position.ensures.ran (YieldsList-from_slice a.s.now cc) (λ x b q k. search (rules, tests)))
