use Rattle.std.proofs.Common.{refl, ◌∙◌, rules, tests, ◌&&◌}
use Rattle.std.specs.List.{list_all}
use Rattle.std.proofs.lemmas.Iterator.{YieldsList-from_slice}
use Rattle.std.proofs.lemmas.Iterator.Search.{all_from_yields_List}
use Rattle.std.proofs.lemmas.List.Recursion.{same_from_clauses}
use Rattle.runs.specs.Runs.{between}
use Rattle.decimal.specs.Decimal.{are_digits}
use Rattle.display.proofs.text.are_digits.Goals as goal

pub returns : goal.returns
unfolding are_digits
returns c =
    all_from_yields_List (between 48 57) _ _ _ c.all.ensures.ran (YieldsList-from_slice c.args.digits.now cc) (λ x b q k. search (rules, tests))
    ∙ same_from_clauses (list_all (between 48 57)) are_digits (λ b r. between 48 57 b && r) refl (λ _ _. refl) (λ _ _. refl) c.args.digits.now
