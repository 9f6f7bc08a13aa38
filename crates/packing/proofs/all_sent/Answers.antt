use Rattle.std.proofs.Common.{refl, ◌∙◌, rules, tests, ◌&&◌}
use Rattle.std.specs.List.{list_all}
use Rattle.std.proofs.lemmas.Iterator.{YieldsList-from_slice}
use Rattle.std.proofs.lemmas.Iterator.Search.{all_from_yields_List}
use Rattle.std.proofs.lemmas.List.Recursion.{same_from_clauses}
use Rattle.packing.specs.Seven.{is_sent}
use Rattle.packing.specs.Unpacked.{all_sent}
use Rattle.packing.proofs.all_sent.Goals as goal

pub returns : goal.returns
unfolding all_sent
returns c =
    all_from_yields_List is_sent _ _ _ c.all.ensures.ran (YieldsList-from_slice c.args.p.now cc) (λ x b q k. search (rules, tests))
    ∙ same_from_clauses (list_all is_sent) all_sent (λ b r. is_sent b && r) refl (λ _ _. refl) (λ _ _. refl) c.args.p.now
