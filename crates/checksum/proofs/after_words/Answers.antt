use Rattle.std.proofs.Common.{rules, tests, ◌∙◌}
use Rattle.std.proofs.lemmas.Iterator.{YieldsList-from_slice}
use Rattle.std.proofs.lemmas.Iterator.Consumers.{fold_from_yields_List}
use Rattle.checksum.proofs.Run.{words_fold}
use Rattle.checksum.proofs.after_words.Goals as goal

pub returns : goal.returns
returns c =
    fold_from_yields_List _ _ _ _ c.fold.ensures.ran (YieldsList-from_slice c.args.words.now cc) (λ t x s q k. search (rules, tests))
    ∙ words_fold 0xEDB88320 c.args.start c.args.words.now
