use Rattle.std.proofs.Common.{rules, tests, ◌∙◌}
use Rattle.std.proofs.lemmas.Iterator.{YieldsList-from_slice}
use Rattle.std.proofs.lemmas.Iterator.Consumers.{fold_from_yields_List}
use Rattle.checksum.specs.Crc.{byte_step}
use Rattle.checksum.proofs.Run.{run_fold}
use Rattle.checksum.proofs.after_bytes.Goals as goal

pub returns : goal.returns
unfolding byte_step
returns c =
    fold_from_yields_List _ _ _ _ c.fold.ensures.ran (YieldsList-from_slice c.args.bytes.now cc) (λ t x s q k. search (rules, tests))
    ∙ run_fold 0xEDB88320 c.args.start c.args.bytes.now
