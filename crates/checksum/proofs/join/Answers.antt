use Rattle.std.proofs.Common.{◌≡◌, map, rules, tests, length, ◌∙◌, sym, arith}
use lib.ListN.{length-map}
use Rattle.std.proofs.lemmas.Iterator.{YieldsList-from_slice, YieldsList-from_zip}
use Rattle.std.proofs.lemmas.Iterator.Consumers.{fold_from_yields_List}
use Rattle.runs.specs.Number.{little_endian}
use Rattle.checksum.proofs.Braids.{join_fold, words_with}
use Rattle.checksum.proofs.join.Goals as goal

pub returns : goal.returns
returns c x stands =
    let braid = c.args.braid in
    let block = c.args.block.now in
    let same : length braid ≡ length block = omega (arith, c.well_formed) in
    fold_from_yields_List _ _ _ _ c.fold.ensures.ran (YieldsList-from_zip (YieldsList-from_slice braid cc) (YieldsList-from_slice block cc)) (λ t x s q k. search (rules, tests))
    ∙ join_fold 0xEDB88320 0 braid block same ∙ words_with 0xEDB88320 x braid (map little_endian block) (same ∙ sym (length-map block little_endian)) stands
