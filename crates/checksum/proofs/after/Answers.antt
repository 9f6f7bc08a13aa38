use Rattle.std.proofs.Common.{◌∙◌}
use Rattle.checksum.proofs.Run.{run_in_words}
use Rattle.checksum.proofs.after.Goals as goal

pub returns : goal.returns
returns c =
    c.after_bytes.ensures ∙ rw (c.after_words.ensures, c.as_chunks.ensures.front, c.as_chunks.ensures.back) (run_in_words 0xEDB88320 c.args.start c.args.bytes.now (λ i. (c.type_inv.bytes i).fits))
