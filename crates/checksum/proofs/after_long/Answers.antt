use Rattle.std.proofs.Common.{◌≡◌, ℕ, List, [], ◌∷◌, fold, ap, ap₂, sym, ◌∙◌, subst, take_all, map, get_or}
use Rattle.std.proofs.lemmas.List.Sums.{fold_more}
use Rattle.runs.specs.Number.{little_endian}
use Rattle.checksum.specs.Crc.{run}
use Rattle.checksum.specs.Braids.{run_words, StandsFor}
use Rattle.checksum.proofs.Braids.{braid_step, words_by_blocks}
use Rattle.checksum.proofs.Run.{run_in_words}
use Rattle.checksum.proofs.after_long.Goals as goal

pub loop-block-preserved : goal.loop-block-preserved
loop-block-preserved c =
    let p : ℕ = 0xEDB88320 in
    let l = c.loop-block in
    let bs = c.in-Some.before.now in
    c.take_block.ensures ∙ ap (λ (b : List ℕ). braid_step p b (get_or bs l.block-index [])) l.invariant
    ∙ sym (fold_more (braid_step p) (c.args.start ∷ 0 ∷ 0 ∷ 0 ∷ 0 ∷ 0 ∷ []) bs l.block-index [] c.loop-block-test.true)

pub returns : goal.returns
returns c =
    let p : ℕ = 0xEDB88320 in
    let s = c.args.start in
    let ws = c.as_chunks.result.0.now in
    let bs = c.in-Some.before.now in
    let last = c.in-Some.last.now in
    let braid : c.loop-block.braid ≡ fold (braid_step p) (s ∷ 0 ∷ 0 ∷ 0 ∷ 0 ∷ 0 ∷ []) bs = c.loop-block.invariant ∙ ap (fold (braid_step p) (s ∷ 0 ∷ 0 ∷ 0 ∷ 0 ∷ 0 ∷ [])) (take_all c.loop-block.block-index bs c.loop-block-test.false) in
    let words = words_by_blocks p s c.join.result ws bs last (sym c.as_chunks-2.ensures.front ∙ c.in-Some.ensures.cases.0)
    (λ x h. c.join.ensures x (subst (λ (b : List ℕ). StandsFor p b x) (sym braid) h)) in
    c.after_bytes.ensures
    ∙ ap₂ (run p)
    (c.after_words.ensures ∙ ap (λ (x : List (List ℕ)). run_words p c.join.result (map little_endian x)) c.as_chunks-2.ensures.back ∙ words
    ∙ ap (λ (x : List (List ℕ)). run_words p s (map little_endian x)) c.as_chunks.ensures.front) c.as_chunks.ensures.back
    ∙ run_in_words p s c.args.bytes.now (λ i. (c.type_inv.bytes i).fits)
