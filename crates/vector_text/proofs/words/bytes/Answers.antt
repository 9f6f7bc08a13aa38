use Rattle.std.proofs.Common.{ℕ, min, List, length, take, sym, ap, subst, ◌∙◌, arith}
use Rattle.vector_text.specs.Words.{word_of, first_byte, parsed_decimal, unhexed}
use Rattle.vector_text.specs.Laid.{run_byte, same_byte, laid}
use Rattle.vector_text.specs.Counted.{PutAtStart}
use Rattle.vector_text.proofs.Line.{given-frame, given-run, given-same, given-hex}
use Rattle.vector_text.proofs.words.bytes.Goals as goal

-- `word`, `first_of` and the match tell the word's letter and so what `given_by` is of it, and `copy` promises to store just that
pub returns-in-102 : goal.returns-in-102
returns-in-102 c =
    let a = c.args in
    let word = word_of a.k a.line.now in
    let it = c.word-it.ensures in
    let letter = ap first_byte (sym it) ∙ sym c.first_of.ensures in
    let u = c.copy in
    subst (λ (run : List ℕ). PutAtStart run a.out.now u.new.out u.result)
    (sym (given-frame word a.frame.now (length a.out.now) (letter ∙ c.in-102.is))) u.ensures

pub returns-in-114 : goal.returns-in-114
returns-in-114 c =
    let a = c.args in
    let word = word_of a.k a.line.now in
    let room = length a.out.now in
    let it = c.word-it.ensures in
    let letter = ap first_byte (sym it) ∙ sym c.first_of.ensures in
    let u = c.lay in
    let count = c.decimal.ensures ∙ ap parsed_decimal it in
    subst (λ (run : List ℕ). PutAtStart run a.out.now u.new.out u.result)
    (ap (λ (n : ℕ). laid run_byte (min n room)) count ∙ sym (given-run word a.frame.now room (letter ∙ c.in-114.is))) u.ensures

pub returns-in-115 : goal.returns-in-115
returns-in-115 c =
    let a = c.args in
    let word = word_of a.k a.line.now in
    let room = length a.out.now in
    let it = c.word-it.ensures in
    let letter = ap first_byte (sym it) ∙ sym c.first_of.ensures in
    let u = c.lay-in-115 in
    let count = c.decimal-in-115.ensures ∙ ap parsed_decimal it in
    subst (λ (run : List ℕ). PutAtStart run a.out.now u.new.out u.result)
    (ap (λ (n : ℕ). laid same_byte (min n room)) count ∙ sym (given-same word a.frame.now room (letter ∙ c.in-115.is))) u.ensures

-- the match leaves all three letters out, so `given_by` is the word's bytes in hex, as far as there is room: what `unhex` stores
pub returns-in_default : goal.returns-in_default
returns-in_default c =
    let a = c.args in
    let word = word_of a.k a.line.now in
    let room = length a.out.now in
    let it = c.word-it.ensures in
    let letter = ap first_byte (sym it) ∙ sym c.first_of.ensures in
    let u = c.unhex in
    let hex = given-hex word a.frame.now room (λ e. omega (arith, letter, e)) (λ e. omega (arith, letter, e)) (λ e. omega (arith, letter, e)) in
    subst (λ (run : List ℕ). PutAtStart run a.out.now u.new.out u.result)
    (ap (λ (w : List ℕ). take room (unhexed w)) it ∙ sym hex) u.ensures
