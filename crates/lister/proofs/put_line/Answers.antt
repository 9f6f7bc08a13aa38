use Rattle.std.proofs.Common.{ap, ◌∙◌, arith, Ok}
use Rattle.lister.specs.Lines.{text_of}
use Rattle.lister.proofs.Texts.{told_fits, refused_fits, stored_nothing}
use Rattle.lister.proofs.put_line.Goals as goal

pub returns-in-Ok-None : goal.returns-in-Ok-None
unfolding text_of
returns-in-Ok-None c =
    let p = c.in-Ok-None in
    let told = p.is ∙ ap Ok (rw p.is at p.field-0-is) in
    record { stored = rw told (stored_nothing _); fits = λ _. rw told (omega arith) }

pub returns-in-Ok-Some : goal.returns-in-Ok-Some
unfolding text_of
returns-in-Ok-Some c =
    let p = c.in-Ok-Some in
    let told = p.is ∙ ap Ok (rw p.is at p.field-0-is) in
    record {
      stored = rw (told, ← c.field.ensures, ← c.«data».ensures) c.message.ensures;
      fits = λ s. rw told (told_fits c.args.store.now p.message (rw c.field.ensures at c.field.type_inv) (rw told at s));
    }

pub returns-in-Err : goal.returns-in-Err
unfolding text_of
returns-in-Err c =
    record { stored = rw (c.in-Err.is, ← c.from.ensures) c.refused.ensures; fits = λ _. rw c.in-Err.is (refused_fits _) }
