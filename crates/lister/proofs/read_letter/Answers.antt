use Rattle.std.proofs.Common.{◌≤◌, length, ap, sym, ◌∙◌, arith}
use Rattle.framing.specs.Answer.{refused, outcome_of}
use Rattle.lister.proofs.Letter.{link_none, link_fits, link_then, link_within, refused_none, refused_then, refused_within}
use Rattle.lister.proofs.read_letter.Goals as goal
use Rattle.lister.proofs.read_letter.Goals.{In-Ok-link}

pub returns-in_default-link-clause-told : goal.returns-in_default-link-clause-told
returns-in_default-link-clause-told c =
    let a = c.args in
    let letter = sym c.choose.ensures ∙ ap outcome_of c.in-Ok.is in
    link_none a.store.now a.piece.now a.text.now c.in-len1-up.len_at_least letter c.link.ensures _ (ap outcome_of c.in_default-link.is)

-- the line that was stored fits
fits : (c : In-Ok-link) → c.in-Ok-link.n ≤ length c.link.new.out
fits c =
    let a = c.args in
    let letter = sym c.choose.ensures ∙ ap outcome_of c.in-Ok.is in
    let fit = link_fits a.store.now a.piece.now a.text.now c.in-len1-up.len_at_least letter c.link.ensures _ (ap outcome_of c.in-Ok-link.is) in
    omega (arith, fit.0, fit.1)

pub slice_bounds-read_wire-count : goal.slice_bounds-read_wire-count
slice_bounds-read_wire-count c = fits (goal.at.slice_bounds-read_wire-count c).In-Ok-link

pub slice_bounds-read_wire-start : goal.slice_bounds-read_wire-start
slice_bounds-read_wire-start c = fits (goal.at.slice_bounds-read_wire-start c).In-Ok-link

pub returns-in-Ok-link : goal.returns-in-Ok-link
returns-in-Ok-link c =
    let a = c.args in
    let some = c.in-len1-up.len_at_least in
    let letter = sym c.choose.ensures ∙ ap outcome_of c.in-Ok.is in
    let stored = ap outcome_of c.in-Ok-link.is in
    let u = c.read_wire-got in
    record {
      told = link_then a.store.now a.piece.now a.text.now some letter c.link.ensures _ stored u.result _ _ u.ensures.told u.ensures.within;
      within = link_within a.store.now a.piece.now a.text.now some letter c.link.ensures _ stored u.result u.ensures.within;
    }

pub returns-in_default-refused-clause-told : goal.returns-in_default-refused-clause-told
returns-in_default-refused-clause-told c =
    let a = c.args in
    let letter = sym c.choose.ensures ∙ ap outcome_of c.in-Err.is ∙ ap refused (sym c.from.ensures) in
    refused_none a.store.now a.piece.now a.text.now c.in-len1-up.len_at_least letter c.refused.ensures _ (ap outcome_of c.in_default-refused.is)

pub returns-in-Ok-refused : goal.returns-in-Ok-refused
returns-in-Ok-refused c =
    let a = c.args in
    let some = c.in-len1-up.len_at_least in
    let letter = sym c.choose.ensures ∙ ap outcome_of c.in-Err.is ∙ ap refused (sym c.from.ensures) in
    let stored = ap outcome_of c.in-Ok-refused.is in
    record {
      told = refused_then a.store.now a.piece.now a.text.now some letter c.refused.ensures _ stored;
      within = (omega arith, refused_within a.store.now a.piece.now a.text.now some letter c.refused.ensures _ stored);
    }
