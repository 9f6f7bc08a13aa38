use Rattle.std.proofs.Common.{refl, sym, arith}
use Rattle.pcs.specs.Contract as Pcs
use Rattle.pcs.proofs.Theorems as PcsTheorems
use Rattle.mdu.specs.Contract as Mdu
use Rattle.mdu.proofs.Theorems as MduTheorems
use Rattle.dle.specs.Contract as Dle
use Rattle.dle.proofs.Theorems as DleTheorems
use Rattle.expansion.specs.Contract as Expansion
use Rattle.expansion.proofs.Theorems as ExpansionTheorems
use Rattle.lister.specs.Lines.{pcs_line, mdu_line, dle_line, expansion_line}
use Rattle.lister.specs.declared.receiver.Receiver.TheVariants as receiver
use Rattle.lister.specs.declared.receiver.Message.TheVariants as message
use Rattle.lister.proofs.Texts.{dle-line}
use Rattle.lister.proofs.Calls.{lines_is, told_short}
use Rattle.lister.proofs.receiver.Receiver.call.Goals as goal

pub returns-in-Pcs : goal.returns-in-Pcs
returns-in-Pcs c =
    let a = c.args in
    let u = c.receive in
    let r = c.as_cases in
    let t = r.ensures.told message.Pcs (λ m x p. p) in
    record {
      told = rw c.in-Pcs.is (lines_is Pcs.link pcs_line receiver.Pcs message.Pcs (λ _ _. refl) (c.in-Pcs.s, a.store.now) a.piece.now
          u.result u.new.store r.result u.ensures t r.ensures.used r.ensures.state);
      short = told_short Pcs.link pcs_line receiver.Pcs message.Pcs (λ _ _. refl) (λ v. v.length) (λ _. refl) 1024 PcsTheorems.data_within (omega arith)
          (c.in-Pcs.s, a.store.now) a.piece.now u.result u.new.store _ u.ensures t;
    }

pub returns-in-Mdu : goal.returns-in-Mdu
returns-in-Mdu c =
    let a = c.args in
    let u = c.receive-in-Mdu in
    let r = c.as_cases-in-Mdu in
    let t = r.ensures.told message.Mdu (λ m x p. p) in
    record {
      told = rw c.in-Mdu.is (lines_is Mdu.link mdu_line receiver.Mdu message.Mdu (λ _ _. refl) (c.in-Mdu.s, a.store.now) a.piece.now
          u.result u.new.store r.result u.ensures t r.ensures.used r.ensures.state);
      short = told_short Mdu.link mdu_line receiver.Mdu message.Mdu (λ _ _. refl) (λ v. v.length) (λ _. refl) 1025 MduTheorems.data_within (omega arith)
          (c.in-Mdu.s, a.store.now) a.piece.now u.result u.new.store _ u.ensures t;
    }

pub returns-in-Dle : goal.returns-in-Dle
returns-in-Dle c =
    let a = c.args in
    let u = c.receive-in-Dle in
    let r = c.as_cases-in-Dle in
    let t = r.ensures.told message.Dle (λ m x p. p) in
    record {
      told = rw c.in-Dle.is (lines_is Dle.link dle_line receiver.Dle message.Dle (λ store v. sym (dle-line store v)) (c.in-Dle.s, a.store.now) a.piece.now
          u.result u.new.store r.result u.ensures t r.ensures.used r.ensures.state);
      short = told_short Dle.link dle_line receiver.Dle message.Dle (λ store v. sym (dle-line store v)) (λ v. v.length) (λ _. refl) 255 DleTheorems.data_within (omega arith)
          (c.in-Dle.s, a.store.now) a.piece.now u.result u.new.store _ u.ensures t;
    }

pub returns-in-Expansion : goal.returns-in-Expansion
returns-in-Expansion c =
    let a = c.args in
    let u = c.receive-in-Expansion in
    let r = c.as_cases-in-Expansion in
    let t = r.ensures.told message.Expansion (λ m x p. p) in
    record {
      told = rw c.in-Expansion.is (lines_is Expansion.link expansion_line receiver.Expansion message.Expansion (λ _ _. refl) (c.in-Expansion.s, a.store.now) a.piece.now
          u.result u.new.store r.result u.ensures t r.ensures.used r.ensures.state);
      short = told_short Expansion.link expansion_line receiver.Expansion message.Expansion (λ _ _. refl) (λ v. v.length) (λ _. refl) 1024 ExpansionTheorems.data_within (omega arith)
          (c.in-Expansion.s, a.store.now) a.piece.now u.result u.new.store _ u.ensures t;
    }
