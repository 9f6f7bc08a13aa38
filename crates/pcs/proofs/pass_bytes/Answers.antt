use Rattle.std.proofs.Common.{◌≡◌, ◌+◌, ◌-◌, ◌%◌, ◌^◌, ◌<◌, ◌∙◌, arith}
use Rattle.framing.proofs.Passing.{gathers_leads}
use Rattle.pcs.specs.Contract.{link}
use Rattle.pcs.proofs.Passing.{opened, gathers_plain}
use Rattle.pcs.proofs.pass_bytes.Goals as goal

-- `copy_before` promises that the n bytes stand before any mark, fit in the size and are stored, so each is gathered without an event;
-- `pass_open` promises the state behind them
pub returns-clause-leads : goal.returns-clause-leads
returns-clause-leads c =
    let a = c.args in
    let h = c.copy_before-n.ensures in
    let n = c.copy_before-n.result in
    let after = c.copy_before-n.new.out in
    let m = c.requires.mode in
    let fits : a.state.«open» < 2 ^ 32 = omega (arith, c.well_formed) in
    let held : (a.state.«open» + n) % 2 ^ 32 ≡ (a.state.«open» + (a.from + n - a.from)) % 2 ^ 32 = omega arith in
    gathers_leads link a.piece.now opened a.state c.pass_open.result a.store.now after a.state.count a.state.«open» a.state.noise
    a.from (a.state.count + n) (a.from + n) fits
    (λ j. record { mode = m j; count = a.state.count; «open» = a.state.«open»; noise = a.state.noise })
    (c.pass_open.ensures ∙ (λ j. record { mode = m j; count = a.state.count + n; «open» = held j; noise = a.state.noise }))
    (gathers_plain a.piece.now a.store.now after a.state.count a.from n c.requires.ready.room (omega (arith, h.within, c.requires.ready.count))
    c.requires.within (omega (arith, h.count)) h.stored)
