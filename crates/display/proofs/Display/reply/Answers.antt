use Rattle.std.proofs.Common.{ℕ, List, ◌≡◌, ap, sym, true, rules, tests}
use Rattle.framing.specs.Answer.{Outcome, done}
use Rattle.pcs.specs.Frame.{plain_ok}
use Rattle.pcs.proofs.Allowed.{sendable}
use Rattle.display.specs.Profile.{message_of}
use Rattle.display.specs.Reading.{reading}
use Rattle.display.specs.declared.Order.{Order}
use Rattle.display.proofs.Profile.{accepted}
use Rattle.display.proofs.Display.reply.Goals as goal

-- the own address was tested; what was read as an order may be sent, so its sender and number are allowed
pub serve-requires : goal.serve-requires
serve-requires c =
    let a = c.args in
    let o = c.in_ok-order.order in
    let own : plain_ok a.self.now.own ≡ true = search (rules, tests) in
    let e : (reading a.run.now a.store.now).0 ≡ done o = sym (ap (λ (p : Outcome Order × List ℕ). p.0) c.in_ok-order.ensures) in
    let s = sendable (message_of o) (accepted a.run.now a.store.now o (λ i. (c.type_inv.run i).fits) e).sends in
    (own, s.plain.sender, s.plain.number)
