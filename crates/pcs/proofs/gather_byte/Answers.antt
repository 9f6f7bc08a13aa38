use Rattle.std.proofs.Common.{◌≡◌, ℕ, Bool, true, false, min, nat_lt, List, length, take, refl, ap, ◌∙◌, arith, ltb-true}
use lib.Seq.{length-take-le}
use Rattle.runs.specs.Runs.{over}
use Rattle.runs.proofs.Run.{more-over}
use Rattle.framing.specs.Open.{gathered_byte}
use Rattle.framing.specs.declared.State.{State}
use Rattle.pcs.specs.Rules.{size, gather}
use Rattle.pcs.specs.Contract.{front_of}
use Rattle.pcs.specs.Steps.{Ready}
use Rattle.pcs.specs.declared.Message.{Message}
use Rattle.pcs.proofs.gather_byte.Goals as goal

-- what a gathered byte leaves in the store is the front of the frame with it
stored : (s : State) (store : List ℕ) (b : ℕ) (wire : List ℕ) → Ready s store
    → (gathered_byte {N = Message} size 1 s store b).0.1 ≡ over (front_of (gather (take s.count store) b wire)) store
stored s store b wire r = go (nat_lt s.count size) refl
  where
    k : length (take s.count store) ≡ s.count
    k = length-take-le s.count store (omega (arith, r.count, r.room))

    go : (t : Bool) → nat_lt s.count size ≡ t
        → (gathered_byte {N = Message} size 1 s store b).0.1 ≡ over (front_of (gather (take s.count store) b wire)) store
    go true e = simp (k, e) (more-over store s.count b (omega (arith, ltb-true s.count size e, r.room)))
    go false e = simp (k, e) refl

pub returns-clause-stored : goal.returns-clause-stored
returns-clause-stored c =
    let a = c.args in
    let ready = c.requires.ready in
    let m : min size (length a.store.now) ≡ size = omega (arith, ready.room) in
    λ wire. ap (λ p. p.0.1) c.gather.ensures ∙ rw m (stored a.state a.store.now a.byte wire ready)
