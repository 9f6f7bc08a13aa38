use Prim.Native.Nat.{ℕ, ◌≤◌, ◌<◌, ◌^◌}
use mathlib.Core.Path.{◌≡◌, ap, sym}
use native.Mathlib.Omega.{arith}
use mathlib.Core.List.{List}
use lib.ListN.{length, drop}
use Rattle.runs.specs.Runs.{before}
use Rattle.runs.proofs.Bytes.{part_rest}
use Rattle.runs.proofs.Cases.{by_eqb}
use Rattle.framing.specs.Link.{step_on}
use Rattle.framing.specs.Passing.{Leads}
use Rattle.framing.specs.State.{hunted_from}
use Rattle.framing.specs.declared.State.{State}
use Rattle.framing.specs.declared.Reached.{Reached}
use Rattle.framing.proofs.States.{noise_mode}
use Rattle.framing.proofs.Passing.{leads_then}
use Rattle.dle.specs.Rules.{size}
use Rattle.dle.specs.Contract.{link}
use Rattle.dle.specs.Steps.{Passes}
use Rattle.dle.proofs.Passing.{leads_hunting, passes}
use Rattle.dle.proofs.pass_to_frame.Goals as goal

-- the noise is passed, and the receiver still hunts
noise : (piece : List ℕ) (s : State) (store : List ℕ) (from : ℕ) (r : Reached State) → s.mode ≡ 0 → s.count ≤ size → from ≤ length piece
    → r ≡ hunted_from s piece from 0x10
    → Leads (step_on link) piece (s, store) from (r.state, store) r.next × (r.state.mode ≡ 0) × (r.state.count ≤ size)
noise piece s store from r mode count there e =
    let n = before 0x10 0x10 (drop from piece) in
    rw e (
      leads_hunting piece s store from n mode there (ap (before 0x10 0x10) (sym (part_rest piece from))),
      noise_mode s n mode,
      by_eqb (λ (x : State). x.count ≤ size) n 0 (λ _. count) (λ _. omega arith),
    )

-- and where a frame starts, its mark too
marked : (piece : List ℕ) (s : State) (store : List ℕ) (from : ℕ) (r start : Reached State) → s.mode ≡ 0 → s.count ≤ size → from ≤ length piece
    → r ≡ hunted_from s piece from 0x10 → Passes piece (r.state, store) r.next start store → Passes piece (s, store) from start store
marked piece s store from r start mode count there e p =
    record { leads = leads_then link piece (noise piece s store from r mode count there e).0 p.leads; count = p.count }

pub pass_start-start-requires : goal.pass_start-start-requires
pass_start-start-requires c =
    let q = c.requires in
    let n = noise _ _ c.args.store.now _ _ q.0 q.1.count q.2 c.pass_hunting-noise.ensures in
    (n.1, n.2, n.0.within)

pub pass_bytes_in-requires : goal.pass_bytes_in-requires
pass_bytes_in-requires c =
    let q = c.requires in
    let store = c.args.store.now in
    let p = marked _ _ store _ _ _ q.0 q.1.count q.2 c.pass_hunting-noise.ensures (c.pass_start-start.ensures store) in
    record { room = record { count = p.count; room = q.1.room }; within = p.leads.within }

pub returns-then-start-eq2 : goal.returns-then-start-eq2
returns-then-start-eq2 c =
    let q = c.requires in
    let store = c.args.store.now in
    let m = marked _ _ store _ _ _ q.0 q.1.count q.2 c.pass_hunting-noise.ensures (c.pass_start-start.ensures store) in
    let s = c.pass_start-start.result.state in
    let fits : s.«open» < 2 ^ 32 = omega arith in
    let p = passes _ store _ s _ _ c.if-start-eq2.true fits (record { count = m.count; room = q.1.room }) m.leads.within c.pass_bytes_in.ensures in
    record { leads = leads_then link _ m.leads p.leads; count = p.count }

pub returns-else-start-eq2 : goal.returns-else-start-eq2
returns-else-start-eq2 c =
    let q = c.requires in
    let store = c.args.store.now in
    marked _ _ store _ _ _ q.0 q.1.count q.2 c.pass_hunting-noise.ensures (c.pass_start-start.ensures store)
