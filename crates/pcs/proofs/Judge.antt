-- The end of a frame: the tests before unpacking, then unpacking in place.
use Prim.Native.Nat.{ℕ, ◌≤◌}
use mathlib.Core.Path.{◌≡◌, refl, ap, sym, ◌∙◌}
use mathlib.Core.List.{List, []}
use mathlib.Core.Option.{Option, none, some}
use native.Mathlib.Omega.{arith}
use lib.ListN.{length, take, drop}
use lib.Seq.{length-take-le}
use borrow.Author.Tests.{eq-eqb}
use Rattle.runs.specs.Runs.{over}
use Rattle.runs.proofs.Run.{sets_over}
use Rattle.std.specs.Prelude.{Result, Ok, Err, MatchResult, IsOkAnd}
use Rattle.std.specs.Prelude as Code
use Rattle.framing.specs.Answer.{Outcome, done, refused, outcome_of}
use Rattle.framing.specs.Call.{told_of}
use Rattle.framing.specs.declared.refusal.Refusal.{Refusal}
use Rattle.pcs.specs.Steps.{heard}
use Rattle.framing.specs.Segment.{Segment, event_of}
use Rattle.framing.specs.Link.{Told, accepted, told}
use Rattle.framing.specs.Link as Link
use Rattle.packing.specs.Unpacked.{unpacked}
use Rattle.packing.specs.Contract.{unpacked_in}
use Rattle.packing.proofs.Laws.{length-unpacked}
use Rattle.packing.proofs.Contract.{unpacked_done, unpacked_refused}
use Rattle.pcs.specs.Frame as Frame
use Rattle.pcs.specs.Rules.{hunting, stated, packed_part, fault_of, message_with, unpack, judge}
use Rattle.pcs.specs.Contract.{numbers_with, front_of, link}
use Rattle.pcs.specs.declared.Message.{Message}
use Rattle.pcs.proofs.Passed.{passed, packed-length}
use Rattle.pcs.proofs.Store.{packed-at}

-- what is told of a message once its data are unpacked, or badly packed
abbrev pub told_with : Frame.Message → Outcome ℕ → Told Message
told_with m (done n) = accepted (numbers_with m n)
told_with m (refused n) = Link.refused n

-- a message or a refusal is told as what it is
pub told_heard : (r : Result Message Refusal) (t : Result (Code.Option Message) Refusal)
    → MatchResult r (λ m. IsOkAnd t (λ o. o ≡ Code.Some m)) (λ f. t ≡ Err f) → told_of t ≡ heard (outcome_of r)
told_heard (Ok m) (Ok o) h = ap (λ x. told_of (Ok x)) h
told_heard (Ok m) (Err f) h = absurd h
told_heard (Err f) t h = ap told_of h

module _ (g wire : List ℕ) where
  judge_unpacks : fault_of g ≡ 0 → judge g wire ≡ unpack g wire (unpacked (packed_part g))
  judge_unpacks h = rw (eq-eqb (fault_of g) 0 h)

-- unpacking in place, by what is told and what the store then holds
module _ (store : List ℕ) (count n : ℕ) (room : count ≤ length store) (fine : fault_of (take count store) ≡ 0) (present : n ≡ stated (take count store))
    (answer : Outcome ℕ) (after : List ℕ) (e : (answer, after) ≡ unpacked_in store 8 n) where
  there : n ≡ length (packed_part (take count store))
  there = present ∙ (passed (take count store) fine).present

  part : packed_part (take count store) ≡ take n (drop 8 store)
  part = packed-at store count n there (rw (length-take-le count store room) at (passed (take count store) fine).long) room

  abbrev Ends : Segment Frame.Message → Type 0
  Ends s =
      (told_with (message_with (take count store) []) answer ≡ told link (event_of (some s)))
      × (after ≡ over (front_of (hunting, some s)) store)

  unpacks : (wire : List ℕ) (o : Option (List ℕ)) → unpacked (packed_part (take count store)) ≡ o → Ends (unpack (take count store) wire o)
  unpacks wire none u =
      let w = e ∙ unpacked_refused store 8 n (ap unpacked (sym part) ∙ u) in
      (λ i. told_with (message_with (take count store) []) (w i).0, λ i. (w i).1)
  unpacks wire (some d) u =
      let w = e ∙ unpacked_done store 8 n d (ap unpacked (sym part) ∙ u) in
      let s : length d ≤ length store = omega (arith, length-unpacked (packed_part (take count store)) d u, packed-length (take count store), length-take-le count store room) in
      (λ i. told_with (message_with (take count store) []) (w i).0, (λ i. (w i).1) ∙ sets_over d store s)

  pub judge-told : (wire : List ℕ) → told_with (message_with (take count store) []) answer ≡ told link (event_of (some (judge (take count store) wire)))
  judge-told wire =
      (unpacks wire (unpacked (packed_part (take count store))) refl).0
      ∙ ap (λ (s : Segment Frame.Message). told link (event_of (some s))) (sym (judge_unpacks (take count store) wire fine))

  pub judge_stored : (wire : List ℕ) → after ≡ over (front_of (hunting, some (judge (take count store) wire))) store
  judge_stored wire =
      (unpacks wire (unpacked (packed_part (take count store))) refl).1
      ∙ ap (λ (s : Segment Frame.Message). over (front_of (hunting, some s)) store) (sym (judge_unpacks (take count store) wire fine))
