-- What the receiver's steps need of the rules.
use Rattle.std.proofs.Common.{◌≡◌, ℕ, ◌<◌, ◌≤◌, Bool, true, false, cond, eqb, ltb, List, [], ◌∷◌, ◌++◌, length, take, sym, refl, arith, length-take-le, lt-ltb, le-ltb, ltb-true, ltb-false, ne_eqb}
use mathlib.Core.Option.{Option, some}
use Rattle.runs.specs.Runs.{over, each}
use Rattle.runs.proofs.Run.{more_count, more-over, same_over}
use Rattle.framing.specs.Answer.{done, refused}
use Rattle.framing.specs.Segment.{Segment, refused_frame, accepted_frame, event_of}
use Rattle.framing.specs.State.{state_after}
use Rattle.framing.specs.Link.{Lent, Told, nothing, step_on, told}
use Rattle.framing.specs.Open.{Room, held_in, gathered_byte, heard}
use Rattle.framing.specs.declared.State.{State}
use Rattle.escape.specs.Code.{Meaning, byte, waits, start, end, wrong, meaning}
use Rattle.escape.specs.Expansion.{expansion}
use Rattle.escape.specs.Enclosed.{taken}
use Rattle.expansion.specs.Frame.{Message}
use Rattle.expansion.specs.Rules.{Phase, inside, size, gathered, held, fault_of, message_in, judge, gather, act}
use Rattle.expansion.specs.Contract.{mode_of, numbers_of, link}
use Rattle.expansion.specs.Steps.{judged}
use Rattle.expansion.specs.declared.Message as Numbers
use Rattle.expansion.proofs.OnByte.{judge_noise}

-- what is told of the end of a frame, which adds no noise
judged_told : (g wire : List ℕ) → heard (judged g) ≡ told link (event_of (some (judge g wire)))
judged_told g wire = go (eqb (fault_of g) 0)
  where
    go : (t : Bool)
        → heard (cond t (done (numbers_of (message_in g))) (refused (fault_of g)))
        ≡ told link (event_of (some (cond t (accepted_frame (message_in g)) (refused_frame (fault_of g) wire))))
    go true = refl
    go false = refl

-- what becomes of a state and a store, and what is told, where the rules give r
abbrev By : State → List ℕ → Phase × Option (Segment Message) → Lent link × Told Numbers.Message
By s store r = ((state_after mode_of gathered held s r.0 r.1, over (gathered r.0) store), told link (event_of r.1))

-- an open frame, by the meaning of a wire byte
module _ (s : State) (store before wire : List ℕ) (open_in : s.mode ≡ 0 → ⊥) (room : Room size s store) where
  long : length (take s.count store) ≡ s.count
  long = length-take-le s.count store (omega (arith, room.count, room.room))

  gathered_taken : (b : ℕ) → (t : Bool) → ltb s.count size ≡ t → gathered_byte size 1 s store b ≡ By s store (gather (take s.count store) b wire)
  gathered_taken b true e =
      let l = ltb-true s.count size e in
      let less : s.count < length store = omega (arith, l, room.room) in
      let fits : s.count ≤ length store = omega (arith, less) in
      rw (e, lt-ltb (length (take s.count store)) size (omega (arith, l, long)), ne_eqb s.mode 0 open_in)
      (λ i. ((held_in s 1 (sym (more_count store s.count b fits) i), more-over store s.count b less i), nothing))
  gathered_taken b false e = rw (e, le-ltb (length (take s.count store)) size (omega (arith, ltb-false s.count size e, long)))

  act_taken : (m : Meaning) → taken size 1 2 1 judged s store m ≡ By s store (act (take s.count store) before wire m)
  unfolding each
  act_taken (byte b) = gathered_taken b (ltb s.count size) refl
  act_taken waits =
      rw (ne_eqb s.mode 0 open_in) (λ i. ((held_in s 2 (sym long i), same_over store s.count (omega (arith, room.count, room.room)) i), nothing))
  act_taken start = refl
  act_taken end =
      let g = take s.count store in
      λ i. ((record { mode = 0; count = 0; «open» = 0; noise = sym (judge_noise g wire s.noise) i }, store), judged_told g wire i)
  act_taken wrong = refl

-- as `take_byte_in` has it
pub inside_taken : (s : State) (store : List ℕ) (b : ℕ) → (s.mode ≡ 0 → ⊥) → Room size s store
    → taken size 1 2 1 judged s store (meaning expansion (eqb s.mode 2) b) ≡ ((step_on link (s, store) b).0, told link (step_on link (s, store) b).1)
inside_taken s store b open_in room =
    let before = held (inside (eqb s.mode 2) (take s.count store)) in
    rw (ne_eqb s.mode 0 open_in) (act_taken s store before (before ++ (b ∷ [])) open_in room (meaning expansion (eqb s.mode 2) b))
