-- What a call of a receiver answers: over any machine that takes a byte, with a store.
use Rattle.std.specs.Prelude.{ℕ, Bool, cond, List, length, ◌==◌, nat_le, Result, Ok, Err, Some, None}
use Rattle.std.specs.Prelude as Code
use Rattle.std.proofs.Math.Option.{Option}
use Rattle.framing.specs.Number.{number_of}
use Rattle.framing.specs.Answer.{Outcome}
use Rattle.framing.specs.Receiver.{Fed, feed}
use Rattle.framing.specs.Tests.{call_fault}
use Rattle.framing.specs.Link.{Told, nothing, accepted, refused}
use Rattle.framing.specs.Whole.{settle, exactly}
use Rattle.framing.specs.declared.refusal.Refusal.{Refusal}
use Rattle.framing.specs.declared.link.Received.{Received}

-- each case of what a call tells, where what it is refused with stands for a number
abbrev pub told_by : {N E : Type 0} → (E → ℕ) → Result (Code.Option N) E → Told N
told_by number (Ok None) = nothing
told_by number (Ok (Some v)) = accepted v
told_by number (Err r) = refused (number r)

abbrev pub told_of : {N : Type 0} → Result (Code.Option N) Refusal → Told N
told_of = told_by number_of

-- an answer with the store after the call
abbrev pub received_of : {N S : Type 0} → Received N S → List ℕ → Told N × ℕ × (S × List ℕ)
received_of r store = (told_of r.told, r.used, (r.state, store))

-- what a feed tells: the event as it is told, the bytes used, the state and the store after
abbrev pub reported : {S E N : Type 0} → (Option E → Told N) → Fed E (S × List ℕ) → Told N × ℕ × (S × List ℕ)
reported told f = (told f.event, f.used, f.after)

module _ {S E N : Type 0} (known : S → Bool) (size : ℕ) (step : S × List ℕ → ℕ → (S × List ℕ) × Option E) (told : Option E → Told N) where
  -- refused with 12 or 1, with nothing used or changed; or byte after byte until one makes an event
  abbrev pub answered : S × List ℕ → List ℕ → Told N × ℕ × (S × List ℕ)
  answered c piece =
      let fault = call_fault (known c.0) (nat_le size (length c.1)) in
      cond (fault == 0) (reported told (feed step c piece)) (refused fault, 0, c)

-- what a run of such a length is read as that is to be one whole frame, from what a call on it answers, and the store afterwards
abbrev pub whole : {N S : Type 0} → (S → ℕ) → ℕ → Told N × ℕ × (S × List ℕ) → Outcome N × List ℕ
whole noise n a = (settle (exactly n a.1 (noise a.2.0)) a.0, a.2.1)
