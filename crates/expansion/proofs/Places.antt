-- What a call leaves in the store.
use Prim.Native.Nat.{ℕ, ◌≤◌}
use mathlib.Core.Path.{◌≡◌, refl}
use mathlib.Core.List.{List, [], ◌∷◌, ◌++◌}
use mathlib.Core.Option.{Option, some}
use native.Mathlib.Omega.{arith}
use lib.ListN.{length, length-append, length-take, length-drop}
use Rattle.runs.specs.Runs.{over}
use Rattle.runs.proofs.Cases.{by_eqb, by_ltb}
use Rattle.framing.specs.Segment.{Segment}
use Rattle.framing.specs.declared.State.{State}
use Rattle.framing.proofs.Byte.{by_end}
use Rattle.framing.proofs.Segments.{Accepts}
use Rattle.framing.proofs.States.{known_count}
use Rattle.framing.proofs.Places.{over_first, Laid, Storing}
use Rattle.escape.specs.Code.{Meaning, byte, waits, start, end, wrong, meaning}
use Rattle.escape.specs.Expansion.{expansion}
use Rattle.expansion.specs.Frame.{Message}
use Rattle.expansion.specs.Rules.{Phase, hunting, inside, size, gathered, held, fault_of, judge, act, on_byte}
use Rattle.expansion.specs.Contract.{phase_of, link}
use Rattle.expansion.proofs.OnByte.{Judged, judge_ends}
use Rattle.expansion.proofs.Lawful.{phase_of_lem}
use Rattle.expansion.proofs.Count.{counted, byte_sized}

-- a byte that leads to r, where g was gathered
abbrev Next : List ℕ → ℕ → Phase × Option (Segment Message) → Type 0
Next g b r = Laid link (λ g b. g) (λ m. []) g b (gathered r.0) r

act_lays : (g before wire : List ℕ) (b : ℕ) (m : Meaning) → length g ≤ size → Next g b (act g before wire m)
act_lays g before wire b (byte v) h =
    by_ltb (Next g b) (length g) size (λ l. record { laid = (refl, simp length-append (omega arith)) })
    (λ _. record { laid = (λ store. refl, h, omega arith) })
act_lays g before wire b waits h = record { laid = (refl, omega arith) }
act_lays g before wire b start h = record { laid = (λ store. refl, h, omega arith) }
act_lays g before wire b end h =
    by_end (λ (s : Segment Message). Next g b (hunting, some s)) (Judged g) wire (judge g wire) (judge_ends g wire)
    (λ n. record { laid = (λ store. refl, h, omega arith) }) (λ m t. record { laid = (λ store. refl, h, omega arith) })
act_lays g before wire b wrong h = record { laid = (λ store. refl, h, omega arith) }

lays : (p : Phase) (b : ℕ) → length (gathered p) ≤ size → Next (gathered p) b (on_byte p b)
lays hunting b h = by_eqb (Next [] b) b 0xFD (λ _. record { laid = (refl, omega arith) }) (λ _. record { laid = (refl, omega arith) })
lays (inside w g) b h = act_lays g (held (inside w g)) (held (inside w g) ++ (b ∷ [])) b (meaning expansion w b) h

front-first : (s : State) (store : List ℕ) → over (gathered (phase_of s store)) store ≡ store
front-first s store = by_eqb (λ (p : Phase). over (gathered p) store ≡ store) s.mode 0 (λ _. refl) (λ _. over_first s.count store)

pub storing : Storing link (λ g b. g) (λ m. [])
storing =
    record {
      Fit = λ p. length (gathered p) ≤ size;
      fit_known = λ s store k room. omega (arith, counted s store, known_count 3 1 size s k);
      fit_next = byte_sized;
      fits = λ p h. h;
      front-first = front-first;
      phase_after = λ s q o store _. phase_of_lem q 0 store;
      lays = lays;
    }

abbrev Few : Phase × Option (Segment Message) → Type 0
Few r = Accepts (λ (m : Message). length m.payload ≤ 1024) r.1

act_few : (g before wire : List ℕ) (m : Meaning) → length g ≤ size → Few (act g before wire m)
act_few g before wire (byte v) h = by_ltb Few (length g) size (λ _. tt) (λ _. tt)
act_few g before wire waits h = tt
act_few g before wire start h = tt
act_few g before wire end h =
    by_eqb (λ (s : Segment Message). Few (hunting, some s)) (fault_of g) 0 (λ _. simp (length-take, length-drop) (omega arith)) (λ _. tt)
act_few g before wire wrong h = tt

-- an accepted message has no more data than fits behind its header and before its CRC
pub few : (p : Phase) (b : ℕ) → storing.Fit p → Few (on_byte p b)
unfolding storing
few hunting b h = by_eqb Few b 0xFD (λ _. tt) (λ _. tt)
few (inside w g) b h = act_few g (held (inside w g)) (held (inside w g) ++ (b ∷ [])) (meaning expansion w b) h
