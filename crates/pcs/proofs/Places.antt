-- What a call leaves in the store.
use Prim.Native.Nat.{ℕ, ◌≤◌}
use mathlib.Core.Path.{◌≡◌, refl}
use mathlib.Core.List.{List, [], ◌∷◌, ◌++◌}
use mathlib.Core.Option.{Option, some}
use native.Mathlib.Omega.{arith}
use lib.ListN.{length, length-append}
use Rattle.runs.specs.Runs.{over}
use Rattle.runs.proofs.Cases.{by_eqb, by_ltb}
use Rattle.framing.specs.Segment.{Segment}
use Rattle.framing.specs.declared.State.{State}
use Rattle.framing.proofs.Byte.{by_end}
use Rattle.framing.proofs.Segments.{Accepts, accepts-map}
use Rattle.framing.proofs.States.{known_count}
use Rattle.framing.proofs.Places.{over_first, Laid, Storing}
use Rattle.pcs.specs.Frame.{Message}
use Rattle.pcs.specs.Rules.{Phase, hunting, inside, size, gathered, judge, on_byte}
use Rattle.pcs.specs.Contract.{phase_of, front_of, link}
use Rattle.pcs.proofs.Allowed.{sendable}
use Rattle.pcs.proofs.OnByte.{Judged, judge_ends, takes}
use Rattle.pcs.proofs.Lawful.{phase_of_lem}
use Rattle.pcs.proofs.Store.{counted}

-- a byte that leads to r, where g was gathered
abbrev Next : List ℕ → ℕ → Phase × Option (Segment Message) → Type 0
Next g b r = Laid link (λ g b. g) (λ m. m.payload) g b (front_of r) r

lays : (p : Phase) (b : ℕ) → length (gathered p) ≤ size → Next (gathered p) b (on_byte p b)
lays hunting b h = by_eqb (Next [] b) b 253 (λ _. record { laid = (refl, omega arith) }) (λ _. record { laid = (refl, omega arith) })
lays (inside g) b h =
    by_eqb (Next g b) b 253 (λ _. record { laid = (λ store. refl, h, omega arith) })
    (λ _. by_eqb (Next g b) b 254 (λ _. ends)
    (λ _. by_ltb (Next g b) (length g) size (λ l. record { laid = (refl, simp length-append (omega arith)) })
    (λ _. record { laid = (λ store. refl, h, omega arith) })))
  where
    wire : List ℕ
    wire = 253 ∷ g ++ (b ∷ [])

    -- the end of a frame: it is refused, or its data is laid over what was gathered
    ends : Next g b (hunting, some (judge g wire))
    ends =
        by_end (λ (s : Segment Message). Next g b (hunting, some s)) (Judged g) wire (judge g wire) (judge_ends g wire)
        (λ n. record { laid = (λ store. refl, h, omega arith) })
        (λ m t. record { laid = (λ store. refl, h, omega (arith, (sendable m (t h).1).most)) })

front-first : (s : State) (store : List ℕ) → over (gathered (phase_of s store)) store ≡ store
front-first s store = by_eqb (λ (p : Phase). over (gathered p) store ≡ store) s.mode 0 (λ _. refl) (λ _. over_first s.count store)

pub storing : Storing link (λ g b. g) (λ m. m.payload)
storing =
    record {
      Fit = λ p. length (gathered p) ≤ size;
      fit_known = λ s store k room. omega (arith, counted s store, known_count 2 1 size s k);
      fit_next = λ p b h. (takes p b h).good;
      fits = λ p h. h;
      front-first = front-first;
      phase_after = λ s q o store _. phase_of_lem q 0 store;
      lays = lays;
    }

-- an accepted message has no more data than may be sent
pub few : (p : Phase) (b : ℕ) → storing.Fit p → Accepts (λ (m : Message). length m.payload ≤ 1024) (on_byte p b).1
unfolding storing
few p b h = accepts-map _ _ (on_byte p b).1 (λ m t. (sendable m t.may).most) (takes p b h).accepts
