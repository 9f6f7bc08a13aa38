-- What a call leaves in the store.
use Prim.Native.Nat.{ℕ, ◌≤◌}
use mathlib.Core.Path.{◌≡◌, refl}
use mathlib.Core.Bool.{true}
use mathlib.Core.List.{List, [], ◌∷◌, ◌++◌}
use mathlib.Core.Option.{Option, some}
use native.Mathlib.Omega.{arith}
use lib.ListN.{length, length-append}
use lib.Dec.{leb}
use borrow.Author.Tests.{leb-true}
use Rattle.runs.specs.Runs.{over}
use Rattle.runs.proofs.Cases.{by_eqb, by_ltb, and_both}
use Rattle.framing.specs.Segment.{Segment}
use Rattle.framing.specs.declared.State.{State}
use Rattle.framing.proofs.Byte.{by_end}
use Rattle.framing.proofs.Segments.{Accepts, accepts-map}
use Rattle.framing.proofs.States.{known_count}
use Rattle.framing.proofs.Places.{over_first, Laid, Storing}
use Rattle.escape.specs.Code.{Meaning, byte, waits, start, end, wrong, meaning}
use Rattle.escape.specs.Dle.{dle}
use Rattle.dle.specs.Frame.{Message, content, error, ok}
use Rattle.dle.specs.Rules.{Phase, hunting, half, inside, size, gathered, held, judge, act, on_byte}
use Rattle.dle.specs.Contract.{phase_of, numbers_of, link}
use Rattle.dle.proofs.OnByte.{Judged, judge_ends, takes}
use Rattle.dle.proofs.Lawful.{phase_of_lem}
use Rattle.dle.proofs.Steps.{counted}

-- a byte that leads to r, where g was gathered
abbrev Next : List ℕ → ℕ → Phase × Option (Segment Message) → Type 0
Next g b r = Laid link (λ g b. g) (λ m. []) g b (gathered r.0) r

act_lays : (g wire : List ℕ) (b : ℕ) (m : Meaning) → length g ≤ size → Next g b (act g wire m)
act_lays g wire b (byte v) h =
    by_ltb (Next g b) (length g) size (λ l. record { laid = (refl, simp length-append (omega arith)) })
    (λ _. record { laid = (λ store. refl, h, omega arith) })
act_lays g wire b waits h = record { laid = (refl, omega arith) }
act_lays g wire b start h = record { laid = (λ store. refl, h, omega arith) }
act_lays g wire b end h =
    by_end (λ (s : Segment Message). Next g b (hunting, some s)) (Judged g) wire (judge g wire) (judge_ends g wire)
    (λ n. record { laid = (λ store. refl, h, omega arith) }) (λ m t. record { laid = (λ store. refl, h, omega arith) })
act_lays g wire b wrong h = record { laid = (λ store. refl, h, omega arith) }

lays : (p : Phase) (b : ℕ) → length (gathered p) ≤ size → Next (gathered p) b (on_byte p b)
lays hunting b h = by_eqb (Next [] b) b 0x10 (λ _. record { laid = (refl, omega arith) }) (λ _. record { laid = (refl, omega arith) })
lays half b h = by_eqb (Next [] b) b 0x02 (λ _. record { laid = (refl, omega arith) }) (λ _. record { laid = (refl, omega arith) })
lays (inside w g) b h = act_lays g (held (inside w g) ++ (b ∷ [])) b (meaning dle w b) h

front-first : (s : State) (store : List ℕ) → over (gathered (phase_of s store)) store ≡ store
front-first s store = by_eqb P s.mode 0 (λ _. refl) (λ _. by_eqb P s.mode 1 (λ _. refl) (λ _. over_first s.count store))
  where
    P : Phase → Type 0
    P p = over (gathered p) store ≡ store

pub storing : Storing link (λ g b. g) (λ m. [])
storing =
    record {
      Fit = λ p. length (gathered p) ≤ size;
      fit_known = λ s store k room. omega (arith, counted s store, known_count 4 2 size s k);
      fit_next = λ p b h. (takes p b h).good;
      fits = λ p h. h;
      front-first = front-first;
      phase_after = λ s q o store _. phase_of_lem q 0 store;
      lays = lays;
    }

-- a message that may be sent has at most 255 bytes of data
sent_few : (m : Message) → ok m ≡ true → (numbers_of m).length ≤ 255
sent_few (content s n d) h = leb-true (length d) 255 (and_both (leb 1 (length d)) (leb (length d) 255) h).1
sent_few (error s n e) h = omega arith

-- an accepted message is one
pub few : (p : Phase) (b : ℕ) → storing.Fit p → Accepts (λ (m : Message). (numbers_of m).length ≤ 255) (on_byte p b).1
unfolding storing
few p b h = accepts-map _ _ (on_byte p b).1 (λ m t. sent_few m t.may) (takes p b h).accepts
