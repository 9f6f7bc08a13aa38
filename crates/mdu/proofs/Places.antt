-- What a call leaves in the store.
use Rattle.std.proofs.Common.{◌≡◌, ℕ, ◌+◌, ◌≤◌, Bool, true, false, cond, eqb, List, [], ◌∷◌, ◌++◌, length, take, drop, refl, ap, arith, length-append, length-take, le-ltb, lt-ltb}
use mathlib.Core.Option.{Option, none, some}
use Rattle.runs.specs.Runs.{over}
use Rattle.runs.proofs.Cases.{by_eqb, by_ltb}
use Rattle.framing.specs.Segment.{Segment, noise}
use Rattle.framing.proofs.Segments.{Accepts}
use Rattle.framing.proofs.Places.{over-over, over_first, Laid, Storing}
use Rattle.checksum.specs.Crc.{crc16_of}
use Rattle.mdu.specs.Frame.{Message}
use Rattle.mdu.specs.Rules.{Phase, hunting, in_header, in_body, size, gathered, sent_check, header_fault, enter, finish, on_byte}
use Rattle.mdu.specs.Contract.{phase_of, state_after, front, link}
use Rattle.mdu.specs.declared.State.{State}
use Rattle.mdu.proofs.Known.{Sized, sized_next, known_sized}

-- a byte that leads to r, where g was gathered and f is then laid over the store
abbrev Next : List ℕ → ℕ → List ℕ → Phase × Option (Segment Message) → Type 0
Next g b f r = Laid link (λ g b. g ++ (b ∷ [])) (λ m. []) g b f r

-- a byte that is gathered: behind fewer than the size it has room
module _ (g : List ℕ) (b : ℕ) (h : 1 + length g ≤ size) where
  abbrev more : List ℕ
  more = g ++ (b ∷ [])

  fits : length (g ++ (b ∷ [])) ≤ size
  fits = simp length-append (omega arith)

  longer : length g ≤ length (g ++ (b ∷ []))
  longer = simp length-append (omega arith)

  enter_lays : Next g b more (enter more)
  enter_lays =
      by_eqb (Next g b more) (header_fault more) 0 (λ _. record { laid = (refl, longer) })
      (λ _. record { laid = (λ store. over-over more g store longer, fits, omega arith) })

  finish_lays : (k : ℕ) → Next g b more (hunting, some (finish k more))
  finish_lays k =
      by_eqb (λ (s : Segment Message). Next g b more (hunting, some s)) (sent_check k more) (crc16_of (take k (drop 6 more)))
      (λ _. record { laid = (λ store. over-over more g store longer, fits, omega arith) })
      (λ _. record { laid = (λ store. over-over more g store longer, fits, omega arith) })

-- a sized phase has room for one more
room_left : (p : Phase) → Sized p → 1 + length (gathered p) ≤ size
room_left hunting h = omega arith
room_left (in_header g) h = omega (arith, h.1)
room_left (in_body k g) h = omega (arith, h.high, h.most)

lays : (p : Phase) (b : ℕ) → Sized p → Next (gathered p) b (front p b) (on_byte p b)
lays hunting b h = go (eqb b 0xE3)
  where
    go : (t : Bool) → Next [] b (cond t (b ∷ []) []) (cond t (in_header (b ∷ []), none) (hunting, some (noise (b ∷ []))))
    go true = record { laid = (refl, omega arith) }
    go false = record { laid = (refl, omega arith) }
lays (in_header g) b h =
    by_eqb (Next g b (g ++ (b ∷ []))) (length g) 5 (λ _. enter_lays g b (room_left (in_header g) h))
    (λ _. record { laid = (refl, longer g b (room_left (in_header g) h)) })
lays (in_body k g) b h =
    by_eqb (Next g b (g ++ (b ∷ []))) (length g) (7 + k) (λ _. finish_lays g b (room_left (in_body k g) h) k)
    (λ _. record { laid = (refl, longer g b (room_left (in_body k g) h)) })

front-first : (s : State) (store : List ℕ) → over (gathered (phase_of s store)) store ≡ store
front-first s store =
    by_eqb P s.base.mode 0 (λ _. refl)
    (λ _. by_ltb P s.base.count 6 (λ _. over_first s.base.count store) (λ _. over_first s.base.count store))
  where
    P : Phase → Type 0
    P p = over (gathered p) store ≡ store

phase_after : (s : State) (q : Phase) (o : Option (Segment Message)) (store : List ℕ) → Sized q → take (length (gathered q)) store ≡ gathered q
    → phase_of (state_after s q o) store ≡ q
phase_after s hunting o store g h = refl
phase_after s (in_header x) o store g h = rw (lt-ltb (length x) 6 g.1) (ap in_header h)
phase_after s (in_body k x) o store g h = rw (le-ltb (length x) 6 g.low) (ap (in_body k) h)

pub storing : Storing link (λ g b. g ++ (b ∷ [])) (λ m. [])
storing =
    record {
      Fit = Sized;
      fit_known = known_sized;
      fit_next = sized_next;
      fits = λ p h. omega (arith, room_left p h);
      front-first = front-first;
      phase_after = phase_after;
      lays = lays;
    }

abbrev Few : Phase × Option (Segment Message) → Type 0
Few r = Accepts (λ (m : Message). length m.body ≤ 1025) r.1

-- an accepted message has as much body as its header states, which is allowed
pub few : (p : Phase) (b : ℕ) → storing.Fit p → Few (on_byte p b)
unfolding storing
few hunting b h = by_eqb Few b 0xE3 (λ _. tt) (λ _. tt)
few (in_header g) b h =
    by_eqb Few (length g) 5 (λ _. by_eqb Few (header_fault (g ++ (b ∷ []))) 0 (λ _. tt) (λ _. tt)) (λ _. tt)
few (in_body k g) b h =
    let more : List ℕ = g ++ (b ∷ []) in
    by_eqb Few (length g) (7 + k)
    (λ _. by_eqb (λ (s : Segment Message). Few (hunting, some s)) (sent_check k more) (crc16_of (take k (drop 6 more)))
    (λ _. simp length-take (omega (arith, h.most))) (λ _. tt))
    (λ _. tt)
