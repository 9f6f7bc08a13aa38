-- A host's call on one whole frame: one call of a fresh receiver on the whole run.
use Rattle.std.specs.Prelude.{◌≡◌, ℕ, ◌^◌, ◌≤◌, Bool, true, cond, ◌&&◌, List, length, ◌==◌, nat_lt}
use Rattle.runs.specs.Runs.{Bytes}
use Rattle.framing.specs.Answer.{Outcome, done, refused}
use Rattle.framing.specs.Link.{Link, Told, nothing, accepted, receives}

-- a refusal stays; a message stays if the run is exactly its frame; anything else is 6
abbrev pub settle : {N : Type 0} → Bool → Told N → Outcome N
settle exact nothing = refused 6
settle exact (accepted v) = cond exact (done v) (refused 6)
settle exact (Told.refused n) = refused n

-- the call used all n bytes, and none of them is noise; the noise count goes round at 2^32, and no frame is as long as that
abbrev pub exactly : ℕ → ℕ → ℕ → Bool
exactly n used noise = nat_lt n (2 ^ 32) && (used == n && noise == 0)

module _ (L : Link) where
  -- the numbers of the message that a run is read as, or a refusal (the receiver's own 1 comes first), and the store afterwards
  abbrev pub read_on : List ℕ → List ℕ → Outcome L.Numbers × List ℕ
  read_on run store =
      let a = receives L (L.fresh, store) run in
      (settle (exactly (length run) a.1 (L.noise a.2.0)) a.0, a.2.1)

  -- m may be sent, its numbers fit their types, the run is its frame, the numbers told are its own, and with the store after the call they give it
  -- back
  pub record Means (m : L.Message) (run store : List ℕ) (v : L.Numbers) : Type 0 where
    pub sendable : L.ok m ≡ true
    pub typed : L.Typed m
    pub framed : run ≡ L.frame m
    pub told : v ≡ L.numbers_of m
    pub kept : L.message_of (read_on run store).1 v ≡ m

  -- only a frame is read as a message
  abbrev pub OnlyFrames : Type 0
  OnlyFrames =
      (run store : List ℕ) (v : L.Numbers) → Bytes run → (read_on run store).0 ≡ done v → (m : L.Message) × Means m run store v

  -- and each frame is read as its message
  abbrev pub FramesRead : Type 0
  FramesRead =
      (m : L.Message) (store : List ℕ) → L.Typed m → L.ok m ≡ true → L.size ≤ length store
      → ((read_on (L.frame m) store).0 ≡ done (L.numbers_of m)) × Means m (L.frame m) store (L.numbers_of m)
