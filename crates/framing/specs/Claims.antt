-- What is claimed of every link. The crate `claims` has these for all four.
use Rattle.std.specs.Prelude.{◌≡◌, ℕ, ◌%◌, ◌^◌, ◌≤◌, true, ◌↔◌, List, [], ◌∷◌, ◌++◌, map, length, take}
use Rattle.std.proofs.Math.Option.{some}
use Rattle.runs.specs.Runs.{Bytes, over, Begins}
use Rattle.framing.specs.Answer.{done}
use Rattle.framing.specs.Receiver.{Fed, events, last, drive, join}
use Rattle.framing.specs.Segment.{Segment, accepted_frame, Event, message, heard, noise_of, wires}
use Rattle.framing.specs.Writer.{Call, frames, kept, wire}
use Rattle.framing.specs.Link.{Link, write_on, called}

-- every element of a list has a property
abbrev pub AllOf : {A : Type 0} → (A → Type 0) → List A → Type 0
AllOf P [] = Unit
AllOf P (x ∷ xs) = P x × AllOf P xs

module _ (L : Link) where
  -- the segments of a stream by the rules, and what is open at its end
  abbrev pub segments : List ℕ → List (Segment L.Message)
  segments bs = events L.on_byte L.hunting bs

  abbrev pub open_at : List ℕ → List ℕ
  open_at bs = L.held (last L.on_byte L.hunting bs)

  -- writes the frame: in memory that holds it, a message that may be sent leaves exactly its frame at the start, and nothing after it is changed
  abbrev pub WritesFrame : Type 0
  WritesFrame =
      (m : L.Message) (memory : List ℕ) → L.ok m ≡ true → length (L.frame m) ≤ length memory
      → write_on L m memory ≡ (done (length (L.frame m)), over (L.frame m) memory)

  -- what a caller of the receiver has of the bytes that the writer left in a memory, with anything behind them
  abbrev pub sent_to : L.State × List ℕ → L.Message → List ℕ → List ℕ → Fed (Event L.Message) (L.State × List ℕ)
  sent_to c m memory rest = called L c (take (length (L.frame m)) (write_on L m memory).1 ++ rest)

  -- reads back: a message that may be sent, written into memory that holds its frame, is handed out by a receiver in plain hunting that is fed
  -- the bytes so written and then anything; exactly the frame is used, there is no noise, and the receiver hunts again with nothing open
  pub record ReadBack (m : L.Message) (memory rest : List ℕ) (s : L.State) (store : List ℕ) : Type 0 where
    pub answers : (write_on L m memory).0 ≡ done (length (L.frame m))
    pub hears : (sent_to (s, store) m memory rest).event ≡ some (message m)
    pub uses : (sent_to (s, store) m memory rest).used ≡ length (L.frame m)
    pub quiet : L.noise (sent_to (s, store) m memory rest).after.0 ≡ L.noise s
    pub known : L.known (sent_to (s, store) m memory rest).after.0 ≡ true
    pub hunts : L.phase_of (sent_to (s, store) m memory rest).after.0 (sent_to (s, store) m memory rest).after.1 ≡ L.hunting
    pub closed : L.«open» (sent_to (s, store) m memory rest).after.0 ≡ 0

  abbrev pub ReadsBack : Type 0
  ReadsBack =
      (m : L.Message) (memory rest : List ℕ) (s : L.State) (store : List ℕ)
      → L.Typed m → L.ok m ≡ true → length (L.frame m) ≤ length memory → L.known s ≡ true → L.phase_of s store ≡ L.hunting
      → L.size ≤ length store → ReadBack m memory rest s store

  -- calls read back: of the bytes that any calls of the writer leave, refused ones and none at all included, cut anywhere, a fresh receiver, its
  -- store handed back untouched, hands out exactly the kept messages, in order; nothing is noise, and it hunts with nothing open
  pub record CallsBack (calls : List (Call L.Message)) (pieces : List (List ℕ)) (store : List ℕ) : Type 0 where
    pub hears : (drive (called L) (L.fresh, store) pieces).0 ≡ map message (kept (write_on L) calls)
    pub noise : L.noise (drive (called L) (L.fresh, store) pieces).1.0 ≡ 0
    pub known : L.known (drive (called L) (L.fresh, store) pieces).1.0 ≡ true
    pub hunts : L.phase_of (drive (called L) (L.fresh, store) pieces).1.0 (drive (called L) (L.fresh, store) pieces).1.1 ≡ L.hunting
    pub «open» : L.«open» (drive (called L) (L.fresh, store) pieces).1.0 ≡ 0

  abbrev pub CallsReadBack : Type 0
  CallsReadBack =
      (calls : List (Call L.Message)) (pieces : List (List ℕ)) (store : List ℕ) → AllOf (λ c. L.Typed c.message) calls
      → join pieces ≡ wire (write_on L) calls → L.size ≤ length store → CallsBack calls pieces store

  -- canonical: a message is accepted only where the stream holds exactly its frame, and only one that may be sent and whose numbers fit their
  -- types, so that it can be written again
  abbrev pub Canonical : Type 0
  Canonical =
      (bs : List ℕ) → Bytes bs → (before after : List (Segment L.Message)) (m : L.Message)
      → segments bs ≡ before ++ (accepted_frame m ∷ after)
      → (L.ok m ≡ true) × L.Typed m × (bs ≡ wires L.frame before ++ L.frame m ++ wires L.frame after ++ open_at bs)

  -- cut anywhere: a fresh receiver, its store handed back untouched, hands out the events, the noise and the open count of the uncut stream,
  -- whatever the store held at first
  pub record CutAt (pieces : List (List ℕ)) (store : List ℕ) : Type 0 where
    pub hears : (drive (called L) (L.fresh, store) pieces).0 ≡ heard (segments (join pieces))
    pub noise : L.noise (drive (called L) (L.fresh, store) pieces).1.0 ≡ noise_of (segments (join pieces)) % 2 ^ 32
    pub «open» : L.«open» (drive (called L) (L.fresh, store) pieces).1.0 ≡ length (open_at (join pieces))

  abbrev pub CutAnywhere : Type 0
  CutAnywhere = (pieces : List (List ℕ)) (store : List ℕ) → Bytes (join pieces) → L.size ≤ length store → CutAt pieces store

  -- accounted: every byte of a stream belongs to a segment or to what is open, once and in order
  abbrev pub Accounted : Type 0
  Accounted = (bs : List ℕ) → Bytes bs → wires L.frame (segments bs) ++ open_at bs ≡ bs

  -- calls told: the bytes of any list of calls are the frames of the kept messages end to end; of any two lists the bytes are equal exactly when
  -- the kept messages are, and one's begin the other's exactly when its kept messages do
  pub record CallsTold : Type 0 where
    pub framed : (cs : List (Call L.Message)) → wire (write_on L) cs ≡ frames L.frame (kept (write_on L) cs)
    pub equal : (xs ys : List (Call L.Message)) → AllOf (λ c. L.Typed c.message) xs → AllOf (λ c. L.Typed c.message) ys
        → (wire (write_on L) xs ≡ wire (write_on L) ys) ↔ (kept (write_on L) xs ≡ kept (write_on L) ys)
    pub begins : (xs ys : List (Call L.Message)) → AllOf (λ c. L.Typed c.message) xs → AllOf (λ c. L.Typed c.message) ys
        → Begins (wire (write_on L) xs) (wire (write_on L) ys) ↔ Begins (kept (write_on L) xs) (kept (write_on L) ys)
