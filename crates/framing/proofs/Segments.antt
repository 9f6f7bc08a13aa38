-- A link's rules cut the stream into segments, and nothing is lost: what the segments and the open frame hold is the stream.
use Rattle.std.proofs.Common.{◌≡◌, ℕ, suc, ◌+◌, ◌%◌, ◌^◌, ◌<◌, List, [], ◌∷◌, ◌++◌, sym, refl, ap, ◌∙◌, append_assoc, append-nil, arith}
use mathlib.Core.Option.{Option, none, some}
use lib.Seq.{append_snoc}
use Rattle.runs.specs.Runs.{Bytes}
use Rattle.framing.specs.Receiver.{emit, events, last}
use Rattle.framing.specs.Segment.{Segment, noise, refused_frame, accepted_frame, Event, message, refusal, event_of, noise_after, wire_of, wires, heard, noise_of}

-- a phase, and the noise bytes so far
pub record Config (P : Type 0) : Type 0 where
  pub phase : P
  pub noise : ℕ

-- a link's rules as a receiver
abbrev pub step : {P M : Type 0} → (P → ℕ → P × Option (Segment M)) → Config P → ℕ → Config P × Option (Event M)
step on_byte c b =
    (record { phase = (on_byte c.phase b).0; noise = noise_after (on_byte c.phase b).1 c.noise }, event_of (on_byte c.phase b).1)

-- the wire bytes of the segment that a byte closes, if any
abbrev pub wire_opt : {M : Type 0} → (M → List ℕ) → Option (Segment M) → List ℕ
wire_opt frame none = []
wire_opt frame (some s) = wire_of frame s

-- a property of the message of that segment, if it is an accepted one
abbrev pub Accepts : {M : Type 0} → (M → Type 0) → Option (Segment M) → Type 0
Accepts P none = Unit
Accepts P (some (noise bs)) = Unit
Accepts P (some (refused_frame n bs)) = Unit
Accepts P (some (accepted_frame m)) = P m

pub accepts-map : {M : Type 0} (P Q : M → Type 0) (o : Option (Segment M)) → ((m : M) → P m → Q m) → Accepts P o → Accepts Q o
accepts-map P Q none f h = tt
accepts-map P Q (some (noise bs)) f h = tt
accepts-map P Q (some (refused_frame n bs)) f h = tt
accepts-map P Q (some (accepted_frame m)) f h = f m h

-- the same of all segments
abbrev pub AllAccept : {M : Type 0} → (M → Type 0) → List (Segment M) → Type 0
AllAccept P [] = Unit
AllAccept P (s ∷ ss) = Accepts P (some s) × AllAccept P ss

accept_emit : {M : Type 0} (P : M → Type 0) (o : Option (Segment M)) (ss : List (Segment M)) → Accepts P o → AllAccept P ss → AllAccept P (emit o ss)
accept_emit P none ss h k = k
accept_emit P (some s) ss h k = (h, k)

pub accept_at : {M : Type 0} (P : M → Type 0) (before after : List (Segment M)) (m : M) → AllAccept P (before ++ (accepted_frame m ∷ after)) → P m
accept_at P [] after m h = h.0
accept_at P (s ∷ before) after m h = accept_at P before after m h.1

wires-emit : {M : Type 0} (frame : M → List ℕ) (o : Option (Segment M)) (ss : List (Segment M)) → wires frame (emit o ss) ≡ wire_opt frame o ++ wires frame ss
wires-emit frame none ss = refl
wires-emit frame (some s) ss = refl

pub wires_append : {M : Type 0} (frame : M → List ℕ) (xs ys : List (Segment M)) → wires frame (xs ++ ys) ≡ wires frame xs ++ wires frame ys
wires_append frame [] ys = refl
wires_append frame (x ∷ xs) ys = rw (wires_append frame xs ys) (sym (append_assoc (wire_of frame x) (wires frame xs) (wires frame ys)))

heard-emit : {M : Type 0} (o : Option (Segment M)) (ss : List (Segment M)) → heard (emit o ss) ≡ emit (event_of o) (heard ss)
heard-emit none ss = refl
heard-emit (some (noise bs)) ss = refl
heard-emit (some (refused_frame n bs)) ss = refl
heard-emit (some (accepted_frame m)) ss = refl

noise_emit : {M : Type 0} (o : Option (Segment M)) (ss : List (Segment M)) (n : ℕ) → (noise_after o n + noise_of ss) % 2 ^ 32 ≡ (n + noise_of (emit o ss)) % 2 ^ 32
noise_emit none ss n = refl
noise_emit (some (noise bs)) ss n = omega arith
noise_emit (some (refused_frame k bs)) ss n = refl
noise_emit (some (accepted_frame m)) ss n = refl

noise_fits : {M : Type 0} (o : Option (Segment M)) (n : ℕ) → n < 2 ^ 32 → noise_after o n < 2 ^ 32
noise_fits none n h = h
noise_fits (some (noise bs)) n h = omega arith
noise_fits (some (refused_frame k bs)) n h = h
noise_fits (some (accepted_frame m)) n h = h

module _ {P M : Type 0} (on_byte : P → ℕ → P × Option (Segment M)) where
  -- a byte that closes nothing
  pub step_open : (p q : P) (n b : ℕ) → on_byte p b ≡ (q, none) → step on_byte (record { phase = p; noise = n }) b ≡ (record { phase = q; noise = n }, none)
  step_open p q n b h = rw h

  -- a byte that ends an accepted frame
  pub step_accept : (p q : P) (n b : ℕ) (m : M) → on_byte p b ≡ (q, some (accepted_frame m))
      → step on_byte (record { phase = p; noise = n }) b ≡ (record { phase = q; noise = n }, some (message m))
  step_accept p q n b m h = rw h

  -- a byte that ends a refused one
  pub step_refused : (p q : P) (n b k : ℕ) (wire : List ℕ) → on_byte p b ≡ (q, some (refused_frame k wire))
      → step on_byte (record { phase = p; noise = n }) b ≡ (record { phase = q; noise = n }, some (refusal k))
  step_refused p q n b k wire h = rw h

  -- the receiver's phase, events and noise are those of the segments
  pub phase_last : (c : Config P) (bs : List ℕ) → (last (step on_byte) c bs).phase ≡ last on_byte c.phase bs
  phase_last c [] = refl
  phase_last c (b ∷ bs) = phase_last (step on_byte c b).0 bs

  pub heard-events : (c : Config P) (bs : List ℕ) → events (step on_byte) c bs ≡ heard (events on_byte c.phase bs)
  heard-events c [] = refl
  heard-events c (b ∷ bs) = rw heard-emit (ap (emit (event_of (on_byte c.phase b).1)) (heard-events (step on_byte c b).0 bs))

  pub noise_last : (c : Config P) (bs : List ℕ) → c.noise < 2 ^ 32 → (last (step on_byte) c bs).noise ≡ (c.noise + noise_of (events on_byte c.phase bs)) % 2 ^ 32
  noise_last c [] h = omega arith
  noise_last c (b ∷ bs) h =
      noise_last (step on_byte c b).0 bs (noise_fits (on_byte c.phase b).1 c.noise h)
      ∙ noise_emit (on_byte c.phase b).1 (events on_byte (on_byte c.phase b).0 bs) c.noise

module _ {P M : Type 0} (frame : M → List ℕ) (held : P → List ℕ) (on_byte : P → ℕ → P × Option (Segment M))
    (Good : P → Type 0) (keeps : (p : P) (b : ℕ) → b < 256 → Good p → Good (on_byte p b).0) where
  -- every byte belongs to a segment or to what is open, in order; an accepted message stands there as its frame
  pub partition : ((p : P) (b : ℕ) → b < 256 → Good p → wire_opt frame (on_byte p b).1 ++ held (on_byte p b).0 ≡ held p ++ (b ∷ []))
      → (p : P) (bs : List ℕ) → Bytes bs → Good p → wires frame (events on_byte p bs) ++ held (last on_byte p bs) ≡ held p ++ bs
  partition conserves p [] y g = sym (append-nil (held p))
  partition conserves p (b ∷ bs) y g =
      let o = (on_byte p b).1 in
      let q = (on_byte p b).0 in
      rw (wires-emit frame o (events on_byte q bs), append_assoc (wire_opt frame o) (wires frame (events on_byte q bs)) (held (last on_byte q bs)))
      (rw (partition conserves q bs (λ i. y (suc i)) (keeps p b (y 0) g), ← append_assoc (wire_opt frame o) (held q) bs, conserves p b (y 0) g)
      (append_snoc (held p) b bs))

  -- what holds of each message that a byte accepts holds of all that are accepted
  pub all-accepted : (Q : M → Type 0) → ((p : P) (b : ℕ) → b < 256 → Good p → Accepts Q (on_byte p b).1)
      → (p : P) (bs : List ℕ) → Bytes bs → Good p → AllAccept Q (events on_byte p bs)
  all-accepted Q h p [] y g = tt
  all-accepted Q h p (b ∷ bs) y g =
      accept_emit Q (on_byte p b).1 _ (h p b (y 0) g) (all-accepted Q h (on_byte p b).0 bs (λ i. y (suc i)) (keeps p b (y 0) g))
