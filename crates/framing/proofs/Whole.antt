-- A run is read as a message exactly if it is the frame of one that may be sent, over any lawful link.
use Rattle.std.proofs.Common.{◌≡◌, ℕ, ◌^◌, ◌<◌, ◌≤◌, Bool, true, false, eqb, ltb, leb, List, [], ◌∷◌, length, sym, refl, ap, ◌∙◌, subst, append-nil, arith, length-append, ltb-true, lt-ltb, eq-eqb, eqb-true, leb-true}
use mathlib.Core.Option.{Option, none, some}
use lib.Seq.{drop-length}
use Rattle.runs.specs.Runs.{Bytes}
use Rattle.runs.proofs.Cases.{and_both}
use Rattle.framing.specs.Answer.{Outcome, done}
use Rattle.framing.specs.Receiver.{Fed, feed, last}
use Rattle.framing.specs.Segment.{Segment, noise, refused_frame, accepted_frame, Event, message, refusal, wires, heard, noise_of}
use Rattle.framing.specs.Link.{Link, Lent, Told, step_on, refuses, receives, told, heard_in}
use Rattle.framing.specs.Claims.{segments, open_at}
use Rattle.framing.specs.Whole.{settle, exactly, read_on, OnlyFrames, FramesRead}
use Rattle.framing.proofs.Feed.{events-feed, last-feed}
use Rattle.framing.proofs.Segments.{Config, step, AllAccept, heard-events, noise_last, phase_last}
use Rattle.framing.proofs.Tests.{by_two}
use Rattle.framing.proofs.Lawful.{Lawful, at, accounted, Writable, all-writable, last_closed, fresh_follows, fresh_called}

-- what a read answers: what the receiver told a fresh call on the run, settled, and the store that this call left
module _ (L : Link) (run store : List ℕ) where
  abbrev settled : Told L.Numbers × ℕ × Lent L → Outcome L.Numbers × List ℕ
  settled a = (settle (exactly (length run) a.1 (L.noise a.2.0)) a.0, a.2.1)

  pub read_is : (a : Told L.Numbers × ℕ × Lent L) (s : L.State) (exact : Bool) (r : Outcome L.Numbers) → a ≡ receives L (s, store) run → s ≡ L.fresh
      → exact ≡ exactly (length run) a.1 (L.noise a.2.0) → r ≡ settle exact a.0 → (r, a.2.1) ≡ read_on L run store
  read_is a s exact r e f x h = rw (h, x) (ap settled (e ∙ ap (λ (t : L.State). receives L (t, store) run) f))

none_left : {A : Type 0} (xs : List A) → length xs ≡ 0 → xs ≡ []
none_left [] h = refl
none_left (x ∷ xs) h = absurd (omega arith)

differ : {A : Type 0} → ◌≡◌ {A = ℕ} 0 1 → A
differ e = absurd (omega arith)

module _ {M : Type 0} (frame : M → List ℕ) where
  -- nothing was heard and nothing is noise: there are no bytes
  silent : (ss : List (Segment M)) → heard ss ≡ [] → noise_of ss ≡ 0 → wires frame ss ≡ []
  silent [] h n = refl
  silent (noise bs ∷ ss) h n =
      let e : bs ≡ [] = none_left bs (omega arith) in
      rw e (silent ss h (omega arith))
  silent (refused_frame k bs ∷ ss) h n = differ (cc)
  silent (accepted_frame m ∷ ss) h n = differ (cc)

  -- one message was heard and nothing is noise: the bytes are its frame
  alone : (P : M → Type 0) (ss : List (Segment M)) (m : M) → heard ss ≡ message m ∷ [] → noise_of ss ≡ 0 → AllAccept P ss
      → P m × (wires frame ss ≡ frame m)
  alone P [] m h n a = differ (cc)
  alone P (noise bs ∷ ss) m h n a =
      let e : bs ≡ [] = none_left bs (omega arith) in
      rw e (alone P ss m h (omega arith) a.1)
  alone P (refused_frame k bs ∷ ss) m h n a = differ (cc)
  alone P (accepted_frame k ∷ ss) m h n a =
      let e : k ≡ m = cc in
      let s : heard ss ≡ [] = cc in
      (subst P e a.0, rw (silent ss s n, e) (append-nil (frame m)))

  noise_within : (ss : List (Segment M)) → noise_of ss ≤ length (wires frame ss)
  noise_within [] = omega arith
  noise_within (noise bs ∷ ss) = let h = noise_within ss in simp length-append (omega arith)
  noise_within (refused_frame n bs ∷ ss) = let h = noise_within ss in simp length-append (omega arith)
  noise_within (accepted_frame m ∷ ss) = let h = noise_within ss in simp length-append (omega arith)

module _ (L : Link) (laws : Lawful L) where
  abbrev rules : List ℕ → Fed (Event L.Message) (Config L.Phase)
  rules bs = feed (step L.on_byte) (at L.hunting 0) bs

  -- a call that used the whole run, with no noise, and gave a message
  module _ (bs : List ℕ) (m : L.Message) (y : Bytes bs) (event : (rules bs).event ≡ some (message m)) (used : (rules bs).used ≡ length bs)
      (quiet : (rules bs).after.noise ≡ 0) (short : length bs < 2 ^ 32) where
    one : heard (segments L bs) ≡ message m ∷ []
    one = sym (heard-events L.on_byte (at L.hunting 0) bs) ∙ events-feed (step L.on_byte) (at L.hunting 0) bs ∙ rw (event, used, drop-length bs)

    ends : last (step L.on_byte) (at L.hunting 0) bs ≡ (rules bs).after
    ends = last-feed (step L.on_byte) (at L.hunting 0) bs ∙ rw (used, drop-length bs)

    no_noise : noise_of (segments L bs) ≡ 0
    no_noise =
        let rounds = noise_last L.on_byte (at L.hunting 0) bs (omega arith) in
        let within = noise_within L.frame (segments L bs) in
        let clear = ap (λ (c : Config L.Phase). c.noise) ends ∙ quiet in
        let all = ap length (accounted L laws bs y) in
        omega (arith, length-append (wires L.frame (segments L bs)) (open_at L bs))

    exact : (L.ok m ≡ true) × L.Typed m × (bs ≡ L.frame m)
    exact =
        let p = alone L.frame (Writable L laws) (segments L bs) m one no_noise (all-writable L laws bs y) in
        let closed : open_at L bs ≡ [] = ap L.held (sym (phase_last L.on_byte (at L.hunting 0) bs) ∙ ap (λ (c : Config L.Phase). c.phase) ends) ∙ last_closed L laws bs m y event in
        let framed : bs ≡ L.frame m = sym (accounted L laws bs y) ∙ rw (p.1, closed) (append-nil (L.frame m)) in
        (p.0.0, p.0.1 (subst Bytes framed y), framed)

  -- the store that was lent does not matter
  by_rules : (run store : List ℕ) → Bytes run → L.size ≤ length store
      → (read_on L run store).0 ≡ settle (exactly (length run) (rules run).used (rules run).after.noise) (told L (rules run).event)
  by_rules run store y room =
      let f = fresh_follows L laws store run y room in
      rw (f.0, f.1, f.2)

  -- the store after a call that gives a message gives it back
  kept : (run store : List ℕ) (m : L.Message) → Bytes run → L.size ≤ length store → (rules run).event ≡ some (message m)
      → L.message_of (read_on L run store).1 (L.numbers_of m) ≡ m
  kept run store m y room e =
      let heard : heard_in L (read_on L run store).1 (told L (some (message m))) ≡ some (message m) =
      ap (λ (o : Option (Event L.Message)). heard_in L (read_on L run store).1 (told L o)) (sym ((fresh_follows L laws store run y room).0 ∙ e))
      ∙ fresh_called L laws store run y room ∙ e in
      cc

  settle_done : (t : Bool) (o : Option (Event L.Message)) (v : L.Numbers) → settle t (told L o) ≡ done v
      → (t ≡ true) × (m : L.Message) × (o ≡ some (message m)) × (v ≡ L.numbers_of m)
  settle_done t none v h = differ (cc)
  settle_done t (some (refusal n)) v h = differ (cc)
  settle_done false (some (message m)) v h = differ (cc)
  settle_done true (some (message m)) v h = (refl, m, refl, cc)

  -- a store that is too short gives no message
  has_room : (run store : List ℕ) (v : L.Numbers) → (read_on L run store).0 ≡ done v → L.size ≤ length store
  has_room run store v =
      by_two Roomy (L.known L.fresh) (leb L.size (length store)) 12 1 (feed (step_on L) (L.fresh, store) run) (λ n. refuses L n (L.fresh, store)) refl refl
      (λ _ h. differ (cc)) (λ _ _ h. differ (cc)) (λ _ l _. leb-true _ _ l)
    where
      Roomy : Fed (Event L.Message) (Lent L) → Type 0
      Roomy f = settle (exactly (length run) f.used (L.noise f.after.0)) (told L f.event) ≡ done v → L.size ≤ length store

  pub only_frames : OnlyFrames L
  only_frames run store v y h =
      let room = has_room run store v h in
      let (t, m, e, n) = settle_done _ (rules run).event v (sym (by_rules run store y room) ∙ h) in
      let s = and_both (ltb (length run) (2 ^ 32)) _ t in
      let l = and_both (eqb (rules run).used (length run)) _ s.1 in
      let x = exact run m y e (eqb-true _ _ l.0) (eqb-true _ _ l.1) (ltb-true _ _ s.0) in
      (m, record { sendable = x.0; typed = x.1; framed = x.2; told = n; kept = ap (L.message_of (read_on L run store).1) n ∙ kept run store m y room e })

  pub frames_read : ((m : L.Message) → L.ok m ≡ true → length (L.frame m) < 2 ^ 32) → FramesRead L
  frames_read short m store t o room =
      let y = laws.frame_bytes m t o in (
        by_rules (L.frame m) store y room ∙ rw (read, lt-ltb (length (L.frame m)) (2 ^ 32) (short m o), eq-eqb (length (L.frame m)) (length (L.frame m)) refl),
        record { sendable = o; typed = t; framed = refl; told = refl; kept = kept (L.frame m) store m y room (ap (λ (f : Fed (Event L.Message) (Config L.Phase)). f.event) read) },
      )
    where
      read : rules (L.frame m) ≡ record { event = some (message m); used = length (L.frame m); after = at L.hunting 0 }
      read = ap rules (sym (append-nil (L.frame m))) ∙ laws.reads-frame m [] 0 t o
