-- What a link has to show of each byte, once; all claims on its streams and its calls follow.
use Rattle.std.proofs.Common.{◌≡◌, ℕ, suc, ◌^◌, ◌<◌, ◌≤◌, true, List, [], ◌∷◌, ◌++◌, length, take, sym, refl, ap, ◌∙◌, subst, append_assoc, append-nil, zero-add, arith, length-append, length-drop, le-leb}
use mathlib.Core.Option.{Option, none, some, none-ne-some}
use lib.Seq.{sets}
use Rattle.runs.specs.Runs.{Bytes, over}
use Rattle.runs.proofs.Bytes.{bytes_left, bytes_right, bytes_more}
use Rattle.runs.proofs.Run.{part_sets, sets_over}
use Rattle.framing.specs.Answer.{Outcome, done}
use Rattle.framing.specs.Receiver.{Fed, stop, feed, events, last, drive, join}
use Rattle.framing.specs.Segment.{Segment, noise, refused_frame, accepted_frame, Event, message, refusal, event_of, noise_after, wires}
use Rattle.framing.specs.Writer.{writes}
use Rattle.framing.specs.Link.{Link, Lent, step_on, call_on, told, heard_in, called}
use Rattle.framing.specs.Claims.{segments, open_at, WritesFrame, ReadsBack, Canonical, CutAnywhere, Accounted}
use Rattle.framing.proofs.Stored.{stored_done, writes_stored}
use Rattle.framing.proofs.Feed.{feed_stops}
use Rattle.framing.proofs.Cutting.{Follows, cutting, feed_from, feed_follows}
use Rattle.framing.proofs.Segments.{Config, step, wire_opt, Accepts, accepts-map, AllAccept, accept_at, wires_append, partition, all-accepted, phase_last, heard-events, noise_last}
use Rattle.framing.proofs.Byte.{Reached, Taken, Takes}

abbrev pub at : {P : Type 0} → P → ℕ → Config P
at p n = record { phase = p; noise = n }

-- in these fields p is a phase, b a byte and n a noise count
pub record Lawful (L : Link) : Type 1 where
  pub reached : Reached L
  pub takes : (p : L.Phase) (b : ℕ) → b < 256 → reached.Good p → Takes reached (L.gathered p) (L.held p ++ (b ∷ [])) (L.front p b) (L.on_byte p b)
  -- the state of a phase and a noise count, known, with its counts; with what is gathered in the store it stands for the phase
  pub state_of : L.Phase → ℕ → L.State
  pub noise_of_lem : (p : L.Phase) (n : ℕ) → L.noise (state_of p n) ≡ n
  pub open_of : (p : L.Phase) (n : ℕ) → L.«open» (state_of p n) ≡ length (L.held p)
  pub known_of : (p : L.Phase) (n : ℕ) → reached.Good p → L.known (state_of p n) ≡ true
  pub phase_of_lem : (p : L.Phase) (n : ℕ) (store : List ℕ) → reached.Good p → take (length (L.gathered p)) store ≡ L.gathered p
      → L.phase_of (state_of p n) store ≡ p
  pub fresh_first : L.fresh ≡ state_of L.hunting 0
  -- the state after a byte, from phase p to q, is that of q, also out of a state in plain hunting whatever it holds
  pub state_next : (p q : L.Phase) (o : Option (Segment L.Message)) (n b : ℕ) → wire_opt L.frame o ++ L.held q ≡ L.held p ++ (b ∷ [])
      → length (L.held q) < 2 ^ 32 → L.state_after (state_of p n) q o ≡ state_of q (noise_after o n)
  pub state_leaves : (s : L.State) (store : List ℕ) (q : L.Phase) (o : Option (Segment L.Message)) → L.phase_of s store ≡ L.hunting
      → L.state_after s q o ≡ state_of q (noise_after o (L.noise s))
  -- a frame is of bytes and not empty; a hunting receiver reads it back, whatever follows
  pub frame_bytes : (m : L.Message) → L.Typed m → L.ok m ≡ true → Bytes (L.frame m)
  pub frame_filled : (m : L.Message) → 0 < length (L.frame m)
  pub reads-frame : (m : L.Message) (rest : List ℕ) (n : ℕ) → L.Typed m → L.ok m ≡ true
      → feed (step L.on_byte) (at L.hunting n) (L.frame m ++ rest)
      ≡ record { event = some (message m); used = length (L.frame m); after = at L.hunting n }

over-length : (front store : List ℕ) → length front ≤ length store → length (over front store) ≡ length store
over-length front store h = simp (length-append, length-drop) (omega arith)

-- what the writer leaves is the frame
written-frame : (L : Link) (m : L.Message) (memory : List ℕ) → L.ok m ≡ true → length (L.frame m) ≤ length memory
    → writes L.ok L.frame m memory ≡ (done (length (L.frame m)), sets memory 0 (L.frame m))
written-frame L m memory o h = writes_stored L.ok L.frame m memory o ∙ stored_done (L.frame m) memory 0 (omega arith)

pub writes-frame : (L : Link) → WritesFrame L
writes-frame L m memory o h =
    written-frame L m memory o h ∙ ap (λ (l : List ℕ). (done (length (L.frame m)), l)) (sets_over (L.frame m) memory h)

module _ (L : Link) (laws : Lawful L) where
  abbrev Good : L.Phase → Type 0
  Good = laws.reached.Good

  good_next : (p : L.Phase) (b : ℕ) → b < 256 → Good p → Good (L.on_byte p b).0
  good_next p b y g = (laws.takes p b y g).good

  -- a property of an accepted message
  accepted_is : (Q : L.Message → Type 0) (p : L.Phase) (b : ℕ) (y : b < 256) (g : Good p)
      → ((m : L.Message) → Taken L (L.gathered p) (L.front p b) (L.on_byte p b).0 m → Q m) → Accepts Q (L.on_byte p b).1
  accepted_is Q p b y g f = accepts-map (Taken L (L.gathered p) (L.front p b) (L.on_byte p b).0) Q (L.on_byte p b).1 f (laws.takes p b y g).accepts

  pub accounted : Accounted L
  accounted bs y =
      partition L.frame L.held L.on_byte Good good_next (λ p b y g. (laws.takes p b y g).holds) L.hunting bs y laws.reached.good_first
      ∙ ap (λ (w : List ℕ). w ++ bs) laws.reached.held_first

  -- what is known of an accepted message: it may be sent, and its numbers fit their types where its frame is of bytes
  abbrev pub Writable : L.Message → Type 0
  Writable m = (L.ok m ≡ true) × (Bytes (L.frame m) → L.Typed m)

  pub all-writable : (bs : List ℕ) → Bytes bs → AllAccept Writable (segments L bs)
  all-writable bs y =
      all-accepted L.frame L.held L.on_byte Good good_next Writable (λ p b y g. accepted_is Writable p b y g (λ m t. (t.may, t.typed)))
      L.hunting bs y laws.reached.good_first

  pub canonical : Canonical L
  canonical bs y before after m e = (known.0, known.1 (bytes_right earlier (L.frame m) (bytes_left (earlier ++ L.frame m) later whole_bytes)), whole)
    where
      earlier : List ℕ
      earlier = wires L.frame before

      later : List ℕ
      later = wires L.frame after ++ open_at L bs

      known : Writable m
      known = accept_at Writable before after m (subst (λ (ss : List (Segment L.Message)). AllAccept Writable ss) e (all-writable bs y))

      whole : bs ≡ earlier ++ L.frame m ++ wires L.frame after ++ open_at L bs
      whole =
          sym (accounted bs y)
          ∙ ap (λ (ss : List (Segment L.Message)). wires L.frame ss ++ open_at L bs) e
          ∙ ap (λ (w : List ℕ). w ++ open_at L bs)
          (wires_append L.frame before (accepted_frame m ∷ after) ∙ sym (append_assoc earlier (L.frame m) (wires L.frame after)))

      whole_bytes : Bytes ((earlier ++ L.frame m) ++ later)
      whole_bytes = subst Bytes (whole ∙ append_assoc (earlier ++ L.frame m) (wires L.frame after) (open_at L bs)) y

  -- what a caller makes of an event, through what it is told
  abbrev view : Lent L → Option (Event L.Message) → Option (Event L.Message)
  view c o = heard_in L c.1 (told L o)

  view_some : (c : Lent L) (e : Event L.Message) → (f : Event L.Message) × (view c (some e) ≡ some f)
  view_some c (message m) = (message (L.message_of c.1 (L.numbers_of m)), refl)
  view_some c (refusal n) = (refusal n, refl)

  view_event : (c : Lent L) (o : Option (Segment L.Message)) → Accepts (λ m. L.message_of c.1 (L.numbers_of m) ≡ m) o → view c (event_of o) ≡ event_of o
  view_event c none h = refl
  view_event c (some (noise bs)) h = refl
  view_event c (some (refused_frame n bs)) h = refl
  view_event c (some (accepted_frame m)) h = ap (λ (x : L.Message). some (message x)) h

  -- a state and a store stand for a phase and a noise count
  pub record Stands (c : Lent L) (a : Config L.Phase) : Type 0 where
    pub phase : L.phase_of c.0 c.1 ≡ a.phase
    pub known : L.known c.0 ≡ true
    pub noise : L.noise c.0 ≡ a.noise
    next : (b : ℕ) → b < 256
        → L.state_after c.0 (L.on_byte a.phase b).0 (L.on_byte a.phase b).1 ≡ laws.state_of (L.on_byte a.phase b).0 (noise_after (L.on_byte a.phase b).1 a.noise)
    store : take (length (L.gathered a.phase)) c.1 ≡ L.gathered a.phase
    pub room : L.size ≤ length c.1
    good : Good a.phase

  -- and count what is open, as they do from the first byte on
  pub record Counts (c : Lent L) (a : Config L.Phase) : Type 0 where
    pub stands : Stands c a
    pub «open» : L.«open» c.0 ≡ length (L.held a.phase)

  counts_of_lem : (p : L.Phase) (n : ℕ) (s : L.State) (store : List ℕ) → s ≡ laws.state_of p n → Good p
      → take (length (L.gathered p)) store ≡ L.gathered p → L.size ≤ length store → Counts (s, store) (at p n)
  counts_of_lem p n s store e g h r =
      subst (λ (x : L.State). Counts (x, store) (at p n)) (sym e)
      (record {
        stands = record {
          phase = laws.phase_of_lem p n store g h;
          known = laws.known_of p n g;
          noise = laws.noise_of_lem p n;
          next = λ b y. let t = laws.takes p b y g in laws.state_next p (L.on_byte p b).0 (L.on_byte p b).1 n b t.holds (laws.reached.few (L.on_byte p b).0 t.good);
          store = h;
          room = r;
          good = g;
        };
        «open» = laws.open_of p n;
      })

  -- one byte
  alike : (c : Lent L) (a : Config L.Phase) (b : ℕ) → b < 256 → Stands c a
      → (view (step_on L c b).0 (step_on L c b).1 ≡ (step L.on_byte a b).1) × Counts (step_on L c b).0 (step L.on_byte a b).0
  alike c a b y r =
      subst
      (λ (p : L.Phase). (heard_in L (over (L.front p b) c.1) (told L (event_of (L.on_byte p b).1)) ≡ (step L.on_byte a b).1)
      × Counts (L.state_after c.0 (L.on_byte p b).0 (L.on_byte p b).1, over (L.front p b) c.1) (step L.on_byte a b).0) (sym r.phase) (
        view_event (c.0, over (L.front a.phase b) c.1) (L.on_byte a.phase b).1 (accepted_is _ a.phase b y r.good (λ m t. t.read c.1 r.store)),
        counts_of_lem (L.on_byte a.phase b).0 (noise_after (L.on_byte a.phase b).1 a.noise)
            (L.state_after c.0 (L.on_byte a.phase b).0 (L.on_byte a.phase b).1) (over (L.front a.phase b) c.1) (r.next b y)
            (good_next a.phase b y r.good) ((laws.takes a.phase b y r.good).stands c.1)
            (rw (over-length (L.front a.phase b) c.1 (omega (arith, (laws.takes a.phase b y r.good).fits, r.room))) r.room),
      )

  -- any bytes
  pub counts_last : (c : Lent L) (a : Config L.Phase) (bs : List ℕ) → Bytes bs → Counts c a → Counts (last (step_on L) c bs) (last (step L.on_byte) a bs)
  counts_last c a [] y r = r
  counts_last c a (b ∷ bs) y r = counts_last (step_on L c b).0 (step L.on_byte a b).0 bs (λ i. y (suc i)) (alike c a b (y 0) r.stands).1

  -- one call
  pub follows : (c : Lent L) (a : Config L.Phase) (bs : List ℕ) → Bytes bs → Counts c a → Follows Counts (called L c bs) (feed (step L.on_byte) a bs)
  follows c a bs y r =
      rw (r.stands.known, le-leb L.size (length c.1) r.stands.room)
      (feed_follows (step_on L) view (step L.on_byte) Counts (λ _. refl) view_some (λ c a b y r. alike c a b y r.stands) c a bs y r)

  -- what is known of an event: an accepted message may be sent, and its numbers fit their types
  abbrev pub Sound : Option (Event L.Message) → Type 0
  Sound none = Unit
  Sound (some (message m)) = (L.ok m ≡ true) × L.Typed m
  Sound (some (refusal n)) = Unit

  abbrev HeldBytes : L.Phase → Type 0
  HeldBytes p = Bytes (L.held p)

  -- where what is held and what comes are bytes, the event is so, and what is then held are bytes
  feed_sound : (p : L.Phase) (n : ℕ) (bs : List ℕ) → Bytes bs → Good p → HeldBytes p
      → let f = feed (step L.on_byte) (at p n) bs in Sound f.event × HeldBytes f.after.phase
  feed_sound p n [] y g h = (tt, h)
  feed_sound p n (b ∷ bs) y g h =
      go (L.on_byte p b).1 t (laws.takes p b (y 0) g).accepts
      (feed_sound q (noise_after (L.on_byte p b).1 n) bs (λ i. y (suc i)) (good_next p b (y 0) g) (bytes_right (wire_opt L.frame (L.on_byte p b).1) (L.held q) t))
    where
      q : L.Phase
      q = (L.on_byte p b).0

      t : Bytes (wire_opt L.frame (L.on_byte p b).1 ++ L.held q)
      t = subst Bytes (sym (laws.takes p b (y 0) g).holds) (bytes_more (L.held p) b h (y 0))

      next : Config L.Phase
      next = at q (noise_after (L.on_byte p b).1 n)

      rest : Fed (Event L.Message) (Config L.Phase)
      rest = feed (step L.on_byte) next bs

      go : (o : Option (Segment L.Message)) → Bytes (wire_opt L.frame o ++ L.held q) → Accepts (Taken L (L.gathered p) (L.front p b) q) o
          → Sound rest.event × HeldBytes rest.after.phase
          → Sound (stop next (event_of o) rest).event × HeldBytes (stop next (event_of o) rest).after.phase
      go none w a ih = ih
      go (some (noise x)) w a ih = ih
      go (some (refused_frame k x)) w a ih = (tt, bytes_right x (L.held q) w)
      go (some (accepted_frame m)) w a ih = ((a.may, a.typed (bytes_left (L.frame m) (L.held q) w)), bytes_right (L.frame m) (L.held q) w)

  -- so of a call
  pub called_sound : (c : Lent L) (a : Config L.Phase) (bs : List ℕ) → Bytes bs → Counts c a → HeldBytes a.phase
      → Sound (called L c bs).event × HeldBytes (feed (step L.on_byte) a bs).after.phase
  called_sound c a bs y r h =
      let s = feed_sound a.phase a.noise bs y r.stands.good h in
      (subst Sound (sym (follows c a bs y r).event) s.0, s.1)

  -- the same of at least a byte, where `open` holds anything at first
  follows_from : (c : Lent L) (a : Config L.Phase) (bs : List ℕ) → 0 < length bs → Bytes bs → Stands c a → Follows Counts (called L c bs) (feed (step L.on_byte) a bs)
  follows_from c a [] h y r = absurd (omega arith)
  follows_from c a (b ∷ bs) h y r =
      rw (r.known, le-leb L.size (length c.1) r.room)
      (feed_from (step_on L) view (step L.on_byte) Counts (λ _. refl) view_some (λ c a b y r. alike c a b y r.stands) c a b bs y (alike c a b (y 0) r))

  -- and of the events themselves, as they are before they are told
  follows_untold : (c : Lent L) (a : Config L.Phase) (bs : List ℕ) → Bytes bs → Counts c a → Follows Counts (call_on L c bs) (feed (step L.on_byte) a bs)
  follows_untold c a bs y r =
      rw (r.stands.known, le-leb L.size (length c.1) r.stands.room)
      (feed_follows (step_on L) (λ _ o. o) (step L.on_byte) Counts (λ _. refl) (λ _ e. (e, refl))
      (λ c a b y r. (ap (λ (p : L.Phase). event_of (L.on_byte p b).1) r.stands.phase, (alike c a b y r.stands).1)) c a bs y r)

  -- a call that gives a message leaves nothing open
  closes : (p : L.Phase) (n : ℕ) (bs : List ℕ) (m : L.Message) → Bytes bs → Good p → (feed (step L.on_byte) (at p n) bs).event ≡ some (message m)
      → (feed (step L.on_byte) (at p n) bs).after.phase ≡ L.hunting
  closes p n [] m y g e = absurd (none-ne-some (message m) e)
  closes p n (b ∷ bs) m y g e =
      go (L.on_byte p b).1 (accepted_is (λ m. (L.on_byte p b).0 ≡ L.hunting) p b (y 0) g (λ m t. t.hunts))
      (closes (L.on_byte p b).0 (noise_after (L.on_byte p b).1 n) bs m (λ i. y (suc i)) (good_next p b (y 0) g)) e
    where
      next : Config L.Phase
      next = at (L.on_byte p b).0 (noise_after (L.on_byte p b).1 n)

      rest : Fed (Event L.Message) (Config L.Phase)
      rest = feed (step L.on_byte) next bs

      go : (o : Option (Segment L.Message)) → Accepts (λ m. (L.on_byte p b).0 ≡ L.hunting) o
          → (rest.event ≡ some (message m) → rest.after.phase ≡ L.hunting)
          → (stop next (event_of o) rest).event ≡ some (message m) → (stop next (event_of o) rest).after.phase ≡ L.hunting
      go none a ih e = ih e
      go (some (noise bs)) a ih e = ih e
      go (some (refused_frame k bs)) a ih e = absurd (let z : ◌≡◌ {A = ℕ} 0 1 = cc in omega arith)
      go (some (accepted_frame k)) a ih e = a

  pub last_closed : (bs : List ℕ) (m : L.Message) → Bytes bs → (feed (step L.on_byte) (at L.hunting 0) bs).event ≡ some (message m)
      → L.held (feed (step L.on_byte) (at L.hunting 0) bs).after.phase ≡ []
  last_closed bs m y e = ap L.held (closes L.hunting 0 bs m y laws.reached.good_first e) ∙ laws.reached.held_first

  pub counts_fresh : (store : List ℕ) → L.size ≤ length store → Counts (L.fresh, store) (at L.hunting 0)
  counts_fresh store room = counts_of_lem L.hunting 0 L.fresh store laws.fresh_first laws.reached.good_first (rw laws.reached.gathered-first) room

  -- a call with a fresh state is a call by the rules, also as its caller has it
  module _ (store bs : List ℕ) (y : Bytes bs) (room : L.size ≤ length store) where
    pub fresh_follows : ((call_on L (L.fresh, store) bs).event ≡ (feed (step L.on_byte) (at L.hunting 0) bs).event)
        × ((call_on L (L.fresh, store) bs).used ≡ (feed (step L.on_byte) (at L.hunting 0) bs).used)
        × (L.noise (call_on L (L.fresh, store) bs).after.0 ≡ (feed (step L.on_byte) (at L.hunting 0) bs).after.noise)
    fresh_follows =
        let f = follows_untold (L.fresh, store) (at L.hunting 0) bs y (counts_fresh store room) in
        (f.event, f.used, f.after.stands.noise)

    pub fresh_called : (called L (L.fresh, store) bs).event ≡ (feed (step L.on_byte) (at L.hunting 0) bs).event
    fresh_called = (follows (L.fresh, store) (at L.hunting 0) bs y (counts_fresh store room)).event

  -- a stream in pieces, as a caller with a fresh state drives it, is the uncut stream by the rules
  pub driven : (pieces : List (List ℕ)) (store : List ℕ) → Bytes (join pieces) → L.size ≤ length store
      → ((drive (called L) (L.fresh, store) pieces).0 ≡ events (step L.on_byte) (at L.hunting 0) (join pieces))
      × Counts (drive (called L) (L.fresh, store) pieces).1 (last (step L.on_byte) (at L.hunting 0) (join pieces))
  driven pieces store y room = cutting (called L) (step L.on_byte) Counts follows (L.fresh, store) (at L.hunting 0) pieces y (counts_fresh store room)

  pub cut_anywhere : CutAnywhere L
  cut_anywhere pieces store y room =
      let r = driven pieces store y room in
      record {
        hears = r.0 ∙ heard-events L.on_byte (at L.hunting 0) (join pieces);
        noise = r.1.stands.noise ∙ noise_last L.on_byte (at L.hunting 0) (join pieces) (omega arith) ∙ rw zero-add;
        «open» = r.1.«open» ∙ ap (λ (p : L.Phase). length (L.held p)) (phase_last L.on_byte (at L.hunting 0) (join pieces));
      }

  -- a call that hands out an event does not look at what follows
  called_stops : (c : Lent L) (xs ys : List ℕ) (v : Event L.Message) → L.known c.0 ≡ true → L.size ≤ length c.1
      → (called L c xs).event ≡ some v → called L c (xs ++ ys) ≡ called L c xs
  called_stops c xs ys v k r =
      rw (k, le-leb L.size (length c.1) r)
      (λ h. let w = untold (feed (step_on L) c xs).event h in
      ap (λ (f : Fed (Event L.Message) (Lent L)). record { event = view f.after f.event; used = f.used; after = f.after }) (feed_stops (step_on L) c xs ys w.0 w.1))
    where
      untold : (o : Option (Event L.Message)) → heard_in L (feed (step_on L) c xs).after.1 (told L o) ≡ some v → (e : Event L.Message) × (o ≡ some e)
      untold none h = absurd (none-ne-some v h)
      untold (some e) h = (e, refl)

  pub reads_back : ReadsBack L
  reads_back m memory rest s store t o h k p room =
      record {
        answers = ap (λ (w : Outcome ℕ × List ℕ). w.0) (written-frame L m memory o h);
        hears = ap (λ (f : Heard). f.event) same ∙ f.event ∙ ap (λ (f : Ruled). f.event) e;
        uses = ap (λ (f : Heard). f.used) same ∙ f.used ∙ ap (λ (f : Ruled). f.used) e;
        quiet = ap (λ (f : Heard). L.noise f.after.0) same ∙ f.after.stands.noise ∙ ap (λ (f : Ruled). f.after.noise) e;
        known = ap (λ (f : Heard). L.known f.after.0) same ∙ f.after.stands.known;
        hunts = ap (λ (f : Heard). L.phase_of f.after.0 f.after.1) same ∙ f.after.stands.phase ∙ ap (λ (f : Ruled). f.after.phase) e;
        closed = ap (λ (f : Heard). L.«open» f.after.0) same ∙ f.after.«open» ∙ ap (λ (f : Ruled). length (L.held f.after.phase)) e ∙ ap length laws.reached.held_first;
      }
    where
      Heard : Type 0
      Heard = Fed (Event L.Message) (Lent L)

      Ruled : Type 0
      Ruled = Fed (Event L.Message) (Config L.Phase)

      stands : Stands (s, store) (at L.hunting (L.noise s))
      stands =
          record {
            phase = p;
            known = k;
            noise = refl;
            next = λ b y. laws.state_leaves s store (L.on_byte L.hunting b).0 (L.on_byte L.hunting b).1 p;
            store = rw laws.reached.gathered-first;
            room = room;
            good = laws.reached.good_first;
          }

      f : Follows Counts (called L (s, store) (L.frame m)) (feed (step L.on_byte) (at L.hunting (L.noise s)) (L.frame m))
      f = follows_from (s, store) (at L.hunting (L.noise s)) (L.frame m) (laws.frame_filled m) (laws.frame_bytes m t o) stands

      e : feed (step L.on_byte) (at L.hunting (L.noise s)) (L.frame m)
          ≡ record { event = some (message m); used = length (L.frame m); after = at L.hunting (L.noise s) }
      e = ap (feed (step L.on_byte) (at L.hunting (L.noise s))) (sym (append-nil (L.frame m))) ∙ laws.reads-frame m [] (L.noise s) t o

      -- the call is that on the frame alone
      same : called L (s, store) (take (length (L.frame m)) (writes L.ok L.frame m memory).1 ++ rest) ≡ called L (s, store) (L.frame m)
      same =
          ap (λ (w : List ℕ). called L (s, store) (w ++ rest))
          (ap (λ (w : Outcome ℕ × List ℕ). take (length (L.frame m)) w.1) (written-frame L m memory o h) ∙ part_sets memory 0 (L.frame m) (omega arith))
          ∙ called_stops (s, store) (L.frame m) rest (message m) k room (f.event ∙ ap (λ (f : Ruled). f.event) e)
