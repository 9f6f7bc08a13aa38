-- Which numbers a link refuses with: what each link has to show of each byte and of some streams, and what follows of streams, calls and reads.
use Rattle.std.proofs.Common.{◌≡◌, ℕ, zero, suc, ◌+◌, ◌<◌, ◌≤◌, Bool, true, false, cond, ◌&&◌, ◌||◌, eqb, ltb, leb, List, [], ◌∷◌, ◌++◌, length, drop, replicate, sym, refl, ap, ◌∙◌, subst, append-nil, le_refl, arith, lit<, length-append, ltb-true, eqb-true, le-leb}
use mathlib.Core.Bool.{false≢true}
use mathlib.Core.Option.{Option, none, some}
use lib.ListN.{length-replicate}
use lib.Seq.{append_snoc}
use borrow.Author.Tests.{lt-leb}
use Rattle.runs.specs.Runs.{Bytes}
use Rattle.runs.proofs.Bytes.{bytes_one, bytes_more, bytes_append}
use Rattle.runs.proofs.Cases.{and_both}
use Rattle.framing.specs.Answer as Answer
use Rattle.framing.specs.Receiver.{Fed, emit, stop, feed, events}
use Rattle.framing.specs.Segment.{Segment, noise, refused_frame, accepted_frame, Event, message, refusal, event_of, heard}
use Rattle.framing.specs.Link.{Link, Lent, refused, step_on, refuses, call_on, told}
use Rattle.framing.specs.Claims.{AllOf, segments}
use Rattle.framing.specs.Whole.{settle, exactly, read_on}
use Rattle.framing.specs.Refusals.{is_in, StreamGives, GivesExactly, CallGives, ReceiveGives, ReadGives, ReadsGive, WritesGive}
use Rattle.framing.proofs.Feed.{events-feed, Quiet, quiet_nil, quiet_cons, quiet_append, feed_event}
use Rattle.framing.proofs.Segments.{Config, step, step_open, step_refused, heard-events}
use Rattle.framing.proofs.Lawful.{Lawful, at, fresh_follows}
use Rattle.framing.proofs.Tests.{by_two}
use Rattle.framing.proofs.Stored.{by_writer}

differ : {A : Type 0} → ◌≡◌ {A = ℕ} 0 1 → A
differ e = absurd (omega arith)

-- what holds of each number of a list holds of a number in it
pub all_in : (P : ℕ → Type 0) (ms : List ℕ) (n : ℕ) → AllOf P ms → is_in n ms ≡ true → P n
all_in P [] n a h = absurd (false≢true h)
all_in P (m ∷ ms) n a h = go (eqb n m) (eqb-true n m) (all_in P ms n a.1) h
  where
    go : (t : Bool) → (t ≡ true → n ≡ m) → (is_in n ms ≡ true → P n) → t || is_in n ms ≡ true → P n
    go true e k h = subst P (sym (e refl)) a.0
    go false e k h = k h

-- every number of a list passes a test, which the checker works out
abbrev pub every : (ℕ → Bool) → List ℕ → Bool
every test [] = true
every test (n ∷ ns) = test n && every test ns

every_in : (test : ℕ → Bool) (ns : List ℕ) (n : ℕ) → every test ns ≡ true → is_in n ns ≡ true → test n ≡ true
every_in test ns n h = all_in (λ n. test n ≡ true) ns n (all ns h)
  where
    all : (ns : List ℕ) → every test ns ≡ true → AllOf (λ n. test n ≡ true) ns
    all [] h = tt
    all (n ∷ ns) h = let t = and_both (test n) (every test ns) h in (t.0, all ns t.1)

pub in_more : (n : ℕ) (ms : List ℕ) (m : ℕ) → is_in n ms ≡ true → is_in n (m ∷ ms) ≡ true
in_more n ms m h = go (eqb n m)
  where
    go : (t : Bool) → t || is_in n ms ≡ true
    go true = refl
    go false = h

none_bytes : Bytes []
none_bytes i = lit< tt

-- bytes, by a test that the checker works out
abbrev pub small : List ℕ → Bool
small [] = true
small (b ∷ bs) = ltb b 256 && small bs

small_bytes : (bs : List ℕ) → small bs ≡ true → Bytes bs
small_bytes [] h = none_bytes
small_bytes (b ∷ bs) h = let t = and_both (ltb b 256) (small bs) h in bytes_append (b ∷ []) bs (bytes_one b (ltb-true b 256 t.0)) (small_bytes bs t.1)

replicate_bytes : (n b : ℕ) → b < 256 → Bytes (replicate n b)
replicate_bytes zero b h = none_bytes
replicate_bytes (suc n) b h = bytes_append (b ∷ []) (replicate n b) (bytes_one b h) (replicate_bytes n b h)

-- either of two that a test picks
pub either : {A : Type 0} (P : A → Type 0) (t : Bool) {x y : A} → P x → P y → P (cond t x y)
either P true h k = h
either P false h k = k

all-at : {A : Type 0} (P : A → Type 0) (before after : List A) (x : A) → AllOf P (before ++ (x ∷ after)) → P x
all-at P [] after x a = a.0
all-at P (y ∷ before) after x a = all-at P before after x a.1

-- a number of a list, or 0, as a list of tests gives it
pub record Listed (numbers : List ℕ) (n : ℕ) : Type 0 where
  pub listed : (n ≡ 0 → ⊥) → is_in n numbers ≡ true

pub none_listed : (numbers : List ℕ) → Listed numbers 0
none_listed numbers = record { listed = λ n. absurd (n refl) }

-- of the segment that a byte closes, and of what is heard: a refusal's number is in a list
abbrev pub Closes : {M : Type 0} → List ℕ → Option (Segment M) → Type 0
Closes numbers none = Unit
Closes numbers (some (noise bs)) = Unit
Closes numbers (some (refused_frame n bs)) = is_in n numbers ≡ true
Closes numbers (some (accepted_frame m)) = Unit

abbrev Hears : {M : Type 0} → List ℕ → Option (Event M) → Type 0
Hears numbers none = Unit
Hears numbers (some (message m)) = Unit
Hears numbers (some (refusal n)) = is_in n numbers ≡ true

hears_event : {M : Type 0} (numbers : List ℕ) (o : Option (Segment M)) → Closes numbers o → Hears numbers (event_of o)
hears_event numbers none h = tt
hears_event numbers (some (noise bs)) h = tt
hears_event numbers (some (refused_frame n bs)) h = h
hears_event numbers (some (accepted_frame m)) h = tt

hears_stop : {C M : Type 0} (numbers : List ℕ) (c : C) (o : Option (Event M)) (f : Fed (Event M) C) → Hears numbers o → Hears numbers f.event
    → Hears numbers (stop c o f).event
hears_stop numbers c none f h k = k
hears_stop numbers c (some e) f h k = h

hears_more : {M : Type 0} (numbers : List ℕ) (m : ℕ) (o : Option (Event M)) → Hears numbers o → Hears (m ∷ numbers) o
hears_more numbers m none h = tt
hears_more numbers m (some (message x)) h = tt
hears_more numbers m (some (refusal n)) h = in_more n numbers m h

-- the first refusal that is heard of segments is one of them
heard-first : {M : Type 0} (ss : List (Segment M)) (n : ℕ) (es : List (Event M)) → heard ss ≡ refusal n ∷ es
    → (before : List (Segment M)) × (wire : List ℕ) × (after : List (Segment M)) × (ss ≡ before ++ (refused_frame n wire ∷ after))
heard-first [] n es h = differ (cc)
heard-first (noise bs ∷ ss) n es h =
    let (before, wire, after, e) = heard-first ss n es h in
    (noise bs ∷ before, wire, after, ap (λ (x : List (Segment _)). noise bs ∷ x) e)
heard-first (refused_frame k bs ∷ ss) n es h = let e : k ≡ n = cc in ([], bs, ss, ap (λ (x : ℕ). refused_frame x bs ∷ ss) e)
heard-first (accepted_frame m ∷ ss) n es h = differ (cc)

module _ (L : Link) where
  -- some bytes of which, read from hunting, a refusal with n is heard first
  pub record First (n : ℕ) : Type 0 where
    pub stream : List ℕ
    pub bytes : Bytes stream
    pub hears : (feed (step L.on_byte) (at L.hunting 0) stream).event ≡ some (refusal n)

  -- bytes that the checker reads
  pub shown : (n : ℕ) (stream : List ℕ) → small stream ≡ true → (feed (step L.on_byte) (at L.hunting 0) stream).event ≡ some (refusal n) → First n
  shown n stream y e = record { stream = stream; bytes = small_bytes stream y; hears = e }

  -- a start and then one byte again and again, gathered until the link's size is reached
  module _ (inside : List ℕ → L.Phase) (b : ℕ) (more : (g : List ℕ) → length g < L.size → L.on_byte (inside g) b ≡ (inside (g ++ (b ∷ [])), none)) where
    fills : (n : ℕ) (g : List ℕ) → length g + n ≤ L.size
        → Quiet (step L.on_byte) (at (inside g) 0) (replicate n b) (at (inside (g ++ replicate n b)) 0)
    fills zero g h = rw append-nil (quiet_nil (step L.on_byte) (at (inside g) 0))
    fills (suc n) g h =
        quiet_cons (step L.on_byte) (step_open L.on_byte (inside g) (inside (g ++ (b ∷ []))) 0 b (more g (omega arith)))
        (rw append_snoc at (fills n (g ++ (b ∷ [])) (simp length-append (omega arith))))

    pub too_long_lem : (n : ℕ) (start : List ℕ) → Bytes start → b < 256 → Quiet (step L.on_byte) (at L.hunting 0) start (at (inside []) 0)
        → ((g : List ℕ) → length g ≡ L.size → (wire : List ℕ) × (L.on_byte (inside g) b ≡ (L.hunting, some (refused_frame n wire)))) → First n
    too_long_lem n start y z opens full =
        let run : List ℕ = replicate L.size b in
        let long : length run ≡ L.size = length-replicate L.size b in
        let over = full run long in
        record {
          stream = start ++ run ++ (b ∷ []) ++ [];
          bytes = bytes_append (start ++ run ++ (b ∷ [])) [] (bytes_more (start ++ run) b (bytes_append start run y (replicate_bytes L.size b z)) z) none_bytes;
          hears = ap (λ (f : Fed (Event L.Message) (Config L.Phase)). f.event)
              (feed_event (step L.on_byte) (start ++ run) b [] (quiet_append (step L.on_byte) start opens (fills L.size [] (omega arith)))
              (step_refused L.on_byte (inside run) L.hunting 0 b n over.0 over.1));
        }

  -- what a link has to show: no byte closes a frame with another number, and each is the first that some stream gives; some state is unknown
  pub record Given (numbers : List ℕ) : Type 0 where
    pub only : (p : L.Phase) (b : ℕ) → Closes numbers (L.on_byte p b).1
    pub all : AllOf First numbers
    pub unknown : (s : L.State) × (L.known s ≡ false)
    pub sized : 0 < L.size

  module _ (laws : Lawful L) (numbers : List ℕ) (given : Given numbers) where
    all_close : (p : L.Phase) (bs : List ℕ) → AllOf (λ s. Closes numbers (some s)) (events L.on_byte p bs)
    all_close p [] = tt
    all_close p (b ∷ bs) = go (L.on_byte p b).1 (given.only p b) (all_close (L.on_byte p b).0 bs)
      where
        go : (o : Option (Segment L.Message)) → Closes numbers o → AllOf (λ s. Closes numbers (some s)) (events L.on_byte (L.on_byte p b).0 bs)
            → AllOf (λ s. Closes numbers (some s)) (emit o (events L.on_byte (L.on_byte p b).0 bs))
        go none h k = k
        go (some s) h k = (h, k)

    stream_gives : (n : ℕ) → First n → StreamGives L n
    stream_gives n f =
        let c = at L.hunting 0 in
        let fed = feed (step L.on_byte) c f.stream in
        let (before, wire, after, e) = heard-first (segments L f.stream) n (events (step L.on_byte) fed.after (drop fed.used f.stream))
        (sym (heard-events L.on_byte c f.stream) ∙ events-feed (step L.on_byte) c f.stream ∙ rw f.hears) in
        record { stream = f.stream; bytes = f.bytes; before = before; wire = wire; after = after; gives = e }

    pub gives_exactly : GivesExactly L numbers
    gives_exactly n = (
      λ h. stream_gives n (all_in First numbers n given.all h),
      λ g. all-at (λ s. Closes numbers (some s)) g.before g.after (refused_frame n g.wire)
          (subst (λ (ss : List (Segment L.Message)). AllOf (λ s. Closes numbers (some s)) ss) g.gives (all_close L.hunting g.stream)),
    )

    -- a call: of a fresh state with a store of the size it gives what is heard first
    abbrev store : List ℕ
    store = replicate L.size 0

    room : L.size ≤ length store
    room = rw (length-replicate {A = ℕ} L.size 0) (le_refl L.size)

    fresh_known : L.known L.fresh ≡ true
    fresh_known = ap L.known laws.fresh_first ∙ laws.known_of L.hunting 0 laws.reached.good_first

    first-called : (n : ℕ) (f : First n) → (call_on L (L.fresh, store) f.stream).event ≡ some (refusal n)
    first-called n f = (fresh_follows L laws store f.stream f.bytes room).0 ∙ f.hears

    short_called : (call_on L (L.fresh, []) []).event ≡ some (refusal 1)
    short_called = rw (fresh_known, lt-leb L.size 0 given.sized)

    hears_feed : (c : Lent L) (bs : List ℕ) → Hears numbers (feed (step_on L) c bs).event
    hears_feed c [] = tt
    hears_feed c (b ∷ bs) =
        hears_stop numbers (step_on L c b).0 (step_on L c b).1 (feed (step_on L) (step_on L c b).0 bs)
        (hears_event numbers (L.on_byte (L.phase_of c.0 c.1) b).1 (given.only (L.phase_of c.0 c.1) b)) (hears_feed (step_on L c b).0 bs)

    -- of an unknown state, 12; of a known one, 1 or what streams give
    hears_one : (list : List ℕ) (c : Lent L) (bs : List ℕ) → (L.known c.0 ≡ false → is_in 12 list ≡ true) → is_in 1 list ≡ true
        → Hears list (feed (step_on L) c bs).event → Hears list (call_on L c bs).event
    hears_one list c bs u s f =
        by_two (λ (g : Fed (Event L.Message) (Lent L)). Hears list g.event) (L.known c.0) (leb L.size (length c.1)) 12 1
        (feed (step_on L) c bs) (λ n. refuses L n c) refl refl u (λ _ _. s) (λ _ _. f)

    hears_known : (c : Lent L) (bs : List ℕ) → L.known c.0 ≡ true → Hears (1 ∷ numbers) (call_on L c bs).event
    hears_known c bs k =
        hears_one (1 ∷ numbers) c bs (λ u. absurd (false≢true (sym u ∙ k))) refl (hears_more numbers 1 (feed (step_on L) c bs).event (hears_feed c bs))

    hears_call : (c : Lent L) (bs : List ℕ) → Hears (12 ∷ 1 ∷ numbers) (call_on L c bs).event
    hears_call c bs =
        hears_one (12 ∷ 1 ∷ numbers) c bs (λ _. refl) refl
        (hears_more (1 ∷ numbers) 12 (feed (step_on L) c bs).event (hears_more numbers 1 (feed (step_on L) c bs).event (hears_feed c bs)))

    told_in : (list : List ℕ) (o : Option (Event L.Message)) (n : ℕ) → Hears list o → told L o ≡ refused n → is_in n list ≡ true
    told_in list none n h e = differ (cc)
    told_in list (some (message m)) n h e = differ (cc)
    told_in list (some (refusal k)) n h e = let z : k ≡ n = cc in subst (λ (x : ℕ). is_in x list ≡ true) z h

    pub receive_gives : ReceiveGives L numbers
    receive_gives n = (
      all_in (CallGives L) (12 ∷ 1 ∷ numbers) n gives,
      λ g. told_in (12 ∷ 1 ∷ numbers) (call_on L g.lent g.piece).event n (hears_call g.lent g.piece) g.tells,
    )
      where
        streams : (ms : List ℕ) → AllOf First ms → AllOf (CallGives L) ms
        streams [] a = tt
        streams (m ∷ ms) a = (
          record { lent = (L.fresh, store); piece = a.0.stream; bytes = a.0.bytes; tells = ap (told L) (first-called m a.0) },
          streams ms a.1,
        )

        gives : AllOf (CallGives L) (12 ∷ 1 ∷ numbers)
        gives = (
          record { lent = (given.unknown.0, []); piece = []; bytes = none_bytes; tells = rw given.unknown.1 },
          (
            record { lent = (L.fresh, []); piece = []; bytes = none_bytes; tells = ap (told L) short_called },
            streams numbers given.all,
          ),
        )

    -- a read: of a fresh state, so never 12; 6 where there is no event, or the run is not all of the frame
    settled_in : (t : Bool) (o : Option (Event L.Message)) (n : ℕ) → Hears (1 ∷ numbers) o → settle t (told L o) ≡ Answer.refused n
        → is_in n (6 ∷ 1 ∷ numbers) ≡ true
    settled_in t none n h e = let z : ◌≡◌ {A = ℕ} 6 n = cc in subst (λ (x : ℕ). is_in x (6 ∷ 1 ∷ numbers) ≡ true) z refl
    settled_in true (some (message m)) n h e = differ (cc)
    settled_in false (some (message m)) n h e = let z : ◌≡◌ {A = ℕ} 6 n = cc in subst (λ (x : ℕ). is_in x (6 ∷ 1 ∷ numbers) ≡ true) z refl
    settled_in t (some (refusal k)) n h e =
        let z : k ≡ n = cc in
        in_more n (1 ∷ numbers) 6 (subst (λ (x : ℕ). is_in x (1 ∷ numbers) ≡ true) z h)

    read_listed : (run lent : List ℕ) (n : ℕ) → (read_on L run lent).0 ≡ Answer.refused n → is_in n (6 ∷ 1 ∷ numbers) ≡ true
    read_listed run lent n e =
        let f = call_on L (L.fresh, lent) run in
        settled_in (exactly (length run) f.used (L.noise f.after.0)) f.event n (hears_known (L.fresh, lent) run fresh_known) e

    read_first_lem : (n : ℕ) (run lent : List ℕ) → (call_on L (L.fresh, lent) run).event ≡ some (refusal n) → (read_on L run lent).0 ≡ Answer.refused n
    read_first_lem n run lent e = rw e

    pub read_passes : (test : ℕ → Bool) → every test (6 ∷ 1 ∷ numbers) ≡ true → (run lent : List ℕ) (n : ℕ) → (read_on L run lent).0 ≡ Answer.refused n → test n ≡ true
    read_passes test t run lent n e = every_in test (6 ∷ 1 ∷ numbers) n t (read_listed run lent n e)

    -- the numbers of the reads are 6, 1 and those, in whatever order a list has them
    pub reads_give : (list : List ℕ) → every (λ n. is_in n list) (6 ∷ 1 ∷ numbers) ≡ true → every (λ n. is_in n (6 ∷ 1 ∷ numbers)) list ≡ true → ReadsGive L list
    reads_give list there here n = (
      λ h. all_in (ReadGives L) (6 ∷ 1 ∷ numbers) n gives (every_in (λ n. is_in n (6 ∷ 1 ∷ numbers)) list n here h),
      λ g. read_passes (λ n. is_in n list) there g.run g.store n g.answers,
    )
      where
        streams : (ms : List ℕ) → AllOf First ms → AllOf (ReadGives L) ms
        streams [] a = tt
        streams (m ∷ ms) a = (
          record { run = a.0.stream; store = store; bytes = a.0.bytes; answers = read_first_lem m a.0.stream store (first-called m a.0) },
          streams ms a.1,
        )

        gives : AllOf (ReadGives L) (6 ∷ 1 ∷ numbers)
        gives = (
          record { run = []; store = store; bytes = none_bytes; answers = rw (fresh_known, le-leb L.size (length store) room) },
          (
            record { run = []; store = []; bytes = none_bytes; answers = read_first_lem 1 [] [] short_called },
            streams numbers given.all,
          ),
        )

-- a writer
pub writes_give : (L : Link) → WritesGive L
writes_give L m memory n =
    by_writer L.ok L.frame m memory (λ w. w.0 ≡ Answer.refused n → is_in n (3 ∷ 2 ∷ []) ≡ true)
    (λ _ e. let z : ◌≡◌ {A = ℕ} 3 n = cc in subst (λ (x : ℕ). is_in x (3 ∷ 2 ∷ []) ≡ true) z refl)
    (λ _ _ e. let z : ◌≡◌ {A = ℕ} 2 n = cc in subst (λ (x : ℕ). is_in x (3 ∷ 2 ∷ []) ≡ true) z refl) (λ _ _ e. differ (cc))
