-- A call that ends in refusal 8 leaves the gathered bytes in the store; in a stream they are those of the refused frame.
use Prim.Native.Nat.{ℕ, suc, ◌-◌, ◌≤◌, ◌<◌}
use mathlib.Core.Path.{◌≡◌, refl, ap, sym, ◌∙◌, subst}
use mathlib.Core.List.{List, [], ◌∷◌, ◌++◌, append-nil, append_assoc}
use mathlib.Core.Option.{Option, some, none-ne-some}
use native.Mathlib.Omega.{arith}
use lib.Dec.{leb}
use lib.ListN.{length, get_or, take, drop, take-append-drop}
use lib.Seq.{take-append_seam, take-suc}
use borrow.Author.Tests.{le-leb}
use Rattle.runs.specs.Runs.{Bytes, over}
use Rattle.runs.proofs.Bytes.{bytes_left, bytes_right, bytes_append, bytes_take}
use Rattle.runs.proofs.Cases.{by_eqb, by_ltb}
use Rattle.framing.specs.Receiver.{Fed, feed, emit, last, join}
use Rattle.framing.specs.Segment.{Segment, refused_frame, Event, refusal, event_of, wires}
use Rattle.framing.specs.Link.{Lent, step_on, refuses, call_on}
use Rattle.framing.specs.Claims.{segments}
use Rattle.framing.proofs.Tests.{by_two}
use Rattle.framing.proofs.Feed.{last_byte, used_some, used_le, events_append, last_append}
use Rattle.framing.proofs.Segments.{Config, step, phase_last}
use Rattle.framing.proofs.Lawful.{at, Counts, counts_last, driven, accounted}
use Rattle.framing.specs.declared.State.{State}
use Rattle.escape.specs.Code.{Meaning, byte, waits, start, end, wrong, meaning, hide}
use Rattle.escape.specs.Expansion.{expansion}
use Rattle.expansion.specs.Frame.{Message, enclose, frame}
use Rattle.expansion.specs.Rules.{Phase, hunting, inside, size, gathered, held, fault_of, act, on_byte}
use Rattle.expansion.specs.Contract.{phase_of, link}
use Rattle.expansion.specs.Claims.{gathered_before, Stands, RefusedHeader, after_stream, RefusedAsSent}
use Rattle.expansion.proofs.Passed.{checked_long}
use Rattle.expansion.proofs.Meanings.{Meant, meant}
use Rattle.expansion.proofs.Lawful.{lawful}

other : (n : ℕ) → (n ≡ 8 → ⊥) → ◌≡◌ {A = Option (Event Message)} (some (refusal n)) (some (refusal 8)) → ⊥
other n h e = h (cc)

-- a byte of an open frame that gives 8 ends a frame with enough gathered
record Eight (g wire : List ℕ) (m : Meaning) (r : Phase × Option (Segment Message)) : Type 0 where
  ended : m ≡ end
  long : 8 ≤ length g
  closes : r ≡ (hunting, some (refused_frame 8 wire))

act_eight : (g before wire : List ℕ) (m : Meaning) → event_of (act g before wire m).1 ≡ some (refusal 8) → Eight g wire m (act g before wire m)
act_eight g before wire (byte b) =
    by_ltb (λ (r : Phase × Option (Segment Message)). event_of r.1 ≡ some (refusal 8) → Eight g wire (byte b) r) (length g) size
    (λ _ e. absurd (none-ne-some _ e)) (λ _ e. absurd (other 5 (λ q. omega arith) e))
act_eight g before wire waits = λ e. absurd (none-ne-some _ e)
act_eight g before wire start = λ e. absurd (other 4 (λ q. omega arith) e)
act_eight g before wire end =
    by_eqb Q (fault_of g) 0 (λ _ e. absurd (let z : ◌≡◌ {A = ℕ} 0 1 = cc in omega arith))
    (λ _ e. let n : fault_of g ≡ 8 = cc in
    record { ended = refl; long = checked_long g n; closes = ap (λ (k : ℕ). (hunting, some (refused_frame k wire))) n })
  where
    Q : Segment Message → Type 0
    Q s = event_of (some s) ≡ some (refusal 8) → Eight g wire end (hunting, some s)
act_eight g before wire wrong = λ e. absurd (other 7 (λ q. omega arith) e)

hunting_quiet : (b : ℕ) → event_of (on_byte hunting b).1 ≡ some (refusal 8) → ⊥
hunting_quiet b =
    by_eqb (λ (r : Phase × Option (Segment Message)). event_of r.1 ≡ some (refusal 8) → ⊥) b 0xFD (λ _ e. none-ne-some _ e) (λ _ e. none-ne-some _ e)

-- in any phase: enough was gathered, and what is refused is what was held, with the byte ..
byte_eight : (p : Phase) (b : ℕ) → event_of (on_byte p b).1 ≡ some (refusal 8) → (8 ≤ length (gathered p)) × (on_byte p b ≡ (hunting, some (refused_frame 8 (held p ++ (b ∷ [])))))
byte_eight hunting b e = absurd (hunting_quiet b e)
byte_eight (inside w g) b e =
    let h = act_eight g (held (inside w g)) (held (inside w g) ++ (b ∷ [])) (meaning expansion w b) e in
    (h.long, h.closes)

-- .. that is the gathered bytes, hidden between the marks
enclosed : (p : Phase) (b : ℕ) → b < 256 → event_of (on_byte p b).1 ≡ some (refusal 8) → held p ++ (b ∷ []) ≡ enclose (gathered p)
enclosed hunting b y e = absurd (hunting_quiet b e)
enclosed (inside w g) b y e =
    let h = act_eight g (held (inside w g)) (held (inside w g) ++ (b ∷ [])) (meaning expansion w b) e in
    let (f, m) = subst (Meant w b) h.ended (meant w b y) in
    rw (f, m) (ap (λ (x : List ℕ). 0xFD ∷ (x ++ (0xFE ∷ []))) (append-nil (hide expansion g)))

-- the gathered bytes of a state are the first of its store
front-gathered : (s : State) (store : List ℕ) → take (length (gathered (phase_of s store))) store ≡ gathered (phase_of s store)
front-gathered s store =
    by_eqb (λ (p : Phase). take (length (gathered p)) store ≡ gathered p) s.mode 0 (λ _. refl)
    (λ _. ap (take (length (take s.count store))) (sym (take-append-drop s.count store)) ∙ take-append_seam (take s.count store) (drop s.count store))

step_eight : (c : Lent link) (b : ℕ) (d : Lent link) → step_on link c b ≡ (d, some (refusal 8)) → Stands (gathered (phase_of c.0 c.1)) d.1
step_eight c b d e =
    let h = byte_eight (phase_of c.0 c.1) b (ap (λ (x : Lent link × Option (Event Message)). x.1) e) in
    let same : d.1 ≡ c.1 = ap (λ (x : Lent link × Option (Event Message)). x.0.1) (sym e) ∙ ap (λ (x : Phase × Option (Segment Message)). over (gathered x.0) c.1) h.1 in
    record { long = h.0; here = rw same (front-gathered c.0 c.1) }

-- what is to be shown of what a call on a piece gives
abbrev Kept : Lent link → List ℕ → Fed (Event Message) (Lent link) → Type 0
Kept c piece f =
    let d = last (step_on link) c (take (f.used - 1) piece) in
    f.event ≡ some (refusal 8) → Stands (gathered (phase_of d.0 d.1)) f.after.1

feed_eight : (c : Lent link) (piece : List ℕ) → Kept c piece (feed (step_on link) c piece)
feed_eight c piece e =
    let f = feed (step_on link) c piece in
    step_eight (last (step_on link) c (take (f.used - 1) piece)) (get_or piece (f.used - 1) 0) f.after (last_byte (step_on link) c piece (refusal 8) e)

pub refused_header : RefusedHeader
refused_header c piece =
    by_two (Kept c piece) (link.known c.0) (leb size (length c.1)) 12 1 (feed (step_on link) c piece) (λ n. refuses link n c) refl refl
    (λ _ e. absurd (other 12 (λ q. omega arith) e)) (λ _ _ e. absurd (other 1 (λ q. omega arith) e)) (λ _ _. feed_eight c piece)

-- the stream before the last byte that the call used leads to the phase in which that byte gives 8
pub refused_as_sent : RefusedAsSent
refused_as_sent pieces piece store y room h = (
  gathered q,
  record {
    before = segments link earlier;
    ends = ap (segments link) stream ∙ events_append on_byte hunting earlier (b ∷ [])
        ∙ ap (λ (r : Phase × Option (Segment Message)). segments link earlier ++ emit r.1 []) (byte_eight q b gives).1
        ∙ ap (λ (w : List ℕ). segments link earlier ++ (refused_frame 8 w ∷ [])) (enclosed q b (y' (f.used - 1)) gives);
    wire = stream ∙ ap (λ (x : List ℕ). x ++ (b ∷ [])) (sym (accounted link lawful earlier early))
        ∙ append_assoc (wires frame (segments link earlier)) (held q) (b ∷ []) ∙ ap (λ (w : List ℕ). wires frame (segments link earlier) ++ w) (enclosed q b (y' (f.used - 1)) gives);
    stands = subst (λ (g : List ℕ). Stands g (call_on link c piece).after.1) same (refused_header c piece h);
  },
)
  where
    y' : Bytes piece
    y' = bytes_right (join pieces) piece y

    c : Lent link
    c = after_stream pieces store

    counts : Counts link lawful c (last (step on_byte) (at hunting 0) (join pieces))
    counts = (driven link lawful pieces store (bytes_left (join pieces) piece y) room).1

    f : Fed (Event Message) (Lent link)
    f = feed (step_on link) c piece

    fed : call_on link c piece ≡ f
    fed = rw (counts.stands.known, le-leb size (length c.1) counts.stands.room)

    event : f.event ≡ some (refusal 8)
    event = ap (λ (x : Fed (Event Message) (Lent link)). x.event) (sym fed) ∙ h

    -- the bytes up to the last one, and that one
    front : List ℕ
    front = take (f.used - 1) piece

    b : ℕ
    b = get_or piece (f.used - 1) 0

    earlier : List ℕ
    earlier = join pieces ++ front

    early : Bytes earlier
    early = bytes_append (join pieces) front (bytes_left (join pieces) piece y) (bytes_take (f.used - 1) piece y')

    q : Phase
    q = last on_byte hunting earlier

    phase : phase_of (last (step_on link) c front).0 (last (step_on link) c front).1 ≡ q
    phase =
        (counts_last link lawful c (last (step on_byte) (at hunting 0) (join pieces)) front (bytes_take (f.used - 1) piece y') counts).stands.phase
        ∙ ap (λ (a : Config Phase). a.phase) (sym (last_append (step on_byte) (at hunting 0) (join pieces) front)) ∙ phase_last on_byte (at hunting 0) earlier

    same : gathered_before c piece ≡ gathered q
    same =
        ap (λ (x : Fed (Event Message) (Lent link)). let d = last (step_on link) c (take (x.used - 1) piece) in gathered (phase_of d.0 d.1)) fed
        ∙ ap gathered phase

    gives : event_of (on_byte q b).1 ≡ some (refusal 8)
    gives =
        ap (λ (p : Phase). event_of (on_byte p b).1) (sym phase)
        ∙ ap (λ (x : Lent link × Option (Event Message)). x.1) (last_byte (step_on link) c piece (refusal 8) event)

    used : take f.used piece ≡ front ++ (b ∷ [])
    used =
        let low = used_some (step_on link) c piece (refusal 8) event in
        let high = used_le (step_on link) c piece in
        let one : f.used ≡ suc (f.used - 1) = omega arith in
        ap (λ (n : ℕ). take n piece) one ∙ take-suc piece (f.used - 1) 0 (omega arith)

    stream : join pieces ++ take (call_on link c piece).used piece ≡ earlier ++ (b ∷ [])
    stream =
        ap (λ (x : Fed (Event Message) (Lent link)). join pieces ++ take x.used piece) fed
        ∙ ap (λ (x : List ℕ). join pieces ++ x) used ∙ sym (append_assoc (join pieces) front (b ∷ []))
