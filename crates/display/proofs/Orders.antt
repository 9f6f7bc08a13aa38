-- Orders and their frames: written, read back, and judged.
use Prim.Native.Nat.{ℕ, zero, suc, ◌≤◌}
use mathlib.Core.Path.{◌≡◌, refl, ap, sym, ◌∙◌, subst}
use mathlib.Core.Bool.{true}
use mathlib.Core.List.{List, [], ◌∷◌}
use native.Mathlib.Omega.{arith}
use lib.Dec.{leb, lit<}
use lib.ListN.{length, take, drop}
use lib.Seq.{take_at}
use borrow.Author.Tests.{le-leb, lt-leb, leb-true}
use Rattle.runs.specs.Runs.{Bytes, over}
use Rattle.runs.proofs.Bytes.{bytes_append}
use Rattle.runs.proofs.Run.{sets_over}
use Rattle.runs.proofs.Cases.{and_both}
use Rattle.framing.specs.Answer.{Outcome, done, refused}
use Rattle.framing.specs.Writer.{writes}
use Rattle.framing.specs.Whole.{read_on}
use Rattle.framing.specs.Refusals.{is_in}
use Rattle.framing.proofs.Stored.{by_writer, writes_done}
use Rattle.decimal.specs.Decimal.{decimal, decimal_of}
use Rattle.decimal.proofs.Value.{decimal_bytes}
use Rattle.pcs.specs.Frame.{Message, Typed, ok, frame}
use Rattle.pcs.specs.Rules.{size}
use Rattle.pcs.specs.Contract.{link}
use Rattle.pcs.proofs.Typed.{typed}
use Rattle.pcs.proofs.Theorems.{frames_read}
use Rattle.display.specs.Profile.{word, largest, message_of, order_ok, order_frame, in_profile, order_of}
use Rattle.display.specs.Reading.{judged, ordered, reading}
use Rattle.display.specs.Claims.{WrittenReads, AcceptedWritten, FramesJudged, Limits, ProfileIs, WritesGive}
use Rattle.display.specs.declared.Order.{Order}
use Rattle.display.proofs.Profile.{message_order, order_message, accepted}

pub frame_read : (m : Message) (store : List ℕ) → Typed m → ok m ≡ true → size ≤ length store → (reading (frame m) store).0 ≡ judged m
frame_read m store t o room =
    let r = frames_read m store t o room in
    ap (ordered (read_on link (frame m) store).1) r.0 ∙ ap judged r.1.kept

pub frames-judged : FramesJudged
frames-judged m store t o room = (λ e. frame_read m store t o room ∙ rw e, λ e. frame_read m store t o room ∙ rw e)

pub limits : Limits
unfolding decimal decimal_of
limits = (refl, λ o h. rw (lt-leb o.value largest (omega arith)))

word_bytes : Bytes word
word_bytes zero = lit< tt
word_bytes (suc zero) = lit< tt
word_bytes (suc (suc zero)) = lit< tt
word_bytes (suc (suc (suc zero))) = lit< tt
word_bytes (suc (suc (suc (suc zero)))) = lit< tt
word_bytes (suc (suc (suc (suc (suc i))))) = lit< tt

pub order_typed : (o : Order) → ok (message_of o) ≡ true → Typed (message_of o)
order_typed o h = typed (message_of o) h (bytes_append word (decimal o.value) word_bytes (decimal_bytes o.value))

-- an order's frame is read as the order
pub order-reads : (o : Order) (store : List ℕ) → o.value ≤ largest → ok (message_of o) ≡ true → size ≤ length store → (reading (order_frame o) store).0 ≡ done o
order-reads o store v h room =
    let m = order_message o v in
    frame_read (message_of o) store (order_typed o h) h room ∙ rw m.0 (ap done m.1)

-- and written so
writes_so : (o : Order) (memory : List ℕ) → order_ok o ≡ true → length (order_frame o) ≤ length memory
    → writes order_ok order_frame o memory ≡ (done (length (order_frame o)), over (order_frame o) memory)
writes_so o memory h room =
    sym (writes_done order_ok order_frame o memory _ _ h refl room refl)
    ∙ ap (λ (l : List ℕ). (done (length (order_frame o)), l)) (sets_over (order_frame o) memory room)

pub front : (run memory : List ℕ) → take (length run) (over run memory) ≡ run
front run memory = take_at run (drop (length run) memory) (length run) refl

pub written-reads : WrittenReads
written-reads o memory store h room long =
    let w = writes_so o memory h room in
    let a = and_both (leb o.value largest) (ok (message_of o)) h in
    let back : take (length (order_frame o)) (writes order_ok order_frame o memory).1 ≡ order_frame o =
    ap (λ (x : Outcome ℕ × List ℕ). take (length (order_frame o)) x.1) w ∙ front (order_frame o) memory in
    (w, ap (λ (run : List ℕ). (reading run store).0) back ∙ order-reads o store (leb-true o.value largest a.0) a.1 long)

pub accepted-written : AcceptedWritten
accepted-written run store o y h =
    let a = accepted run store o y h in
    let fit : order_ok o ≡ true = rw (le-leb o.value largest a.most) a.sends in (
      fit,
      a.framed,
      λ memory room. subst (λ (r : List ℕ). writes order_ok order_frame o memory ≡ (done (length r), over r memory)) (sym a.framed)
          (writes_so o memory fit (subst (λ (r : List ℕ). length r ≤ length memory) a.framed room)),
    )

pub profile_is : ProfileIs
profile_is m = (
  λ h. let b = message_order m h in (order_of m, b.1, b.0),
  λ p. subst (λ (x : Message). in_profile x ≡ true) p.2 (order_message p.0 p.1).0,
)

pub writes_give : WritesGive
writes_give o memory n =
    by_writer order_ok order_frame o memory (λ w. w.0 ≡ refused n → is_in n (3 ∷ 2 ∷ []) ≡ true) (λ _ h. let e : 3 ≡ n = cc in rw (sym e))
    (λ _ _ h. let e : 2 ≡ n = cc in rw (sym e)) (λ _ _ h. let z : ◌≡◌ {A = ℕ} 0 1 = cc in absurd (omega arith))
