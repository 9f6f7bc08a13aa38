-- The claims of specs/Claims.antt.
use Rattle.std.proofs.Common.{◌≡◌, ℕ, ◌+◌, ◌%◌, ◌^◌, ◌<◌, ◌≤◌, Bool, true, false, cond, ◌&&◌, eqb, leb, List, [], ◌∷◌, length, get_or, sym, refl, ap, ◌∙◌, arith, lit<, length-take, get_or-take, ne_eqb, le-leb, leb-true}
use mathlib.Core.Option.{Option, none, some, none-ne-some}
use Rattle.runs.proofs.Cases.{by_test, by_eqb}
use Rattle.framing.specs.Receiver.{emit}
use Rattle.framing.specs.Segment.{Event, message, refusal}
use Rattle.framing.specs.Link.{nothing, accepted, refused, told, receives}
use Rattle.framing.specs.Claims.{AllOf}
use Rattle.expansion.specs.Frame as Frame
use Rattle.expansion.specs.Contract.{link}
use Rattle.expansion.specs.Claims.{gathered_before, Stands, after_stream}
use Rattle.expansion.proofs.Theorems.{refused_header, refused_as_sent}
use Rattle.gate.specs.Asking.{start, fresh_exchange, known, since, sends, ended}
use Rattle.gate.specs.Asking as Asking
use Rattle.gate.specs.Responder.{Responder, Response, reply, responds}
use Rattle.gate.specs.Claims.{after, requests, starts, RepeatAtMost3, FourSends, IdsGoRound, OtherIdChangesNothing, WaitOverIff, Sendable, ReplySendable, CheckErrorAsGathered, CheckErrorAsSent}
use Rattle.gate.proofs.Steps.{next, by_step, left_le, sends-left, ids}
use Rattle.gate.proofs.Sendable.{sendable}

pub repeat_at_most_3 : RepeatAtMost3
unfolding after requests
repeat_at_most_3 e [] = (λ h. h, tt)
repeat_at_most_3 e (s ∷ ss) =
    by_step e (λ b m e'. (e.repeat ≤ 3 → (after e' ss).repeat ≤ 3) × AllOf (λ (m : ℕ × ℕ). m.1 ≤ 3) (emit m (requests e' ss)))
    (repeat_at_most_3 e ss) (repeat_at_most_3 (ended e) ss)
    (λ now. let r = repeat_at_most_3 (sends (next e) 0 now).1 ss in (λ _. r.0 (omega arith), (omega arith, r.1)))
    (λ now m l. let r = repeat_at_most_3 (sends e.id (e.repeat + 1) now).1 ss in (λ _. r.0 (omega arith), (omega arith, r.1))) s

pub four_sends : FourSends
unfolding requests
four_sends e now ss =
    by_step e (λ b m e'. starts e' ss ≡ [] → length (emit m (requests e' ss)) ≤ 4) (λ h. omega (arith, sends-left e ss h, left_le e))
    (λ h. omega (arith, sends-left (ended e) ss h)) (λ now h. omega (arith, sends-left (sends (next e) 0 now).1 ss h))
    (λ now m r h. omega (arith, sends-left (sends e.id (e.repeat + 1) now).1 ss h)) (start now)

pub ids_go_round : IdsGoRound
ids_go_round ss n h = ids fresh_exchange ss n h ∙ omega arith

pub other_id_changes_nothing : OtherIdChangesNothing
other_id_changes_nothing e id kind now h = rw (ne_eqb id e.id h) (go (known e) (eqb e.mode 1))
  where
    go : (k w : Bool) → cond k (cond (w && false) (Asking.replied e kind now) (Asking.nothing, e)) (Asking.refused 12, e) ≡ (cond k Asking.nothing (Asking.refused 12), e)
    go false w = refl
    go true false = refl
    go true true = refl

pub wait_over_iff : WaitOverIff
wait_over_iff sent later h k =
    let d : since ((sent + later) % 2 ^ 32) sent ≡ later = omega arith in
    rw d (leb-true 100 later, le-leb 100 later)

pub reply_sendable : ReplySendable
reply_sendable head a nothing store m h = absurd (none-ne-some m h)
reply_sendable head a (accepted v) store m h =
    by_eqb (λ (r : Response). r.reply ≡ some m → Sendable m) v.kind 0 (λ _. sendable head v.id 1 v.address m refl)
    (λ _ h. absurd (none-ne-some m h)) h
reply_sendable head a (refused n) store m h =
    by_test (λ (r : Response). r.reply ≡ some m → Sendable m) (eqb n 8 && leb 4 (length store))
    (λ _. sendable head (get_or store 0 0) 2 (get_or store 3 0) m refl) (λ _ h. absurd (none-ne-some m h)) h

told_8 : (o : Option (Event Frame.Message)) → told link o ≡ refused 8 → o ≡ some (refusal 8)
told_8 none h = let z : ◌≡◌ {A = ℕ} 0 1 = cc in absurd (omega arith)
told_8 (some (message m)) h = let z : ◌≡◌ {A = ℕ} 0 1 = cc in absurd (omega arith)
told_8 (some (refusal n)) h = let e : n ≡ 8 = cc in cc

-- what the responding end makes of 8 where gathered bytes stand at the start of the store
replied : (head : Bool) (a : Responder) (g store : List ℕ) → Stands g store
    → responds a head (refused 8) store ≡ record { reply = some (reply head (get_or g 0 0) 2 (get_or g 3 0)); hands_out = false; after = a }
replied head a g store r =
    let room : 4 ≤ length store = omega (arith, r.long, sym (length-take (length g) store) ∙ ap length r.here) in
    let here : (i : ℕ) → i < 8 → get_or store i 0 ≡ get_or g i 0 =
    λ i l. sym (get_or-take (length g) store i 0 (omega (arith, r.long))) ∙ ap (λ (x : List ℕ). get_or x i 0) r.here in
    rw (le-leb 4 (length store) room, here 0 (lit< tt), here 3 (lit< tt))

pub check_error_as_gathered : CheckErrorAsGathered
check_error_as_gathered head a c piece h =
    let r = refused_header c piece (told_8 _ h) in
    (r.long, rw h (replied head a (gathered_before c piece) (receives link c piece).2.1 r))

pub check_error_as_sent : CheckErrorAsSent
check_error_as_sent head a pieces piece store y room h =
    let (g, r) = refused_as_sent pieces piece store y room (told_8 _ h) in
    (g, r, rw h (replied head a g (receives link (after_stream pieces store) piece).2.1 r.stands))
