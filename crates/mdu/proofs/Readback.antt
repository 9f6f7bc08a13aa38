-- A hunting receiver reads back the frame of each message that may be sent, whatever follows it.
use Rattle.std.proofs.Common.{◌≡◌, ℕ, ◌+◌, ◌/◌, ◌%◌, ◌≤◌, true, leb, List, [], ◌∷◌, ◌++◌, length, get_or, take, sym, refl, ap, ◌∙◌, append-nil, arith, length-append, get_or-append-add, eq-eqb, ne_eqb, leb-true}
use mathlib.Core.Option.{none, some}
use lib.Seq.{append_snoc, take-append_seam, get_or-append_seam}
use Rattle.runs.proofs.Cases.{and_both}
use Rattle.framing.specs.Receiver.{feed}
use Rattle.framing.specs.Segment.{Segment, accepted_frame, message}
use Rattle.framing.proofs.Feed.{Quiet, quiet_nil, quiet_cons, quiet_append, feed_event}
use Rattle.framing.proofs.Segments.{step, step_open, step_accept}
use Rattle.framing.proofs.Lawful.{at}
use Rattle.checksum.specs.Crc.{crc16_of}
use Rattle.mdu.specs.Frame.{Message, length_ok, ok, header_sum, five, header, trailer, frame}
use Rattle.mdu.specs.Rules.{hunting, in_header, in_body, stated, sent_check, header_fault, enter, finish, on_byte}
use Rattle.mdu.proofs.Passed.{Passed, no_fault}

enter-header : (k a : ℕ) → 1 ≤ a → length_ok k ≡ true → enter (header k a) ≡ (in_body k (header k a), none)
enter-header k a low allowed =
    let e : stated (header k a) ≡ k = omega arith in
    let p : Passed (header k a) = record { version = refl; address = λ z. omega arith; checked = refl; allowed = rw e allowed } in
    rw (eq-eqb (header_fault (header k a)) 0 (no_fault (header k a) p)) (ap (λ (n : ℕ). (in_body n (header k a), none)) e)

header_quiet : (k a n : ℕ) → 1 ≤ a → length_ok k ≡ true → Quiet (step on_byte) (at hunting n) (header k a) (at (in_body k (header k a)) n)
header_quiet k a n low allowed =
    quiet_cons (step on_byte) refl (quiet_cons (step on_byte) refl (quiet_cons (step on_byte) refl (quiet_cons (step on_byte) refl (quiet_cons (step on_byte) refl
    (quiet_cons (step on_byte) (step_open on_byte (in_header (five k a)) (in_body k (header k a)) n (header_sum (five k a)) (enter-header k a low allowed))
    (quiet_nil (step on_byte) (at (in_body k (header k a)) n)))))))

body_quiet : (k n : ℕ) (g xs : List ℕ) → length g + length xs ≤ 7 + k → Quiet (step on_byte) (at (in_body k g) n) xs (at (in_body k (g ++ xs)) n)
body_quiet k n g [] h = rw append-nil (quiet_nil (step on_byte) (at (in_body k g) n))
body_quiet k n g (x ∷ xs) h =
    quiet_cons (step on_byte) (step_open on_byte (in_body k g) (in_body k (g ++ (x ∷ []))) n x (rw (ne_eqb (length g) (7 + k) (omega arith))))
    (rw append_snoc at (body_quiet k n (g ++ (x ∷ [])) xs (simp length-append (omega arith))))

finish-frame : (m : Message) → finish (length m.body) (frame m) ≡ accepted_frame m
finish-frame m = rw (body_is, eq-eqb (sent_check k (frame m)) c check)
  where
    k : ℕ
    k = length m.body

    c : ℕ
    c = crc16_of m.body

    body_is : take k (m.body ++ trailer c) ≡ m.body
    body_is = take-append_seam m.body (trailer c)

    check : sent_check k (frame m) ≡ c
    check =
        let h : get_or (frame m) (6 + k) 0 ≡ c / 256
        = get_or-append-add (header k m.address) (m.body ++ trailer c) k 0 ∙ get_or-append_seam m.body (c / 256) (c % 256 ∷ []) 0 in
        let i : 7 + k ≡ 6 + (k + 1) = omega arith in
        let l : get_or (frame m) (7 + k) 0 ≡ c % 256
        = ap (λ (j : ℕ). get_or (frame m) j 0) i ∙ get_or-append-add (header k m.address) (m.body ++ trailer c) (k + 1) 0
        ∙ get_or-append-add m.body (trailer c) 1 0 in
        omega arith

pub reads-frame : (m : Message) (rest : List ℕ) (n : ℕ) → ok m ≡ true
    → feed (step on_byte) (at hunting n) (frame m ++ rest) ≡ record { event = some (message m); used = length (frame m); after = at hunting n }
reads-frame m rest n h =
    ap (λ (w : List ℕ). feed (step on_byte) (at hunting n) (w ++ rest)) whole
    ∙ feed_event (step on_byte) start (c % 256) rest
    (quiet_append (step on_byte) (header k a) (header_quiet k a n low o.1)
    (body_quiet k n (header k a) (m.body ++ (c / 256 ∷ [])) (simp length-append (omega arith))))
    (step_accept on_byte (in_body k start) hunting n (c % 256) m last_byte)
    ∙ ap (λ (w : List ℕ). record { event = some (message m); used = length w; after = at hunting n }) (sym whole)
  where
    k : ℕ
    k = length m.body

    a : ℕ
    a = m.address

    c : ℕ
    c = crc16_of m.body

    o : (leb 1 a ≡ true) × (length_ok k ≡ true)
    o = and_both (leb 1 a) (length_ok k) h

    low : 1 ≤ a
    low = leb-true 1 a o.0

    start : List ℕ
    start = header k a ++ (m.body ++ (c / 256 ∷ []))

    whole : frame m ≡ start ++ (c % 256 ∷ [])
    whole = ap (λ (x : List ℕ). header k a ++ x) (sym (append_snoc m.body (c / 256) (c % 256 ∷ [])))

    last_byte : on_byte (in_body k start) (c % 256) ≡ (hunting, some (accepted_frame m))
    last_byte =
        rw (eq-eqb (length start) (7 + k) (simp length-append (omega arith)))
        (ap (λ (x : Segment Message). (hunting, some x)) (ap (finish k) (sym whole) ∙ finish-frame m))
