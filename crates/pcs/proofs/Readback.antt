-- A hunting receiver reads back the frame of each message that may be sent, whatever follows it.
use Prim.Native.Nat.{ℕ, zero, suc, ◌+◌, ◌/◌, ◌%◌, ◌≤◌, ◌<◌}
use mathlib.Core.Path.{◌≡◌, refl, ap, ap₂, sym, ◌∙◌, subst}
use mathlib.Core.Bool.{Bool, true, false, ◌||◌}
use mathlib.Core.List.{List, [], ◌∷◌, ◌++◌, append-nil, append_assoc}
use mathlib.Core.Option.{some}
use native.Mathlib.Omega.{arith}
use lib.Dec.{eqb, lit<}
use lib.ListN.{length, get_or, drop, length-append}
use lib.Seq.{append_snoc}
use borrow.Author.Tests.{lt-ltb, eq-eqb, ne_eqb, eqb-true}
use Rattle.runs.specs.Runs.{Bytes}
use Rattle.runs.proofs.Bytes.{bytes_append, bytes_one, bytes_more}
use Rattle.framing.specs.Claims.{AllOf}
use Rattle.framing.specs.Receiver.{feed}
use Rattle.framing.specs.Segment.{Segment, accepted_frame, message}
use Rattle.framing.proofs.Feed.{Quiet, quiet_nil, quiet_cons, feed_event}
use Rattle.framing.proofs.Segments.{step, step_open, step_accept}
use Rattle.framing.proofs.Lawful.{at}
use Rattle.packing.specs.Seven.{sent}
use Rattle.packing.specs.Packed.{packed}
use Rattle.packing.specs.Unpacked.{unpacked}
use Rattle.packing.proofs.Seven.{sent_value, sent_is, sent_range}
use Rattle.packing.proofs.Lengths.{length-packed}
use Rattle.packing.proofs.Laws.{unpacked-packed, packed_sent_at}
use Rattle.checksum.specs.Sum.{sum_of}
use Rattle.checksum.specs.Crc.{crc16_of}
use Rattle.checksum.proofs.SumRange.{sum_range}
use Rattle.checksum.proofs.CheckValue.{crc16_lt}
use Rattle.pcs.specs.Frame.{Message, Typed, plain_ok, receiver_ok, ok, info_base, body, trailer, trailing, frame}
use Rattle.pcs.specs.Rules.{hunting, inside, size, has_crc, body_part, trailer_part, packed_part, kind_of, stated, fields_ok, fault_of, message_with, unpack, judge, on_byte}
use Rattle.pcs.proofs.Trailer.{crc_back, kind_back, info_allowed, length-trailer, trailing_range, body_of, trailer_of}
use Rattle.pcs.proofs.Passed.{Passed, no_fault}
use Rattle.pcs.proofs.Allowed.{kind_same, kind_most, plain_most, Sendable, sendable}

-- a byte that is gathered in an open frame
abbrev Inner : ℕ → Type 0
Inner x = (x < 256) × (x ≡ 253 → ⊥) × (x ≡ 254 → ⊥)

low_inner : (x : ℕ) → x ≤ 250 → Inner x
low_inner x h = (omega arith, omega arith, omega arith)

plain_inner : (x : ℕ) → plain_ok x ≡ true → Inner x
plain_inner x h = low_inner x (plain_most x h)

receiver_inner : (x : ℕ) → receiver_ok x ≡ true → Inner x
receiver_inner x = go (plain_ok x) refl
  where
    go : (a : Bool) → plain_ok x ≡ a → a || eqb x 255 ≡ true → Inner x
    go true e h = plain_inner x e
    go false e h = let n = eqb-true x 255 h in (omega arith, omega arith, omega arith)

all-at : (P : ℕ → Type 0) (xs : List ℕ) → ((i : ℕ) → i < length xs → P (get_or xs i 0)) → AllOf P xs
all-at P [] h = tt
all-at P (x ∷ xs) h = (h 0 (omega arith), all-at P xs (λ i l. h (suc i) (omega arith)))

all_append : (P : ℕ → Type 0) (xs ys : List ℕ) → AllOf P xs → AllOf P ys → AllOf P (xs ++ ys)
all_append P [] ys h k = k
all_append P (x ∷ xs) ys h k = (h.0, all_append P xs ys h.1 k)

inner_bytes : (xs : List ℕ) → AllOf Inner xs → Bytes xs
inner_bytes [] h i = lit< tt
inner_bytes (x ∷ xs) h zero = h.0.0
inner_bytes (x ∷ xs) h (suc i) = inner_bytes xs h.1 i

-- inner bytes are gathered, as long as there is room
gathers : (g xs : List ℕ) (n : ℕ) → AllOf Inner xs → length g + length xs ≤ size → Quiet (step on_byte) (at (inside g) n) xs (at (inside (g ++ xs)) n)
gathers g [] n p h = rw append-nil (quiet_nil (step on_byte) (at (inside g) n))
gathers g (x ∷ xs) n p h =
    quiet_cons (step on_byte)
    (step_open on_byte (inside g) (inside (g ++ (x ∷ []))) n x (rw (ne_eqb x 253 p.0.1, ne_eqb x 254 p.0.2, lt-ltb (length g) size (omega arith))))
    (rw append_snoc at (gathers (g ++ (x ∷ [])) xs n p.1 (simp length-append (omega arith))))

sent_inner : {v : ℕ} → v < 128 → Inner (sent v)
sent_inner {v} h = low_inner (sent v) (omega (arith, (sent_range (sent v) (sent_is h)).1))

info_inner : (crc : Bool) (k : ℕ) → k ≤ 3 → Inner (info_base crc + k)
info_inner true k h = low_inner (12 + k) (omega arith)
info_inner false k h = low_inner (4 + k) (omega arith)

-- the bytes of a trailer are inner ones
trailer_inner : (crc : Bool) (b : List ℕ) → Bytes b → AllOf Inner (trailer crc b)
trailer_inner false b y = (low_inner (sum_of b) (sum_range b).1, tt)
trailer_inner true b y =
    let c : ℕ = crc16_of b in
    let l = crc16_lt b y in
    (low_inner (sum_of b) (sum_range b).1, (sent_inner {v = c % 128} (omega arith), (sent_inner {v = c / 128 % 128} (omega arith), (sent_inner {v = c / 16384} (omega arith), tt))))

-- the frame of a message that may be sent
module _ (m : Message) (y : Bytes m.payload) (s : Sendable m) where
  run : List ℕ
  run = body m ++ trailer m.crc (body m)

  few : m.kind ≤ 3
  few = kind_most m.kind (length m.payload) s.kind

  most : length (packed m.payload) ≤ 1171
  most = omega (arith, length-packed m.payload, s.most)

  high : length (packed m.payload) / 128 < 128
  high = omega (arith, most)

  low : length (packed m.payload) % 128 < 128
  low = omega arith

  body_inner : AllOf Inner (body m)
  body_inner = (
    receiver_inner m.receiver s.plain.receiver,
    (
      plain_inner m.sender s.plain.sender,
      (
        info_inner m.crc m.kind few,
        (
          plain_inner m.number s.plain.number,
          (
            sent_inner high,
            (
              sent_inner low,
              (
                plain_inner m.sender_port s.plain.sender_port,
                (
                  plain_inner m.receiver_port s.plain.receiver_port,
                  all-at Inner (packed m.payload) (λ i l. low_inner _ (omega (arith, (packed_sent_at m.payload y i l).1))),
                ),
              ),
            ),
          ),
        ),
      ),
    ),
  )

  run_inner : AllOf Inner run
  unfolding run
  run_inner = all_append Inner (body m) (trailer m.crc (body m)) body_inner (trailer_inner m.crc (body m) (inner_bytes (body m) body_inner))

  run_length : length run ≡ 8 + length (packed m.payload) + trailing m.crc
  unfolding run
  run_length = length-append (body m) (trailer m.crc (body m)) ∙ omega (arith, length-trailer m.crc (body m))

  crc_is : has_crc run ≡ m.crc
  unfolding run
  crc_is = crc_back m.crc m.kind few

  trailer-length : length (trailer m.crc (body m)) ≡ trailing (has_crc run)
  trailer-length = length-trailer m.crc (body m) ∙ ap trailing (sym crc_is)

  body-front : body_part run ≡ body m
  unfolding run
  body-front = body_of (body m) (trailer m.crc (body m)) trailer-length

  trailer-last : trailer_part run ≡ trailer m.crc (body m)
  unfolding run
  trailer-last = trailer_of (body m) (trailer m.crc (body m)) trailer-length

  packed-front : packed_part run ≡ packed m.payload
  packed-front = ap (drop 8) body-front

  stated_is : stated run ≡ length (packed m.payload)
  unfolding run
  stated_is = rw (sent_value high, sent_value low) (omega arith)

  info_is : get_or run 2 0 ≡ info_base m.crc + m.kind
  unfolding run
  info_is = refl

  kind_is : kind_of run ≡ m.kind
  kind_is = ap (λ (i : ℕ). i % 4) info_is ∙ kind_back m.crc m.kind few

  fields_pass : fields_ok run ≡ true
  unfolding run
  fields_pass =
      rw (
        s.plain.receiver,
        s.plain.sender,
        s.plain.number,
        s.plain.sender_port,
        s.plain.receiver_port,
        info_allowed m.crc m.kind few,
        sent_is high,
        sent_is low,
        kind_is,
        stated_is,
      )
      (kind_same m.kind (length m.payload) (length (packed m.payload)) (λ z. omega (arith, length-packed m.payload)) s.kind)

  passes : Passed run
  passes =
      record {
        long = omega (arith, run_length, ap trailing crc_is);
        plain = λ e. omega (arith, run_length, most, ap trailing (sym crc_is ∙ e));
        checked = trailer-last ∙ ap₂ trailer (sym crc_is) (sym body-front);
        fields = fields_pass;
        present = stated_is ∙ ap length (sym packed-front);
      }

  message_is : message_with run m.payload ≡ m
  unfolding run
  message_is =
      λ i. record {
        receiver = m.receiver;
        sender = m.sender;
        kind = kind_is i;
        number = m.number;
        sender_port = m.sender_port;
        receiver_port = m.receiver_port;
        crc = crc_is i;
        payload = m.payload;
      }

  accepts : (w : List ℕ) → judge run w ≡ accepted_frame m
  accepts w =
      rw (eq-eqb (fault_of run) 0 (no_fault run passes))
      (ap (unpack run w) (ap unpacked packed-front ∙ unpacked-packed m.payload y) ∙ ap accepted_frame message_is)

  reads-run : (rest : List ℕ) (n : ℕ)
      → feed (step on_byte) (at hunting n) (((253 ∷ run) ++ (254 ∷ [])) ++ rest)
      ≡ record { event = some (message m); used = length ((253 ∷ run) ++ (254 ∷ [])); after = at hunting n }
  reads-run rest n =
      feed_event (step on_byte) (253 ∷ run) 254 rest quiet
      (step_accept on_byte (inside run) hunting n 254 m (ap (λ (x : Segment Message). (hunting, some x)) (accepts _)))
    where
      quiet : Quiet (step on_byte) (at hunting n) (253 ∷ run) (at (inside run) n)
      quiet = quiet_cons (step on_byte) refl (gathers [] run n run_inner (omega (arith, run_length, most, (trailing_range m.crc).1)))

  frame-run : frame m ≡ (253 ∷ run) ++ (254 ∷ [])
  unfolding run
  frame-run = ap (λ (x : List ℕ). 253 ∷ x) (sym (append_assoc (body m) (trailer m.crc (body m)) (254 ∷ [])))

  run_bytes : Bytes ((253 ∷ run) ++ (254 ∷ []))
  run_bytes = bytes_more (253 ∷ run) 254 (bytes_append (253 ∷ []) run (bytes_one 253 (lit< tt)) (inner_bytes run run_inner)) (lit< tt)

pub frame_bytes : (m : Message) → Typed m → ok m ≡ true → Bytes (frame m)
frame_bytes m t o = subst (λ (w : List ℕ). Bytes w) (sym (frame-run m t.payload (sendable m o))) (run_bytes m t.payload (sendable m o))

pub reads-frame : (m : Message) (rest : List ℕ) (n : ℕ) → Typed m → ok m ≡ true
    → feed (step on_byte) (at hunting n) (frame m ++ rest) ≡ record { event = some (message m); used = length (frame m); after = at hunting n }
reads-frame m rest n t o =
    subst (λ (w : List ℕ). feed (step on_byte) (at hunting n) (w ++ rest) ≡ record { event = some (message m); used = length w; after = at hunting n })
    (sym (frame-run m t.payload (sendable m o))) (reads-run m t.payload (sendable m o) rest n)
