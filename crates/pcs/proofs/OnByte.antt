-- What a byte does by the rules.
use Prim.Native.Nat.{ℕ, ◌-◌, ◌/◌, ◌%◌, ◌^◌, ◌≤◌, ◌<◌}
use mathlib.Core.Path.{◌≡◌, refl, ap, sym, ◌∙◌}
use mathlib.Core.Bool.{true}
use mathlib.Core.List.{List, [], ◌∷◌, ◌++◌, append-nil, append_assoc}
use mathlib.Core.Option.{Option, none, some}
use native.Mathlib.Omega.{arith}
use lib.ListN.{length, get_or, take, drop, length-append, take-append-drop}
use lib.Seq.{take-take, take-append_seam}
use borrow.Author.Tests.{le-leb}
use Rattle.runs.specs.Runs.{Bytes, over}
use Rattle.runs.proofs.Cases.{by_eqb, by_ltb}
use Rattle.framing.specs.Segment.{Segment, refused_frame, accepted_frame, noise_after}
use Rattle.framing.proofs.Byte.{data_stands, Reached, Takes, goes_on, restarts, closes, Ends, by_end, ends_quiet}
use Rattle.packing.specs.Seven.{sent}
use Rattle.packing.specs.Packed.{packed}
use Rattle.packing.specs.Unpacked.{unpacked}
use Rattle.packing.proofs.Seven.{value_sent}
use Rattle.packing.proofs.Lengths.{length-packed}
use Rattle.packing.proofs.Laws.{packed-unpacked, bytes_unpacked}
use Rattle.pcs.specs.Frame.{Message, ok, body, trailer, trailing, frame}
use Rattle.pcs.specs.Rules.{Phase, hunting, inside, size, gathered, held, has_crc, body_part, trailer_part, packed_part, kind_of, stated, fault_of, message_with, unpack, judge, on_byte}
use Rattle.pcs.specs.Contract.{front_of, numbers_of, message_of, link}
use Rattle.pcs.proofs.Allowed.{kind_same, Allowed, allowed, sendable}
use Rattle.pcs.proofs.Typed.{typed}
use Rattle.pcs.proofs.Trailer.{info_back, whole}
use Rattle.pcs.proofs.Passed.{Passed, passed, packed_most, nine}

-- no more is gathered than the store holds
abbrev pub reached : Reached link
reached =
    record {
      Good = λ p. length (gathered p) ≤ size;
      fits = λ p h. h;
      few = held_short;
      good_first = omega arith;
      held_first = refl;
      gathered-first = refl;
    }
  where
    held_short : (p : Phase) → length (gathered p) ≤ size → length (held p) < 2 ^ 32
    held_short hunting h = omega arith
    held_short (inside g) h = omega arith

-- a byte that leads to r
abbrev Next : List ℕ → List ℕ → Phase × Option (Segment Message) → Type 0
Next g w r = Takes reached g w (front_of r) r

first_eight : (g : List ℕ) → 8 ≤ length g
    → take 8 g ≡ get_or g 0 0 ∷ get_or g 1 0 ∷ get_or g 2 0 ∷ get_or g 3 0 ∷ get_or g 4 0 ∷ get_or g 5 0 ∷ get_or g 6 0 ∷ get_or g 7 0 ∷ []
first_eight [] h = absurd (omega arith)
first_eight (a ∷ []) h = absurd (omega arith)
first_eight (a ∷ b ∷ []) h = absurd (omega arith)
first_eight (a ∷ b ∷ c ∷ []) h = absurd (omega arith)
first_eight (a ∷ b ∷ c ∷ d ∷ []) h = absurd (omega arith)
first_eight (a ∷ b ∷ c ∷ d ∷ e ∷ []) h = absurd (omega arith)
first_eight (a ∷ b ∷ c ∷ d ∷ e ∷ f ∷ []) h = absurd (omega arith)
first_eight (a ∷ b ∷ c ∷ d ∷ e ∷ f ∷ x ∷ []) h = absurd (omega arith)
first_eight (a ∷ b ∷ c ∷ d ∷ e ∷ f ∷ x ∷ y ∷ t) h = refl

-- a frame that passed every test
module _ (g : List ℕ) (p : Passed g) (short : length g ≤ size) (d : List ℕ) (u : unpacked (packed_part g) ≡ some d) where
  f : Allowed g
  f = allowed g p.fields

  packed_is : packed d ≡ packed_part g
  packed_is = packed-unpacked (packed_part g) d u

  size_is : length (packed d) ≡ stated g
  size_is = ap length packed_is ∙ sym p.present

  body_is : body (message_with g d) ≡ body_part g
  body_is =
      let i = info_back (get_or g 2 0) f.info in
      let h : length (packed d) / 128 ≡ get_or g 4 0 % 128 = omega (arith, size_is) in
      let l : length (packed d) % 128 ≡ get_or g 5 0 % 128 = omega (arith, size_is) in
      let a : sent (length (packed d) / 128) ≡ get_or g 4 0 = ap sent h ∙ value_sent (get_or g 4 0) f.high in
      let b : sent (length (packed d) % 128) ≡ get_or g 5 0 = ap sent l ∙ value_sent (get_or g 5 0) f.low in
      (λ j. get_or g 0 0 ∷ get_or g 1 0 ∷ i j ∷ get_or g 3 0 ∷ a j ∷ b j ∷ get_or g 6 0 ∷ get_or g 7 0 ∷ packed_is j)
      ∙ sym (ap (λ (x : List ℕ). x ++ packed_part g) (first_eight g (omega (arith, nine g p))))
      ∙ ap (λ (x : List ℕ). x ++ packed_part g) (sym (take-take 8 (length g - trailing (has_crc g)) g (omega (arith, p.long))))
      ∙ take-append-drop 8 (body_part g)

  frame_is : frame (message_with g d) ≡ 253 ∷ g ++ (254 ∷ [])
  frame_is =
      ap (λ (x : List ℕ). 253 ∷ (x ++ (trailer (has_crc g) x ++ (254 ∷ [])))) body_is
      ∙ ap (λ (x : List ℕ). 253 ∷ (body_part g ++ (x ++ (254 ∷ [])))) (sym p.checked)
      ∙ ap (λ (x : List ℕ). 253 ∷ x) (sym (append_assoc (body_part g) (trailer_part g) (254 ∷ [])))
      ∙ ap (λ (x : List ℕ). 253 ∷ (x ++ (254 ∷ []))) (whole g)

  may_send : ok (message_with g d) ≡ true
  may_send =
      let e = length-packed d in
      rw (
        f.plain.receiver,
        f.plain.sender,
        f.plain.number,
        f.plain.sender_port,
        f.plain.receiver_port,
        kind_same (kind_of g) (stated g) (length d) (λ z. omega (arith, size_is)) f.kind,
        le-leb (length d) 1024 (omega (arith, size_is, p.present, packed_most g p short)),
      )

-- the end of a frame: an accepted message has the gathered bytes between its marks
abbrev pub Judged : List ℕ → Message → Type 0
Judged g m = length g ≤ size → (frame m ≡ 253 ∷ g ++ (254 ∷ [])) × (ok m ≡ true) × Bytes m.payload

pub judge_ends : (g w : List ℕ) → Ends (Judged g) w (judge g w)
judge_ends g w =
    by_eqb (Ends (Judged g) w) (fault_of g) 0 (λ z. unpack_ends (passed g z) (unpacked (packed_part g)) refl) (λ _. refl)
  where
    unpack_ends : Passed g → (o : Option (List ℕ)) → unpacked (packed_part g) ≡ o → Ends (Judged g) w (unpack g w o)
    unpack_ends p none u = refl
    unpack_ends p (some d) u = λ h. (frame_is g p h d u, may_send g p h d u, bytes_unpacked (packed_part g) d u)

pub judge_noise : (g w : List ℕ) (n : ℕ) → noise_after (some (judge g w)) n ≡ n
judge_noise g w n = ends_quiet (Judged g) w (judge g w) (judge_ends g w) n

-- an accepted message is read back from its numbers where its data was written
read_back : (m : Message) (store : List ℕ) → message_of (over m.payload store) (numbers_of m) ≡ m
read_back m store =
    let here = data_stands [] m.payload [] (over m.payload store) (rw append-nil (take-append_seam m.payload (drop (length m.payload) store))) in
    λ i. record {
      receiver = m.receiver;
      sender = m.sender;
      kind = m.kind;
      number = m.number;
      sender_port = m.sender_port;
      receiver_port = m.receiver_port;
      crc = m.crc;
      payload = here i;
    }

judge-takes : (g w : List ℕ) → length g ≤ size → 253 ∷ g ++ (254 ∷ []) ≡ w → Next g w (hunting, some (judge g w))
judge-takes g w h e =
    by_end (λ (s : Segment Message). Next g w (hunting, some s)) (Judged g) w (judge g w) (judge_ends g w)
    (λ n. closes reached g w [] (refused_frame n w) refl (omega arith) tt)
    (λ m t. closes reached g w m.payload (accepted_frame m) ((t h).0 ∙ e) (omega (arith, (sendable m (t h).1).most))
    (record { may = (t h).1; typed = λ _. typed m (t h).1 (t h).2; read = λ store _. read_back m store; hunts = refl }))

pub takes : (p : Phase) (b : ℕ) → length (gathered p) ≤ size → Next (gathered p) (held p ++ (b ∷ [])) (on_byte p b)
takes hunting b h =
    by_eqb (Next [] (b ∷ [])) b 253 (λ e. goes_on reached [] (b ∷ []) (inside []) (rw e) (omega arith))
    (λ _. closes reached [] (b ∷ []) [] _ refl (omega arith) tt)
takes (inside g) b h =
    by_eqb (Next g w) b 253 (λ e. restarts reached g w (inside []) 4 (253 ∷ g) (rw e) (omega arith))
    (λ _. by_eqb (Next g w) b 254 (λ e. judge-takes g w h (rw e))
    (λ _. by_ltb (Next g w) (length g) size (λ l. goes_on reached g w (inside (g ++ (b ∷ []))) refl (simp length-append (omega arith)))
    (λ _. closes reached g w [] (refused_frame 5 w) refl (omega arith) tt)))
  where
    w : List ℕ
    w = 253 ∷ g ++ (b ∷ [])
