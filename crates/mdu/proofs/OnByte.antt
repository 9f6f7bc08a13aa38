-- What a byte does by the rules.
use Rattle.std.proofs.Common.{◌≡◌, ℕ, suc, ◌+◌, ◌*◌, ◌/◌, ◌%◌, ◌<◌, ◌≤◌, Bool, true, false, cond, eqb, List, [], ◌∷◌, ◌++◌, length, get_or, take, sym, refl, ap, ◌∙◌, subst, arith, length-append, length-take-le, get_or-append-add, eqb-true, le-leb}
use mathlib.Core.Option.{Option, none, some}
use lib.ListN.{get_or-append}
use lib.Seq.{take-append_seam}
use Rattle.runs.specs.Runs.{Bytes, over}
use Rattle.runs.proofs.Bytes.{bytes_one, bytes_more}
use Rattle.runs.proofs.Cases.{by_eqb}
use Rattle.framing.specs.Segment.{Segment, noise, refused_frame, accepted_frame}
use Rattle.framing.proofs.Byte.{data_stands, Takes, goes_on, closes}
use Rattle.checksum.specs.Crc.{crc16_of}
use Rattle.mdu.specs.Frame.{Message, length_ok, header, trailer, frame}
use Rattle.mdu.specs.Rules.{Phase, hunting, in_header, in_body, size, gathered, held, stated, sent_check, header_fault, enter, finish, on_byte}
use Rattle.mdu.specs.Contract.{front, numbers_of, message_of}
use Rattle.mdu.proofs.Known.{length_most}
use Rattle.mdu.proofs.Typed.{typed}
use Rattle.mdu.proofs.Passed.{passed}
use Rattle.mdu.proofs.Entered.{Good, reached, entered, two}

-- a byte that leads to r: it is gathered, where w is what is then held, which stands at the start of the store
abbrev Next : List ℕ → List ℕ → Phase × Option (Segment Message) → Type 0
Next g w r = Takes reached g w w r

enter-takes : (g w : List ℕ) → length w ≡ 6 → Bytes w → get_or w 0 0 ≡ 0xE3 → Next g w (enter w)
enter-takes g w l y e =
    by_eqb (Next g w) (header_fault w) 0 (λ z. goes_on reached g w (in_body (stated w) w) refl (entered w l y e (passed w z)))
    (λ _. closes reached g w w (refused_frame (header_fault w) w) refl (omega arith) tt)

-- a message whose frame stands at the start of the store is read there
read_back : (m : Message) (w store : List ℕ) → frame m ≡ w → message_of (over w store) (numbers_of m) ≡ m
read_back m w store e =
    ap (λ (x : List ℕ). message_of (over x store) (numbers_of m)) (sym e)
    ∙ ap (λ (x : List ℕ). record { address = m.address; body = x })
    (data_stands (header (length m.body) m.address) m.body (trailer (crc16_of m.body)) (over (frame m) store) (take-append_seam (frame m) _))

-- the last byte of a frame, with its header and the k + 2 bytes e behind it
finish-takes : (k : ℕ) (g w : List ℕ) (a : ℕ) (e : List ℕ) → w ≡ header k a ++ e → length e ≡ k + 2 → 1 ≤ a → length_ok k ≡ true → Bytes e
    → Next g w (hunting, some (finish k w))
finish-takes k g w a e i l low allowed y =
    subst (λ (x : List ℕ). Next g x (hunting, some (finish k x))) (sym i)
    (by_eqb (λ (s : Segment Message). Next g whole (hunting, some s)) (sent_check k whole) (crc16_of body)
    (λ c. let f = framed (sym c ∙ numbers) in
    closes reached g whole whole (accepted_frame (record { address = a; body = body })) f fits
    (record { may = rw (length-take-le k e (omega arith), allowed, le-leb 1 a low); typed = typed (record { address = a; body = body }); read = λ store _. read_back _ whole store f; hunts = refl }))
    (λ _. closes reached g whole whole (refused_frame 8 whole) refl fits tt))
  where
    whole : List ℕ
    whole = header k a ++ e

    body : List ℕ
    body = take k e

    fits : length (header k a ++ e) ≤ size
    fits = omega (arith, length_most k allowed)

    numbers : sent_check k (header k a ++ e) ≡ get_or e k 0 * 256 + get_or e (suc k) 0
    numbers =
        let i : 7 + k ≡ 6 + suc k = omega arith in
        rw (i, get_or-append-add (header k a) e k 0, get_or-append-add (header k a) e (suc k) 0)

    framed : crc16_of body ≡ get_or e k 0 * 256 + get_or e (suc k) 0 → header (length body) a ++ (body ++ trailer (crc16_of body)) ≡ header k a ++ e
    framed c =
        let h : crc16_of body / 256 ≡ get_or e k 0 = omega (arith, y (suc k)) in
        let m : crc16_of body % 256 ≡ get_or e (suc k) 0 = omega (arith, y (suc k)) in
        rw (length-take-le k e (omega arith), h, m) (ap (λ (x : List ℕ). header k a ++ x) (sym (two e k l)))

pub takes : (p : Phase) (b : ℕ) → b < 256 → Good p → Takes reached (gathered p) (held p ++ (b ∷ [])) (front p b) (on_byte p b)
takes hunting b y h = go (eqb b 0xE3) (eqb-true b 0xE3)
  where
    go : (t : Bool) → (t ≡ true → b ≡ 0xE3)
        → Takes reached [] (b ∷ []) (cond t (b ∷ []) []) (cond t (in_header (b ∷ []), none) (hunting, some (noise (b ∷ []))))
    go true e = goes_on reached [] (b ∷ []) (in_header (b ∷ [])) refl (bytes_one b y, omega arith, omega arith, e refl)
    go false e = closes reached [] (b ∷ []) [] (noise (b ∷ [])) refl (omega arith) tt
takes (in_header g) b y h =
    let first = get_or-append g (b ∷ []) 0 0 (omega (arith, h.1)) ∙ h.3 in
    by_eqb (Next g (g ++ (b ∷ []))) (length g) 5
    (λ e. enter-takes g (g ++ (b ∷ [])) (simp length-append (omega arith)) (bytes_more g b h.0 y) first)
    (λ n. goes_on reached g _ (in_header (g ++ (b ∷ []))) refl
    (bytes_more g b h.0 y, simp length-append (omega arith), simp length-append (omega arith), first))
takes (in_body k g) b y h =
    by_eqb (Next g (g ++ (b ∷ []))) (length g) (7 + k)
    (λ e. finish-takes k g (g ++ (b ∷ [])) h.address (h.rest ++ (b ∷ [])) more (simp length-append (omega (arith, long))) h.low h.allowed
    (bytes_more h.rest b h.bytes y))
    (λ n. goes_on reached g _ (in_body k (g ++ (b ∷ []))) refl
    (record {
      address = h.address;
      rest = h.rest ++ (b ∷ []);
      whole = more;
      low = h.low;
      allowed = h.allowed;
      bytes = bytes_more h.rest b h.bytes y;
      short = simp length-append (omega (arith, long, h.short));
    }))
  where
    more : g ++ (b ∷ []) ≡ header k h.address ++ (h.rest ++ (b ∷ []))
    more = ap (λ (x : List ℕ). x ++ (b ∷ [])) h.whole

    long : length g ≡ 6 + length h.rest
    long = ap length h.whole ∙ omega arith
