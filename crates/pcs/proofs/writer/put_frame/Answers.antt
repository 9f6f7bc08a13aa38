use Prim.Native.Nat.{ℕ, ◌+◌, ◌-◌, ◌<◌, ◌≤◌}
use mathlib.Core.Path.{◌≡◌, refl, sym, ap, ap₂, ◌∙◌}
use mathlib.Core.Bool.{Bool, true, false}
use mathlib.Core.List.{List, [], ◌∷◌, ◌++◌}
use native.Mathlib.Omega.{arith}
use lib.ListN.{length, take, drop, get_or, length-append}
use lib.Seq.{sets, length-sets}
use Rattle.runs.specs.Total.{total_from}
use Rattle.packing.specs.Packed.{packed, packed_length}
use Rattle.packing.specs.Contract.{summed_at}
use Rattle.checksum.specs.Sum.{total_of}
use Rattle.packing.proofs.Contract.{summed_done}
use Rattle.packing.proofs.Lengths.{length-packed}
use Rattle.pcs.specs.Frame.{header, trailer, trailing, frame}
use Rattle.pcs.specs.Frame as Frame
use Rattle.pcs.specs.Contract.{with_data}
use Rattle.pcs.specs.Steps.{with_crc, crc_marked}
use Rattle.pcs.specs.declared.Message.{Message}
use Rattle.pcs.proofs.Written.{body-written, total_written, info_written, marked_written, covered, frame-written}
use Rattle.pcs.proofs.writer.put_frame.Goals as goal

-- what is known once the header is stored in out, which gives first, and then the data are packed, which gives second
module _ (message : Message) (d out : List ℕ) {first : List ℕ} {n : ℕ} (count : n ≡ packed_length (length d))
    (room : 10 + n + trailing message.crc ≤ length out) (kept : length first ≡ length out)
    (e : first ≡ sets out 0 (253 ∷ header (with_crc false (with_data message [])) n)) where
  abbrev M : Frame.Message
  M = with_data message d

  -- the body of the message with a choice
  abbrev Body : Bool → List ℕ
  Body crc = header (with_crc crc M) n ++ packed d

  counted : length (packed d) ≡ n
  counted = length-packed d ∙ sym count

  held : 9 + length (packed d) ≤ length out
  held = omega (arith, counted)

  end : (crc : Bool) → 1 + length (Body crc) ≡ 9 + n
  end crc = omega (arith, length-append (header (with_crc crc M) n) (packed d), counted)

  -- with the message's own choice, body, trailer and end mark are its frame
  framed : (crc : Bool) → crc ≡ M.crc → sets out 0 (253 ∷ (Body crc ++ (trailer crc (Body crc) ++ (254 ∷ [])))) ≡ sets out 0 (frame M)
  framed crc q =
      ap₂ (λ (k : ℕ) (t : Bool). let b = header (with_crc t M) k ++ packed d in sets out 0 (253 ∷ (b ++ (trailer t b ++ (254 ∷ [])))))
      (sym counted) q

  module _ (head : ℕ) {total : ℕ} {second : List ℕ}
      (s : ◌≡◌ {A = ℕ × List ℕ} (total, second) (summed_at head (packed d) first 9)) where
    done : ◌≡◌ {A = ℕ × List ℕ} (total, second) (total_from head (packed d), sets first 9 (packed d))
    done = s ∙ summed_done head (packed d) first 9 (omega (arith, held))

    long : length second ≡ length out
    long = (λ i. length (done i).1) ∙ length-sets first 9 (packed d) ∙ kept

    written : second ≡ sets out 0 (253 ∷ Body false)
    written = body-written out (header (with_crc false M) n) (packed d) first second refl held e (λ i. (done i).1)

    -- what `put_crc_end` and `put_end` ask
    crc_asks : message.kind ≤ 3 → message.crc ≡ true → (4 ≤ 9 + n) × (9 + n + 4 < length second) × (get_or second 3 0 ≤ 247)
    crc_asks k t =
        let info = info_written M n (packed d) out second held written in
        (omega arith, omega (arith, long, ap trailing t), omega (arith, info))

    plain_asks : message.crc ≡ false → head ≡ total_from 0 (take (9 - 1) (drop 1 first))
        → (1 ≤ 9 + n) × (9 + n + 1 < length second) × (total ≡ total_of (take (9 + n - 1) (drop 1 second)))
    plain_asks f h =
        let t =
        total_written out (header (with_crc false M) n) (packed d) first second refl held e (λ i. (done i).1) head total h (λ i. (done i).0) in (
          omega arith,
          omega (arith, long, ap trailing f),
          t ∙ ap total_of (sym (covered out (Body false) second (9 + n) (end false) (omega arith) written)),
        )

    -- and what they leave is the frame
    crc_leaves : message.crc ≡ true → (third : List ℕ)
        → third ≡ sets (crc_marked second) (9 + n) (trailer true (take (9 + n - 1) (drop 1 (crc_marked second))) ++ (254 ∷ []))
        → third ≡ sets out 0 (frame M)
    crc_leaves t third x =
        let marked = marked_written M n (packed d) out second held written in
        frame-written out (Body true) (crc_marked second) (9 + n) (end true) (omega arith) marked (λ b. trailer true b ++ (254 ∷ [])) third x
        ∙ framed true (sym t)

    plain_leaves : message.crc ≡ false → (third : List ℕ)
        → third ≡ sets second (9 + n) (trailer false (take (9 + n - 1) (drop 1 second)) ++ (254 ∷ []))
        → third ≡ sets out 0 (frame M)
    plain_leaves f third x =
        frame-written out (Body false) second (9 + n) (end false) (omega arith) written (λ b. trailer false b ++ (254 ∷ [])) third x
        ∙ framed false (sym f)

pub put_crc_end-requires : goal.put_crc_end-requires
put_crc_end-requires c =
    let a = c.args in
    crc_asks a.message a.«data».now a.out.now c.requires.2 c.requires.3 c.put_header.auto.out c.put_header.ensures c.total-head.result
    c.pack_summed-total.ensures c.requires.0 c.if-message.true

pub put_end-requires : goal.put_end-requires
put_end-requires c =
    let a = c.args in
    plain_asks a.message a.«data».now a.out.now c.requires.2 c.requires.3 c.put_header.auto.out c.put_header.ensures c.total-head.result
    c.pack_summed-total.ensures c.if-message.false c.total-head.ensures

pub returns-then-message : goal.returns-then-message
returns-then-message c =
    let a = c.args in
    crc_leaves a.message a.«data».now a.out.now c.requires.2 c.requires.3 c.put_header.auto.out c.put_header.ensures c.total-head.result
    c.pack_summed-total.ensures c.if-message.true c.put_crc_end.new.out c.put_crc_end.ensures

pub returns-else-message : goal.returns-else-message
returns-else-message c =
    let a = c.args in
    plain_leaves a.message a.«data».now a.out.now c.requires.2 c.requires.3 c.put_header.auto.out c.put_header.ensures c.total-head.result
    c.pack_summed-total.ensures c.if-message.false c.put_end.new.out c.put_end.ensures
