-- What the writer answers and leaves.
use Rattle.std.proofs.Common.{◌≡◌, ℕ, ◌+◌, ◌≤◌, List, ◌++◌, length, drop, sym, ap, ◌∙◌, arith}
use lib.Seq.{sets, length-sets}
use borrow.Rule.Slice.PartMut.{put_mid}
use Rattle.runs.proofs.Run.{sets_append, sets_over}
use Rattle.framing.proofs.Stored.{part_copied}
use Rattle.checksum.specs.Crc.{crc16_of}
use Rattle.mdu.specs.Frame.{Message, header, trailer, frame}

module _ (m : Message) where
  -- header, body and check value, stored one after the other
  stored_parts : (out : List ℕ) → sets (sets (sets out 0 (header (length m.body) m.address)) 6 m.body) (6 + length m.body) (trailer (crc16_of m.body))
      ≡ sets out 0 (frame m)
  stored_parts out =
      let h = header (length m.body) m.address in
      sym (sets_append h (m.body ++ trailer (crc16_of m.body)) out 0 ∙ sets_append m.body (trailer (crc16_of m.body)) (sets out 0 h) 6)

  -- stored one after the other: H into the first six places, the body behind it, and T into the two behind that
  pub parts_copied : (out H mid T : List ℕ) (j : ℕ) → 8 + length m.body ≤ length out → j ≡ 2
      → H ≡ header (length m.body) m.address → mid ≡ sets (H ++ drop 6 out) 6 m.body → T ≡ trailer (crc16_of m.body)
      → put_mid (6 + length m.body) j mid T ≡ sets out 0 (frame m)
  parts_copied out H mid T j h f p q r =
      let n : ℕ = length m.body in
      let first : H ++ drop 6 out ≡ sets out 0 (header n m.address) =
      ap (λ (l : List ℕ). l ++ drop 6 out) p ∙ sym (sets_over (header n m.address) out (omega arith)) in
      let long : length (sets out 0 (header n m.address)) ≡ length out = length-sets out 0 (header n m.address) in
      let second : mid ≡ sets (sets out 0 (header n m.address)) 6 m.body = q ∙ ap (λ (l : List ℕ). sets l 6 m.body) first in
      let longer : length (sets (sets out 0 (header n m.address)) 6 m.body) ≡ length out = length-sets _ 6 m.body ∙ long in
      ap (λ (l : List ℕ). put_mid (6 + n) j l T) second
      ∙ part_copied (sets (sets out 0 (header n m.address)) 6 m.body) (trailer (crc16_of m.body)) T (6 + n) j (omega arith) f r
      ∙ stored_parts out
