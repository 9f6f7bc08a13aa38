-- What the accessors tell of a message that was read, over any link.
use Prim.Native.Nat.{ℕ, ◌^◌, ◌<◌}
use mathlib.Core.Path.{◌≡◌, sym, ap, ◌∙◌, subst}
use mathlib.Core.Bool.{Bool, true, cond}
use mathlib.Core.List.{List}
use lib.ListN.{get_or}
use Rattle.runs.specs.Runs.{Bytes}
use Rattle.framing.specs.Answer.{Outcome}
use Rattle.framing.specs.Link.{Link}
use Rattle.framing.specs.Whole.{OnlyFrames}
use Rattle.host.specs.Read.{packed, encode, length_of, kind_of, crc_of, field_of}
use Rattle.host.specs.Claims.{PartTold}
use Rattle.host.proofs.Packed.{packed-size, packed_kind, packed_crc, packed_field}

-- the number of a message packs a size of 12 bits, a kind of two, a bit for a CRC, and fields that are bytes
pub record Packs {N : Type 0} (code size kind : N → ℕ) (crc : N → Bool) (fields : N → List ℕ) (v : N) : Type 0 where
  pub number : code v ≡ packed (size v) (kind v) (crc v) (fields v)
  pub size_fits : size v < 2 ^ 12
  pub kind_fits : kind v < 2 ^ 2
  pub fields_fit : Bytes (fields v)

-- so does that of each message that may be sent and whose numbers fit their types
module _ (L : Link) (only : OnlyFrames L) {code size kind : L.Numbers → ℕ} {crc : L.Numbers → Bool} {fields : L.Numbers → List ℕ}
    (packs : (m : L.Message) → L.ok m ≡ true → L.Typed m → Packs code size kind crc fields (L.numbers_of m)) where
  part-told : (accessor : ℕ → ℕ) (part : L.Numbers → ℕ)
      → ((v : L.Numbers) → Packs code size kind crc fields v → accessor (packed (size v) (kind v) (crc v) (fields v)) ≡ part v) → PartTold L code accessor part
  part-told accessor part tells run store v y h =
      let p = only run store v y h in
      let k = subst (Packs code size kind crc fields) (sym p.1.told) (packs p.0 p.1.sendable p.1.typed) in
      ap (λ (o : Outcome L.Numbers). accessor (encode code o)) h ∙ ap accessor k.number ∙ tells v k

  pub length-told : PartTold L code length_of size
  length-told = part-told length_of size (λ v k. packed-size (size v) (kind v) (crc v) (fields v) k.size_fits)

  pub kind_told : PartTold L code kind_of kind
  kind_told = part-told kind_of kind (λ v k. packed_kind (size v) (kind v) (crc v) (fields v) k.kind_fits)

  pub crc_told : PartTold L code crc_of (λ v. cond (crc v) 1 0)
  crc_told = part-told crc_of (λ v. cond (crc v) 1 0) (λ v k. packed_crc (size v) (kind v) (crc v) (fields v))

  pub field_told : (i : ℕ) → PartTold L code (field_of i) (λ v. get_or (fields v) i 0)
  field_told i = part-told (field_of i) (λ v. get_or (fields v) i 0) (λ v k. packed_field (size v) (kind v) (crc v) (fields v) i k.fields_fit)
