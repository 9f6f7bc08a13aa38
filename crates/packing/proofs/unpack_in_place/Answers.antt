use Rattle.std.proofs.Common.{◌≡◌, ℕ, ◌+◌, ◌-◌, min, Bool, List, length, take, drop, sym, ap, ◌∙◌, ap₂, arith}
use lib.Seq.{sets}
use Rattle.framing.specs.Answer.{done}
use Rattle.packing.specs.Unpacked.{data_in_groups, well_packed}
use Rattle.packing.proofs.Inside.{inside, part}
use Rattle.packing.proofs.Contract.{unpacked_done, unpacked_refused, well_unpacks, badly_unpacks}
use Rattle.packing.proofs.unpack_in_place.Goals as goal

-- the bytes that are called packed are those of `&store[start..end]`
module _ (d : List ℕ) (from count start size : ℕ) (s : start ≡ min from (length d)) (n : size ≡ min count (length d - start)) where
  taken : take size (drop start d) ≡ part d from count
  taken = inside d from count start size s n

  tested : (b : Bool) → b ≡ well_packed (take (start + size - start) (drop start d)) → well_packed (part d from count) ≡ b
  tested b h =
      let e : start + size - start ≡ size = omega arith in
      sym (h ∙ ap (λ (k : ℕ). well_packed (take k (drop start d))) e ∙ ap well_packed taken)

pub returns : goal.returns
returns c =
    let d : List ℕ = c.args.store.now in
    let from : ℕ = c.args.from in
    let count : ℕ = c.args.count in
    let start : ℕ = c.min-start.result in
    let size : ℕ = c.min-size.result in
    let p = taken d from count start size c.min-start.ensures c.min-size.ensures in
    let w = tested d from count start size c.min-start.ensures c.min-size.ensures c.well_packed.result c.well_packed.ensures in
    ap₂ (λ (n : ℕ) (l : List ℕ). (done n, l)) (c.unpack_all.ensures.counted ∙ ap (λ (p : List ℕ). length (data_in_groups p)) p)
    (c.unpack_all.ensures.stored ∙ ap (λ (p : List ℕ). sets d 0 (data_in_groups p)) p)
    ∙ sym (unpacked_done d from count (data_in_groups (part d from count)) (well_unpacks (part d from count) (w ∙ c.if-not-well_packed.false)))

pub returns-then-not-well_packed : goal.returns-then-not-well_packed
returns-then-not-well_packed c =
    let d : List ℕ = c.args.store.now in
    let from : ℕ = c.args.from in
    let count : ℕ = c.args.count in
    let start : ℕ = c.min-start.result in
    let size : ℕ = c.min-size.result in
    let w = tested d from count start size c.min-start.ensures c.min-size.ensures c.well_packed.result c.well_packed.ensures in
    sym (unpacked_refused d from count (badly_unpacks (part d from count) (w ∙ c.if-not-well_packed.true)))
