use Rattle.std.proofs.Common.{ℕ, ◌+◌, ◌-◌, List, length, refl, ap, ◌∙◌}
use borrow.Rule.Slice.PartMut.{put_mid}
use Rattle.listing_text.proofs.Puts.{copied}
use Rattle.listing_text.proofs.put_bytes.Goals as goal

pub returns : goal.returns
returns c =
    let at : ℕ = c.args.at in
    let out : List ℕ = c.args.out.now in
    let bytes : List ℕ = c.args.bytes.now in
    record {
      memory = ap (put_mid at (at + length bytes - at) out) c.copy_from_slice.ensures.after ∙ copied out bytes at c.requires;
      place = refl;
    }
