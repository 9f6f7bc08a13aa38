use Rattle.std.proofs.Common.{◌≡◌, ℕ, ◌+◌, ◌*◌, ◌/◌, ◌^◌, ◌<◌, ◌≤◌, List, [], ◌∷◌, length, get_or, drop, sym, refl, ap, ◌∙◌, arith, drop_of_length-le}
use Rattle.runs.proofs.Run.{run-start, run-one, run_end}
use Rattle.packing.specs.Seven.{sent}
use Rattle.packing.specs.Packed.{last_place, tops_after, tops_of, packed_group}
use Rattle.packing.proofs.Tops.{tops_le, tops_small, tops_placed}
use Rattle.packing.proofs.Group.{still, length_group}
use Rattle.runs.specs.Runs.{Bytes}
use Rattle.runs.specs.Total.{total_from}
use Rattle.runs.proofs.Carried.{total_next, total_one}
use Rattle.runs.proofs.Bytes.{drop-next}
use Rattle.packing.proofs.pack_group.Goals as goal

-- the top bit of byte j joins those gathered, which stay a seven-bit value
module _ (g : List ℕ) (j top : ℕ) (more : j < length g) (e : tops_after top (drop j g) ≡ tops_after 0 g) where
  tops_next : tops_after (2 * top + get_or g j 0 / 128) (drop (j + 1) g) ≡ tops_after 0 g
  unfolding tops_after
  tops_next = ap (tops_after top) (sym (drop-next g j more)) ∙ e

  small : Bytes g → length g ≤ 7 → 2 * top + get_or g j 0 / 128 < 128
  small b l = omega (arith, tops_next, tops_le (2 * top + get_or g j 0 / 128) (drop (j + 1) g), tops_small g b l)

-- after the loop nothing is left of g, and `top` has all its top bits
module _ (g : List ℕ) (j top : ℕ) (end : j ≡ length g) (e : tops_after top (drop j g) ≡ tops_after 0 g) where
  rest : drop j g ≡ []
  rest = drop_of_length-le g (omega arith)

  placed : top * 2 ^ last_place (length g) ≡ tops_of g
  unfolding tops_of tops_after
  placed = ap (λ (t : ℕ). t * 2 ^ last_place (length g)) (rw rest at e)

pub loop-j-init : goal.loop-j-init
unfolding packed_group
loop-j-init c = (refl, run-start (rw length_group (omega arith)) refl, refl)

pub overflow_mul-top : goal.overflow_mul-top
overflow_mul-top c =
    let l = c.loop-j in
    omega (arith, small c.args.g.now l.j l.top (omega arith) l.invariant.0 (λ i. (c.type_inv.g i).fits) c.requires.0)

pub overflow_add-top : goal.overflow_add-top
overflow_add-top c =
    let l = c.loop-j in
    omega (arith, small c.args.g.now l.j l.top (omega arith) l.invariant.0 (λ i. (c.type_inv.g i).fits) c.requires.0)

pub loop-j-preserved : goal.loop-j-preserved
loop-j-preserved c =
    let g = c.args.g.now in
    let h = c.loop-j in
    let l = still g (drop (h.j + 1) g) in
    let more : h.j < length g = omega arith in
    let next = ap (still g) (drop-next g h.j more) in
    let added =
    sym (total_next h.total c.sent_as-low.result l)
    ∙ ap (λ (b : ℕ). total_from h.total (b ∷ l)) c.sent_as-low.ensures
    ∙ ap (total_from h.total) (sym next)
    ∙ h.invariant.2 in (
      tops_next g h.j h.top more h.invariant.0,
      run-one h.invariant.1 next c.sent_as-low.ensures,
      added,
    )

pub tops_sent-tops-requires : goal.tops_sent-tops-requires
tops_sent-tops-requires c =
    let g = c.args.g.now in
    let h = c.loop-j in
    (omega arith, rw (placed g h.j h.top (omega arith) h.invariant.0) (tops_placed g (λ i. (c.type_inv.g i).fits) c.requires.0))

pub returns : goal.returns
returns c =
    let g = c.args.g.now in
    let h = c.loop-j in
    let end : h.j ≡ length g = omega arith in
    let v = c.tops_sent-tops.ensures ∙ ap (λ (v : ℕ). sent v) (placed g h.j h.top end h.invariant.0) in
    let left = ap (still g) (rest g h.j h.top end h.invariant.0) in
    let added =
    sym (total_one h.total c.tops_sent-tops.result)
    ∙ ap (λ (b : ℕ). total_from h.total (b ∷ [])) v
    ∙ ap (total_from h.total) (sym left)
    ∙ h.invariant.2 in
    record { total = added; stored = run_end (rw end at (run-one h.invariant.1 left v)) refl }
