use Prim.Native.Nat.{ℕ, ◌+◌, ◌*◌}
use mathlib.Core.Path.{◌≡◌, refl, sym, ap₂, ◌∙◌}
use mathlib.Core.Bool.{Bool, false≢true}
use native.Mathlib.Omega.{arith}
use Rattle.std.specs.Prelude.{Some}
use Rattle.record.specs.declared.form.Form.{Form}
use Rattle.record.specs.Form.{bytes_in, form_of, size_in, size_of, allowed}
use Rattle.record.proofs.Forms.{allowed_facts, is_allowed, formed, is_formed, is_no}
use Rattle.record.proofs.form.header_of.Goals as goal

-- what was read and found, in the definitions' terms
module _ (kind : ℕ) {n n' : ℕ} (count : n ≡ n') where
  verdict_is : {a a' : ℕ} {t : Bool} → a ≡ a' → allowed kind a n ≡ t → allowed kind a' n' ≡ t
  verdict_is a e = sym (ap₂ (λ a n. allowed kind a n) a count) ∙ e

  whole_is : {f : Form} → Some f ≡ form_of kind → 5 + bytes_in f.size * n ≡ 5 + size_of kind * n'
  whole_is is = ap₂ (λ o n. 5 + size_in o * n) is count

pub returns-in_default : goal.returns-in_default
returns-in_default c =
    let no = verdict_is _ c.number_at-count.ensures c.number_at-address.ensures c.in_default.ensures in
    (is_no _ (λ e. false≢true (sym no ∙ is_allowed _ _ _ (formed _ e).allows)), refl)

pub returns-then-bytes-lt5 : goal.returns-then-bytes-lt5
returns-then-bytes-lt5 c = (is_no _ (λ e. let f = formed _ e in omega (arith, f.room)), refl)

pub returns-then-bytes-from : goal.returns-then-bytes-from
returns-then-bytes-from c =
    let w = whole_is _ c.number_at-count.ensures c.in-Some.ensures.1 in
    (is_no _ (λ e. c.if-bytes-from.true (rw c.from.ensures ((formed _ e).whole ∙ sym w))), refl)

pub returns : goal.returns
returns c =
    let n = c.number_at-count.ensures in
    record {
      good = is_formed _ (record {
        room = c.if-bytes-lt5.false;
        allows = allowed_facts _ _ _ (verdict_is _ n c.number_at-address.ensures c.in-Some.ensures.0);
        whole = rw c.from.ensures at c.if-bytes-from.false ∙ whole_is _ n c.in-Some.ensures.1;
      });
      kind_is = refl;
      form_is = c.in-Some.ensures.1;
      count_is = n;
    }
