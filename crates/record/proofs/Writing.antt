-- Each way out of writing, whatever the signedness.
use Prim.Native.Nat.{ℕ, ◌+◌, ◌*◌, ◌≤◌, ◌<◌}
use mathlib.Core.Path.{◌≡◌, refl, sym, ap, ◌∙◌}
use mathlib.Core.Bool.{Bool, true, false, not, beq, ◌&&◌}
use mathlib.Core.List.{List, ◌∷◌, ◌++◌}
use native.Mathlib.Omega.{arith}
use lib.ListN.{length, length-append, length-map}
use lib.Seq.{sets}
use Rattle.runs.specs.Number.{bytes_of}
use Rattle.runs.proofs.Number.{length-bytes_of}
use Rattle.runs.proofs.Run.{sets_append}
use Rattle.framing.specs.Answer.{done, refused, stored_at}
use Rattle.framing.proofs.Stored.{stored_done, stored_refused, writes_stored}
use Rattle.std.specs.Prelude.{Some}
use Rattle.std.specs.List.{list_all}
use Rattle.record.specs.declared.form.Form.{Form}
use Rattle.record.specs.Form.{bytes_in, form_of, size_in, signed_in, size_of, allowed}
use Rattle.record.specs.Fares.{Signedness, same, writable, elements, record_bytes}
use Rattle.record.specs.Answers.{writing}
use Rattle.record.proofs.Numbers.{length-bytes_of_all}
use Rattle.record.proofs.Forms.{allowed_facts, limit_le, own_sign}

and_false : (a : Bool) → (a && false) ≡ false
and_false true = refl
and_false false = refl

module _ {A : Type 0} (F : Signedness A) (kind address : ℕ) (l : List A) where
  pub length_record : length (record_bytes F kind address l) ≡ 5 + size_of kind * length l
  length_record = simp (length-append, length-bytes_of, length-bytes_of_all, length-map) (omega arith)

  -- the three tests of what may be sent, by the form of the type
  pub write_not_allowed : (out : List ℕ) → allowed kind address (length l) ≡ false → (refused 3, out) ≡ writing F kind address l out
  unfolding writing writable
  write_not_allowed out e = rw (e, and_false)

  module _ {g : Form} (is : Some g ≡ form_of kind) (out : List ℕ) where
    pub write_other : same F.signed g.signed ≡ false → (refused 3, out) ≡ writing F kind address l out
    unfolding writing writable
    write_other e = rw (rw (ap signed_in is) at e)

    pub write_not_held : list_all (F.holds (bytes_in g.size)) l ≡ false → (refused 3, out) ≡ writing F kind address l out
    unfolding writing writable
    write_not_held e = rw (rw (ap size_in is) at e, and_false, and_false)

  -- all three are passed
  pub record Sendable (g : Form) : Type 0 where
    pub form_is : Some g ≡ form_of kind
    pub sign : same F.signed g.signed ≡ true
    pub allows : allowed kind address (length l) ≡ true
    pub held : list_all (F.holds (bytes_in g.size)) l ≡ true

  -- from what the tests answered
  pub sendable : {g : Form} {a : ℕ} {s held : Bool} → (allowed kind a (length l) ≡ true) × (Some g ≡ form_of kind) → a ≡ address
      → s ≡ F.signed → not (beq g.signed s) ≡ false → held ≡ list_all (F.holds (bytes_in g.size)) l → held ≡ true → Sendable g
  sendable p a s t h e = record { form_is = p.1; sign = own_sign _ _ _ s t; allows = rw a at p.0; held = sym h ∙ e }

  module _ {g : Form} (s : Sendable g) where
    size_is : bytes_in g.size ≡ size_of kind
    size_is = ap size_in s.form_is

    is_writable : writable F kind address l ≡ true
    unfolding writable
    is_writable = rw (rw (ap signed_in s.form_is) at s.sign, s.allows, rw size_is at s.held)

    whole_is : 5 + bytes_in g.size * length l ≡ length (record_bytes F kind address l)
    whole_is = rw size_is (sym length_record)

    pub send_whole : 5 + bytes_in g.size * length l ≤ 1024
    send_whole = rw size_is (allowed_facts _ _ _ s.allows).short

    pub send_few : length l < 65536
    send_few = omega (arith, allowed_facts _ _ _ s.allows, limit_le kind)

    stores : (out : List ℕ) → writing F kind address l out ≡ stored_at (record_bytes F kind address l) out 0
    unfolding writing
    stores out = writes_stored (writable F kind address) (record_bytes F kind address) l out is_writable

    pub write_short : (out : List ℕ) → length out < 5 + bytes_in g.size * length l → (refused 2, out) ≡ writing F kind address l out
    write_short out m = sym (stores out ∙ stored_refused (record_bytes F kind address l) out 0 (omega (arith, whole_is)))

    pub write_done : (out after : List ℕ) → 5 + bytes_in g.size * length l ≤ length out
        → after ≡ sets (sets out 0 ((kind ∷ bytes_of 2 address) ++ bytes_of 2 (length l))) 5 (elements F (bytes_in g.size) l)
        → (done (5 + bytes_in g.size * length l), after) ≡ writing F kind address l out
    write_done out after m e =
        let header = (kind ∷ bytes_of 2 address) ++ bytes_of 2 (length l) in
        let five : 0 + length header ≡ 5 = simp (length-append, length-bytes_of) in
        let laid : after ≡ sets out 0 (record_bytes F kind address l) =
        (rw size_is at e) ∙ sym (rw five at (sets_append header (elements F (size_of kind) l) out 0)) in
        rw (whole_is, laid) (sym (stores out ∙ stored_done (record_bytes F kind address l) out 0 (omega (arith, whole_is))))
