-- What the private functions find, and ask of their callers.
use Rattle.std.specs.Prelude.{ℕ, ◌≡◌, true, List, Some}
use Rattle.record.specs.declared.form.Header.{Header}
use Rattle.record.specs.Form.{form_of, kind_of, count_of, well_formed}

-- the header of a well-formed record: its type, that type's form, and its count
pub record Found (r : List ℕ) (h : Header) : Type 0 where
  pub good : well_formed r ≡ true
  pub kind_is : h.kind ≡ kind_of r
  pub form_is : Some h.form ≡ form_of (kind_of r)
  pub count_is : h.count ≡ count_of r
