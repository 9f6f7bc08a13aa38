-- What the codes prove of themselves: each is lawful, and hides by its three numbers.
use Rattle.std.proofs.Common.{◌≡◌, ℕ, ◌-◌, ◌≤◌, cond, List, [], ◌∷◌, sym, refl, ap, subst, ◌∙◌, eqb, leb, arith, le-leb, leb-true}
use mathlib.Core.Bool.{false≢true}
use borrow.Author.Tests.{ne_eqb}
use Rattle.runs.specs.Runs.{between}
use Rattle.runs.proofs.Cases.{by_test, by_eqb, and_both}
use Rattle.escape.specs.Code.{Meaning, byte, waits, start, end, wrong, Code}
use Rattle.escape.specs.Dle.{dle}
use Rattle.escape.specs.Expansion.{expansion}
use Rattle.escape.specs.Lawful.{Coded, alone, pair, Lawful}
use Rattle.escape.specs.Form.{run_of}

-- a code with one escape byte is lawful if each byte is coded and each wire byte means what it should
module _ (code : Code) (escape : ℕ) where
  -- what is to be shown of the meaning of a wire byte w with nothing waiting
  abbrev pub PlainOf : ℕ → Meaning → Type 0
  PlainOf w (byte b) = code.hide_byte b ≡ w ∷ []
  PlainOf w waits = w ≡ escape
  PlainOf w start = Unit {0}
  PlainOf w end = Unit {0}
  PlainOf w wrong = Unit {0}

  -- and of a wire byte x after the escape byte
  abbrev pub AfterOf : ℕ → Meaning → Type 0
  AfterOf x (byte b) = code.hide_byte b ≡ escape ∷ x ∷ []
  AfterOf x waits = ⊥
  AfterOf x start = Unit {0}
  AfterOf x end = Unit {0}
  AfterOf x wrong = Unit {0}

  pub lawful_by : ((b : ℕ) → Coded code b (code.hide_byte b)) → ((w : ℕ) → PlainOf w (code.plain w))
      → ((x : ℕ) → AfterOf x (code.after x)) → Lawful code
  lawful_by each plainly after = record {
    coded = each;
    plain_byte = λ w b h. subst (PlainOf w) h (plainly w);
    after_byte = λ e x b p h. subst (AfterOf x) h (after x) ∙ ap (λ (y : ℕ). y ∷ x ∷ []) (sym (subst (PlainOf e) p (plainly e)));
    after_settles = λ x h. subst (AfterOf x) h (after x);
  }

-- cases of a byte: hidden, or not
pub by_run : (P : List ℕ → Type 0) (first escape top b : ℕ) → (first ≤ b → b ≤ escape → P (escape ∷ (top - b) ∷ []))
    → ((first ≤ b → b ≤ escape → ⊥) → P (b ∷ [])) → P (run_of first escape top b)
by_run P first escape top b h k =
    by_test P (between first escape b)
    (λ e. let t = and_both (leb first b) (leb b escape) e in h (leb-true first b t.0) (leb-true b escape t.1))
    (λ e. k (λ l m. false≢true (sym e ∙ rw (le-leb first b l, le-leb b escape m))))

pub dle_lawful : Lawful dle
dle_lawful = lawful_by dle 0x10
    (λ b. by_eqb (Coded dle b) b 0x10 (λ e. pair 0x10 0x10 refl (rw e)) (λ n. alone (rw (ne_eqb b 0x10 n))))
    (λ w. by_eqb (PlainOf dle 0x10 w) w 0x10 (λ e. e) (λ n. rw (ne_eqb w 0x10 n)))
    (λ x. by_eqb (AfterOf dle 0x10 x) x 0x02 (λ _. tt) (λ _. by_eqb (AfterOf dle 0x10 x) x 0x03 (λ _. tt)
    (λ _. by_eqb (AfterOf dle 0x10 x) x 0x10 (λ e. rw e) (λ _. tt))))

-- by its three numbers
pub dle_hides : (b : ℕ) → dle.hide_byte b ≡ run_of 0x10 0x10 0x20 b
dle_hides b =
    by_run (λ run. dle.hide_byte b ≡ run) 0x10 0x10 0x20 b
    (λ h k. by_eqb (λ run. run ≡ 0x10 ∷ (0x20 - b) ∷ []) b 0x10 (λ e. rw e) (λ n. absurd (n (omega arith))))
    (λ n. by_eqb (λ run. run ≡ b ∷ []) b 0x10 (λ e. absurd (n (omega arith) (omega arith))) (λ _. refl))

-- cases of a byte: FD, FE, FF, or another
pub by_byte : {A : Type 0} (P : A → Type 0) (b : ℕ) {x y z o : A} → (b ≡ 0xFD → P x) → (b ≡ 0xFE → P y) → (b ≡ 0xFF → P z)
    → ((b ≡ 0xFD → ⊥) → (b ≡ 0xFE → ⊥) → (b ≡ 0xFF → ⊥) → P o)
    → P (cond (eqb b 0xFD) x (cond (eqb b 0xFE) y (cond (eqb b 0xFF) z o)))
by_byte P b h k l m = by_eqb P b 0xFD h (λ n. by_eqb P b 0xFE k (λ n'. by_eqb P b 0xFF l (m n n')))

pub expansion_lawful : Lawful expansion
expansion_lawful = lawful_by expansion 0xFF
    (λ b. by_byte (Coded expansion b) b (λ e. pair 0xFF 0x02 refl (rw e)) (λ e. pair 0xFF 0x01 refl (rw e)) (λ e. pair 0xFF 0x00 refl (rw e))
    (λ n k l. alone (rw (ne_eqb b 0xFD n, ne_eqb b 0xFE k, ne_eqb b 0xFF l))))
    (λ w. by_byte (PlainOf expansion 0xFF w) w (λ _. tt) (λ _. tt) (λ e. e)
    (λ n k l. rw (ne_eqb w 0xFD n, ne_eqb w 0xFE k, ne_eqb w 0xFF l)))
    (λ x. by_eqb (AfterOf expansion 0xFF x) x 0xFD (λ _. tt) (λ _. by_eqb (AfterOf expansion 0xFF x) x 0x02 (λ e. rw e)
    (λ _. by_eqb (AfterOf expansion 0xFF x) x 0x01 (λ e. rw e) (λ _. by_eqb (AfterOf expansion 0xFF x) x 0x00 (λ e. rw e) (λ _. tt)))))

-- by its three numbers
pub expansion_hides : (b : ℕ) → expansion.hide_byte b ≡ run_of 0xFD 0xFF 0xFF b
expansion_hides b =
    by_run (λ run. expansion.hide_byte b ≡ run) 0xFD 0xFF 0xFF b
    (λ h k. by_byte (λ run. run ≡ 0xFF ∷ (0xFF - b) ∷ []) b (λ e. rw e) (λ e. rw e) (λ e. rw e) (λ n n' n''. absurd (omega (arith, n, n', n''))))
    (λ n. by_byte (λ run. run ≡ b ∷ []) b (λ e. absurd (n (omega arith) (omega arith))) (λ e. absurd (n (omega arith) (omega arith)))
    (λ e. absurd (n (omega arith) (omega arith))) (λ _ _ _. refl))
