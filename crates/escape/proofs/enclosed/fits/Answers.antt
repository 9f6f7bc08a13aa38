use Rattle.std.proofs.Common.{◌≡◌, ℕ, ◌≤◌, Bool, true, false, nat_le, sym, refl, arith, le-leb, leb-true, leb-false}
use Rattle.escape.proofs.Written.{hidden_total, hidden_most}
use Rattle.escape.proofs.enclosed.fits.Goals as goal

-- two tests that hold of the same numbers
same : (a b c d : ℕ) → (a ≤ b → c ≤ d) → (c ≤ d → a ≤ b) → nat_le a b ≡ nat_le c d
same a b c d f g = go (nat_le a b) (nat_le c d) refl refl
  where
    go : (t u : Bool) → nat_le a b ≡ t → nat_le c d ≡ u → t ≡ u
    go true true e h = refl
    go false false e h = refl
    go true false e h = absurd (omega (arith, leb-false c d h, f (leb-true a b e)))
    go false true e h = absurd (omega (arith, leb-false a b e, g (leb-true c d h)))

-- no byte takes more than two
pub returns-then-bytes-room : goal.returns-then-bytes-room
returns-then-bytes-room g c =
    let a = c.args in
    let code = g.C.Code.code in
    let two = hidden_most code a.header.now a.«data».now a.trailer.now g.met.C.Code.lawful in
    let all = hidden_total code a.header.now a.«data».now a.trailer.now in
    sym (le-leb _ _ (omega (arith, two, all, c.in-Some.ensures, c.saturating_add.ensures, c.saturating_add-bytes.ensures)))

pub returns : goal.returns
returns g c =
    let a = c.args in
    let all = hidden_total g.C.Code.code a.header.now a.«data».now a.trailer.now in
    let h = c.hidden_length.ensures in
    let d = c.hidden_length-2.ensures in
    let t = c.hidden_length-3.ensures in
    let some = c.saturating_add-hidden.ensures in
    let sum = c.saturating_add-2.ensures in
    let room = c.in-Some.ensures in
    same _ _ _ _ (λ l. omega (arith, l)) (λ l. omega (arith, l))
