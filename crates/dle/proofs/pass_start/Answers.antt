use Rattle.std.proofs.Common.{◌≡◌, ℕ, ◌+◌, ◌-◌, ◌<◌, List, [], ◌∷◌, length, get_or, take, drop, sym, ap, ◌∙◌, add-zero, arith, length-drop, get_or-drop}
use Rattle.std.proofs.lemmas.Bool.Decides.{Decides-eqb}
use Rattle.std.proofs.lemmas.Slice.Eq.{starts_is}
use Rattle.runs.proofs.Bytes.{part_rest}
use Rattle.dle.proofs.Passing.{leads_start}
use Rattle.dle.proofs.pass_start.Goals as goal

pub returns-then-starts_with : goal.returns-then-starts_with
returns-then-starts_with c store =
    let a = c.args in
    let q = c.requires in
    let part = take (length a.piece.now - a.from) (drop a.from a.piece.now) in
    let run : part ≡ 0x10 ∷ 0x02 ∷ drop 2 part = (starts_is Decides-eqb part (0x10 ∷ 0x02 ∷ []) c.starts_with.result c.starts_with.ensures.value).0 c.if-starts_with.true in
    let rest : drop a.from a.piece.now ≡ 0x10 ∷ 0x02 ∷ drop 2 part = sym (part_rest a.piece.now a.from) ∙ run in
    let there : a.from + 1 < length a.piece.now = omega (arith, ap length rest, length-drop a.from a.piece.now) in
    let first : get_or a.piece.now a.from 0 ≡ 0x10 =
    ap (λ (i : ℕ). get_or a.piece.now i 0) (sym (add-zero a.from)) ∙ sym (get_or-drop a.from a.piece.now 0 0) ∙ ap (λ (l : List ℕ). get_or l 0 0) rest in
    let second : get_or a.piece.now (a.from + 1) 0 ≡ 0x02 = sym (get_or-drop a.from a.piece.now 1 0) ∙ ap (λ (l : List ℕ). get_or l 1 0) rest in
    rw c.reopen.ensures (record { leads = leads_start a.piece.now a.state store a.from q.0 there first second; count = omega arith })
