-- A part of a list, as far as it lies in the list: a place or a count past the end is as good as the end.
use Rattle.std.proofs.Common.{◌≡◌, ℕ, ◌-◌, min, List, length, take, drop, ap, ◌∙◌, arith, length-drop}
use Rattle.std.proofs.lemmas.List.{take_min, drop_min}

-- count bytes from a place on
abbrev pub part : List ℕ → ℕ → ℕ → List ℕ
part d from count = take count (drop from d)

pub inside : (l : List ℕ) (from count start size : ℕ) → start ≡ min from (length l) → size ≡ min count (length l - start)
    → take size (drop start l) ≡ part l from count
inside l from count start size a b =
    let at : drop start l ≡ drop from l = ap (λ (n : ℕ). drop n l) a ∙ drop_min from l in
    let n : size ≡ min count (length (drop from l)) = rw length-drop (omega arith) in
    ap (take size) at ∙ ap (λ (m : ℕ). take m (drop from l)) n ∙ take_min count (drop from l)
