-- A bound makes a count.
use Prim.Native.Nat.{ℕ, ◌+◌, ◌≤◌}
use mathlib.Core.Path.{◌≡◌, ap, ◌∙◌}
use mathlib.Core.List.{List}
use native.Mathlib.Omega.{arith}
use lib.ListN.{length, drop, length-take, length-append}
use Rattle.runs.specs.Runs.{over}
use Rattle.vector_text.specs.Counted.{Counted, PutAtStart}

pub counted : {A : Type 0} (n : ℕ) (xs : List A) → n ≤ length xs → Counted n xs
counted n xs h = (h, simp length-take (omega arith))

pub puts_so : (run before after : List ℕ) (n : ℕ) → length run ≤ length before → n ≡ length run → after ≡ over run before → PutAtStart run before after n
puts_so run before after n h e q =
    let l : length after ≡ length run + length (drop (length run) before) = ap length q ∙ length-append run (drop (length run) before) in
    (e, counted n after (omega arith), q)
