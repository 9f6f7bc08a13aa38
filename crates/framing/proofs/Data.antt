-- The data of a message, as a part of the store.
use Rattle.std.proofs.Common.{◌≡◌, ℕ, ◌+◌, ◌-◌, ◌<◌, ◌≤◌, List, [], length, take, drop, ap, arith, le-leb}
use borrow.Author.Tests.{lt-leb}
use Rattle.framing.specs.Link.{data_at}

module _ (place count : ℕ) (store : List ℕ) where
  pub data_inside : place + count ≤ length store → take (place + count - place) (drop place store) ≡ data_at store place count
  data_inside h =
      let n : place + count - place ≡ count = omega arith in
      rw (le-leb (place + count) (length store) h) (ap (λ (k : ℕ). take k (drop place store)) n)

  pub data_outside : length store < place + count → [] ≡ data_at store place count
  data_outside h = rw (lt-leb (place + count) (length store) h)
