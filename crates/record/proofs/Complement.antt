-- Two's complement of a size: the numbers fall into two halves.
use Prim.Native.Nat.{ℕ, ◌%◌, ◌^◌, ◌<◌}
use mathlib.Core.Path.{◌≡◌, refl}
use lib.Dec.{lit≤}
use Rattle.record.specs.declared.form.Size.{Size}
use Rattle.record.specs.declared.form.Size.TheVariants.{One, Two, Four}
use Rattle.record.specs.Form.{bytes_in}

pub record Halves (size : ℕ) : Type 0 where
  pub even : 256 ^ size % 2 ≡ 0
  pub some : 0 < 256 ^ size

pub halves : (size : Size) → Halves (bytes_in size)
halves One = record { even = refl; some = lit≤ tt }
halves Two = record { even = refl; some = lit≤ tt }
halves Four = record { even = refl; some = lit≤ tt }
