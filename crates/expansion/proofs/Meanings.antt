-- What the wire bytes of the expansion link are by their meaning.
use Prim.Native.Nat.{ℕ, ◌<◌}
use mathlib.Core.Path.{◌≡◌, refl}
use mathlib.Core.Bool.{Bool, true, false}
use lib.Dec.{lit<}
use Rattle.runs.proofs.Cases.{by_eqb}
use Rattle.escape.specs.Code.{Meaning, byte, waits, start, end, wrong, meaning}
use Rattle.escape.specs.Expansion.{expansion}
use Rattle.escape.specs.Laws.{by_byte}

-- what is known of a wire byte by its meaning, with an FF waiting or not
abbrev pub Meant : Bool → ℕ → Meaning → Type 0
Meant w b (byte v) = v < 256
Meant w b waits = (w ≡ false) × (b ≡ 0xFF)
Meant w b start = b ≡ 0xFD
Meant w b end = (w ≡ false) × (b ≡ 0xFE)
Meant w b wrong = Unit {0}

pub meant : (w : Bool) (b : ℕ) → b < 256 → Meant w b (meaning expansion w b)
meant false b y = by_byte (Meant false b) b (λ e. e) (λ e. (refl, e)) (λ e. (refl, e)) (λ _ _ _. y)
meant true b y =
    by_eqb (Meant true b) b 0xFD (λ e. e) (λ _. by_eqb (Meant true b) b 0x02 (λ _. lit< tt)
    (λ _. by_eqb (Meant true b) b 0x01 (λ _. lit< tt) (λ _. by_eqb (Meant true b) b 0x00 (λ _. lit< tt) (λ _. tt))))
