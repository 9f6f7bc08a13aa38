-- The expansion code is lawful, reads back, leaves no mark among hidden bytes, and bounds a frame.
use Prim.Native.Nat.{ℕ, zero, suc, ◌≤◌, ◌<◌}
use mathlib.Core.Path.{◌≡◌}
use mathlib.Core.List.{List, [], ◌∷◌}
use native.Mathlib.Omega.{arith}
use lib.Dec.{lit<}
use lib.ListN.{get_or, length-append}
use Rattle.runs.specs.Runs.{Bytes}
use Rattle.runs.proofs.Bytes.{bytes_one, bytes_two}
use Rattle.escape.specs.Code.{hide}
use Rattle.escape.specs.Expansion.{hide_byte, expansion}
use Rattle.escape.specs.Claims.{HiddenReadsBack, ReadIsHidden, NoMarks, FrameBound}
use Rattle.runs.proofs.Each.{each_all, each_bytes}
use Rattle.escape.specs.Laws.{by_byte, expansion_lawful}
use Rattle.escape.proofs.Lawful.{unhide_hide, hide_unhide, hide_short}

pub expansion_reads_back : HiddenReadsBack expansion
expansion_reads_back = unhide_hide expansion expansion_lawful

pub expansion_read_hidden : ReadIsHidden expansion
expansion_read_hidden = hide_unhide expansion expansion_lawful

-- hidden bytes are bytes
pub expansion_bytes : (bytes : List ℕ) → Bytes bytes → Bytes (hide expansion bytes)
expansion_bytes =
    each_bytes hide_byte
    (λ b h. by_byte Bytes b (λ _. coded 0x02 (lit< tt)) (λ _. coded 0x01 (lit< tt)) (λ _. coded 0x00 (lit< tt)) (λ _ _ _. bytes_one b h))
  where
    coded : (x : ℕ) → x < 256 → Bytes (0xFF ∷ x ∷ [])
    coded x h = bytes_two 0xFF x (lit< tt) h

-- neither mark
abbrev Unmarked : ℕ → Type 0
Unmarked x = (x ≡ 0xFD → ⊥) × (x ≡ 0xFE → ⊥)

one_unmarked : (x : ℕ) → Unmarked x → (i : ℕ) → Unmarked (get_or (x ∷ []) i 0)
one_unmarked x h zero = h
one_unmarked x h (suc i) = (λ e. omega arith, λ e. omega arith)

pair_unmarked : (x y : ℕ) → Unmarked x → Unmarked y → (i : ℕ) → Unmarked (get_or (x ∷ y ∷ []) i 0)
pair_unmarked x y h k zero = h
pair_unmarked x y h k (suc i) = one_unmarked y k i

byte_unmarked : (b i : ℕ) → Unmarked (get_or (hide_byte b) i 0)
byte_unmarked b i =
    by_byte (λ run. Unmarked (get_or run i 0)) b (λ _. coded 0x02 (omega arith)) (λ _. coded 0x01 (omega arith)) (λ _. coded 0x00 (omega arith))
    (λ n k _. one_unmarked b (n, k) i)
  where
    coded : (x : ℕ) → x ≤ 2 → Unmarked (get_or (0xFF ∷ x ∷ []) i 0)
    coded x h = pair_unmarked 0xFF x (λ e. omega arith, λ e. omega arith) (λ e. omega arith, λ e. omega arith) i

pub expansion_unmarked : NoMarks
expansion_unmarked = each_all expansion.hide_byte Unmarked (λ e. omega arith, λ e. omega arith) byte_unmarked

pub expansion_bound : FrameBound
expansion_bound bytes h = simp length-append (omega (arith, hide_short expansion expansion_lawful bytes))
