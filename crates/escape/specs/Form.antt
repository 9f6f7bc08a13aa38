-- Codes in one form, three numbers and the rules of meaning, over which the loops are written once: it serves the laws of the trait and private
-- functions.
use Rattle.std.specs.Prelude.{ℕ, ◌-◌, cond, List, [], ◌∷◌, Option, Some, None}
use Rattle.runs.specs.Runs.{between}
use Rattle.escape.specs.Code.{Meaning, byte, waits, Code}

-- the bytes from the first to the escape byte itself are hidden, each as the escape byte and then the top less the byte
abbrev pub run_of : ℕ → ℕ → ℕ → ℕ → List ℕ
run_of first escape top b = cond (between first escape b) (escape ∷ (top - b) ∷ []) (b ∷ [])

-- the byte that two wire bytes hide, by what they mean
abbrev pub hidden_by : Meaning → Meaning → Option ℕ
hidden_by waits (byte b) = Some b
hidden_by _ _ = None

-- the hidden byte with which wire bytes begin, where both bytes that hide it are there
abbrev pub hidden_first : Code → List ℕ → Option ℕ
hidden_first code [] = None
hidden_first code (w ∷ []) = None
hidden_first code (w ∷ x ∷ wire) = hidden_by (code.plain w) (code.after x)
