-- Lawful codes, of which what is hidden reads back, and what is read is what hiding makes.
use Rattle.std.specs.Prelude.{◌≡◌, ℕ, List, [], ◌∷◌}
use Rattle.escape.specs.Code.{byte, waits, Code}

-- the run that hides a byte is the byte alone, where it means itself, or a byte that waits and one that completes the hidden byte
pub data Coded (code : Code) (b : ℕ) : List ℕ → Type 0 where
  alone : code.plain b ≡ byte b → Coded code b (b ∷ [])
  pair : (e x : ℕ) → code.plain e ≡ waits → code.after x ≡ byte b → Coded code b (e ∷ x ∷ [])

-- hiding and reading fit together: each run reads back as its byte, and nothing else reads as that byte
pub record Lawful (code : Code) : Type 0 where
  pub coded : (b : ℕ) → Coded code b (code.hide_byte b)
  pub plain_byte : (w b : ℕ) → code.plain w ≡ byte b → code.hide_byte b ≡ w ∷ []
  pub after_byte : (e x b : ℕ) → code.plain e ≡ waits → code.after x ≡ byte b → code.hide_byte b ≡ e ∷ x ∷ []
  pub after_settles : (x : ℕ) → code.after x ≡ waits → ⊥
