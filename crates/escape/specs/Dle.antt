-- The DLE code: between the marks every 10 is doubled.
use Rattle.std.specs.Prelude.{ℕ, cond, List, [], ◌∷◌, eqb}
use Rattle.escape.specs.Code.{Meaning, byte, waits, start, end, wrong, Code}

-- 10 becomes 10 10
abbrev pub hide_byte : ℕ → List ℕ
hide_byte b = cond (eqb b 0x10) (0x10 ∷ 0x10 ∷ []) (b ∷ [])

-- 10 waits for the byte that follows it
abbrev pub plain : ℕ → Meaning
plain w = cond (eqb w 0x10) waits (byte w)

-- 10 followed by 02 is a new start, by 03 the end, by 10 one 10, by another byte wrongly coded
abbrev pub after : ℕ → Meaning
after w = cond (eqb w 0x02) start (cond (eqb w 0x03) end (cond (eqb w 0x10) (byte 0x10) wrong))

-- the three rules together
abbrev pub dle : Code
dle = record { hide_byte = hide_byte; plain = plain; after = after }
