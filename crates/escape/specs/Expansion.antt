-- The expansion code: a byte b from FD on is sent as FF and then FF - b.
use Rattle.std.specs.Prelude.{ℕ, cond, List, [], ◌∷◌, eqb}
use Rattle.escape.specs.Code.{Meaning, byte, waits, start, end, wrong, Code}

-- FD becomes FF 02, FE becomes FF 01, FF becomes FF 00, and every other byte stays
abbrev pub hide_byte : ℕ → List ℕ
hide_byte b =
    cond (eqb b 0xFD) (0xFF ∷ 0x02 ∷ []) (cond (eqb b 0xFE) (0xFF ∷ 0x01 ∷ []) (cond (eqb b 0xFF) (0xFF ∷ 0x00 ∷ []) (b ∷ [])))

-- FD starts, FE ends, FF waits for the byte that follows it
abbrev pub plain : ℕ → Meaning
plain w = cond (eqb w 0xFD) start (cond (eqb w 0xFE) end (cond (eqb w 0xFF) waits (byte w)))

-- after an FF too FD starts; 02, 01, 00 give FD, FE, FF; every other byte, FE too, is wrongly coded
abbrev pub after : ℕ → Meaning
after w =
    cond (eqb w 0xFD) start
    (cond (eqb w 0x02) (byte 0xFD) (cond (eqb w 0x01) (byte 0xFE) (cond (eqb w 0x00) (byte 0xFF) wrong)))

-- the three rules together
abbrev pub expansion : Code
expansion = record { hide_byte = hide_byte; plain = plain; after = after }
