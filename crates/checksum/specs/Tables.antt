-- For private contracts only: the rules of the tables by which some bits, four or a word of 32, leave a register at once.
use Rattle.std.specs.Prelude.{ℕ, ◌*◌, ◌-◌, ◌^◌, ◌<◌, ◌≤◌, ◌≡◌, List, [], get_or, length, drop}
use Rattle.checksum.specs.Crc.{shifts, run}

-- the sixteen constants of the 16-bit CRC: entry y is what the register y is once four bits have left it
abbrev pub SixteenConstants : List ℕ → Type 0
SixteenConstants t = (y : ℕ) → y < 16 → get_or t y 0 ≡ shifts 0xA001 4 y

-- k rows of 2 ^ w entries: entry y of row r is what the register y is once n - r w bits have left it
unfoldable pub Rows : ℕ → ℕ → ℕ → ℕ → List (List ℕ) → Type 0
Rows p w k n t = (r y : ℕ) → r < k → y < 2 ^ w → get_or (get_or t r []) y 0 ≡ shifts p (n - r * w) y

-- four bits at a time, for a word whose 32 bits leave
abbrev pub NibbleTable : ℕ → List (List ℕ) → Type 0
NibbleTable p t = Rows p 4 8 32 t

-- eight bits at a time, for a word whose own bits leave and those of five words behind it
abbrev pub BraidTable : ℕ → List (List ℕ) → Type 0
BraidTable p t = Rows p 8 4 192 t

-- c is the register after the first i bytes of the run u, from the start s: the bytes that are left give the register after u
abbrev pub AfterBytes : ℕ → ℕ → List ℕ → ℕ → ℕ → Type 0
AfterBytes p s u i c = (i ≤ length u) × (run p c (drop i u) ≡ run p s u)
