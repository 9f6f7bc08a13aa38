-- What is claimed of the codes.
use Rattle.std.specs.Prelude.{ℕ, ◌+◌, ◌≤◌, ◌≡◌, List, [], ◌∷◌, ◌++◌, length, get_or, take}
use Rattle.escape.specs.Code.{Code, hide, unhide_up_to}
use Rattle.escape.specs.Dle.{dle}
use Rattle.escape.specs.Expansion.{expansion}

-- of both codes: hidden bytes read back, whatever stands behind them; asked for n bytes more, reading goes on with what stands behind
abbrev pub HiddenReadsBack : Code → Type 0
HiddenReadsBack code =
    (bytes behind : List ℕ) (n : ℕ) → let u = unhide_up_to code n behind in
    unhide_up_to code (length bytes + n) (hide code bytes ++ behind) ≡ (bytes ++ u.0, length (hide code bytes) + u.1)

-- of both codes: what is read of any wire bytes, hidden again, is the part of them that it was read of, and no wire byte is counted that is not there
abbrev pub ReadIsHidden : Code → Type 0
ReadIsHidden code =
    (n : ℕ) (wire : List ℕ) → let u = unhide_up_to code n wire in
    (take u.1 wire ≡ hide code u.0) × (u.1 ≤ length wire)

-- expansion: no FD and no FE stands at any place of hidden bytes
abbrev pub NoMarks : Type 0
NoMarks = (bytes : List ℕ) (i : ℕ) → (get_or (hide expansion bytes) i 0 ≡ 0xFD → ⊥) × (get_or (hide expansion bytes) i 0 ≡ 0xFE → ⊥)

-- DLE: where whole hidden bytes lie before a 10 among hidden bytes, the next is a 10 too, and never a 02 or 03 that would make a mark
abbrev pub Paired : Type 0
Paired = (bytes front rest : List ℕ) → hide dle bytes ≡ hide dle front ++ (0x10 ∷ rest) → (behind : List ℕ) × (rest ≡ 0x10 ∷ behind)

-- expansion: a frame of at most 1,032 bytes between FD and FE takes no more than 2,066 wire bytes
abbrev pub FrameBound : Type 0
FrameBound = (bytes : List ℕ) → length bytes ≤ 1032 → length (0xFD ∷ hide expansion bytes ++ (0xFE ∷ [])) ≤ 2066
