-- DLE messages and their frames.
use Rattle.std.specs.Prelude.{ℕ, ◌<◌, Bool, true, ◌&&◌, List, [], ◌∷◌, ◌++◌, length, leb}
use Rattle.runs.specs.Runs.{Bytes}
use Rattle.escape.specs.Code.{hide}
use Rattle.escape.specs.Dle.{dle}

-- sequence, node, and either data or one error byte
pub data Message : Type 0 where
  content : ℕ → ℕ → List ℕ → Message
  error : ℕ → ℕ → ℕ → Message

-- the numbers are bytes, as a call's types have it
abbrev pub Typed : Message → Type 0
Typed (content s n d) = (s < 256) × (n < 256) × Bytes d
Typed (error s n e) = (s < 256) × (n < 256) × (e < 256)

-- data of 1 to 255 bytes may be sent, and any error byte
abbrev pub ok : Message → Bool
ok (content s n d) = leb 1 (length d) && leb (length d) 255
ok (error s n e) = true

-- sequence, node, length and data; an error message has length 0 and then its error byte
abbrev pub body : Message → List ℕ
body (content s n d) = s ∷ n ∷ length d ∷ d
body (error s n e) = s ∷ n ∷ 0 ∷ e ∷ []

-- 10 02, the body with every 10 doubled, 10 03
abbrev pub enclose : List ℕ → List ℕ
enclose g = 0x10 ∷ 0x02 ∷ hide dle g ++ (0x10 ∷ 0x03 ∷ [])

abbrev pub frame : Message → List ℕ
frame m = enclose (body m)
