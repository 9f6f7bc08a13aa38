-- A frame whose bytes a code hides between two marks. This serves the contracts of functions that links share.
use Rattle.std.specs.Prelude.{ℕ, ◌+◌, ◌-◌, ◌%◌, ◌^◌, List, length, take, drop}
use Rattle.std.proofs.lemmas.List.Edits.{sets}
use Rattle.framing.specs.Answer.{Outcome}
use Rattle.framing.specs.Link.{Told, nothing, refused}
use Rattle.framing.specs.Open.{held_in, closed, gathered_byte, heard}
use Rattle.framing.specs.declared.State.{State}
use Rattle.framing.specs.declared.Reached.{Reached}
use Rattle.escape.specs.Code.{Code, Meaning, byte, waits, start, end, wrong, unhide_into}

-- what becomes of a state and a store in an open frame, and what is told, by what a wire byte means: of a link of this size, with these modes
-- of an open frame, so long a start mark, and this judgement of gathered bytes
abbrev pub taken : {N : Type 0} → ℕ → ℕ → ℕ → ℕ → (List ℕ → Outcome N) → State → List ℕ → Meaning → (State × List ℕ) × Told N
taken size opened waiting mark judged s store (byte b) = gathered_byte size opened s store b
taken size opened waiting mark judged s store waits = ((held_in s waiting s.count, store), nothing)
taken size opened waiting mark judged s store start =
    ((record { mode = opened; count = 0; «open» = mark; noise = s.noise }, store), refused 4)
taken size opened waiting mark judged s store end = ((closed s, store), heard (judged (take s.count store)))
taken size opened waiting mark judged s store wrong = ((closed s, store), refused 7)

-- and by the wire bytes of a piece from place i on, as far as whole bytes come and the size allows
abbrev pub passed : Code → ℕ → State → List ℕ → List ℕ → ℕ → Reached State × List ℕ
passed code size s store piece i =
    let u = unhide_into code (drop i piece) store s.count (size - s.count) in (
      record {
        state = record { mode = s.mode; count = s.count + length u.0; «open» = (s.«open» + u.1) % 2 ^ 32; noise = s.noise };
        next = i + u.1;
      },
      sets store s.count u.0,
    )
