-- Tests in their order: a call or a frame is refused with the number of the first that fires.
use Rattle.std.specs.Prelude.{ℕ, Bool, cond, not, List, [], ◌∷◌}

-- of tests, each with its number, the number of the first that fires; 0 where none does
abbrev pub first_of : List (Bool × ℕ) → ℕ
first_of [] = 0
first_of ((fires, fault) ∷ tests) = cond fires fault (first_of tests)

-- a writer, before it stores: 3 where the message may not be sent or the record not be written, then 2 where its bytes do not fit
abbrev pub write_fault : Bool → Bool → ℕ
write_fault sendable fits = first_of ((not sendable, 3) ∷ (not fits, 2) ∷ [])

-- a receiver, before it reads: 12 where the state is not known, then 1 where the store is too short
abbrev pub call_fault : Bool → Bool → ℕ
call_fault known holds = first_of ((not known, 12) ∷ (not holds, 1) ∷ [])
