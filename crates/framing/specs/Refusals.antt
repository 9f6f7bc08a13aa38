-- Which numbers a link refuses with, exactly.
use Rattle.std.specs.Prelude.{◌≡◌, ℕ, Bool, true, false, ◌||◌, ◌↔◌, List, [], ◌∷◌, ◌++◌, ◌==◌}
use Rattle.runs.specs.Runs.{Bytes}
use Rattle.framing.specs.Answer as Answer
use Rattle.framing.specs.Segment.{Segment, refused_frame}
use Rattle.framing.specs.Link.{Link, Lent, refused, write_on, receives}
use Rattle.framing.specs.Claims.{segments}
use Rattle.framing.specs.Whole.{read_on}

-- whether a number is in a list
abbrev pub is_in : ℕ → List ℕ → Bool
is_in n [] = false
is_in n (m ∷ ms) = n == m || is_in n ms

module _ (L : Link) where
  -- some stream of bytes, read from hunting, has a frame that is refused with n
  pub record StreamGives (n : ℕ) : Type 0 where
    pub stream : List ℕ
    pub bytes : Bytes stream
    pub before : List (Segment L.Message)
    pub wire : List ℕ
    pub after : List (Segment L.Message)
    pub gives : segments L stream ≡ before ++ (refused_frame n wire ∷ after)

  -- streams give these numbers and no others
  abbrev pub GivesExactly : List ℕ → Type 0
  GivesExactly numbers = (n : ℕ) → (is_in n numbers ≡ true) ↔ StreamGives n

  -- some call of the receiver is refused with n
  pub record CallGives (n : ℕ) : Type 0 where
    pub lent : Lent L
    pub piece : List ℕ
    pub bytes : Bytes piece
    pub tells : (receives L lent piece).0 ≡ refused n

  -- calls of the receiver give 12, 1 and what streams give, and no others
  abbrev pub ReceiveGives : List ℕ → Type 0
  ReceiveGives numbers = (n : ℕ) → (is_in n (12 ∷ 1 ∷ numbers) ≡ true) ↔ CallGives n

  -- some read of a whole frame is refused with n
  pub record ReadGives (n : ℕ) : Type 0 where
    pub run : List ℕ
    pub store : List ℕ
    pub bytes : Bytes run
    pub answers : (read_on L run store).0 ≡ Answer.refused n

  -- reads give these numbers and no others
  abbrev pub ReadsGive : List ℕ → Type 0
  ReadsGive numbers = (n : ℕ) → (is_in n numbers ≡ true) ↔ ReadGives n

  -- a writer gives 3 and 2 at most
  abbrev pub WritesGive : Type 0
  WritesGive = (m : L.Message) (memory : List ℕ) (n : ℕ) → (write_on L m memory).0 ≡ Answer.refused n → is_in n (3 ∷ 2 ∷ []) ≡ true
