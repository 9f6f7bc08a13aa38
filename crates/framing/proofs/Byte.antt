-- What a byte does by a link's rules, in a phase that is reached. Each link shows it, by cases, once.
use Rattle.std.proofs.Common.{◌≡◌, ℕ, ◌+◌, ◌^◌, ◌<◌, ◌≤◌, true, List, [], ◌++◌, length, take, drop, sym, refl, ap, ◌∙◌, subst, append_assoc, append-nil, arith, length-append, take-append-drop, drop_at, le-leb}
use mathlib.Core.Option.{Option, none, some}
use lib.Seq.{take-append_seam}
use Rattle.runs.specs.Runs.{Bytes, over}
use Rattle.framing.specs.Segment.{Segment, noise, refused_frame, accepted_frame, wire_of, noise_after}
use Rattle.framing.specs.Link.{Link, data_at}
use Rattle.framing.proofs.Segments.{wire_opt, Accepts}

-- data that stand in a store, behind a front and before a tail, are read there
pub data_stands : (front run tail store : List ℕ) → take (length (front ++ (run ++ tail))) store ≡ front ++ (run ++ tail)
    → data_at store (length front) (length run) ≡ run
data_stands front run tail store e =
    rw (le-leb (length front + length run) (length store) (omega (arith, ap length whole, length-append front (run ++ (tail ++ rest)), length-append run (tail ++ rest))))
    (ap (λ (x : List ℕ). take (length run) (drop (length front) x)) whole
    ∙ ap (take (length run)) (drop_at front (run ++ (tail ++ rest)) (length front) refl)
    ∙ take-append_seam run (tail ++ rest))
  where
    rest : List ℕ
    rest = drop (length (front ++ (run ++ tail))) store

    whole : store ≡ front ++ (run ++ (tail ++ rest))
    whole =
        sym (take-append-drop (length (front ++ (run ++ tail))) store) ∙ ap (λ (x : List ℕ). x ++ rest) e
        ∙ append_assoc front (run ++ tail) rest ∙ ap (λ (x : List ℕ). front ++ x) (append_assoc run tail rest)

-- Good is what holds of each phase that is reached: the store has room for what is gathered, and few wire bytes are held; at first none are
pub record Reached (L : Link) : Type 1 where
  pub Good : L.Phase → Type 0
  pub fits : (p : L.Phase) → Good p → length (L.gathered p) ≤ L.size
  pub few : (p : L.Phase) → Good p → length (L.held p) < 2 ^ 32
  pub good_first : Good L.hunting
  pub held_first : L.held L.hunting ≡ []
  pub gathered-first : L.gathered L.hunting ≡ []

-- an accepted message, after which the receiver hunts: it may be sent, its numbers fit their types where its frame is of bytes, and it is read
-- back from its numbers and the store, at whose start the gathered bytes g stood and now f stands
pub record Taken (L : Link) (g f : List ℕ) (q : L.Phase) (m : L.Message) : Type 0 where
  pub may : L.ok m ≡ true
  pub typed : Bytes (L.frame m) → L.Typed m
  pub read : (store : List ℕ) → take (length g) store ≡ g → L.message_of (over f store) (L.numbers_of m) ≡ m
  pub hunts : q ≡ L.hunting

-- a byte that leads to r, where g was gathered, w is what was held with the byte, and f then stands at the start of the store
pub record Takes {L : Link} (X : Reached L) (g w f : List ℕ) (r : L.Phase × Option (Segment L.Message)) : Type 0 where
  pub holds : wire_opt L.frame r.1 ++ L.held r.0 ≡ w
  pub good : X.Good r.0
  pub fits : length f ≤ L.size
  pub stands : (store : List ℕ) → take (length (L.gathered r.0)) (over f store) ≡ L.gathered r.0
  pub accepts : Accepts (Taken L g f r.0) r.1

module _ {L : Link} (X : Reached L) (g w : List ℕ) where
  -- the byte is held, and makes no segment
  pub goes_on : (q : L.Phase) → L.held q ≡ w → X.Good q → Takes X g w (L.gathered q) (q, none)
  goes_on q e h = record { holds = e; good = h; fits = X.fits q h; stands = λ store. take-append_seam (L.gathered q) _; accepts = tt }

  -- it is a new start, which opens the next frame
  pub restarts : (q : L.Phase) (n : ℕ) (before : List ℕ) → before ++ L.held q ≡ w → X.Good q → Takes X g w (L.gathered q) (q, some (refused_frame n before))
  restarts q n before e h = record { holds = e; good = h; fits = X.fits q h; stands = λ store. take-append_seam (L.gathered q) _; accepts = tt }

  -- it closes a segment and leaves hunting
  pub closes : (f : List ℕ) (s : Segment L.Message) → wire_of L.frame s ≡ w → length f ≤ L.size → Accepts (Taken L g f L.hunting) (some s)
      → Takes X g w f (L.hunting, some s)
  closes f s e h a =
      record { holds = rw X.held_first (append-nil (wire_of L.frame s) ∙ e); good = X.good_first; fits = h; stands = λ store. rw X.gathered-first; accepts = a }

-- the end of a frame with wire bytes w: it is refused with them, or a message is accepted of which Q holds
abbrev pub Ends : {M : Type 0} → (M → Type 0) → List ℕ → Segment M → Type 0
Ends Q w (noise bs) = ⊥
Ends Q w (refused_frame n bs) = bs ≡ w
Ends Q w (accepted_frame m) = Q m

-- what holds of both holds of it
pub by_end : {M : Type 0} (P : Segment M → Type 0) (Q : M → Type 0) (w : List ℕ) (s : Segment M) → Ends Q w s
    → ((n : ℕ) → P (refused_frame n w)) → ((m : M) → Q m → P (accepted_frame m)) → P s
by_end P Q w (noise bs) e r a = absurd e
by_end P Q w (refused_frame n bs) e r a = subst (λ (x : List ℕ). P (refused_frame n x)) (sym e) (r n)
by_end P Q w (accepted_frame m) e r a = a m e

-- so it is no noise
pub ends_quiet : {M : Type 0} (Q : M → Type 0) (w : List ℕ) (s : Segment M) → Ends Q w s → (n : ℕ) → noise_after (some s) n ≡ n
ends_quiet Q w s e n = by_end (λ (x : Segment _). noise_after (some x) n ≡ n) Q w s e (λ _. refl) (λ _ _. refl)
