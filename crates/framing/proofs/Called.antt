-- The laws of `Link` in code that hold for every link by its rules: what is told, a call, and the read of a whole frame.
use Rattle.std.proofs.Common.{◌≡◌, ℕ, Bool, true, false, cond, eqb, List, length, nat_le, refl}
use mathlib.Core.Option.{none, some}
use Rattle.framing.specs.Segment.{Event, message, refusal}
use Rattle.framing.specs.Tests.{call_fault}
use Rattle.framing.specs.Receiver.{feed}
use Rattle.framing.specs.Link.{Link, Lent, nothing, refused, is_event, step_on, refuses, told, reported, receives}
use Rattle.framing.specs.Whole.{read_on}
use Rattle.framing.specs.Call.{answered, whole}

module _ (L : Link) where
  pub silent : told L none ≡ nothing
  silent = refl

  pub loud : (e : Event L.Message) → is_event (told L (some e)) ≡ true
  loud (message m) = refl
  loud (refusal n) = refl

  pub calls : (c : Lent L) (piece : List ℕ) → answered L.known L.size (step_on L) (told L) c piece ≡ receives L c piece
  calls c piece =
      let fault = call_fault (L.known c.0) (nat_le L.size (length c.1)) in
      go fault (eqb fault 0)
    where
      go : (n : ℕ) (t : Bool)
          → cond t (reported L (feed (step_on L) c piece)) (refused n, 0, c) ≡ reported L (cond t (feed (step_on L) c piece) (refuses L n c))
      go n true = refl
      go n false = refl

  pub wholes : (run store : List ℕ) → whole L.noise (length run) (receives L (L.fresh, store) run) ≡ read_on L run store
  wholes run store = refl
