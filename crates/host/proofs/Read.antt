-- A read's answer: what the link's receiver told a fresh call, settled.
use Prim.Native.Nat.{ℕ}
use mathlib.Core.Path.{◌≡◌, refl, ap}
use mathlib.Core.Bool.{Bool}
use mathlib.Core.List.{List}
use lib.ListN.{length}
use Rattle.framing.specs.Answer.{Outcome}
use Rattle.framing.specs.Link.{Link, Lent, Told, receives}
use Rattle.framing.specs.Whole.{settle, exactly, read_on}
use Rattle.framing.proofs.Whole as whole
use Rattle.host.specs.Read.{encode, reads}

module _ (L : Link) (code : L.Numbers → ℕ) (run store : List ℕ) where
  -- by what a function of the link read
  pub encoded : (o : Outcome L.Numbers) (after : List ℕ) (r : ℕ) → (o, after) ≡ read_on L run store → r ≡ encode code o → (r, after) ≡ reads L code run store
  encoded o after r e h = rw h (ap (λ (p : Outcome L.Numbers × List ℕ). (encode code p.0, p.1)) e)

  -- by what its receiver told
  pub read_is : (a : Told L.Numbers × ℕ × Lent L) (s : L.State) (exact : Bool) (r : ℕ) → a ≡ receives L (s, store) run → s ≡ L.fresh
      → exact ≡ exactly (length run) a.1 (L.noise a.2.0) → r ≡ encode code (settle exact a.0) → (r, a.2.1) ≡ reads L code run store
  read_is a s exact r e f x h =
      encoded (settle exact a.0) a.2.1 r (whole.read_is L run store a s exact (settle exact a.0) e f x refl) h
