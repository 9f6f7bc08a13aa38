-- Which numbers a PCS stream gives: no byte gives another, and short streams give each.
use Prim.Native.Nat.{ℕ, ◌<◌}
use mathlib.Core.Path.{◌≡◌, refl}
use mathlib.Core.List.{List, [], ◌∷◌, ◌++◌, sum}
use mathlib.Core.Option.{Option, none, some}
use native.Mathlib.Omega.{arith}
use lib.Dec.{eqb, ltb, lit<}
use lib.ListN.{length}
use borrow.Author.Tests.{lt-ltb, le-ltb}
use Rattle.runs.proofs.Bytes.{bytes_one}
use Rattle.runs.proofs.Cases.{by_eqb}
use Rattle.framing.specs.Segment.{Segment, refused_frame}
use Rattle.framing.proofs.Feed.{quiet_nil, quiet_cons}
use Rattle.framing.proofs.Segments.{step}
use Rattle.framing.proofs.Lawful.{at}
use Rattle.framing.proofs.Tests.{of_first}
use Rattle.framing.proofs.Refusals.{either, Listed, none_listed, Closes, shown, too_long_lem, Given}
use Rattle.packing.specs.Seven.{is_sent}
use Rattle.packing.specs.Unpacked.{all_sent, well_ended, well_packed, unpacked}
use Rattle.pcs.specs.Frame.{Message}
use Rattle.pcs.specs.Rules.{Phase, hunting, inside, size, packed_part, same, tests, fault_of, unpack, on_byte}
use Rattle.pcs.specs.Contract.{link}
use Rattle.pcs.specs.Claims.{stream_numbers}

abbrev Ended : Segment Message → Type 0
Ended s = Closes stream_numbers (some s)

abbrev Cut : Phase × Option (Segment Message) → Type 0
Cut r = Closes stream_numbers r.1

-- the tests at the end of a frame have such numbers
fault_listed : (g : List ℕ) → Listed stream_numbers (fault_of g)
unfolding fault_of
fault_listed g =
    of_first (Listed stream_numbers) (tests g) (none_listed stream_numbers)
    (record { listed = λ _. refl }, (record { listed = λ _. refl }, (record { listed = λ _. refl }, (record { listed = λ _. refl }, (record { listed = λ _. refl }, tt)))))

unpack_ends : (g wire : List ℕ) (o : Option (List ℕ)) → Ended (unpack g wire o)
unpack_ends g wire none = refl
unpack_ends g wire (some d) = tt

only : (p : Phase) (b : ℕ) → Cut (on_byte p b)
only hunting b = either Cut (eqb b 253) tt tt
only (inside g) b =
    either Cut (eqb b 253) refl (either Cut (eqb b 254)
    (by_eqb Ended (fault_of g) 0 (λ _. unpack_ends g (253 ∷ g ++ (b ∷ [])) (unpacked (packed_part g))) (fault_listed g).listed)
    (either Cut (ltb (length g) size) tt refl))

-- a byte is gathered while there is room
more : (g : List ℕ) → length g < size → on_byte (inside g) 0 ≡ (inside (g ++ (0 ∷ [])), none)
more g h = rw (lt-ltb (length g) size h)

full : (g : List ℕ) → length g ≡ size → (wire : List ℕ) × (on_byte (inside g) 0 ≡ (hunting, some (refused_frame 5 wire)))
full g e = (253 ∷ g ++ (0 ∷ []), rw (le-ltb (length g) size (omega arith)))

pub given : Given link stream_numbers
unfolding sum same fault_of is_sent all_sent well_ended well_packed unpacked
given =
    record {
      only = only;
      all = (
        shown link 4 (253 ∷ 253 ∷ []) refl refl,
        (
          too_long_lem link inside 0 more 5 (253 ∷ []) (bytes_one 253 (lit< tt)) (lit< tt) (quiet_cons (step on_byte) refl (quiet_nil (step on_byte) (at (inside []) 0))) full,
          (
            shown link 6 (253 ∷ 254 ∷ []) refl refl,
            (
              shown link 8 (253 ∷ 1 ∷ 1 ∷ 4 ∷ 1 ∷ 128 ∷ 128 ∷ 1 ∷ 1 ∷ 0 ∷ 254 ∷ []) refl refl,
              (
                shown link 9 (253 ∷ 0 ∷ 1 ∷ 4 ∷ 1 ∷ 128 ∷ 128 ∷ 1 ∷ 1 ∷ 8 ∷ 254 ∷ []) refl refl,
                (
                  shown link 10 (253 ∷ 1 ∷ 1 ∷ 4 ∷ 1 ∷ 128 ∷ 1 ∷ 1 ∷ 1 ∷ 138 ∷ 254 ∷ []) refl refl,
                  (shown link 13 (253 ∷ 1 ∷ 1 ∷ 4 ∷ 1 ∷ 128 ∷ 1 ∷ 1 ∷ 1 ∷ 1 ∷ 139 ∷ 254 ∷ []) refl refl, tt),
                ),
              ),
            ),
          ),
        ),
      );
      unknown = (record { mode = 2; count = 0; «open» = 0; noise = 0 }, refl);
      sized = lit< tt;
    }
