-- Which numbers an expansion stream gives: no byte gives another, and short streams give each.
use Prim.Native.Nat.{ℕ, ◌<◌}
use mathlib.Core.Path.{◌≡◌, refl}
use mathlib.Core.Bool.{false}
use mathlib.Core.List.{List, [], ◌∷◌, ◌++◌}
use mathlib.Core.Option.{Option, none, some}
use native.Mathlib.Omega.{arith}
use lib.Dec.{eqb, ltb, lit<}
use lib.ListN.{length}
use borrow.Author.Tests.{lt-ltb, le-ltb}
use Rattle.runs.proofs.Bytes.{bytes_one}
use Rattle.runs.proofs.Cases.{by_eqb}
use Rattle.framing.specs.Segment.{Segment, refused_frame}
use Rattle.framing.proofs.Feed.{quiet_nil, quiet_cons}
use Rattle.framing.proofs.Segments.{step}
use Rattle.framing.proofs.Lawful.{at}
use Rattle.framing.proofs.Tests.{of_first}
use Rattle.framing.proofs.Refusals.{either, Listed, none_listed, Closes, shown, too_long_lem, Given}
use Rattle.runs.specs.Number.{little_endian}
use Rattle.checksum.specs.Crc.{shifts, byte_step, run}
use Rattle.escape.specs.Code.{Meaning, byte, waits, start, end, wrong, meaning}
use Rattle.escape.specs.Expansion.{expansion}
use Rattle.expansion.specs.Frame.{Message}
use Rattle.expansion.specs.Rules.{Phase, hunting, inside, size, held, tests, fault_of, act, on_byte}
use Rattle.expansion.specs.Contract.{link}
use Rattle.expansion.specs.Claims.{stream_numbers}

abbrev Ended : Segment Message → Type 0
Ended s = Closes stream_numbers (some s)

abbrev Cut : Phase × Option (Segment Message) → Type 0
Cut r = Closes stream_numbers r.1

-- the tests at the end of a frame have such numbers
fault_listed : (g : List ℕ) → Listed stream_numbers (fault_of g)
unfolding fault_of
fault_listed g =
    of_first (Listed stream_numbers) (tests g) (none_listed stream_numbers)
    (record { listed = λ _. refl }, (record { listed = λ _. refl }, (record { listed = λ _. refl }, tt)))

act_only : (g before wire : List ℕ) (m : Meaning) → Cut (act g before wire m)
act_only g before wire (byte v) = either Cut (ltb (length g) size) tt refl
act_only g before wire waits = tt
act_only g before wire start = refl
act_only g before wire end = by_eqb Ended (fault_of g) 0 (λ _. tt) (fault_listed g).listed
act_only g before wire wrong = refl

only : (p : Phase) (b : ℕ) → Cut (on_byte p b)
only hunting b = either Cut (eqb b 0xFD) tt tt
only (inside w g) b = act_only g (held (inside w g)) (held (inside w g) ++ (b ∷ [])) (meaning expansion w b)

-- a byte is gathered while there is room
more : (g : List ℕ) → length g < size → on_byte (inside false g) 0 ≡ (inside false (g ++ (0 ∷ [])), none)
more g h = rw (lt-ltb (length g) size h)

full : (g : List ℕ) → length g ≡ size → (wire : List ℕ) × (on_byte (inside false g) 0 ≡ (hunting, some (refused_frame 5 wire)))
full g e = (held (inside false g) ++ (0 ∷ []), rw (le-ltb (length g) size (omega arith)))

pub given : Given link stream_numbers
unfolding fault_of little_endian shifts byte_step run
given =
    record {
      only = only;
      all = (
        shown link 4 (0xFD ∷ 0xFD ∷ []) refl refl,
        (
          too_long_lem link (inside false) 0 more 5 (0xFD ∷ []) (bytes_one 0xFD (lit< tt)) (lit< tt)
              (quiet_cons (step on_byte) refl (quiet_nil (step on_byte) (at (inside false []) 0))) full,
          (
            shown link 6 (0xFD ∷ 0xFE ∷ []) refl refl,
            (
              shown link 7 (0xFD ∷ 0xFF ∷ 0xFE ∷ []) refl refl,
              (
                shown link 8 (0xFD ∷ 0 ∷ 0 ∷ 0 ∷ 0 ∷ 0 ∷ 0 ∷ 0 ∷ 0 ∷ 0xFE ∷ []) refl refl,
                (shown link 9 (0xFD ∷ 0 ∷ 3 ∷ 0 ∷ 0 ∷ 0x45 ∷ 0x61 ∷ 0x02 ∷ 0x23 ∷ 0xFE ∷ []) refl refl, tt),
              ),
            ),
          ),
        ),
      );
      unknown = (record { mode = 3; count = 0; «open» = 0; noise = 0 }, refl);
      sized = lit< tt;
    }
