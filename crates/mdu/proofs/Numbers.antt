-- Which numbers an MDU stream gives: no byte gives another, and short streams give each.
use Rattle.std.proofs.Common.{ℕ, ◌+◌, eqb, List, [], ◌∷◌, ◌++◌, length, take, drop, refl, lit<}
use mathlib.Core.Option.{Option, some}
use Rattle.runs.proofs.Cases.{by_eqb}
use Rattle.framing.specs.Segment.{Segment}
use Rattle.framing.proofs.Tests.{of_first}
use Rattle.framing.proofs.Refusals.{either, Listed, none_listed, Closes, shown, Given}
use Rattle.checksum.specs.Crc.{crc16_of}
use Rattle.mdu.specs.Frame.{Message}
use Rattle.mdu.specs.Rules.{Phase, hunting, in_header, in_body, sent_check, header_tests, header_fault, enter, on_byte}
use Rattle.mdu.specs.Contract.{link}
use Rattle.mdu.specs.Claims.{stream_numbers}

abbrev Ended : Segment Message → Type 0
Ended s = Closes stream_numbers (some s)

abbrev Cut : Phase × Option (Segment Message) → Type 0
Cut r = Closes stream_numbers r.1

-- the tests of a header have such numbers
fault_listed : (g : List ℕ) → Listed stream_numbers (header_fault g)
unfolding header_fault
fault_listed g =
    of_first (Listed stream_numbers) (header_tests g) (none_listed stream_numbers)
    (record { listed = λ _. refl }, (record { listed = λ _. refl }, (record { listed = λ _. refl }, (record { listed = λ _. refl }, tt))))

enter_only : (g : List ℕ) → Cut (enter g)
enter_only g = by_eqb Cut (header_fault g) 0 (λ _. tt) (fault_listed g).listed

only : (p : Phase) (b : ℕ) → Cut (on_byte p b)
only hunting b = either Cut (eqb b 0xE3) tt tt
only (in_header g) b = either Cut (eqb (length g) 5) (enter_only (g ++ (b ∷ []))) tt
only (in_body k g) b =
    either Cut (eqb (length g) (7 + k)) (either Ended (eqb (sent_check k (g ++ (b ∷ []))) (crc16_of (take k (drop 6 (g ++ (b ∷ [])))))) tt refl) tt

pub given : Given link stream_numbers
unfolding header_fault
given =
    record {
      only = only;
      all = (
        shown link 8 (0xE3 ∷ 0x01 ∷ 0x00 ∷ 0x01 ∷ 0x01 ∷ 0x00 ∷ []) refl refl,
        (
          shown link 9 (0xE3 ∷ 0x00 ∷ 0x00 ∷ 0x01 ∷ 0x01 ∷ 0xE5 ∷ []) refl refl,
          (shown link 10 (0xE3 ∷ 0x01 ∷ 0x00 ∷ 0x00 ∷ 0x01 ∷ 0xE5 ∷ []) refl refl, tt),
        ),
      );
      unknown = (record { base = record { mode = 2; count = 0; «open» = 0; noise = 0 }; length = 0 }, refl);
      sized = lit< tt;
    }
