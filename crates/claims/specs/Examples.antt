-- The twelve examples that 01 marks to be proved, as one statement over one list of rows; behind them the fare of two bytes that 02 prints, and two
-- frames with a CRC by its rules: the display's, and an acknowledgement whose CRC is 0, in three bytes of 128.
use Rattle.std.specs.Prelude.{ℕ, ◌≡◌, true, List, [], ◌∷◌, ℤ, negsuc}
use Rattle.std.proofs.Math.Option.{Option, some}
use Rattle.framing.specs.Answer.{Outcome, done}
use Rattle.packing.specs.Packed.{packed}
use Rattle.packing.specs.Unpacked.{unpacked}
use Rattle.checksum.specs.Sum.{sum_of}
use Rattle.checksum.specs.Crc.{crc16_of}
use Rattle.escape.specs.Code.{hide}
use Rattle.escape.specs.Expansion.{expansion}
use Rattle.pcs.specs.Frame as Pcs
use Rattle.dle.specs.Frame.{content, frame}
use Rattle.record.specs.Fares.{unsigned_fares, signed_fares}
use Rattle.record.specs.Answers.{reading}

-- what is worked out, and what it is by the papers
pub record Row : Type 1 where
  pub Value : Type 0
  pub worked : Value
  pub expected : Value

abbrev pub Holds : List Row → Type 0
Holds [] = Unit
Holds (r ∷ rows) = (r.worked ≡ r.expected) × Holds rows

-- the bytes that a PCS sum covers: the query, the display frame and the acknowledgement of document 000
abbrev pub query : List ℕ
query = 2 ∷ 250 ∷ 4 ∷ 4 ∷ 128 ∷ 11 ∷ 1 ∷ 1 ∷ 67 ∷ 69 ∷ 76 ∷ 68 ∷ 76 ∷ 128 ∷ 128 ∷ 128 ∷ 128 ∷ 1 ∷ 128 ∷ []

abbrev pub display : List ℕ
display =
    101 ∷ 250 ∷ 5 ∷ 2 ∷ 128 ∷ 12 ∷ 1 ∷ 1 ∷ 67 ∷ 76 ∷ 67 ∷ 83 ∷ 72 ∷ 49 ∷ 50 ∷ 128 ∷ 51 ∷ 52 ∷ 53 ∷ 128 ∷ []

-- the display frame as a board with CRC has it: info 13, and behind the sum the three bytes of the CRC
abbrev pub display_with_crc : List ℕ
display_with_crc =
    253 ∷ 101 ∷ 250 ∷ 13 ∷ 2 ∷ 128 ∷ 12 ∷ 1 ∷ 1
    ∷ 67 ∷ 76 ∷ 67 ∷ 83 ∷ 72 ∷ 49 ∷ 50 ∷ 128 ∷ 51 ∷ 52 ∷ 53 ∷ 128
    ∷ 104 ∷ 124 ∷ 117 ∷ 1 ∷ 254 ∷ []

abbrev pub acknowledgement : List ℕ
acknowledgement = 250 ∷ 101 ∷ 6 ∷ 2 ∷ 128 ∷ 128 ∷ 1 ∷ 1 ∷ []

abbrev pub rows : List Row
rows =
    record { Value = ℕ; worked = sum_of query; expected = 118 }
    ∷ record { Value = ℕ; worked = sum_of display; expected = 96 }
    ∷ record { Value = ℕ; worked = sum_of acknowledgement; expected = 105 }
    ∷ record { Value = ℕ; worked = sum_of (251 ∷ []); expected = 123 }
    ∷ record { Value = ℕ; worked = sum_of []; expected = 128 }
    ∷ record {
      Value = Option (List ℕ);
      worked = unpacked (42 ∷ 87 ∷ 81 ∷ 81 ∷ 128 ∷ 128 ∷ 128 ∷ 108 ∷ []);
      expected = some (0xAA ∷ 0xD7 ∷ 0x51 ∷ 0xD1 ∷ 0x80 ∷ 0x00 ∷ 0x00 ∷ []);
    }
    ∷ record { Value = ℕ; worked = crc16_of (0x31 ∷ []); expected = 0xD4C1 }
    ∷ record { Value = ℕ; worked = crc16_of (0xB1 ∷ 0x00 ∷ 0x04 ∷ 0x47 ∷ 0xBA ∷ []); expected = 0x988F }
    ∷ record {
      Value = List ℕ;
      worked = frame (content 0x10 0x03 (0x64 ∷ 0x96 ∷ []));
      expected = 0x10 ∷ 0x02 ∷ 0x10 ∷ 0x10 ∷ 0x03 ∷ 0x02 ∷ 0x64 ∷ 0x96 ∷ 0x10 ∷ 0x03 ∷ [];
    }
    ∷ record {
      Value = List ℕ;
      worked = hide expansion (0xFD ∷ 0xFE ∷ 0xFF ∷ []);
      expected = 0xFF ∷ 0x02 ∷ 0xFF ∷ 0x01 ∷ 0xFF ∷ 0x00 ∷ [];
    }
    ∷ record {
      Value = Outcome ℕ;
      worked = reading unsigned_fares (0x02 ∷ 0x00 ∷ 0x00 ∷ 0x01 ∷ 0x00 ∷ 0x64 ∷ 0x96 ∷ []) 0;
      expected = done 38500;
    }
    ∷ record {
      Value = Outcome ℤ;
      worked = reading signed_fares (0x03 ∷ 0x00 ∷ 0x00 ∷ 0x01 ∷ 0x00 ∷ 0x64 ∷ 0x96 ∷ []) 0;
      expected = done (negsuc 27035);
    }
    ∷ record { Value = List ℕ; worked = packed (0x96 ∷ 0x64 ∷ []); expected = 22 ∷ 100 ∷ 64 ∷ [] }
    ∷ record {
      Value = List ℕ;
      worked = Pcs.frame (Pcs.with_fields 101 250 1 2 1 1 true (67 ∷ 76 ∷ 67 ∷ 83 ∷ 72 ∷ 49 ∷ 50 ∷ 51 ∷ 52 ∷ 53 ∷ []));
      expected = display_with_crc;
    }
    ∷ record {
      Value = List ℕ;
      worked = Pcs.frame (Pcs.with_fields 44 7 2 185 1 1 true []);
      expected = 253 ∷ 44 ∷ 7 ∷ 14 ∷ 185 ∷ 128 ∷ 128 ∷ 1 ∷ 1 ∷ 124 ∷ 128 ∷ 128 ∷ 128 ∷ 254 ∷ [];
    }
    ∷ []

abbrev pub Examples : Type 0
Examples = Holds rows
