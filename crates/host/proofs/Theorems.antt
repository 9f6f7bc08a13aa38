-- What is claimed of the host's calls on each link.
use Prim.Native.Nat.{ℕ}
use mathlib.Core.Path.{◌≡◌, refl}
use mathlib.Core.Bool.{true, cond, not, ◌&&◌}
use mathlib.Core.List.{List, ◌∷◌}
use lib.Dec.{eqb, leb}
use Rattle.framing.specs.Link.{Link}
use Rattle.framing.specs.Refusals.{is_in}
use Rattle.framing.proofs.Lawful.{Lawful}
use Rattle.framing.proofs.Refusals.{every, Given, reads_give, writes_give}
use Rattle.framing.proofs.Whole.{only_frames, frames_read}
use Rattle.pcs.specs.Contract as Pcs
use Rattle.pcs.specs.Claims as PcsClaims
use Rattle.pcs.proofs.Lawful as pcs
use Rattle.pcs.proofs.Numbers as pcs-numbers
use Rattle.mdu.specs.Contract as Mdu
use Rattle.mdu.specs.Claims as MduClaims
use Rattle.mdu.proofs.Lawful as mdu
use Rattle.mdu.proofs.Numbers as mdu-numbers
use Rattle.dle.specs.Contract as Dle
use Rattle.dle.specs.Claims as DleClaims
use Rattle.dle.proofs.Lawful as dle
use Rattle.dle.proofs.Numbers as dle-numbers
use Rattle.expansion.specs.Contract as Expansion
use Rattle.expansion.specs.Claims as ExpansionClaims
use Rattle.expansion.proofs.Lawful as expansion
use Rattle.expansion.proofs.Numbers as expansion-numbers
use Rattle.host.specs.Read.{refusal_of, pcs_code, mdu_code, dle_code, expansion_code, length_of, kind_of, crc_of, field_of}
use Rattle.host.specs.Claims.{pcs_refusals, mdu_refusals, dle_refusals, expansion_refusals, FrameBound, PartTold, CallsOf}
use Rattle.host.proofs.Bounds as bounds
use Rattle.host.proofs.Refusals.{refusals_fit, refusal_told, read_never, write_never}
use Rattle.host.proofs.Parts.{length-told, kind_told, crc_told, field_told}
use Rattle.host.proofs.Fields.{pcs_packs, pcs_zero, mdu_packs, mdu_zero, dle_packs, dle-zero, expansion_packs, expansion-zero}

-- over any link: its numbers, 6 and 1 are those of the list, at most 13, and none of them is 11
module _ (L : Link) (laws : Lawful L) (bound : FrameBound L) (numbers : List ℕ) (given : Given L numbers) (code : L.Numbers → ℕ)
    (zero_bits : (v : L.Numbers) → refusal_of (code v) ≡ 0) where
  calls_of : (list : List ℕ) → every (λ n. is_in n list) (6 ∷ 1 ∷ numbers) ≡ true → every (λ n. is_in n (6 ∷ 1 ∷ numbers)) list ≡ true
      → every (λ n. leb 1 n && leb n 13) (6 ∷ 1 ∷ numbers) ≡ true → every (λ n. not (eqb n 11)) (6 ∷ 1 ∷ numbers) ≡ true → CallsOf L code list
  calls_of list there here few others =
      record {
        frame_bound = bound;
        only_frames = only_frames L laws;
        frames_read = frames_read L laws (bounds.short L bound);
        reads_give = reads_give L laws numbers given list there here;
        writes_give = writes_give L;
        refusals_fit = refusals_fit L laws numbers given few;
        refusal_told = refusal_told L laws numbers given few code zero_bits;
        read_never = read_never L laws numbers given few others code zero_bits;
        write_never = write_never L;
      }

-- ---- PCS

pub pcs_calls : CallsOf Pcs.link pcs_code pcs_refusals
pcs_calls = calls_of Pcs.link pcs.lawful bounds.pcs_bound PcsClaims.stream_numbers pcs-numbers.given pcs_code pcs_zero pcs_refusals refl refl refl refl

pub pcs_length_told : PartTold Pcs.link pcs_code length_of (λ v. v.length)
pcs_length_told = length-told Pcs.link pcs_calls.only_frames pcs_packs

pub pcs_kind_told : PartTold Pcs.link pcs_code kind_of (λ v. v.kind)
pcs_kind_told = kind_told Pcs.link pcs_calls.only_frames pcs_packs

-- 1 for a frame with a CRC
pub pcs_crc_told : PartTold Pcs.link pcs_code crc_of (λ v. cond v.crc 1 0)
pcs_crc_told = crc_told Pcs.link pcs_calls.only_frames pcs_packs

pub pcs_receiver_told : PartTold Pcs.link pcs_code (field_of 0) (λ v. v.receiver)
pcs_receiver_told = field_told Pcs.link pcs_calls.only_frames pcs_packs 0

pub pcs_sender_told : PartTold Pcs.link pcs_code (field_of 1) (λ v. v.sender)
pcs_sender_told = field_told Pcs.link pcs_calls.only_frames pcs_packs 1

pub pcs_number_told : PartTold Pcs.link pcs_code (field_of 2) (λ v. v.number)
pcs_number_told = field_told Pcs.link pcs_calls.only_frames pcs_packs 2

pub pcs_sender_port_told : PartTold Pcs.link pcs_code (field_of 3) (λ v. v.sender_port)
pcs_sender_port_told = field_told Pcs.link pcs_calls.only_frames pcs_packs 3

pub pcs_receiver_port_told : PartTold Pcs.link pcs_code (field_of 4) (λ v. v.receiver_port)
pcs_receiver_port_told = field_told Pcs.link pcs_calls.only_frames pcs_packs 4

-- ---- MDU

pub mdu_calls : CallsOf Mdu.link mdu_code mdu_refusals
mdu_calls = calls_of Mdu.link mdu.lawful bounds.mdu_bound MduClaims.stream_numbers mdu-numbers.given mdu_code mdu_zero mdu_refusals refl refl refl refl

pub mdu_length_told : PartTold Mdu.link mdu_code length_of (λ v. v.length)
mdu_length_told = length-told Mdu.link mdu_calls.only_frames mdu_packs

pub mdu_address_told : PartTold Mdu.link mdu_code (field_of 0) (λ v. v.address)
mdu_address_told = field_told Mdu.link mdu_calls.only_frames mdu_packs 0

-- ---- DLE

pub dle_calls : CallsOf Dle.link dle_code dle_refusals
dle_calls = calls_of Dle.link dle.lawful bounds.dle_bound DleClaims.stream_numbers dle-numbers.given dle_code dle-zero dle_refusals refl refl refl refl

pub dle_length_told : PartTold Dle.link dle_code length_of (λ v. v.length)
dle_length_told = length-told Dle.link dle_calls.only_frames dle_packs

-- 1 for an error message, which has length 0
pub dle_kind-told : PartTold Dle.link dle_code kind_of (λ v. cond (eqb v.length 0) 1 0)
dle_kind-told = kind_told Dle.link dle_calls.only_frames dle_packs

pub dle_sequence_told : PartTold Dle.link dle_code (field_of 0) (λ v. v.sequence)
dle_sequence_told = field_told Dle.link dle_calls.only_frames dle_packs 0

pub dle_node_told : PartTold Dle.link dle_code (field_of 1) (λ v. v.node)
dle_node_told = field_told Dle.link dle_calls.only_frames dle_packs 1

pub dle_error_told : PartTold Dle.link dle_code (field_of 2) (λ v. v.error)
dle_error_told = field_told Dle.link dle_calls.only_frames dle_packs 2

-- ---- expansion

pub expansion_calls : CallsOf Expansion.link expansion_code expansion_refusals
expansion_calls = calls_of Expansion.link expansion.lawful bounds.expansion_bound ExpansionClaims.stream_numbers expansion-numbers.given expansion_code expansion-zero expansion_refusals refl refl refl refl

pub expansion_length_told : PartTold Expansion.link expansion_code length_of (λ v. v.length)
expansion_length_told = length-told Expansion.link expansion_calls.only_frames expansion_packs

pub expansion_id_told : PartTold Expansion.link expansion_code (field_of 0) (λ v. v.id)
expansion_id_told = field_told Expansion.link expansion_calls.only_frames expansion_packs 0

pub expansion_type_told : PartTold Expansion.link expansion_code (field_of 1) (λ v. v.kind)
expansion_type_told = field_told Expansion.link expansion_calls.only_frames expansion_packs 1

pub expansion_repeat_told : PartTold Expansion.link expansion_code (field_of 2) (λ v. v.repeat)
expansion_repeat_told = field_told Expansion.link expansion_calls.only_frames expansion_packs 2

pub expansion_address_told : PartTold Expansion.link expansion_code (field_of 3) (λ v. v.address)
expansion_address_told = field_told Expansion.link expansion_calls.only_frames expansion_packs 3
