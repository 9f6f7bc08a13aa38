-- What is claimed of the calls, over any link, and the refusals of each read; and of the display's calls. proofs/Theorems.antt proves it for each
-- link, proofs/Orders.antt for the display.
use Rattle.std.specs.Prelude.{ℕ, ◌≤◌, ◌≡◌, Bool, true, List, [], ◌∷◌, length, get_or}
use Rattle.runs.specs.Runs.{Bytes}
use Rattle.framing.specs.Answer.{done, refused, fault_of}
use Rattle.framing.specs.Link.{Link}
use Rattle.framing.specs.Whole.{read_on, OnlyFrames, FramesRead}
use Rattle.framing.specs.Refusals.{ReadsGive, WritesGive}
use Rattle.pcs.specs.Contract as Pcs
use Rattle.host.specs.Read.{reads, refusal_of}
use Rattle.display.specs.Profile.{order_ok, order_frame}
use Rattle.display.specs.Reading.{reading}
use Rattle.display.specs.End.{shown_of}
use Rattle.display.specs.declared.Order.{Order}
use Rattle.host.specs.Write.{int32_of, writes_to, chosen}
use Rattle.host.specs.Display.{order_written, order_read, places_code, receiver_of, sender_of, number_of, value_of, place_of}

-- the refusals of each read, and no others: a short store, what its receiver gives of a stream, and 6 for bytes that are not one whole frame. So
-- 4 and 5 are not given on MDU, 7 on DLE and expansion only, 8 and 9 not on DLE, 10 not on expansion, 13 on PCS only, 2, 3, 11 and 12 by no read
abbrev pub pcs_refusals : List ℕ
pcs_refusals = 1 ∷ 4 ∷ 5 ∷ 6 ∷ 8 ∷ 9 ∷ 10 ∷ 13 ∷ []

abbrev pub mdu_refusals : List ℕ
mdu_refusals = 1 ∷ 6 ∷ 8 ∷ 9 ∷ 10 ∷ []

abbrev pub dle_refusals : List ℕ
dle_refusals = 1 ∷ 4 ∷ 5 ∷ 6 ∷ 7 ∷ 10 ∷ []

abbrev pub expansion_refusals : List ℕ
expansion_refusals = 1 ∷ 4 ∷ 5 ∷ 6 ∷ 7 ∷ 8 ∷ 9 ∷ []

module _ (L : Link) where
  -- no frame takes more than 2,066 wire bytes, so a writer's answer fits 32 bits
  abbrev pub FrameBound : Type 0
  FrameBound = (m : L.Message) → L.ok m ≡ true → length (L.frame m) ≤ 2066

  -- a refusal is 1 to 13
  abbrev pub RefusalsFit : Type 0
  RefusalsFit = (run store : List ℕ) (n : ℕ) → (read_on L run store).0 ≡ refused n → (1 ≤ n) × (n ≤ 13)

  -- bits 0 to 7 of an answer are the number that the call is refused with, and 0, which is no refusal, where a message is told
  abbrev pub RefusalTold : (L.Numbers → ℕ) → Type 0
  RefusalTold code = (run store : List ℕ) → refusal_of (reads L code run store).0 ≡ fault_of (read_on L run store).0

  -- no read and no write answers 11, which 02 withdraws
  abbrev pub ReadNever : (L.Numbers → ℕ) → Type 0
  ReadNever code = (run store : List ℕ) → refusal_of (reads L code run store).0 ≡ 11 → ⊥

  abbrev pub WriteNever : Type 0
  WriteNever = (m : L.Message) (out : List ℕ) → (writes_to L m out).0 ≡ int32_of (refused 11) → ⊥

  -- of a message that is told, an accessor tells a part
  abbrev pub PartTold : (L.Numbers → ℕ) → (ℕ → ℕ) → (L.Numbers → ℕ) → Type 0
  PartTold code accessor part =
      (run store : List ℕ) (v : L.Numbers) → Bytes run → (read_on L run store).0 ≡ done v → accessor (reads L code run store).0 ≡ part v

-- what is claimed of the calls on a link whose messages are told by a code and whose reads give these refusals
pub record CallsOf (L : Link) (code : L.Numbers → ℕ) (refusals : List ℕ) : Type 0 where
  pub frame_bound : FrameBound L
  pub only_frames : OnlyFrames L
  pub frames_read : FramesRead L
  pub reads_give : ReadsGive L refusals
  pub writes_give : WritesGive L
  pub refusals_fit : RefusalsFit L
  pub refusal_told : RefusalTold L code
  pub read_never : ReadNever L code
  pub write_never : WriteNever L

-- nor does a write of PCS, whatever number comes for the choice of a CRC
abbrev pub ChosenNever : Type 0
ChosenNever =
    (crc : ℕ) (m : Bool → (Pcs.link).Message) (out : List ℕ)
    → (chosen crc (λ k. writes_to Pcs.link (m k) out) out).0 ≡ int32_of (refused 11) → ⊥

-- of an order that is told, an accessor tells a part
abbrev pub OrderPart : (ℕ → ℕ) → (Order → ℕ) → Type 0
OrderPart accessor part =
    (run store : List ℕ) (o : Order) → Bytes run → (reading run store).0 ≡ done o → accessor (order_read run store).0 ≡ part o

-- what is claimed of the display's calls
pub record OrderCalls : Type 0 where
  -- no order's frame takes more than 26 wire bytes
  pub frame_bound : (o : Order) → order_ok o ≡ true → length (order_frame o) ≤ 26
  -- a refusal is 1 to 21, and bits 0 to 7 of a read's answer are its number, or 0 where an order is told
  pub refusals_fit : (run store : List ℕ) (n : ℕ) → (reading run store).0 ≡ refused n → (1 ≤ n) × (n ≤ 21)
  pub refusal_told : (run store : List ℕ) → refusal_of (order_read run store).0 ≡ fault_of (reading run store).0
  -- of an order that is told, the accessors tell its parts
  pub receiver_told : OrderPart receiver_of (λ o. o.receiver)
  pub sender_told : OrderPart sender_of (λ o. o.sender)
  pub number_told : OrderPart number_of (λ o. o.number)
  pub value_told : OrderPart value_of (λ o. o.value)
  -- and of the places shown each place
  pub place-told : (v i : ℕ) → place_of i (places_code v) ≡ get_or (shown_of v) i 0
  -- none of them answers 11
  pub read_never : (run store : List ℕ) → refusal_of (order_read run store).0 ≡ 11 → ⊥
  pub write_never : (o : Order) (out : List ℕ) → (order_written o out).0 ≡ int32_of (refused 11) → ⊥
