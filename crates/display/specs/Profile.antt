-- The profile of PCS by which a number is sent to the queue display. A message of the profile is an order: to show a value.
use Rattle.std.specs.Prelude.{ℕ, Bool, true, false, ◌&&◌, not, List, [], ◌∷◌, ◌++◌, eqb, leb, drop}
use Rattle.decimal.specs.Decimal.{decimal, value_of, is_numeral}
use Rattle.pcs.specs.Frame.{Message, with_fields, ok, frame}
use Rattle.display.specs.declared.Order.{Order}

-- CLCSH
abbrev pub word : List ℕ
word = 67 ∷ 76 ∷ 67 ∷ 83 ∷ 72 ∷ []

-- ---- from an order to its frame

-- a value has at most eight digits, so this is the largest
abbrev pub most_digits : ℕ
most_digits = 8

abbrev pub largest : ℕ
largest = 99999999

-- the message of an order: kind 1, both ports 1, no CRC; its data are the word, then the value in decimal without leading zeros
abbrev pub message_of : Order → Message
message_of o = with_fields o.receiver o.sender 1 o.number 1 1 false (word ++ decimal o.value)

-- an order that may be sent: its value is not too large, and PCS allows its message
abbrev pub order_ok : Order → Bool
order_ok o = leb o.value largest && ok (message_of o)

abbrev pub order_frame : Order → List ℕ
order_frame o = frame (message_of o)

-- ---- and back

-- a run that begins with another
unfoldable pub begins_with : List ℕ → List ℕ → Bool
begins_with [] u = true
begins_with (a ∷ w) [] = false
begins_with (a ∷ w) (b ∷ u) = eqb a b && begins_with w u

-- data of the profile: the word, then 1 to 8 digits, the first of several not 0, and nothing else
abbrev pub is_text : List ℕ → Bool
is_text u = begins_with word u && is_numeral most_digits (drop 5 u)

-- a message of the profile, whoever it is for and from and whatever its number
abbrev pub in_profile : Message → Bool
in_profile m = eqb m.kind 1 && (eqb m.sender_port 1 && (eqb m.receiver_port 1 && (not m.crc && is_text m.payload)))

-- the order that it is
abbrev pub order_of : Message → Order
order_of m = record { receiver = m.receiver; sender = m.sender; number = m.number; value = value_of (drop 5 m.payload) }
