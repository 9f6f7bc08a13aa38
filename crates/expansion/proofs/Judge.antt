-- The end of a frame: what is accepted is the body and the CRC of a message that may be sent, and each such message is accepted.
use Prim.Native.Nat.{ℕ, zero, suc, ◌+◌, ◌-◌, ◌/◌, ◌%◌, ◌≤◌}
use mathlib.Core.Path.{◌≡◌, refl, ap, sym, ◌∙◌}
use mathlib.Core.Bool.{true, ◌&&◌}
use mathlib.Core.List.{List, [], ◌∷◌, ◌++◌}
use native.Mathlib.Omega.{arith}
use lib.Dec.{leb}
use lib.ListN.{length, get_or, take, drop, length-append, length-drop, take-append-drop}
use lib.Seq.{take_at, drop_at, take-add, length-take-le, get_or-drop}
use Rattle.std.specs.Int.{from_le_bytes}
use Rattle.std.proofs.Common.{w32}
use borrow.Author.Tests.{le-leb, eq-eqb, eqb-true, leb-true}
use Rattle.runs.specs.Runs.{Bytes}
use Rattle.runs.specs.Number.{little_endian, bytes_of}
use Rattle.runs.proofs.Bytes.{bytes_append, bytes_drop}
use Rattle.runs.proofs.Cases.{and_both}
use Rattle.runs.proofs.Number.{number_bytes_of, bytes_of_number, length-bytes_of, bytes_bytes_of}
use Rattle.framing.specs.Segment.{accepted_frame}
use Rattle.checksum.specs.Crc.{crc32_of}
use Rattle.checksum.proofs.CheckValue.{crc32_lt}
use Rattle.expansion.specs.Frame.{Message, Typed, kind_ok, ok, body, trailer}
use Rattle.expansion.specs.Rules.{size, check_right, fields_ok, fault_of, message_in, judge}
use Rattle.expansion.proofs.Passed.{Passed, no_fault}

-- what a frame holds between its marks, before hiding
abbrev pub content : Message → List ℕ
content m = body m ++ trailer (body m)

pub content-length : (m : Message) → length (content m) ≡ 8 + length m.payload
content-length m = length-append (body m) (trailer (body m)) ∙ simp length-bytes_of (omega arith)

-- what `ok` says of a message
module _ (m : Message) (h : ok m ≡ true) where
  rest_ok : (kind_ok m.kind (length m.payload) ≡ true) × (leb m.repeat 3 && leb (length m.payload) 1024 ≡ true)
  rest_ok = and_both (kind_ok m.kind (length m.payload)) (leb m.repeat 3 && leb (length m.payload) 1024) h

  repeat_ok : (leb m.repeat 3 ≡ true) × (leb (length m.payload) 1024 ≡ true)
  repeat_ok = and_both (leb m.repeat 3) (leb (length m.payload) 1024) rest_ok.1

  pub content-fits : length (content m) ≤ size
  content-fits = omega (arith, content-length m, leb-true (length m.payload) 1024 repeat_ok.1)

four : (g : List ℕ) → 4 ≤ length g → take 4 g ≡ get_or g 0 0 ∷ get_or g 1 0 ∷ get_or g 2 0 ∷ get_or g 3 0 ∷ []
four [] h = absurd (omega arith)
four (a ∷ []) h = absurd (omega arith)
four (a ∷ b ∷ []) h = absurd (omega arith)
four (a ∷ b ∷ c ∷ []) h = absurd (omega arith)
four (a ∷ b ∷ c ∷ d ∷ t) h = refl

-- gathered bytes of at least the least size
module _ (g : List ℕ) (l : 8 ≤ length g) where
  pub payload_length : length (message_in g).payload ≡ length g - 8
  payload_length = length-take-le (length g - 8) (drop 4 g) (simp length-drop (omega arith))

  body_in : body (message_in g) ≡ take (length g - 4) g
  body_in =
      let n : 4 + (length g - 8) ≡ length g - 4 = omega arith in
      ap (λ (x : List ℕ). x ++ take (length g - 8) (drop 4 g)) (sym (four g (omega arith)))
      ∙ sym (take-add 4 (length g - 8) g) ∙ ap (λ (k : ℕ). take k g) n

  -- with the right CRC they are the content of their message
  pub content_in : Bytes g → check_right g ≡ true → content (message_in g) ≡ g
  content_in y e =
      let t = drop (length g - 4) g in
      let n : length t ≡ 4 = simp length-drop (omega arith) in
      let c : little_endian t ≡ crc32_of (body (message_in g)) = eqb-true (little_endian t) (crc32_of (take (length g - 4) g)) e ∙ ap crc32_of (sym body_in) in
      let s : trailer (body (message_in g)) ≡ t =
      ap (bytes_of 4) (sym c) ∙ ap (λ (k : ℕ). bytes_of k (little_endian t)) (sym n) ∙ bytes_of_number t (bytes_drop (length g - 4) g y) in
      ap (λ (x : List ℕ). body (message_in g) ++ x) s ∙ ap (λ (x : List ℕ). x ++ t) body_in ∙ take-append-drop (length g - 4) g

  -- with right fields it may be sent
  pub ok_in : length g ≤ size → fields_ok g ≡ true → ok (message_in g) ≡ true
  ok_in h f =
      let b = and_both (kind_ok (get_or g 1 0) (length g - 8)) (leb (get_or g 2 0) 3) f in
      rw (payload_length, b.0, b.1, le-leb (length g - 8) 1024 (omega arith))

-- the content of a message
module _ (m : Message) (t : Typed m) where
  body_bytes : Bytes (body m)
  body_bytes zero = t.id
  body_bytes (suc zero) = t.kind
  body_bytes (suc (suc zero)) = t.repeat
  body_bytes (suc (suc (suc zero))) = t.address
  body_bytes (suc (suc (suc (suc i)))) = t.payload i

  pub content_bytes : Bytes (content m)
  content_bytes = bytes_append (body m) (trailer (body m)) body_bytes (bytes_bytes_of 4 (crc32_of (body m)))

  take-body : take (length (content m) - 4) (content m) ≡ body m
  take-body = take_at (body m) (trailer (body m)) (length (content m) - 4) (omega (arith, content-length m))

  drop-body : drop (length (content m) - 4) (content m) ≡ trailer (body m)
  drop-body = drop_at (body m) (trailer (body m)) (length (content m) - 4) (omega (arith, content-length m))

  check_content : check_right (content m) ≡ true
  check_content =
      eq-eqb (little_endian (drop (length (content m) - 4) (content m))) (crc32_of (take (length (content m) - 4) (content m)))
      (ap little_endian drop-body ∙ number_bytes_of 4 (crc32_of (body m)) (crc32_lt (body m) body_bytes) ∙ ap crc32_of (sym take-body))

  data_length : length (content m) - 8 ≡ length m.payload
  data_length = omega (arith, content-length m)

  fields_content : ok m ≡ true → fields_ok (content m) ≡ true
  fields_content h = rw (data_length, (rest_ok m h).0, (repeat_ok m h).0)

  message_content : message_in (content m) ≡ m
  message_content =
      let e : take (length (content m) - 8) (drop 4 (content m)) ≡ m.payload =
      take_at m.payload (trailer (body m)) (length (content m) - 8) (sym data_length) in
      λ i. record { id = m.id; kind = m.kind; repeat = m.repeat; address = m.address; payload = e i }

  pub judge-content : ok m ≡ true → (wire : List ℕ) → judge (content m) wire ≡ accepted_frame m
  judge-content h wire =
      let p : Passed (content m) = record { long = omega (arith, content-length m); checked = check_content; fields = fields_content h } in
      rw (eq-eqb (fault_of (content m)) 0 (no_fault (content m) p)) (ap accepted_frame message_content)

-- the bytes of a number of 32 bits, as the library has them
pub four_bytes : (n : ℕ) → n % 256 ∷ n / 256 % 256 ∷ n / 65536 % 256 ∷ n / 16777216 % 256 ∷ [] ≡ bytes_of 4 n
unfolding bytes_of
four_bytes n =
    let third : n / 65536 ≡ n / 256 / 256 = omega arith in
    let fourth : n / 16777216 ≡ n / 256 / 256 / 256 = omega arith in
    λ i. n % 256 ∷ n / 256 % 256 ∷ third i % 256 ∷ fourth i % 256 ∷ []

-- and back
pub four_read : (a b c d : ℕ) → from_le_bytes w32 (a ∷ b ∷ c ∷ d ∷ []) ≡ little_endian (a ∷ b ∷ c ∷ d ∷ [])
unfolding little_endian
four_read a b c d = omega arith

-- the last four gathered bytes, by their places
pub last_four : (g : List ℕ) → 8 ≤ length g
    → get_or g (length g - 4) 0 ∷ get_or g (length g - 3) 0 ∷ get_or g (length g - 2) 0 ∷ get_or g (length g - 1) 0 ∷ [] ≡ drop (length g - 4) g
last_four g long =
    let one : length g - 4 ≡ length g - 4 + 0 = omega arith in
    let two : length g - 3 ≡ length g - 4 + 1 = omega arith in
    let three : length g - 2 ≡ length g - 4 + 2 = omega arith in
    let last : length g - 1 ≡ length g - 4 + 3 = omega arith in
    let places = λ (k j : ℕ) (e : k ≡ length g - 4 + j). ap (λ (i : ℕ). get_or g i 0) e ∙ sym (get_or-drop (length g - 4) g j 0) in
    (λ i. places _ 0 one i ∷ places _ 1 two i ∷ places _ 2 three i ∷ places _ 3 last i ∷ [])
    ∙ sym (four_all (drop (length g - 4) g) (simp length-drop (omega arith)))
  where
    four_all : (t : List ℕ) → length t ≡ 4 → t ≡ get_or t 0 0 ∷ get_or t 1 0 ∷ get_or t 2 0 ∷ get_or t 3 0 ∷ []
    four_all [] h = absurd (omega arith)
    four_all (a ∷ []) h = absurd (omega arith)
    four_all (a ∷ b ∷ []) h = absurd (omega arith)
    four_all (a ∷ b ∷ c ∷ []) h = absurd (omega arith)
    four_all (a ∷ b ∷ c ∷ d ∷ []) h = refl
    four_all (a ∷ b ∷ c ∷ d ∷ e ∷ t) h = absurd (omega arith)
