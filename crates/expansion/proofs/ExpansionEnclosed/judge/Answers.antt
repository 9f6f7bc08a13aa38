use Rattle.std.proofs.Common.{◌≡◌, ℕ, ◌+◌, ◌-◌, ◌≤◌, ◌&&◌, Bool, true, false, List, [], ◌∷◌, length, get_or, take, drop, sym, ap, ◌∙◌, arith, leb, lt-ltb, le-ltb, eq-eqb, ne_eqb, length-take, length-drop}
use Rattle.std.proofs.Common.{w32}
use Rattle.std.specs.Int.{from_le_bytes}
use Rattle.runs.specs.Number.{little_endian}
use Rattle.framing.specs.Answer.{done}
use Rattle.checksum.specs.Crc.{crc32_of}
use Rattle.expansion.specs.Frame.{kind_ok}
use Rattle.expansion.specs.Rules.{check_right, fields_ok, fault_of}
use Rattle.expansion.proofs.Passed.{Passed, no_fault}
use Rattle.expansion.proofs.Judge.{four_read, last_four}
use Rattle.expansion.proofs.ExpansionEnclosed.judge.Goals as goal

pub returns-in_default : goal.returns-in_default
unfolding fault_of
returns-in_default c = rw (lt-ltb (length c.args.gathered.now) 8 c.in_default.len_below)

-- the data are all but a header of four and a CRC of four
data_long : (g : List ℕ) → 8 ≤ length g → length (take (length g - 4 - 4) (drop 4 g)) ≡ length g - 8
data_long g long = omega (arith, long, length-take (length g - 4 - 4) (drop 4 g), length-drop 4 g)

sent_in : (g : List ℕ) → 8 ≤ length g
    → from_le_bytes w32 (get_or g (length g - 4) 0 ∷ get_or g (length g - 3) 0 ∷ get_or g (length g - 2) 0 ∷ get_or g (length g - 1) 0 ∷ [])
    ≡ little_endian (drop (length g - 4) g)
sent_in g long = four_read _ _ _ _ ∙ ap little_endian (last_four g long)

covered : (g : List ℕ) (check : ℕ) → 8 ≤ length g → check ≡ crc32_of (take (4 + length (take (length g - 4 - 4) (drop 4 g))) g)
    → check ≡ crc32_of (take (length g - 4) g)
covered g check long e =
    let n : 4 + length (take (length g - 4 - 4) (drop 4 g)) ≡ length g - 4 = omega (arith, long, data_long g long) in
    e ∙ ap (λ (k : ℕ). crc32_of (take k g)) n

allowed : (g : List ℕ) (t r : Bool) → 8 ≤ length g
    → t ≡ (kind_ok (get_or g 1 0) (length (take (length g - 4 - 4) (drop 4 g))) && leb (get_or g 2 0) 3) → t ≡ r → fields_ok g ≡ r
allowed g t r long e f = ap (λ (n : ℕ). kind_ok (get_or g 1 0) n && leb (get_or g 2 0) 3) (sym (data_long g long)) ∙ sym e ∙ f

pub returns-then-from_le_bytes-crc32 : goal.returns-then-from_le_bytes-crc32
unfolding fault_of
returns-then-from_le_bytes-crc32 c =
    let g = c.args.gathered.now in
    let long = c.in-len8-up.len_at_least in
    let sent = c.from_le_bytes.ensures ∙ sent_in g long in
    let of_them = covered g _ long c.crc32.ensures in
    let checked : check_right g ≡ false = ne_eqb _ _ (λ e. c.if-from_le_bytes-crc32.true (sent ∙ e ∙ sym of_them)) in
    rw (le-ltb (length g) 8 long, checked)

pub returns-then-not-fields_ok : goal.returns-then-not-fields_ok
unfolding fault_of
returns-then-not-fields_ok c =
    let g = c.args.gathered.now in
    let long = c.in-len8-up.len_at_least in
    let sent = c.from_le_bytes.ensures ∙ sent_in g long in
    let of_them = covered g _ long c.crc32.ensures in
    let checked : check_right g ≡ true = eq-eqb _ _ (sym sent ∙ c.if-from_le_bytes-crc32.false ∙ of_them) in
    rw (le-ltb (length g) 8 long, checked, allowed g _ false long c.fields_ok.ensures c.if-not-fields_ok.true)

pub returns : goal.returns
returns c =
    let g = c.args.gathered.now in
    let long = c.in-len8-up.len_at_least in
    let sent = c.from_le_bytes.ensures ∙ sent_in g long in
    let of_them = covered g _ long c.crc32.ensures in
    let p : Passed g = record {
      long = long;
      checked = eq-eqb _ _ (sym sent ∙ c.if-from_le_bytes-crc32.false ∙ of_them);
      fields = allowed g _ true long c.fields_ok.ensures c.if-not-fields_ok.false;
    } in
    let n : length g - 4 - 4 ≡ length g - 8 = omega arith in
    rw (eq-eqb (fault_of g) 0 (no_fault g p))
    (λ i.
    let data_count = length (take (n i) (drop 4 g)) in
    done (record { id = get_or g 0 0; kind = get_or g 1 0; repeat = get_or g 2 0; address = get_or g 3 0; length = data_count }))
