-- A receiver inside a frame, over any code: it passes wire bytes without an event as far as whole bytes come, and gathers what they stand for.
use Prim.Native.Nat.{ℕ, zero, suc, ◌+◌, ◌-◌, ◌%◌, ◌^◌, ◌≤◌, ◌<◌, min}
use mathlib.Core.Path.{◌≡◌, refl, sym, ap, ◌∙◌, subst}
use mathlib.Core.Bool.{true}
use mathlib.Core.List.{List, [], ◌∷◌, ◌++◌}
use mathlib.Core.Option.{Option, none}
use native.Mathlib.Nat.{add-zero}
use native.Mathlib.Numerals.{add-one}
use native.Mathlib.Omega.{arith}
use lib.ListN.{length, get_or, take, drop, set, length-set, length-drop}
use lib.Seq.{sets, get_or-drop, drop-drop, length-take-le}
use lib.Dec.{ltb}
use borrow.Author.Tests.{lt-ltb}
use Rattle.runs.specs.Runs.{over}
use Rattle.runs.proofs.Run.{more_count, more-over}
use Rattle.runs.proofs.Bytes.{part_rest}
use Rattle.framing.specs.Link.{Link, Lent, step_on}
use Rattle.framing.specs.Passing.{Leads}
use Rattle.framing.specs.Open.{Room}
use Rattle.framing.specs.declared.State.{State}
use Rattle.framing.specs.declared.Reached.{Reached}
use Rattle.framing.proofs.Passing.{Gathers, leads_then, leads_byte, gathers_none, gathers_then, gathers_leads}
use Rattle.escape.specs.Enclosed.{passed}
use Rattle.escape.specs.Code.{Code, Meaning, byte, waits, start, end, wrong, read_first, read_second, unhide_up_to, unhide_into}
use Rattle.escape.proofs.Lawful.{most_read}

-- what a link does with a wire byte of an open frame, with half an escape waiting or not, by its counts of gathered, open and noise bytes
pub record Gathering (L : Link) (code : Code) (opened waiting : ℕ → ℕ → ℕ → L.State) : Type 0 where
  pub half : (k o z b : ℕ) (store : List ℕ) → k ≤ L.size → L.size ≤ length store → code.plain b ≡ waits
      → step_on L (opened k o z, store) b ≡ ((waiting k ((o + 1) % 2 ^ 32) z, store), none)
  pub whole : (k o z b v : ℕ) (store : List ℕ) → k < L.size → L.size ≤ length store → code.plain b ≡ byte v
      → step_on L (opened k o z, store) b ≡ ((opened (k + 1) ((o + 1) % 2 ^ 32) z, set store k v), none)
  pub second : (k o z b v : ℕ) (store : List ℕ) → k < L.size → L.size ≤ length store → code.after b ≡ byte v
      → step_on L (waiting k o z, store) b ≡ ((opened (k + 1) ((o + 1) % 2 ^ 32) z, set store k v), none)

-- a byte that is gathered behind the first k bytes of a store: it has room, and is stored at its place
module _ (size k : ℕ) (store : List ℕ) (room : size ≤ length store) where
  pub gathered_long : k ≤ size → length (take k store) ≡ k
  gathered_long h = length-take-le k store (omega arith)

  pub gathered_room : k < size → ltb (length (take k store)) size ≡ true
  gathered_room less = lt-ltb (length (take k store)) size (omega (arith, gathered_long (omega arith)))

  pub gathered-one : {S E : Type 0} (at : ℕ → S) (v : ℕ) → k < size
      → ◌≡◌ {A = (S × List ℕ) × Option E} ((at (length (take k store ++ (v ∷ []))), over (take k store ++ (v ∷ [])) store), none) ((at (k + 1), set store k v), none)
  gathered-one at v less = λ i. ((at (more_count store k v (omega arith) i), sym (more-over store k v (omega arith)) i), none)

module _ {L : Link} {code : Code} {opened waiting : ℕ → ℕ → ℕ → L.State} (rules : Gathering L code opened waiting) (piece : List ℕ) where
  -- what u says is gathered, from place i on, where k bytes are
  abbrev Read : List ℕ → ℕ → ℕ → List ℕ × ℕ → Type 0
  Read store k i u = Gathers L opened piece store k i (sets store k u.0) (k + length u.0) (i + u.1)

  read_none : (store : List ℕ) (k i : ℕ) → i ≤ length piece → Read store k i ([], 0)
  read_none store k i h = rw (add-zero k, add-zero i) (gathers_none L piece opened store k i h)

  gathers_one : (store : List ℕ) (k i v : ℕ) → k < L.size → L.size ≤ length store → i < length piece → code.plain (get_or piece i 0) ≡ byte v
      → Gathers L opened piece store k i (set store k v) (k + 1) (i + 1)
  gathers_one store k i v less room h e =
      record {
        onward = omega arith;
        within = omega arith;
        same_length = length-set store k v;
        passes = λ o z l.
            let held : (o + 1) % 2 ^ 32 ≡ (o + (i + 1 - i)) % 2 ^ 32 = omega arith in
            subst (λ (q : ℕ). Leads (step_on L) piece (opened k o z, store) i (opened (k + 1) q z, set store k v) (i + 1)) held
            (leads_byte L piece (opened k o z, store) (opened (k + 1) ((o + 1) % 2 ^ 32) z, set store k v) i h (length-set store k v)
            (rules.whole k o z (get_or piece i 0) v store less room e));
      }

  gathers_two : (store : List ℕ) (k i v : ℕ) → k < L.size → L.size ≤ length store → i + 1 < length piece → code.plain (get_or piece i 0) ≡ waits
      → code.after (get_or piece (i + 1) 0) ≡ byte v → Gathers L opened piece store k i (set store k v) (k + 1) (i + 2)
  gathers_two store k i v less room h e f =
      record {
        onward = omega arith;
        within = omega arith;
        same_length = length-set store k v;
        passes = λ o z l.
            let next : i + 1 + 1 ≡ i + 2 = omega arith in
            let held : ((o + 1) % 2 ^ 32 + 1) % 2 ^ 32 ≡ (o + (i + 2 - i)) % 2 ^ 32 = omega arith in
            let mid : Lent L = (waiting k ((o + 1) % 2 ^ 32) z, store) in
            let last : Lent L = (opened (k + 1) (((o + 1) % 2 ^ 32 + 1) % 2 ^ 32) z, set store k v) in
            subst (λ (q : ℕ). Leads (step_on L) piece (opened k o z, store) i (opened (k + 1) q z, set store k v) (i + 2)) held
            (subst (Leads (step_on L) piece (opened k o z, store) i last) next
            (leads_then L piece
            (leads_byte L piece (opened k o z, store) mid i (omega arith) refl (rules.half k o z (get_or piece i 0) store (omega arith) room e))
            (leads_byte L piece mid last (i + 1) h (length-set store k v) (rules.second k ((o + 1) % 2 ^ 32) z (get_or piece (i + 1) 0) v store less room f))));
      }

  -- a byte of n wire bytes, and what is read behind it
  read_more : (store : List ℕ) (k i v n : ℕ) (u : List ℕ × ℕ) → Gathers L opened piece store k i (set store k v) (k + 1) (i + n)
      → Read (set store k v) (k + 1) (i + n) u → Read store k i (v ∷ u.0, n + u.1)
  read_more store k i v n u g h =
      let stored : sets (set store k v) (k + 1) u.0 ≡ sets store k (v ∷ u.0) = ap (λ (m : ℕ). sets (set store k v) m u.0) (add-one k) in
      let count : k + 1 + length u.0 ≡ k + length (v ∷ u.0) = omega arith in
      let used : i + n + u.1 ≡ i + (n + u.1) = omega arith in
      subst (λ (s : List ℕ). Gathers L opened piece store k i s (k + length (v ∷ u.0)) (i + (n + u.1))) stored
      (subst (λ (m : ℕ). Gathers L opened piece store k i (sets (set store k v) (k + 1) u.0) m (i + (n + u.1))) count
      (subst (Gathers L opened piece store k i (sets (set store k v) (k + 1) u.0) (k + 1 + length u.0)) used
      (gathers_then L piece opened g h)))

  module _ (store : List ℕ) (k i : ℕ) (less : k < L.size) (room : L.size ≤ length store) where
    -- what a call may go on to read behind a byte of n wire bytes
    abbrev Onward : ℕ → List ℕ × ℕ → Type 0
    Onward n u = (v : ℕ) → Read (set store k v) (k + 1) (i + n) u

    read_first_lem : (m : Meaning) (behind both : List ℕ × ℕ) → i < length piece → code.plain (get_or piece i 0) ≡ m → Onward 1 behind
        → (m ≡ waits → Read store k i both) → Read store k i (read_first m behind both)
    read_first_lem (byte v) behind both h e on two = read_more store k i v 1 behind (gathers_one store k i v less room h e) (on v)
    read_first_lem waits behind both h e on two = two refl
    read_first_lem start behind both h e on two = read_none store k i (omega arith)
    read_first_lem end behind both h e on two = read_none store k i (omega arith)
    read_first_lem wrong behind both h e on two = read_none store k i (omega arith)

    read_second_lem : (m : Meaning) (behind : List ℕ × ℕ) → i + 1 < length piece → code.plain (get_or piece i 0) ≡ waits → code.after (get_or piece (i + 1) 0) ≡ m
        → Onward 2 behind → Read store k i (read_second m behind)
    read_second_lem (byte v) behind h e f on = read_more store k i v 2 behind (gathers_two store k i v less room h e f) (on v)
    read_second_lem waits behind h e f on = read_none store k i (omega arith)
    read_second_lem start behind h e f on = read_none store k i (omega arith)
    read_second_lem end behind h e f on = read_none store k i (omega arith)
    read_second_lem wrong behind h e f on = read_none store k i (omega arith)

  -- the first wire byte from place i on, and those behind it
  first-left : (i w : ℕ) (rest : List ℕ) → drop i piece ≡ w ∷ rest → (i < length piece) × (get_or piece i 0 ≡ w) × (drop (i + 1) piece ≡ rest)
  first-left i w rest e = (
    omega (arith, length-drop i piece, ap length e),
    ap (λ (m : ℕ). get_or piece m 0) (sym (add-zero i)) ∙ sym (get_or-drop i piece 0 0) ∙ ap (λ (l : List ℕ). get_or l 0 0) e,
    sym (drop-drop 1 i piece) ∙ ap (drop 1) e,
  )

  gathers_up_to : (r : ℕ) (wire store : List ℕ) (k i : ℕ) → k + r ≤ L.size → L.size ≤ length store → i ≤ length piece → drop i piece ≡ wire
      → Read store k i (unhide_up_to code r wire)
  unfolding unhide_up_to
  gathers_up_to zero wire store k i h room l e = read_none store k i l
  gathers_up_to (suc r) [] store k i h room l e = read_none store k i l
  gathers_up_to (suc r) (w ∷ []) store k i h room l e =
      let f = first-left i w [] e in
      read_first_lem store k i (omega arith) room (code.plain w) ([], 0) ([], 0) f.0 (ap code.plain f.1)
      (λ v. read_none (set store k v) (k + 1) (i + 1) (omega (arith, f.0))) (λ _. read_none store k i l)
  gathers_up_to (suc r) (w ∷ x ∷ wire) store k i h room l e =
      let f = first-left i w (x ∷ wire) e in
      let s = first-left (i + 1) x wire f.2 in
      let next : i + 1 + 1 ≡ i + 2 = omega arith in
      read_first_lem store k i (omega arith) room (code.plain w) (unhide_up_to code r (x ∷ wire)) _ f.0 (ap code.plain f.1)
      (λ v. gathers_up_to r (x ∷ wire) (set store k v) (k + 1) (i + 1) (omega arith) (rw (length-set store k v) room) (omega (arith, f.0)) f.2)
      (λ q. read_second_lem store k i (omega arith) room (code.after x) (unhide_up_to code r wire) s.0 (ap code.plain f.1 ∙ q) (ap code.after s.1)
      (λ v. gathers_up_to r wire (set store k v) (k + 1) (i + 2) (omega arith) (rw (length-set store k v) room) (omega (arith, s.0))
      (ap (λ (m : ℕ). drop m piece) (sym next) ∙ s.2)))

  -- what a function tells that unhides the rest of a piece into the store, up to the link's size
  pub gathers_told : (store out : List ℕ) (k i count used : ℕ) → k ≤ L.size → L.size ≤ length store → i ≤ length piece
      → count ≡ length (unhide_into code (take (length piece - i) (drop i piece)) store k (L.size - k)).0
      → used ≡ (unhide_into code (take (length piece - i) (drop i piece)) store k (L.size - k)).1
      → out ≡ sets store k (unhide_into code (take (length piece - i) (drop i piece)) store k (L.size - k)).0
      → Gathers L opened piece store k i out (k + count) (i + used) × (k + count ≤ L.size)
  gathers_told store out k i count used h room l e f g =
      let wire = take (length piece - i) (drop i piece) in
      let r = min (L.size - k) (length store - k) in
      (rw (e, f, g) (gathers_up_to r wire store k i (omega arith) room l (sym (part_rest piece i))), omega (arith, e, most_read code r wire))

-- a link of the shared state that passes the bytes of an open frame as far as they come whole: it goes on without an event, and no more is counted
-- than the size
module _ (L : Link) (to : State → L.State) where
  abbrev pub in_mode : ℕ → ℕ → ℕ → ℕ → L.State
  in_mode mode count held noise = to (record { mode = mode; count = count; «open» = held; noise = noise })

  pub passed_leads : {code : Code} {opened waiting : ℕ} → Gathering L code (in_mode opened) (in_mode waiting) → (piece store after : List ℕ) (s : State) (i : ℕ) (r : Reached State) → s.mode ≡ opened
      → s.«open» < 2 ^ 32 → Room L.size s store → i ≤ length piece → (r, after) ≡ passed code L.size s store piece i
      → Leads (step_on L) piece (to s, store) i (to r.state, after) r.next × (r.state.count ≤ L.size) × (length after ≡ length store)
  passed_leads {code} {opened} {waiting} rules piece store after s i r mode fits room h e =
      let u = unhide_into code (drop i piece) store s.count (L.size - s.count) in
      let u' = unhide_into code (take (length piece - i) (drop i piece)) store s.count (L.size - s.count) in
      let same : u' ≡ u = ap (λ (w : List ℕ). unhide_into code w store s.count (L.size - s.count)) (part_rest piece i) in
      let g = gathers_told rules piece store (sets store s.count u.0) s.count i (length u.0) u.1 room.count room.room h
      (ap (λ (x : List ℕ × ℕ). length x.0) (sym same)) (ap (λ (x : List ℕ × ℕ). x.1) (sym same)) (ap (λ (x : List ℕ × ℕ). sets store s.count x.0) (sym same)) in
      let held : u.1 ≡ i + u.1 - i = omega arith in
      rw (ap (λ (x : Reached State × List ℕ). x.0) e, ap (λ (x : Reached State × List ℕ). x.1) e) (
        gathers_leads L piece (in_mode opened) (to s) _ store (sets store s.count u.0) s.count s.«open» s.noise i (s.count + length u.0) (i + u.1) fits
            (λ k. to (record { mode = mode k; count = s.count; «open» = s.«open»; noise = s.noise }))
            (λ k. to (record { mode = mode k; count = s.count + length u.0; «open» = (s.«open» + held k) % 2 ^ 32; noise = s.noise }))
            g.0,
        g.1,
        g.0.same_length,
      )
