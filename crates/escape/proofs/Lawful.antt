-- Of a lawful code what is hidden reads back, and what is read is what hiding makes.
use Prim.Native.Nat.{ℕ, zero, suc, ◌+◌, ◌*◌, ◌≤◌, ◌<◌}
use mathlib.Core.Path.{◌≡◌, refl, ap, sym, ◌∙◌}
use mathlib.Core.Bool.{Bool, true, false, cond}
use mathlib.Core.List.{List, [], ◌∷◌, ◌++◌, append_assoc, append-nil}
use native.Mathlib.Nat.{zero-add}
use native.Mathlib.Omega.{arith}
use lib.Dec.{lit<}
use lib.ListN.{length, take, length-append}
use lib.Seq.{take-append-add}
use Rattle.escape.specs.Code.{Meaning, byte, waits, start, end, wrong, Code, meaning, hide, read_first, read_second, unhide_up_to}
use Rattle.runs.specs.Runs.{Bytes, each}
use Rattle.escape.specs.Lawful.{Coded, alone, pair, Lawful}
use Rattle.std.specs.Prelude.{sum_by}
use Rattle.std.proofs.lemmas.List.Sums.{sum_by-cons}
use Rattle.escape.specs.Claims.{HiddenReadsBack, ReadIsHidden}
use Rattle.runs.proofs.Bytes.{bytes_left, bytes_right}
use Rattle.runs.proofs.Each.{each_snoc, each_short}

-- what is read of wire bytes, with a byte of so many wire bytes before it
abbrev pub led : ℕ → ℕ → List ℕ × ℕ → List ℕ × ℕ
led b n u = (b ∷ u.0, n + u.1)

-- no more bytes are read than asked for
most_first : (r : ℕ) (m : Meaning) (behind both : List ℕ × ℕ) → length behind.0 ≤ r → length both.0 ≤ suc r → length (read_first m behind both).0 ≤ suc r
most_first r (byte b) behind both h k = omega arith
most_first r waits behind both h k = k
most_first r start behind both h k = omega arith
most_first r end behind both h k = omega arith
most_first r wrong behind both h k = omega arith

most_second : (r : ℕ) (m : Meaning) (behind : List ℕ × ℕ) → length behind.0 ≤ r → length (read_second m behind).0 ≤ suc r
most_second r (byte b) behind h = omega arith
most_second r waits behind h = omega arith
most_second r start behind h = omega arith
most_second r end behind h = omega arith
most_second r wrong behind h = omega arith

pub most_read : (code : Code) (r : ℕ) (wire : List ℕ) → length (unhide_up_to code r wire).0 ≤ r
unfolding unhide_up_to
most_read code zero wire = omega arith
most_read code (suc r) [] = omega arith
most_read code (suc r) (w ∷ []) = most_first r (code.plain w) ([], 0) ([], 0) (omega arith) (omega arith)
most_read code (suc r) (w ∷ x ∷ wire) =
    most_first r (code.plain w) (unhide_up_to code r (x ∷ wire)) _ (most_read code r (x ∷ wire)) (most_second r (code.after x) (unhide_up_to code r wire) (most_read code r wire))

module _ (code : Code) (lawful : Lawful code) where
  unhide_none : (n : ℕ) → unhide_up_to code n [] ≡ ([], 0)
  unfolding unhide_up_to
  unhide_none zero = refl
  unhide_none (suc n) = refl

  -- a run that hides a byte reads as that byte, whatever follows
  read_coded : (b n : ℕ) (run rest : List ℕ) → Coded code b run → unhide_up_to code (suc n) (run ++ rest) ≡ led b (length run) (unhide_up_to code n rest)
  unfolding unhide_up_to
  read_coded b n _ [] (alone p) = rw (p, unhide_none n)
  read_coded b n _ (x ∷ rest) (alone p) = rw p
  read_coded b n _ rest (pair e x p a) = rw (p, a)

  -- hidden bytes read back, and then what follows them is read
  pub unhide_hide : HiddenReadsBack code
  unfolding each
  unhide_hide [] rest n =
      let u = unhide_up_to code n rest in
      ap (λ (k : ℕ). unhide_up_to code k rest) (zero-add n) ∙ (λ i. (u.0, sym (zero-add u.1) i))
  unhide_hide (b ∷ bytes) rest n =
      let run = code.hide_byte b in
      let u = unhide_up_to code n rest in
      let next : suc (length bytes) + n ≡ suc (length bytes + n) = omega arith in
      let count : length run + (length (hide code bytes) + u.1) ≡ length (run ++ hide code bytes) + u.1 = omega (arith, length-append run (hide code bytes)) in
      rw (next, append_assoc run (hide code bytes) rest)
      (read_coded b (length bytes + n) run (hide code bytes ++ rest) (lawful.coded b) ∙ ap (led b (length run)) (unhide_hide bytes rest n)
      ∙ (λ i. (b ∷ (bytes ++ u.0), count i)))

  -- what is read of wire bytes, hidden, is the part of them that it was read of
  abbrev Back : List ℕ → List ℕ × ℕ → Type 0
  Back wire u = take u.1 wire ≡ hide code u.0

  back_more : (b : ℕ) (run wire : List ℕ) (u : List ℕ × ℕ) → code.hide_byte b ≡ run → Back wire u → Back (run ++ wire) (led b (length run) u)
  unfolding each
  back_more b run wire u e h = take-append-add run wire u.1 ∙ rw e (ap (λ (x : List ℕ). run ++ x) h)

  back_second : (w x : ℕ) (wire : List ℕ) (u : List ℕ × ℕ) → code.plain w ≡ waits → (m : Meaning) → code.after x ≡ m → Back wire u
      → Back (w ∷ x ∷ wire) (read_second m u)
  unfolding each
  back_second w x wire u p (byte b) a h = back_more b (w ∷ x ∷ []) wire u (lawful.after_byte w x b p a) h
  back_second w x wire u p waits a h = refl
  back_second w x wire u p start a h = refl
  back_second w x wire u p end a h = refl
  back_second w x wire u p wrong a h = refl

  back_first : (w : ℕ) (wire : List ℕ) (behind both : List ℕ × ℕ) (m : Meaning) → code.plain w ≡ m → Back wire behind → (m ≡ waits → Back (w ∷ wire) both)
      → Back (w ∷ wire) (read_first m behind both)
  unfolding each
  back_first w wire behind both (byte b) p h k = back_more b (w ∷ []) wire behind (lawful.plain_byte w b p) h
  back_first w wire behind both waits p h k = k refl
  back_first w wire behind both start p h k = refl
  back_first w wire behind both end p h k = refl
  back_first w wire behind both wrong p h k = refl

  taken_hidden : (n : ℕ) (wire : List ℕ) → take (unhide_up_to code n wire).1 wire ≡ hide code (unhide_up_to code n wire).0
  unfolding each unhide_up_to
  taken_hidden zero wire = refl
  taken_hidden (suc n) [] = refl
  taken_hidden (suc n) (w ∷ []) = back_first w [] ([], 0) ([], 0) (code.plain w) refl refl (λ _. refl)
  taken_hidden (suc n) (w ∷ x ∷ wire) =
      back_first w (x ∷ wire) (unhide_up_to code n (x ∷ wire)) _ (code.plain w) refl (taken_hidden n (x ∷ wire))
      (λ e. back_second w x wire (unhide_up_to code n wire) e (code.after x) refl (taken_hidden n wire))

  -- as many wire bytes are counted as there are, at most
  first_within : (m : Meaning) (behind both : List ℕ × ℕ) (k : ℕ) → behind.1 ≤ k → both.1 ≤ suc k → (read_first m behind both).1 ≤ suc k
  first_within (byte b) behind both k h l = omega arith
  first_within waits behind both k h l = l
  first_within start behind both k h l = omega arith
  first_within end behind both k h l = omega arith
  first_within wrong behind both k h l = omega arith

  second_within : (m : Meaning) (behind : List ℕ × ℕ) (k : ℕ) → behind.1 ≤ k → (read_second m behind).1 ≤ suc (suc k)
  second_within (byte b) behind k h = omega arith
  second_within waits behind k h = omega arith
  second_within start behind k h = omega arith
  second_within end behind k h = omega arith
  second_within wrong behind k h = omega arith

  taken_within : (n : ℕ) (wire : List ℕ) → (unhide_up_to code n wire).1 ≤ length wire
  unfolding unhide_up_to
  taken_within zero wire = omega arith
  taken_within (suc n) [] = omega arith
  taken_within (suc n) (w ∷ []) = first_within (code.plain w) ([], 0) ([], 0) 0 (omega arith) (omega arith)
  taken_within (suc n) (w ∷ x ∷ wire) =
      first_within (code.plain w) (unhide_up_to code n (x ∷ wire)) _ (length (x ∷ wire)) (taken_within n (x ∷ wire))
      (second_within (code.after x) (unhide_up_to code n wire) (length wire) (taken_within n wire))

  pub hide_unhide : ReadIsHidden code
  hide_unhide n wire = (taken_hidden n wire, taken_within n wire)

  coded_size : (b : ℕ) (run : List ℕ) → Coded code b run → (1 ≤ length run) × (length run ≤ 2)
  coded_size b _ (alone p) = (omega arith, omega arith)
  coded_size b _ (pair e x p a) = (omega arith, omega arith)

  pub hide_short : (bytes : List ℕ) → length (hide code bytes) ≤ 2 * length bytes
  hide_short = each_short code.hide_byte (λ b. (coded_size b (code.hide_byte b) (lawful.coded b)).1)

  -- a wire byte that completes a byte v, behind half an escape e or not: with what was held it hides one byte more
  pub hide-more : (e : ℕ) → code.plain e ≡ waits → (waiting : Bool) (bytes : List ℕ) (w v : ℕ) → meaning code waiting w ≡ byte v
      → (hide code bytes ++ cond waiting (e ∷ []) []) ++ (w ∷ []) ≡ hide code (bytes ++ (v ∷ []))
  hide-more e p true bytes w v h =
      append_assoc (hide code bytes) (e ∷ []) (w ∷ []) ∙ ap (λ (x : List ℕ). hide code bytes ++ x) (sym (lawful.after_byte e w v p h))
      ∙ sym (each_snoc code.hide_byte bytes v)
  hide-more e p false bytes w v h =
      ap (λ (x : List ℕ). x ++ (w ∷ [])) (append-nil (hide code bytes)) ∙ ap (λ (x : List ℕ). hide code bytes ++ x) (sym (lawful.plain_byte w v h))
      ∙ sym (each_snoc code.hide_byte bytes v)

  -- what is hidden as bytes are bytes, where a byte's run has the byte or stands for one
  pub unhidden_bytes : ((b : ℕ) → Bytes (code.hide_byte b) → b < 256) → (bytes : List ℕ) → Bytes (hide code bytes) → Bytes bytes
  unfolding each
  unhidden_bytes small [] h i = lit< tt
  unhidden_bytes small (b ∷ bytes) h zero = small b (bytes_left (code.hide_byte b) (hide code bytes) h)
  unhidden_bytes small (b ∷ bytes) h (suc i) = unhidden_bytes small bytes (bytes_right (code.hide_byte b) (hide code bytes) h) i

-- the wire bytes of bytes, added up
pub hidden-sum : (code : Code) (bytes : List ℕ) → length (hide code bytes) ≡ sum_by (λ b. length (code.hide_byte b)) bytes
unfolding each
hidden-sum code [] = refl
hidden-sum code (b ∷ bytes) =
    omega (arith, hidden-sum code bytes, length-append (code.hide_byte b) (hide code bytes), sum_by-cons (λ x. length (code.hide_byte x)) b bytes)
