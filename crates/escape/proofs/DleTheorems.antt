-- The DLE code reads back, and leaves no 10 unpaired.
use Prim.Native.Nat.{ℕ, ◌<◌}
use mathlib.Core.Path.{◌≡◌, ◌∙◌}
use mathlib.Core.List.{List, [], ◌∷◌, ◌++◌, append_assoc}
use native.Mathlib.Omega.{arith}
use lib.Dec.{lit<}
use Rattle.runs.specs.Runs.{Bytes}
use Rattle.runs.proofs.Bytes.{bytes_one, bytes_two}
use Rattle.runs.proofs.Cases.{by_eqb}
use Rattle.runs.proofs.Each.{each_bytes}
use Rattle.escape.specs.Code.{hide}
use Rattle.runs.specs.Runs.{each}
use Rattle.escape.specs.Dle.{dle}
use Rattle.escape.specs.Claims.{HiddenReadsBack, ReadIsHidden, Paired}
use Rattle.escape.specs.Laws.{dle_lawful}
use Rattle.escape.proofs.Lawful.{unhide_hide, hide_unhide, unhidden_bytes}

pub dle_reads_back : HiddenReadsBack dle
dle_reads_back = unhide_hide dle dle_lawful

pub dle_read_hidden : ReadIsHidden dle
dle_read_hidden = hide_unhide dle dle_lawful

-- hidden bytes are bytes
pub dle_bytes : (bytes : List ℕ) → Bytes bytes → Bytes (hide dle bytes)
dle_bytes = each_bytes dle.hide_byte (λ b h. by_eqb Bytes b 0x10 (λ _. bytes_two 0x10 0x10 (lit< tt) (lit< tt)) (λ _. bytes_one b h))

pub dle-small : (bytes : List ℕ) → Bytes (hide dle bytes) → Bytes bytes
dle-small = unhidden_bytes dle dle_lawful (λ b. by_eqb (λ (run : List ℕ). Bytes run → b < 256) b 0x10 (λ e _. omega arith) (λ _ h. h 0))

-- equal runs begin with the same hidden byte
same_first : (a b : ℕ) (xs ys : List ℕ) → dle.hide_byte a ++ xs ≡ dle.hide_byte b ++ ys → xs ≡ ys
same_first a b xs ys =
    by_eqb (λ run. run ++ xs ≡ dle.hide_byte b ++ ys → xs ≡ ys) a 0x10
    (λ e. by_eqb (λ run. 0x10 ∷ 0x10 ∷ xs ≡ run ++ ys → xs ≡ ys) b 0x10 (λ _ h. cc) (λ n h. absurd (n (cc))))
    (λ n. by_eqb (λ run. a ∷ xs ≡ run ++ ys → xs ≡ ys) b 0x10 (λ _ h. absurd (n (cc))) (λ _ h. cc))

-- hidden bytes that begin with a 10 begin with two
begins_paired : (bytes rest : List ℕ) → hide dle bytes ≡ 0x10 ∷ rest → (behind : List ℕ) × (rest ≡ 0x10 ∷ behind)
unfolding each
begins_paired [] rest h = absurd (let z : ◌≡◌ {A = ℕ} 0 1 = cc in omega arith)
begins_paired (b ∷ bytes) rest h =
    by_eqb (λ run. run ++ hide dle bytes ≡ 0x10 ∷ rest → (behind : List ℕ) × (rest ≡ 0x10 ∷ behind)) b 0x10
    (λ e k. (hide dle bytes, cc)) (λ n k. absurd (n (cc))) h

none_hidden : (b : ℕ) (rest : List ℕ) → [] ≡ dle.hide_byte b ++ rest → ⊥
none_hidden b rest =
    by_eqb (λ run. [] ≡ run ++ rest → ⊥) b 0x10 (λ _ h. let z : ◌≡◌ {A = ℕ} 0 1 = cc in omega arith) (λ _ h. let z : ◌≡◌ {A = ℕ} 0 1 = cc in omega arith)

pub dle_paired : Paired
unfolding each
dle_paired bytes [] rest h = begins_paired bytes rest h
dle_paired [] (b ∷ front) rest h = absurd (none_hidden b (hide dle front ++ (0x10 ∷ rest)) (h ∙ append_assoc (dle.hide_byte b) (hide dle front) (0x10 ∷ rest)))
dle_paired (a ∷ bytes) (b ∷ front) rest h =
    dle_paired bytes front rest
    (same_first a b (hide dle bytes) (hide dle front ++ (0x10 ∷ rest)) (h ∙ append_assoc (dle.hide_byte b) (hide dle front) (0x10 ∷ rest)))
