-- What a byte does by the rules.
use Prim.Native.Nat.{ℕ, ◌^◌, ◌≤◌, ◌<◌}
use mathlib.Core.Path.{◌≡◌, refl, ap, sym, ◌∙◌}
use mathlib.Core.Bool.{Bool, true, false, cond}
use mathlib.Core.List.{List, [], ◌∷◌, ◌++◌, append_assoc, append-nil}
use mathlib.Core.Option.{Option, some}
use native.Mathlib.Omega.{arith}
use lib.ListN.{length, get_or, drop, length-append, length-drop}
use borrow.Author.Tests.{ne_eqb}
use Rattle.runs.proofs.Cases.{by_eqb, by_ltb}
use Rattle.framing.specs.Segment.{Segment, refused_frame, accepted_frame, noise_after}
use Rattle.framing.proofs.Byte.{Reached, Takes, goes_on, restarts, closes, Ends, by_end, ends_quiet}
use Rattle.escape.specs.Code.{Meaning, byte, meaning, hide}
use Rattle.runs.specs.Runs.{each}
use Rattle.escape.specs.Dle.{dle}
use Rattle.escape.proofs.Lawful.{hide-more, hide_short}
use Rattle.escape.specs.Laws.{dle_lawful}
use Rattle.dle.specs.Frame.{Message, ok, body, enclose}
use Rattle.dle.specs.Rules.{Phase, hunting, half, inside, size, gathered, held, fault_of, message_in, judge, gather, act, on_byte}
use Rattle.dle.specs.Contract.{link}
use Rattle.dle.proofs.Typed.{typed}
use Rattle.dle.proofs.Passed.{Passed, passed}
use Rattle.dle.proofs.Body.{body_in, length-ok, message_back}

-- no more is gathered than the store holds
abbrev pub reached : Reached link
reached =
    record {
      Good = λ p. length (gathered p) ≤ size;
      fits = λ p h. h;
      few = held_short;
      good_first = omega arith;
      held_first = refl;
      gathered-first = refl;
    }
  where
    held_short : (p : Phase) → length (gathered p) ≤ size → length (held p) < 2 ^ 32
    held_short hunting h = omega arith
    held_short half h = omega arith
    held_short (inside true g) h = simp length-append (omega (arith, hide_short dle dle_lawful g))
    held_short (inside false g) h = simp length-append (omega (arith, hide_short dle dle_lawful g))

-- a byte that leads to r, which leaves at the start of the store what is then gathered
abbrev Next : List ℕ → List ℕ → Phase × Option (Segment Message) → Type 0
Next g wire r = Takes reached g wire (gathered r.0) r

-- the end of a frame: an accepted message has the gathered bytes as its body
abbrev pub Judged : List ℕ → Message → Type 0
Judged g m = (body m ≡ g) × (length g ≤ size → ok m ≡ true)

pub judge_ends : (g wire : List ℕ) → Ends (Judged g) wire (judge g wire)
judge_ends g wire =
    by_eqb (Ends (Judged g) wire) (fault_of g) 0 (λ z. let p = passed g z in (body_in g p, may p)) (λ _. refl)
  where
    may : Passed g → length g ≤ size → ok (message_in g) ≡ true
    may p h =
        by_eqb (λ (m : Message). ok m ≡ true) (get_or g 2 0) 0 (λ _. refl)
        (λ _. length-ok (length (drop 3 g)) (simp length-drop (omega (arith, p.long))) (simp length-drop (omega arith)))

pub judge_noise : (g wire : List ℕ) (n : ℕ) → noise_after (some (judge g wire)) n ≡ n
judge_noise g wire n = ends_quiet (Judged g) wire (judge g wire) (judge_ends g wire) n

judge-takes : (g wire : List ℕ) → length g ≤ size → enclose g ≡ wire → Next g wire (hunting, some (judge g wire))
judge-takes g wire h e =
    by_end (λ (s : Segment Message). Next g wire (hunting, some s)) (Judged g) wire (judge g wire) (judge_ends g wire)
    (λ n. closes reached g wire [] (refused_frame n wire) refl (omega arith) tt)
    (λ m t. closes reached g wire [] (accepted_frame m) (ap enclose t.0 ∙ e) (omega arith)
    (record {
      may = t.1 h;
      typed = typed m;
      read = λ store front. message_back m store (t.1 h) (rw t.0 front);
      hunts = refl;
    }))

-- a wire byte that completes a byte
gather-takes : (waiting : Bool) (g : List ℕ) (w b : ℕ) → meaning dle waiting w ≡ byte b
    → Next g (held (inside waiting g) ++ (w ∷ [])) (gather g b (held (inside waiting g) ++ (w ∷ [])))
gather-takes waiting g w b e =
    by_ltb (Next g (held (inside waiting g) ++ (w ∷ []))) (length g) size
    (λ l. goes_on reached g _ (inside false (g ++ (b ∷ []))) (ap (λ (x : List ℕ). 0x10 ∷ 0x02 ∷ x) more) (simp length-append (omega arith)))
    (λ _. closes reached g _ [] _ refl (omega arith) tt)
  where
    more : hide dle (g ++ (b ∷ [])) ++ [] ≡ (hide dle g ++ cond waiting (0x10 ∷ []) []) ++ (w ∷ [])
    more = append-nil (hide dle (g ++ (b ∷ []))) ∙ sym (hide-more dle dle_lawful 0x10 refl waiting g w b e)

pub takes : (p : Phase) (b : ℕ) → length (gathered p) ≤ size → Next (gathered p) (held p ++ (b ∷ [])) (on_byte p b)
unfolding each
takes hunting b h =
    by_eqb (Next [] (b ∷ [])) b 0x10 (λ e. goes_on reached [] _ half (rw e) (omega arith)) (λ _. closes reached [] _ [] _ refl (omega arith) tt)
takes half b h =
    by_eqb (Next [] (0x10 ∷ b ∷ [])) b 0x02 (λ e. goes_on reached [] _ (inside false []) (rw e) (omega arith))
    (λ _. closes reached [] _ [] _ refl (omega arith) tt)
takes (inside false g) b h =
    by_eqb (λ m. Next g wire (act g wire m)) b 0x10
    (λ e. goes_on reached g wire (inside true g) (rw e (ap (λ (x : List ℕ). 0x10 ∷ 0x02 ∷ x ++ (0x10 ∷ [])) (sym (append-nil (hide dle g))))) h)
    (λ n. gather-takes false g b b (rw (ne_eqb b 0x10 n)))
  where
    wire : List ℕ
    wire = held (inside false g) ++ (b ∷ [])
takes (inside true g) b h =
    by_eqb P b 0x02 (λ e. restarts reached g wire (inside false []) 4 _ (restart e) (omega arith))
    (λ _. by_eqb P b 0x03 (λ e. judge-takes g wire h (rw (e, snoc (0x03 ∷ []))))
    (λ _. by_eqb P b 0x10 (λ e. gather-takes true g b 0x10 (rw e)) (λ _. closes reached g wire [] _ refl (omega arith) tt)))
  where
    wire : List ℕ
    wire = held (inside true g) ++ (b ∷ [])

    P : Meaning → Type 0
    P m = Next g wire (act g wire m)

    snoc : (x : List ℕ) → (hide dle g ++ (0x10 ∷ [])) ++ x ≡ hide dle g ++ 0x10 ∷ x
    snoc x = append_assoc (hide dle g) (0x10 ∷ []) x

    restart : b ≡ 0x02 → held (inside false g) ++ held (inside false []) ≡ wire
    restart e =
        rw e (ap (λ (x : List ℕ). 0x10 ∷ 0x02 ∷ x ++ (0x10 ∷ 0x02 ∷ [])) (append-nil (hide dle g))
        ∙ ap (λ (x : List ℕ). 0x10 ∷ 0x02 ∷ x) (sym (snoc (0x02 ∷ []))))
