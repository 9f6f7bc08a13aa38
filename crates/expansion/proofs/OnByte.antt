-- What a byte does by the rules.
use Prim.Native.Nat.{ℕ, ◌^◌, ◌≤◌, ◌<◌}
use mathlib.Core.Path.{◌≡◌, refl, ap, sym, ◌∙◌, subst}
use mathlib.Core.Bool.{Bool, true, false}
use mathlib.Core.List.{List, [], ◌∷◌, ◌++◌, append-nil}
use mathlib.Core.Option.{Option, some}
use native.Mathlib.Omega.{arith}
use lib.ListN.{length, take, length-append}
use lib.Dec.{lit<}
use Rattle.runs.specs.Runs.{Bytes}
use Rattle.runs.proofs.Bytes.{bytes_more}
use Rattle.runs.proofs.Cases.{by_eqb, by_ltb}
use Rattle.framing.specs.Segment.{Segment, refused_frame, accepted_frame, noise_after}
use Rattle.framing.proofs.Byte.{data_stands, Reached, Takes, goes_on, restarts, closes, Ends, by_end, ends_quiet}
use Rattle.escape.specs.Code.{Meaning, byte, waits, start, end, wrong, meaning, hide}
use Rattle.escape.specs.Expansion.{hide_byte, expansion}
use Rattle.escape.proofs.Lawful.{hide-more, hide_short}
use Rattle.escape.specs.Laws.{expansion_lawful}
use Rattle.expansion.specs.Frame.{Message, ok, body, trailer, enclose}
use Rattle.expansion.specs.Rules.{Phase, hunting, inside, size, gathered, held, fault_of, judge, gather, act, on_byte}
use Rattle.expansion.specs.Contract.{numbers_of, message_of, link}
use Rattle.runs.proofs.Each.{each_nil}
use Rattle.expansion.proofs.Meanings.{Meant, meant}
use Rattle.expansion.proofs.Passed.{passed}
use Rattle.expansion.proofs.Judge.{content, content_in, ok_in}
use Rattle.expansion.proofs.Typed.{typed}

-- what is gathered are bytes, and no more than the store holds
abbrev pub Good : Phase → Type 0
Good p = Bytes (gathered p) × (length (gathered p) ≤ size)

abbrev pub reached : Reached link
reached =
    record {
      Good = Good;
      fits = λ p h. h.1;
      few = held_short;
      good_first = none_gathered;
      held_first = refl;
      gathered-first = refl;
    }
  where
    none_gathered : Good hunting
    none_gathered = (λ i. lit< tt, omega arith)

    held_short : (p : Phase) → Good p → length (held p) < 2 ^ 32
    held_short hunting h = omega arith
    held_short (inside true g) h = simp length-append (omega (arith, h.1, hide_short expansion expansion_lawful g))
    held_short (inside false g) h = simp length-append (omega (arith, h.1, hide_short expansion expansion_lawful g))

-- a byte that leads to r, which leaves at the start of the store what is then gathered
abbrev Next : List ℕ → List ℕ → Phase × Option (Segment Message) → Type 0
Next g wire r = Takes reached g wire (gathered r.0) r

-- an open frame with nothing gathered holds its FD
held_open : held (inside false []) ≡ 0xFD ∷ []
held_open = ap (λ (x : List ℕ). 0xFD ∷ (x ++ [])) (each_nil hide_byte)

-- the end of a frame: an accepted message has the gathered bytes as its content
abbrev pub Judged : List ℕ → Message → Type 0
Judged g m = Good (inside false g) → (content m ≡ g) × (ok m ≡ true)

pub judge_ends : (g wire : List ℕ) → Ends (Judged g) wire (judge g wire)
judge_ends g wire =
    by_eqb (Ends (Judged g) wire) (fault_of g) 0
    (λ z h. let p = passed g z in (content_in g p.long h.0 p.checked, ok_in g p.long h.1 p.fields)) (λ _. refl)

pub judge_noise : (g wire : List ℕ) (n : ℕ) → noise_after (some (judge g wire)) n ≡ n
judge_noise g wire n = ends_quiet (Judged g) wire (judge g wire) (judge_ends g wire) n

-- a message whose content stands at the start of the store is read back from its numbers
read_back : (m : Message) (store : List ℕ) → take (length (content m)) store ≡ content m → message_of store (numbers_of m) ≡ m
read_back m store stands =
    let here = data_stands (m.id ∷ m.kind ∷ m.repeat ∷ m.address ∷ []) m.payload (trailer (body m)) store stands in
    λ i. record { id = m.id; kind = m.kind; repeat = m.repeat; address = m.address; payload = here i }

judge-takes : (g wire : List ℕ) → Good (inside false g) → enclose g ≡ wire → Next g wire (hunting, some (judge g wire))
judge-takes g wire h e =
    by_end (λ (s : Segment Message). Next g wire (hunting, some s)) (Judged g) wire (judge g wire) (judge_ends g wire)
    (λ n. closes reached g wire [] (refused_frame n wire) refl (omega arith) tt)
    (λ m t. closes reached g wire [] (accepted_frame m) (ap enclose (t h).0 ∙ e) (omega arith)
    (record {
      may = (t h).1;
      typed = λ _. typed m (subst Bytes (sym (t h).0) h.0);
      read = λ store stands. read_back m store (subst (λ (x : List ℕ). take (length x) store ≡ x) (sym (t h).0) stands);
      hunts = refl;
    }))

gather-takes : (g : List ℕ) (b : ℕ) (wire : List ℕ) → Good (inside false g) → b < 256 → held (inside false (g ++ (b ∷ []))) ≡ wire
    → Next g wire (gather g b wire)
gather-takes g b wire h y e =
    by_ltb (Next g wire) (length g) size
    (λ l. goes_on reached g wire (inside false (g ++ (b ∷ []))) e (bytes_more g b h.0 y, simp length-append (omega arith)))
    (λ _. closes reached g wire [] (refused_frame 5 wire) refl (omega arith) tt)

-- a byte of an open frame, by its meaning
module _ (w : Bool) (g : List ℕ) (b : ℕ) (h : Good (inside w g)) where
  abbrev before : List ℕ
  before = held (inside w g)

  abbrev wire : List ℕ
  wire = before ++ (b ∷ [])

  act-takes : (m : Meaning) → meaning expansion w b ≡ m → Meant w b m → Next g wire (act g before wire m)
  act-takes (byte v) e y =
      gather-takes g v wire h y
      (ap (λ (x : List ℕ). 0xFD ∷ x) (append-nil (hide expansion (g ++ (v ∷ []))) ∙ sym (hide-more expansion expansion_lawful 0xFF refl w g b v e)))
  act-takes waits e y =
      goes_on reached g wire (inside true g) (rw (y.0, y.1) (ap (λ (x : List ℕ). 0xFD ∷ (x ++ (0xFF ∷ []))) (sym (append-nil (hide expansion g))))) h
  act-takes start e y =
      restarts reached g wire (inside false []) 4 before (ap (λ (x : List ℕ). before ++ x) (held_open ∙ ap (λ (x : ℕ). x ∷ []) (sym y)))
      reached.good_first
  act-takes end e y =
      judge-takes g wire h (rw (y.0, y.1) (ap (λ (x : List ℕ). 0xFD ∷ (x ++ (0xFE ∷ []))) (sym (append-nil (hide expansion g)))))
  act-takes wrong e y = closes reached g wire [] (refused_frame 7 wire) refl (omega arith) tt

pub takes : (p : Phase) (b : ℕ) → b < 256 → Good p → Next (gathered p) (held p ++ (b ∷ [])) (on_byte p b)
takes hunting b y h =
    by_eqb (Next [] (b ∷ [])) b 0xFD (λ e. goes_on reached [] (b ∷ []) (inside false []) (held_open ∙ ap (λ (x : ℕ). x ∷ []) (sym e)) reached.good_first)
    (λ _. closes reached [] (b ∷ []) [] _ refl (omega arith) tt)
takes (inside w g) b y h = act-takes w g b h (meaning expansion w b) refl (meant w b y)
