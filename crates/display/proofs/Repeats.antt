-- The same frame again, with calls for others between.
use Prim.Native.Nat.{ℕ, ◌≤◌, ◌<◌}
use mathlib.Core.Path.{◌≡◌, refl, ap, sym, ◌∙◌, subst}
use mathlib.Core.Bool.{Bool, true, false, cond, false≢true}
use mathlib.Core.List.{List, [], ◌∷◌}
use native.Mathlib.Omega.{arith}
use lib.Dec.{eqb}
use lib.ListN.{length, replicate, length-replicate}
use borrow.Author.Tests.{eq-eqb, ne_eqb}
use Rattle.runs.specs.Runs.{Bytes}
use Rattle.runs.proofs.Cases.{by_test}
use Rattle.framing.specs.Answer.{Outcome, done, refused}
use Rattle.pcs.specs.Frame.{plain_ok, frame}
use Rattle.pcs.specs.Rules.{size}
use Rattle.display.specs.Reading.{reading}
use Rattle.display.specs.End.{is_repeat, taking, answer_to, Reply, nothing, answer, refusal, served, received, takes}
use Rattle.display.specs.Claims.{Call, call, after, ForOthers, OthersPass, TakenOnce}
use Rattle.display.specs.declared.Order.{Order}
use Rattle.display.specs.declared.Display.{Display}
use Rattle.display.proofs.Profile.{accepted}
use Rattle.display.proofs.Orders.{order-reads}
use Rattle.display.proofs.Served.{Doing, Done, eleven, replied, moved, served_by, served_by_lem, opened, addressed}

abbrev Does : Display → Order → Bool → Bool → Reply × Display
Does d o t u = (cond t (answer (length (frame (answer_to o)))) nothing, cond t (taking d o) (cond u (taking d o) d))

served_two : (d : Display) (o : Order) (memory : List ℕ) (Q : Reply × Display → Type 0) (t u : Bool) → Q (Does d o t u)
    → (length memory < length (frame (answer_to o)) → Q (refusal 2, d)) → Q (served_by d o memory t u).0
served_two d o memory Q true u a b =
    served_by_lem d o memory (λ (s : Doing). Q s.0) true u (λ _ _. a) (λ l _. b l) (λ e. absurd (false≢true (sym e)))
served_two d o memory Q false true a b = a
served_two d o memory Q false false a b = a

module _ (d : Display) (o : Order) where
  abbrev ours : Bool
  ours = eqb o.receiver d.own

  abbrev all : Bool
  all = eqb o.receiver 255

  served-fits : (memory : List ℕ) → length (frame (answer_to o)) ≤ length memory → (served d o memory).0 ≡ (replied d o, moved d o)
  served-fits memory room =
      served_two d o memory (λ (s : Reply × Display). s ≡ (replied d o, moved d o)) ours all refl (λ short. absurd (omega arith))

  served_moves : (memory : List ℕ) → ((n : ℕ) → (served d o memory).0.0 ≡ refusal n → ⊥) → (served d o memory).0 ≡ (replied d o, moved d o)
  served_moves memory =
      served_two d o memory (λ (s : Reply × Display). ((n : ℕ) → s.0 ≡ refusal n → ⊥) → s ≡ (replied d o, moved d o)) ours all (λ _. refl) (λ _ h. absurd (h 2 refl))

  taking_own : (taking d o).own ≡ d.own
  taking_own = by_test (λ (x : Display). x.own ≡ d.own) (is_repeat d o) (λ _. refl) (λ _. refl)

  moved_own : (moved d o).own ≡ d.own
  moved_own =
      by_test (λ (x : Display). x.own ≡ d.own) ours (λ _. taking_own) (λ _. by_test (λ (x : Display). x.own ≡ d.own) all (λ _. taking_own) (λ _. refl))

  -- what was taken is the last taken
  taking-again : taking (taking d o) o ≡ taking d o
  taking-again =
      by_test (λ (x : Display). taking x o ≡ x) (is_repeat d o) (λ e. rw e) (λ _. rw (eq-eqb o.sender o.sender refl, eq-eqb o.number o.number refl))

  twice : (t u : Bool)
      → cond t (taking (cond t (taking d o) (cond u (taking d o) d)) o) (cond u (taking (cond t (taking d o) (cond u (taking d o) d)) o) (cond t (taking d o) (cond u (taking d o) d)))
      ≡ cond t (taking d o) (cond u (taking d o) d)
  twice true u = taking-again
  twice false true = taking-again
  twice false false = refl

  moved-again : moved (moved d o) o ≡ moved d o
  moved-again =
      ap (λ (k : ℕ). cond (eqb o.receiver k) (taking (moved d o) o) (cond all (taking (moved d o) o) (moved d o))) moved_own ∙ twice ours all

  replied-again : replied (moved d o) o ≡ replied d o
  replied-again = ap (λ (k : ℕ). cond (eqb o.receiver k) (answer (length (frame (answer_to o)))) nothing) moved_own

received_moves : (d : Display) (x : Outcome Order) (memory : List ℕ) → ((n : ℕ) → (received d x memory).0.0 ≡ refusal n → ⊥)
    → (o : Order) × (x ≡ done o) × ((received d x memory).0 ≡ (replied d o, moved d o))
received_moves d (done o) memory no' = (o, refl, served_moves d o memory no')
received_moves d (refused k) memory no' = absurd (no' k refl)

-- a run is read as the same order whatever store is lent
reads_anywhere : (run store other : List ℕ) (o : Order) → Bytes run → (reading run store).0 ≡ done o → size ≤ length other → (reading run other).0 ≡ done o
reads_anywhere run store other o y h room =
    let a = accepted run store o y h in
    ap (λ (r : List ℕ). (reading r other).0) a.framed ∙ order-reads o other a.most a.sends room

same-order : (run s t : List ℕ) (o p : Order) → Bytes run → (reading run s).0 ≡ done o → (reading run t).0 ≡ done p → o ≡ p
same-order run s t o p y h k =
    let long = length-replicate {A = ℕ} size 0 in
    let room : size ≤ length (replicate {A = ℕ} size 0) = omega (arith, long) in
    let e : ◌≡◌ {A = Outcome Order} (done o) (done p) = sym (reads_anywhere run s (replicate size 0) o y h room) ∙ reads_anywhere run t (replicate size 0) p y k room in
    cc

other_keeps : (d : Display) (c : Call) → ForOthers d c → (call d c).1 ≡ d
other_keeps d c h =
    by_test (λ (s : Done). s.0.1 ≡ d) (plain_ok d.own) (λ _. go (reading c.run c.store).0 refl) (λ _. refl)
  where
    go : (x : Outcome Order) → (reading c.run c.store).0 ≡ x → (received d x c.memory).0.1 ≡ d
    go (done o) e = let f = h o e in rw (ne_eqb o.receiver d.own f.0, ne_eqb o.receiver 255 f.1)
    go (refused n) e = refl

pub others_pass : OthersPass
unfolding after
others_pass d [] a = refl
others_pass d (c ∷ cs) a = ap (λ (x : Display). after x cs) (other_keeps d c a.0) ∙ others_pass d cs a.1

-- the display after an order was taken, given the run again
module _ (d : Display) (o : Order) (run first store memory : List ℕ) (y : Bytes run) (h : (reading run first).0 ≡ done o) where
  stays : (takes (moved d o) run store memory).0.1 ≡ moved d o
  stays =
      by_test (λ (s : Done). s.0.1 ≡ moved d o) (plain_ok (moved d o).own) (λ _. go (reading run store).0 refl) (λ _. refl)
    where
      go : (x : Outcome Order) → (reading run store).0 ≡ x → (received (moved d o) x memory).0.1 ≡ moved d o
      go (done p) e =
          subst (λ (z : Order). (served (moved d o) z memory).0.1 ≡ moved d o) (same-order run first store o p y h e)
          (served_two (moved d o) o memory (λ (s : Reply × Display). s.1 ≡ moved d o) (eqb o.receiver (moved d o).own) (eqb o.receiver 255) (moved-again d o) (λ _. refl))
      go (refused n) e = refl

  answers_again : plain_ok d.own ≡ true → size ≤ length store → 11 ≤ length memory → (takes (moved d o) run store memory).0.0 ≡ replied d o
  answers_again p room fits =
      ap (λ (s : Done). s.0.0) (opened (moved d o) run store memory (ap plain_ok (moved_own d o) ∙ p))
      ∙ ap (λ (x : Outcome Order). (received (moved d o) x memory).0.0) (reads_anywhere run first store o y h room)
      ∙ ap (λ (s : Reply × Display). s.0) (served-fits (moved d o) o memory (omega (arith, eleven o, fits))) ∙ replied-again d o

pub taken_once : TakenOnce
taken_once d c cs store memory y no' a =
    let p = addressed d c.run c.store c.memory (call d c).0 refl (λ e. no' 3 e) in
    let e : call d c ≡ (received d (reading c.run c.store).0 c.memory).0 =
    ap (λ (s : Done). s.0) (opened d c.run c.store c.memory p) in
    let (o, h, m) = received_moves d (reading c.run c.store).0 c.memory (λ n q. no' n (ap (λ (s : Reply × Display). s.0) e ∙ q)) in
    let is : (call d c).1 ≡ moved d o = ap (λ (s : Reply × Display). s.1) (e ∙ m) in
    let there : after (call d c).1 cs ≡ moved d o = others_pass (call d c).1 cs a ∙ is in (
      ap (λ (x : Display). (takes x c.run store memory).0.1) there ∙ stays d o c.run c.store store memory y h ∙ sym is,
      λ room fits.
          ap (λ (x : Display). (takes x c.run store memory).0.0) there ∙ answers_again d o c.run c.store store memory y h p room fits
          ∙ sym (ap (λ (s : Reply × Display). s.0) (e ∙ m)),
    )
