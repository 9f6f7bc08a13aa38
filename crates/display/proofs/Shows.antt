-- What a display holds after any calls.
use Prim.Native.Nat.{ℕ}
use mathlib.Core.Path.{◌≡◌, refl, ap, sym, ◌∙◌, subst}
use mathlib.Core.Bool.{Bool, true, false, ◌||◌}
use mathlib.Core.List.{List, [], ◌∷◌, ◌++◌, append-nil, append_assoc}
use lib.Dec.{eqb}
use Rattle.framing.specs.Answer.{Outcome, done, refused}
use Rattle.framing.specs.Claims.{AllOf}
use Rattle.framing.proofs.Refusals.{either}
use Rattle.pcs.specs.Frame.{plain_ok}
use Rattle.display.specs.Reading.{reading}
use Rattle.display.specs.End.{fresh_display, is_repeat, showing, taking, received}
use Rattle.display.specs.Claims.{Call, call, after, Holds, blank, brought, ShowsOrdered}
use Rattle.display.specs.declared.Order.{Order}
use Rattle.display.specs.declared.Display.{Display}
use Rattle.display.proofs.Served.{Doing, Done, served_by, served_by_lem}

-- a call leaves the display, or shows an order for it or for everybody
call_does : (d : Display) (c : Call) (P : Display → Type 0) → P d
    → ((o : Order) → (reading c.run c.store).0 ≡ done o → eqb o.receiver d.own || eqb o.receiver 255 ≡ true → P (showing d o)) → P (call d c).1
call_does d c P stay show =
    either (λ (s : Done). P s.0.1) (plain_ok d.own) (go (reading c.run c.store).0 refl) stay
  where
    took : (o : Order) → P (showing d o) → P (taking d o)
    took o h = either P (is_repeat d o) stay h

    serve' : (o : Order) (t u : Bool) → (t || u ≡ true → P (showing d o)) → P (served_by d o c.memory t u).0.1
    serve' o t true h =
        served_by_lem d o c.memory (λ (s : Doing). P s.0.1) t true (λ _ e. took o (h (rw e))) (λ _ _. stay) (λ e. took o (h (rw e)))
    serve' o t false h = served_by_lem d o c.memory (λ (s : Doing). P s.0.1) t false (λ _ e. took o (h (rw e))) (λ _ _. stay) (λ _. stay)

    go : (x : Outcome Order) → (reading c.run c.store).0 ≡ x → P (received d x c.memory).0.1
    go (done o) e = serve' o (eqb o.receiver d.own) (eqb o.receiver 255) (show o e)
    go (refused n) e = stay

all_more : {A : Type 0} (P : A → Type 0) (xs : List A) (x : A) → AllOf P xs → P x → AllOf P (xs ++ (x ∷ []))
all_more P [] x a h = (h, tt)
all_more P (y ∷ xs) x a h = (a.0, all_more P xs x a.1 h)

holds_own : {own : ℕ} {cs : List Call} {d : Display} → Holds own cs d → d.own ≡ own
holds_own (blank e) = ap (λ (x : Display). x.own) e
holds_own (brought before c behind o s r t e q) = ap (λ (x : Display). x.own) e

-- one call more
holds_more : (own : ℕ) (cs : List Call) (c : Call) (d : Display) → Holds own cs d → Holds own (cs ++ (c ∷ [])) (call d c).1
holds_more own cs c d h =
    call_does d c (λ (x : Display). (call d c).1 ≡ x → Holds own (cs ++ (c ∷ [])) x) (stays h)
    (λ o r t _. let e = holds_own h in
    brought cs c [] o refl r (subst (λ (k : ℕ). eqb o.receiver k || eqb o.receiver 255 ≡ true) e t) (ap (λ (k : ℕ). showing (fresh_display k) o) e) tt)
    refl
  where
    stays : Holds own cs d → (call d c).1 ≡ d → Holds own (cs ++ (c ∷ [])) d
    stays (blank e) k = blank e
    stays (brought before b behind o s r t e q) k =
        brought before b (behind ++ (c ∷ [])) o (ap (λ (l : List Call). l ++ (c ∷ [])) s ∙ append_assoc before (b ∷ behind) (c ∷ [])) r t e
        (all_more (λ (x : Call). (call d x).1 ≡ d) behind c q k)

holds_after : (own : ℕ) (before cs : List Call) (d : Display) → Holds own before d → Holds own (before ++ cs) (after d cs)
unfolding after
holds_after own before [] d h = subst (λ (l : List Call). Holds own l d) (sym (append-nil before)) h
holds_after own before (c ∷ cs) d h =
    subst (λ (l : List Call). Holds own l (after (call d c).1 cs)) (append_assoc before (c ∷ []) cs)
    (holds_after own (before ++ (c ∷ [])) cs (call d c).1 (holds_more own before c d h))

pub shows_ordered : ShowsOrdered
shows_ordered own cs = holds_after own [] cs (fresh_display own) (blank refl)
