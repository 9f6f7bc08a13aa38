-- However a stream is cut, a caller hears the events of the uncut stream. The caller's configurations may be others than the machine's, as
-- long as one call follows the other.
use Rattle.std.proofs.Common.{◌≡◌, ℕ, zero, suc, ◌+◌, ◌<◌, ◌≤◌, List, [], ◌∷◌, ◌++◌, length, drop, sym, refl, ap, ◌∙◌, ap₂, not-suc-le-zero, arith, length-drop}
use mathlib.Core.Option.{Option, none, some, none-ne-some, some-ne-none}
use Rattle.runs.specs.Runs.{Bytes}
use Rattle.runs.proofs.Bytes.{bytes_left, bytes_right, bytes_drop}
use Rattle.framing.specs.Receiver.{Fed, stop, feed, events, last, drive_piece, drive, join}
use Rattle.framing.proofs.Feed.{events-feed, last-feed, used_le, used_some, events_none, last_none, events_append, last_append}

-- a call that does what a machine's call does, up to a relation between their configurations
pub record Follows {C A E : Type 0} (R : C → A → Type 0) (f : Fed E C) (g : Fed E A) : Type 0 where
  pub event : f.event ≡ g.event
  pub used : f.used ≡ g.used
  pub after : R f.after g.after

module _ {C A E : Type 0} (call : C → List ℕ → Fed E C) (step : A → ℕ → A × Option E) (R : C → A → Type 0)
    (follows : (c : C) (a : A) (bs : List ℕ) → Bytes bs → R c a → Follows R (call c bs) (feed step a bs)) where
  -- what driving ends with, against the uncut stream
  abbrev pub Agrees : List E × C → A → List ℕ → Type 0
  Agrees d a bs = (d.0 ≡ events step a bs) × R d.1 (last step a bs)

  piece : (n : ℕ) (c : C) (a : A) (bs : List ℕ) → Bytes bs → length bs < n → R c a → Agrees (drive_piece call n c bs) a bs
  piece zero c a bs y h r = absurd (not-suc-le-zero h)
  piece (suc n) c a bs y h r =
      go (feed step a bs).event refl (follows c a bs y r)
      (piece n (call c bs).after (feed step a bs).after (drop (call c bs).used bs) (bytes_drop (call c bs).used bs y))
    where
      go : (o : Option E) → (feed step a bs).event ≡ o → Follows R (call c bs) (feed step a bs)
          → (length (drop (call c bs).used bs) < n → R (call c bs).after (feed step a bs).after
          → Agrees (drive_piece call n (call c bs).after (drop (call c bs).used bs)) (feed step a bs).after (drop (call c bs).used bs))
          → Agrees (drive_piece call (suc n) c bs) a bs
      go none e f ih = rw (f.event ∙ e) (sym (events_none step a bs e), rw (last_none step a bs e) f.after)
      go (some v) e f ih =
          let u : 1 ≤ (call c bs).used = rw f.used (used_some step a bs v e) in
          let w : (call c bs).used ≤ length bs = rw f.used (used_le step a bs) in
          let k = ih (simp length-drop (omega arith)) f.after in
          rw (f.event ∙ e)
          (rw (events-feed step a bs, e, ← f.used) (ap (λ (es : List E). v ∷ es) k.0), rw (last-feed step a bs, ← f.used) k.1)

  -- the cutting theorem
  pub cutting : (c : C) (a : A) (ps : List (List ℕ)) → Bytes (join ps) → R c a → Agrees (drive call c ps) a (join ps)
  cutting c a [] y r = (refl, r)
  cutting c a (p ∷ ps) y r =
      let d : List E × C = drive_piece call (suc (length p)) c p in
      let h : Agrees d a p = piece (suc (length p)) c a p (bytes_left p (join ps) y) (omega arith) r in
      let k : Agrees (drive call d.1 ps) (last step a p) (join ps) = cutting d.1 (last step a p) ps (bytes_right p (join ps) y) h.1 in
      (rw (events_append step a p (join ps)) (ap₂ (λ (x y : List E). x ++ y) h.0 k.0), rw (last_append step a p (join ps)) k.1)

-- One call follows the other where each step does; `view` is what the caller makes of an event in the configuration after it.
module _ {C A F E : Type 0} (conc : C → ℕ → C × Option F) (view : C → Option F → Option E) (abst : A → ℕ → A × Option E) (R : C → A → Type 0)
    (view-none : (c : C) → view c none ≡ none)
    (view_some : (c : C) (f : F) → (e : E) × (view c (some f) ≡ some e))
    (alike : (c : C) (a : A) (b : ℕ) → b < 256 → R c a → (view (conc c b).0 (conc c b).1 ≡ (abst a b).1) × R (conc c b).0 (abst a b).0) where
  -- the call as the caller has it
  abbrev pub seen : Fed F C → Fed E C
  seen f = record { event = view f.after f.event; used = f.used; after = f.after }

  stop_follows : (c : C) (a : A) (o : Option F) (p : Option E) (f : Fed F C) (g : Fed E A) → view c o ≡ p → R c a → Follows R (seen f) g
      → Follows R (seen (stop c o f)) (stop a p g)
  stop_follows c a none none f g e r k = record { event = k.event; used = ap (λ (n : ℕ). 1 + n) k.used; after = k.after }
  stop_follows c a none (some v) f g e r k = absurd (none-ne-some v (sym (view-none c) ∙ e))
  stop_follows c a (some u) none f g e r k = absurd (some-ne-none (view_some c u).0 (sym (view_some c u).1 ∙ e))
  stop_follows c a (some u) (some v) f g e r k = record { event = e; used = refl; after = r }

  pub feed_follows : (c : C) (a : A) (bs : List ℕ) → Bytes bs → R c a → Follows R (seen (feed conc c bs)) (feed abst a bs)
  feed_follows c a [] y r = record { event = view-none c; used = refl; after = r }
  feed_follows c a (b ∷ bs) y r =
      let h = alike c a b (y 0) r in
      stop_follows (conc c b).0 (abst a b).0 (conc c b).1 (abst a b).1 _ _ h.0 h.1
      (feed_follows (conc c b).0 (abst a b).0 bs (λ i. y (suc i)) h.1)

  -- so also where the relation holds only after the first byte
  pub feed_from : (c : C) (a : A) (b : ℕ) (bs : List ℕ) → Bytes (b ∷ bs) → (view (conc c b).0 (conc c b).1 ≡ (abst a b).1) × R (conc c b).0 (abst a b).0
      → Follows R (seen (feed conc c (b ∷ bs))) (feed abst a (b ∷ bs))
  feed_from c a b bs y h =
      stop_follows (conc c b).0 (abst a b).0 (conc c b).1 (abst a b).1 _ _ h.0 h.1
      (feed_follows (conc c b).0 (abst a b).0 bs (λ i. y (suc i)) h.1)
