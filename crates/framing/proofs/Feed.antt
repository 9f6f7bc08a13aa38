-- Laws of `feed`, `events` and `last`, over any machine.
use Rattle.std.proofs.Common.{◌≡◌, ℕ, suc, ◌+◌, ◌-◌, ◌≤◌, List, [], ◌∷◌, ◌++◌, length, get_or, take, drop, sym, refl, ap, ◌∙◌, add_assoc, zero-add, one-add, arith, length-append}
use mathlib.Core.List.{cons≢nil}
use mathlib.Core.Option.{Option, none, some, none-ne-some, some-ne-none}
use lib.Seq.{drop-length, append_snoc}
use Rattle.framing.specs.Receiver.{Fed, later, emit, stop, feed, events, last}

emit_append : {E : Type 0} (o : Option E) (xs ys : List E) → emit o xs ++ ys ≡ emit o (xs ++ ys)
emit_append none xs ys = refl
emit_append (some e) xs ys = refl

module _ {E C : Type 0} where
  pub later-zero : (f : Fed E C) → later 0 f ≡ f
  later-zero f = λ i. record { event = f.event; used = zero-add f.used i; after = f.after }

  pub later-later : (m n : ℕ) (f : Fed E C) → later m (later n f) ≡ later (m + n) f
  later-later m n f = λ i. record { event = f.event; used = sym (add_assoc m n f.used) i; after = f.after }

  later-suc : (n : ℕ) (f : Fed E C) → later 1 (later n f) ≡ later (suc n) f
  later-suc n f = later-later 1 n f ∙ ap (λ (k : ℕ). later k f) (one-add n)

  stop_quiet : (c : C) (o : Option E) (n : ℕ) (f g : Fed E C) (es : List E) → emit o es ≡ [] → (es ≡ [] → f ≡ later n g) → stop c o f ≡ later (suc n) g
  stop_quiet c none n f g es h k = ap (later 1) (k h) ∙ later-suc n g
  stop_quiet c (some e) n f g es h k = absurd (cons≢nil h)

module _ {C E : Type 0} (step : C → ℕ → C × Option E) where
  -- a stream that goes on: the events and the last configuration of its two parts
  pub events_append : (c : C) (xs ys : List ℕ) → events step c (xs ++ ys) ≡ events step c xs ++ events step (last step c xs) ys
  events_append c [] ys = refl
  events_append c (x ∷ xs) ys =
      ap (emit (step c x).1) (events_append (step c x).0 xs ys) ∙ sym (emit_append (step c x).1 (events step (step c x).0 xs) _)

  pub last_append : (c : C) (xs ys : List ℕ) → last step c (xs ++ ys) ≡ last step (last step c xs) ys
  last_append c [] ys = refl
  last_append c (x ∷ xs) ys = last_append (step c x).0 xs ys

  -- bytes that make no event, from c to d
  pub record Quiet (c : C) (bs : List ℕ) (d : C) : Type 0 where
    pub silent : events step c bs ≡ []
    pub ends : last step c bs ≡ d

  pub quiet_nil : (c : C) → Quiet c [] c
  quiet_nil c = record { silent = refl; ends = refl }

  pub quiet_cons : {c e d : C} {b : ℕ} {bs : List ℕ} → step c b ≡ (e, none) → Quiet e bs d → Quiet c (b ∷ bs) d
  quiet_cons h q = record { silent = rw h q.silent; ends = rw h q.ends }

  pub quiet_append : {c e d : C} (xs : List ℕ) {ys : List ℕ} → Quiet c xs e → Quiet e ys d → Quiet c (xs ++ ys) d
  quiet_append {c} {e} {d} xs {ys} q r =
      record { silent = events_append c xs ys ∙ rw (q.silent, q.ends) r.silent; ends = last_append c xs ys ∙ rw q.ends r.ends }

  -- a call goes on over them ..
  quiet_feed : (c : C) (xs ys : List ℕ) → events step c xs ≡ [] → feed step c (xs ++ ys) ≡ later (length xs) (feed step (last step c xs) ys)
  quiet_feed c [] ys h = sym (later-zero _)
  quiet_feed c (x ∷ xs) ys h =
      stop_quiet (step c x).0 (step c x).1 (length xs) _ _ (events step (step c x).0 xs) h (quiet_feed (step c x).0 xs ys)

  -- .. and stops at the byte that makes an event
  pub feed_event : {c d e : C} {v : E} (xs : List ℕ) (b : ℕ) (rest : List ℕ) → Quiet c xs d → step d b ≡ (e, some v)
      → feed step c (xs ++ (b ∷ []) ++ rest) ≡ record { event = some v; used = length (xs ++ (b ∷ [])); after = e }
  feed_event {c} {d} {e} {v} xs b rest q h =
      ap (feed step c) (append_snoc xs b rest) ∙ quiet_feed c xs (b ∷ rest) q.silent ∙ rw (q.ends, h, length-append)

  -- a call uses no more than the piece
  pub used_le : (c : C) (bs : List ℕ) → (feed step c bs).used ≤ length bs
  used_le c [] = omega arith
  used_le c (b ∷ bs) = go (step c b).1 (used_le (step c b).0 bs)
    where
      go : (o : Option E) → (feed step (step c b).0 bs).used ≤ length bs → (stop (step c b).0 o (feed step (step c b).0 bs)).used ≤ suc (length bs)
      go none h = omega arith
      go (some e) h = omega arith

  -- without an event all of it, and with one at least a byte
  used_all : (c : C) (bs : List ℕ) → (feed step c bs).event ≡ none → (feed step c bs).used ≡ length bs
  used_all c [] h = refl
  used_all c (b ∷ bs) h = go (step c b).1 (used_all (step c b).0 bs) h
    where
      go : (o : Option E) → ((feed step (step c b).0 bs).event ≡ none → (feed step (step c b).0 bs).used ≡ length bs)
          → (stop (step c b).0 o (feed step (step c b).0 bs)).event ≡ none → (stop (step c b).0 o (feed step (step c b).0 bs)).used ≡ suc (length bs)
      go none k h = let e = k h in omega arith
      go (some e) k h = absurd (some-ne-none e h)

  pub used_some : (c : C) (bs : List ℕ) (e : E) → (feed step c bs).event ≡ some e → 1 ≤ (feed step c bs).used
  used_some c [] e h = absurd (none-ne-some e h)
  used_some c (b ∷ bs) e h = go (step c b).1
    where
      go : (o : Option E) → 1 ≤ (stop (step c b).0 o (feed step (step c b).0 bs)).used
      go none = omega arith
      go (some e) = omega arith

  -- what a call gives is the front of what the uncut stream gives: its event, and the events behind the bytes that it used
  -- after an event what follows is not looked at
  pub feed_stops : (c : C) (xs ys : List ℕ) (v : E) → (feed step c xs).event ≡ some v → feed step c (xs ++ ys) ≡ feed step c xs
  feed_stops c [] ys v h = absurd (none-ne-some v h)
  feed_stops c (b ∷ xs) ys v h = go (step c b).1 (feed_stops (step c b).0 xs ys v) h
    where
      go : (o : Option E) → ((feed step (step c b).0 xs).event ≡ some v → feed step (step c b).0 (xs ++ ys) ≡ feed step (step c b).0 xs)
          → (stop (step c b).0 o (feed step (step c b).0 xs)).event ≡ some v
          → stop (step c b).0 o (feed step (step c b).0 (xs ++ ys)) ≡ stop (step c b).0 o (feed step (step c b).0 xs)
      go none ih h = ap (later 1) (ih h)
      go (some e) ih h = refl

  pub events-feed : (c : C) (bs : List ℕ)
      → events step c bs ≡ emit (feed step c bs).event (events step (feed step c bs).after (drop (feed step c bs).used bs))
  events-feed c [] = refl
  events-feed c (b ∷ bs) = go (step c b).1 (events-feed (step c b).0 bs)
    where
      go : (o : Option E)
          → events step (step c b).0 bs
          ≡ emit (feed step (step c b).0 bs).event (events step (feed step (step c b).0 bs).after (drop (feed step (step c b).0 bs).used bs))
          → emit o (events step (step c b).0 bs)
          ≡ emit (stop (step c b).0 o (feed step (step c b).0 bs)).event
          (events step (stop (step c b).0 o (feed step (step c b).0 bs)).after (drop (stop (step c b).0 o (feed step (step c b).0 bs)).used (b ∷ bs)))
      go none h = rw one-add h
      go (some e) h = refl

  pub last-feed : (c : C) (bs : List ℕ) → last step c bs ≡ last step (feed step c bs).after (drop (feed step c bs).used bs)
  last-feed c [] = refl
  last-feed c (b ∷ bs) = go (step c b).1 (last-feed (step c b).0 bs)
    where
      go : (o : Option E)
          → last step (step c b).0 bs ≡ last step (feed step (step c b).0 bs).after (drop (feed step (step c b).0 bs).used bs)
          → last step (step c b).0 bs
          ≡ last step (stop (step c b).0 o (feed step (step c b).0 bs)).after (drop (stop (step c b).0 o (feed step (step c b).0 bs)).used (b ∷ bs))
      go none h = rw one-add h
      go (some e) h = refl

  pub events_none : (c : C) (bs : List ℕ) → (feed step c bs).event ≡ none → events step c bs ≡ []
  events_none c bs h = events-feed c bs ∙ rw (h, used_all c bs h, drop-length)

  pub last_none : (c : C) (bs : List ℕ) → (feed step c bs).event ≡ none → last step c bs ≡ (feed step c bs).after
  last_none c bs h = last-feed c bs ∙ rw (used_all c bs h, drop-length)

  -- the last of the bytes that a call used is the one that makes its event
  abbrev Ends : C → List ℕ → ℕ → C → E → Type 0
  Ends c bs used d v = step (last step c (take (used - 1) bs)) (get_or bs (used - 1) 0) ≡ (d, some v)

  pub last_byte : (c : C) (bs : List ℕ) (v : E) → (feed step c bs).event ≡ some v → Ends c bs (feed step c bs).used (feed step c bs).after v
  last_byte c [] v h = absurd (none-ne-some v h)
  last_byte c (b ∷ bs) v h = go (step c b).1 refl (last_byte (step c b).0 bs v) h
    where
      rest : Fed E C
      rest = feed step (step c b).0 bs

      go : (o : Option E) → (step c b).1 ≡ o → (rest.event ≡ some v → Ends (step c b).0 bs rest.used rest.after v) → (stop (step c b).0 o rest).event ≡ some v
          → Ends c (b ∷ bs) (stop (step c b).0 o rest).used (stop (step c b).0 o rest).after v
      go none e k h =
          let u = used_some (step c b).0 bs v h in
          let one : 1 + rest.used - 1 ≡ suc (rest.used - 1) = omega arith in
          rw one (k h)
      go (some w) e k h = λ i. ((step c b).0, (e ∙ h) i)
