-- What a writer's calls leave on the wire tells which messages were sent: one claim over two lists of calls, for any link whose frames say
-- themselves where they end.
use Rattle.std.proofs.Common.{◌≡◌, ℕ, ◌<◌, Bool, true, ◌↔◌, List, [], ◌∷◌, ◌++◌, length, sym, refl, ap, ◌∙◌, append_assoc, arith, length-append}
use mathlib.Core.List.{append_cancel_left}
use Rattle.runs.specs.Runs.{Begins}
use Rattle.runs.proofs.Run.{part_sets}
use Rattle.runs.proofs.Begins.{begins_iff}
use Rattle.framing.specs.Writer.{Call, writes, frames, keeps, leaves, kept, wire}
use Rattle.framing.specs.Claims.{AllOf}
use Rattle.framing.proofs.Stored.{by_writer}

frames_append : {M : Type 0} (frame : M → List ℕ) (ms ns : List M) → frames frame (ms ++ ns) ≡ frames frame ms ++ frames frame ns
frames_append frame [] ns = refl
frames_append frame (m ∷ ms) ns = rw (frames_append frame ms ns) (sym (append_assoc (frame m) (frames frame ms) (frames frame ns)))

-- the wire has the frames of the kept messages, and those may all be sent
module _ {M : Type 0} (ok : M → Bool) (frame : M → List ℕ) where
  -- what a call adds, refused or not
  wire-more : (m : M) (memory bs : List ℕ) (ms : List M) → bs ≡ frames frame ms
      → leaves (writes ok frame m memory).1 (writes ok frame m memory).0 bs ≡ frames frame (keeps m (writes ok frame m memory).0 ms)
  wire-more m memory bs ms h =
      by_writer ok frame m memory (λ w. leaves w.1 w.0 bs ≡ frames frame (keeps m w.0 ms)) (λ _. h) (λ _ _. h)
      (λ _ l. rw (part_sets memory 0 (frame m) (omega arith), h))

  kept_more : (P : M → Type 0) (m : M) (memory : List ℕ) (ms : List M) → P m → AllOf (λ m. (ok m ≡ true) × P m) ms
      → AllOf (λ m. (ok m ≡ true) × P m) (keeps m (writes ok frame m memory).0 ms)
  kept_more P m memory ms t h =
      by_writer ok frame m memory (λ w. AllOf (λ m. (ok m ≡ true) × P m) (keeps m w.0 ms)) (λ _. h) (λ _ _. h) (λ e _. ((e, t), h))

  pub wire-kept : (cs : List (Call M)) → wire (writes ok frame) cs ≡ frames frame (kept (writes ok frame) cs)
  wire-kept [] = refl
  wire-kept (c ∷ cs) = wire-more c.message c.memory (wire (writes ok frame) cs) (kept (writes ok frame) cs) (wire-kept cs)

  pub kept-all : (P : M → Type 0) (cs : List (Call M)) → AllOf (λ c. P c.message) cs → AllOf (λ m. (ok m ≡ true) × P m) (kept (writes ok frame) cs)
  kept-all P [] t = tt
  kept-all P (c ∷ cs) t = kept_more P c.message c.memory (kept (writes ok frame) cs) t.0 (kept-all P cs t.1)

module _ {M : Type 0} (frame : M → List ℕ) (Sent : M → Type 0)
    (delimited : (a b : M) (s t : List ℕ) → Sent a → Sent b → frame a ++ s ≡ frame b ++ t → a ≡ b) (filled : (a : M) → 0 < length (frame a)) where
  no_frames : (m : M) (s : List ℕ) → [] ≡ frame m ++ s → ⊥
  no_frames m s h = omega (arith, filled m, simp length-append at (ap length h))

  -- frames that begin others are those of messages that begin the others
  frames_rest : (ms ns : List M) (rest : List ℕ) → AllOf Sent ms → AllOf Sent ns → frames frame ns ≡ frames frame ms ++ rest → (r : List M) × (ns ≡ ms ++ r)
  frames_rest [] ns rest a b h = (ns, refl)
  frames_rest (m ∷ ms) [] rest a b h = absurd (no_frames m (frames frame ms ++ rest) (h ∙ append_assoc (frame m) (frames frame ms) rest))
  frames_rest (m ∷ ms) (n ∷ ns) rest a b h = go (frames_rest ms ns rest a.1 b.1)
    where
      h' : frame n ++ frames frame ns ≡ frame m ++ (frames frame ms ++ rest)
      h' = h ∙ append_assoc (frame m) (frames frame ms) rest

      same : n ≡ m
      same = delimited n m (frames frame ns) (frames frame ms ++ rest) b.0 a.0 h'

      go : (frames frame ns ≡ frames frame ms ++ rest → (r : List M) × (ns ≡ ms ++ r)) → (r : List M) × (n ∷ ns ≡ m ∷ ms ++ r)
      go ih =
          let r = ih (append_cancel_left (frame m) (frames frame ns) (frames frame ms ++ rest) (rw same at h')) in
          let e = r.1 in
          let d = same in
          (r.0, cc)

  frames-same : (ms ns : List M) → AllOf Sent ms → AllOf Sent ns → frames frame ms ≡ frames frame ns → ms ≡ ns
  frames-same [] [] a b h = refl
  frames-same [] (n ∷ ns) a b h = absurd (no_frames n (frames frame ns) h)
  frames-same (m ∷ ms) [] a b h = absurd (no_frames m (frames frame ms) (sym h))
  frames-same (m ∷ ms) (n ∷ ns) a b h = go (frames-same ms ns a.1 b.1)
    where
      same : m ≡ n
      same = delimited m n (frames frame ms) (frames frame ns) a.0 b.0 h

      go : (frames frame ms ≡ frames frame ns → ms ≡ ns) → m ∷ ms ≡ n ∷ ns
      go ih =
          let e = ih (append_cancel_left (frame n) (frames frame ms) (frames frame ns) (rw same at h)) in
          let d = same in
          cc

  frames_iff : (ms ns : List M) → AllOf Sent ms → AllOf Sent ns
      → ((frames frame ms ≡ frames frame ns) ↔ (ms ≡ ns)) × (Begins (frames frame ms) (frames frame ns) ↔ Begins ms ns)
  frames_iff ms ns a b = (
    (frames-same ms ns a b, λ e. ap (frames frame) e),
    (
      λ h. let r = (begins_iff (frames frame ms) (frames frame ns)).0 h in (begins_iff ms ns).1 (frames_rest ms ns r.0 a b r.1),
      λ h. let r = (begins_iff ms ns).0 h in
          (begins_iff (frames frame ms) (frames frame ns)).1 (frames frame r.0, ap (frames frame) r.1 ∙ frames_append frame ms r.0),
    ),
  )

-- two lists of calls, for any link whose frames are self-delimiting
pub lists_told : {M : Type 0} (ok : M → Bool) (frame : M → List ℕ) (P : M → Type 0)
    → ((a b : M) (s t : List ℕ) → (ok a ≡ true) × P a → (ok b ≡ true) × P b → frame a ++ s ≡ frame b ++ t → a ≡ b) → ((a : M) → 0 < length (frame a))
    → (xs ys : List (Call M)) → AllOf (λ c. P c.message) xs → AllOf (λ c. P c.message) ys
    → ((wire (writes ok frame) xs ≡ wire (writes ok frame) ys) ↔ (kept (writes ok frame) xs ≡ kept (writes ok frame) ys))
    × (Begins (wire (writes ok frame) xs) (wire (writes ok frame) ys) ↔ Begins (kept (writes ok frame) xs) (kept (writes ok frame) ys))
lists_told ok frame P delimited filled xs ys s t =
    rw (wire-kept ok frame xs, wire-kept ok frame ys)
    (frames_iff frame (λ m. (ok m ≡ true) × P m) delimited filled (kept (writes ok frame) xs) (kept (writes ok frame) ys) (kept-all ok frame P xs s) (kept-all ok frame P ys t))
