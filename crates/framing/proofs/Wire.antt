-- What the calls of a lawful link's writer leave on the wire is read back, and tells the messages.
use Rattle.std.proofs.Common.{◌≡◌, ℕ, true, ◌↔◌, List, [], ◌∷◌, ◌++◌, map, length, sym, refl, ap, ◌∙◌, subst, lit<}
use mathlib.Core.Option.{some}
use lib.Seq.{drop-append_seam}
use Rattle.runs.specs.Runs.{Bytes, Begins}
use Rattle.runs.proofs.Bytes.{bytes_append}
use Rattle.framing.specs.Receiver.{Fed, feed, events, last, drive, join}
use Rattle.framing.specs.Segment.{Event, message}
use Rattle.framing.specs.Writer.{Call, frames, kept, wire}
use Rattle.framing.specs.Link.{Link, write_on, called}
use Rattle.framing.specs.Claims.{AllOf, CallsReadBack, CallsTold}
use Rattle.framing.proofs.Feed.{events-feed, last-feed}
use Rattle.framing.proofs.Calls.{wire-kept, kept-all, lists_told}
use Rattle.framing.proofs.Lawful.{Lawful, at, Counts, driven}
use Rattle.framing.proofs.Segments.{Config, step}

module _ (L : Link) (laws : Lawful L) where
  -- a message that may be sent
  abbrev Sent : L.Message → Type 0
  Sent m = (L.ok m ≡ true) × L.Typed m

  frames_bytes : (ms : List L.Message) → AllOf Sent ms → Bytes (frames L.frame ms)
  frames_bytes [] s = λ i. lit< tt
  frames_bytes (m ∷ ms) s = bytes_append (L.frame m) (frames L.frame ms) (laws.frame_bytes m s.0.1 s.0.0) (frames_bytes ms s.1)

  abbrev first : Config L.Phase
  first = at L.hunting 0

  -- by the rules, frames end to end give their messages, and leave plain hunting without noise
  frames-heard : (ms : List L.Message) → AllOf Sent ms
      → (events (step L.on_byte) first (frames L.frame ms) ≡ map message ms) × (last (step L.on_byte) first (frames L.frame ms) ≡ first)
  frames-heard [] s = (refl, refl)
  frames-heard (m ∷ ms) s =
      let rest : List ℕ = frames L.frame ms in
      let e = laws.reads-frame m rest 0 s.0.1 s.0.0 in
      let k = frames-heard ms s.1 in (
        events-feed (step L.on_byte) first (L.frame m ++ rest) ∙ rw (e, drop-append_seam (L.frame m) rest) (ap (λ (es : List (Event L.Message)). message m ∷ es) k.0),
        last-feed (step L.on_byte) first (L.frame m ++ rest) ∙ rw (e, drop-append_seam (L.frame m) rest) k.1,
      )

  pub calls_read_back : CallsReadBack L
  calls_read_back calls pieces store t e room =
      record {
        hears = r.0 ∙ ap (events (step L.on_byte) first) whole ∙ k.0;
        noise = r.1.stands.noise ∙ ap (λ (c : Config L.Phase). c.noise) ends;
        known = r.1.stands.known;
        hunts = r.1.stands.phase ∙ ap (λ (c : Config L.Phase). c.phase) ends;
        «open» = r.1.«open» ∙ ap (λ (c : Config L.Phase). length (L.held c.phase)) ends ∙ ap length laws.reached.held_first;
      }
    where
      ms : List L.Message
      ms = kept (write_on L) calls

      sent : AllOf Sent ms
      sent = kept-all L.ok L.frame L.Typed calls t

      whole : join pieces ≡ frames L.frame ms
      whole = e ∙ wire-kept L.ok L.frame calls

      r : ((drive (called L) (L.fresh, store) pieces).0 ≡ events (step L.on_byte) first (join pieces))
          × Counts L laws (drive (called L) (L.fresh, store) pieces).1 (last (step L.on_byte) first (join pieces))
      r = driven L laws pieces store (subst Bytes (sym whole) (frames_bytes ms sent)) room

      k : (events (step L.on_byte) first (frames L.frame ms) ≡ map message ms) × (last (step L.on_byte) first (frames L.frame ms) ≡ first)
      k = frames-heard ms sent

      ends : last (step L.on_byte) first (join pieces) ≡ first
      ends = ap (last (step L.on_byte) first) whole ∙ k.1

  -- frames that are read back say themselves where they end
  delimited : (a b : L.Message) (s t : List ℕ) → Sent a → Sent b → L.frame a ++ s ≡ L.frame b ++ t → a ≡ b
  delimited a b s t oa ob h =
      let e : some (message a) ≡ some (message b) = sym (event a s oa) ∙ ap (λ (w : List ℕ). (feed (step L.on_byte) first w).event) h ∙ event b t ob in
      cc
    where
      event : (m : L.Message) (rest : List ℕ) → Sent m → (feed (step L.on_byte) first (L.frame m ++ rest)).event ≡ some (message m)
      event m rest o = ap (λ (f : Fed (Event L.Message) (Config L.Phase)). f.event) (laws.reads-frame m rest 0 o.1 o.0)

  pub calls_told : CallsTold L
  calls_told =
      record {
        framed = wire-kept L.ok L.frame;
        equal = λ xs ys s t. (told xs ys s t).0;
        begins = λ xs ys s t. (told xs ys s t).1;
      }
    where
      told : (xs ys : List (Call L.Message)) → AllOf (λ c. L.Typed c.message) xs → AllOf (λ c. L.Typed c.message) ys
          → ((wire (write_on L) xs ≡ wire (write_on L) ys) ↔ (kept (write_on L) xs ≡ kept (write_on L) ys))
          × (Begins (wire (write_on L) xs) (wire (write_on L) ys) ↔ Begins (kept (write_on L) xs) (kept (write_on L) ys))
      told = lists_told L.ok L.frame L.Typed delimited laws.frame_filled
