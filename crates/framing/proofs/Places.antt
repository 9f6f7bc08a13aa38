-- What a call leaves in the store, and how much data a message has that it tells, over any link that shows it of each byte.
use Rattle.std.proofs.Common.{◌≡◌, ℕ, suc, ◌+◌, ◌-◌, ◌<◌, ◌≤◌, Bool, true, false, leb, List, [], ◌∷◌, ◌++◌, length, get_or, take, drop, sym, refl, ap, ◌∙◌, subst, append-nil, one-add, arith, length-append, length-drop, take-append-drop, length-take-le, get_or-drop, take_all, drop-drop, get_or-append-add, le-leb, leb-false, leb-true}
use mathlib.Core.Option.{Option, none, some}
use lib.ListN.{get_or-append}
use lib.Seq.{drop-length, take-append_seam, drop-append-add}
use Rattle.runs.specs.Runs.{over}
use Rattle.framing.specs.Receiver.{Fed, stop, feed}
use Rattle.framing.specs.Segment.{Segment, noise, refused_frame, accepted_frame, Event, message, refusal, event_of}
use Rattle.framing.specs.Link.{Link, Lent, step_on, refuses, told, accepted}
use Rattle.framing.specs.Places.{Places, gathered_by, unpacked_by, StoresGathered, DataWithin}
use Rattle.framing.proofs.Tests.{by_two}
use Rattle.framing.proofs.Feed.{used_some}
use Rattle.framing.proofs.Segments.{Accepts}

-- a run laid over memory, and what lies behind it
module _ (run memory : List ℕ) where
  over_below : (i : ℕ) → i < length run → get_or (over run memory) i 0 ≡ get_or run i 0
  over_below i h = get_or-append run (drop (length run) memory) 0 i h

  over_beyond : (i : ℕ) → length run ≤ i → get_or (over run memory) i 0 ≡ get_or memory i 0
  over_beyond i h =
      let e : i ≡ length run + (i - length run) = omega arith in
      ap (λ (k : ℕ). get_or (over run memory) k 0) e ∙ get_or-append-add run (drop (length run) memory) (i - length run) 0
      ∙ get_or-drop (length run) memory (i - length run) 0 ∙ ap (λ (k : ℕ). get_or memory k 0) (sym e)

  over_long : length run ≤ length memory → length (over run memory) ≡ length memory
  over_long h = simp (length-append, length-drop) (omega arith)

-- a run that is no shorter hides the one below it
pub over-over : (long short memory : List ℕ) → length short ≤ length long → over long (over short memory) ≡ over long memory
over-over long short memory h =
    let e : length long ≡ length short + (length long - length short) = omega arith in
    ap (λ (x : List ℕ). long ++ x)
    (ap (λ (k : ℕ). drop k (over short memory)) e ∙ drop-append-add short (drop (length short) memory) (length long - length short)
    ∙ drop-drop (length long - length short) (length short) memory ∙ ap (λ (k : ℕ). drop k memory) (sym e))

-- the first bytes of memory, laid over it, change nothing
pub over_first : (n : ℕ) (memory : List ℕ) → over (take n memory) memory ≡ memory
over_first n memory = go (leb n (length memory)) refl
  where
    go : (t : Bool) → leb n (length memory) ≡ t → over (take n memory) memory ≡ memory
    go true e = rw (length-take-le n memory (leb-true n (length memory) e)) (take-append-drop n memory)
    go false e = let l = leb-false n (length memory) e in rw (take_all n memory (omega arith), drop-length memory) (append-nil memory)

pub places_over : (d g before after : List ℕ) → length d ≤ length before → length g ≤ length before → after ≡ over d (over g before) → Places d g before after
places_over d g before after h k e =
    rw e
    (record {
      same_length = over_long d (over g before) (omega (arith, over_long g before k)) ∙ over_long g before k;
      unpacked = over_below d (over g before);
      gathered = λ i l m. over_beyond d (over g before) i l ∙ over_below g before i m;
      untouched = λ i l m. over_beyond d (over g before) i l ∙ over_beyond g before i m;
    })

module _ (L : Link) (with_last : List ℕ → ℕ → List ℕ) (unpacks : L.Message → List ℕ) where
  abbrev Outcome : Type 0
  Outcome = Option (Event L.Message)

  -- a byte b, where g was gathered: it leads to phase q with this event or none, and f is then laid over the store. Without an event f is what is
  -- gathered, no less than before; with one, laid over g it is as the claim has it
  abbrev pub LaidBy : List ℕ → ℕ → List ℕ → L.Phase → Outcome → Type 0
  LaidBy g b f q none = (f ≡ L.gathered q) × (length g ≤ length (L.gathered q))
  LaidBy g b f q (some e) =
      ((store : List ℕ) → over f (over g store) ≡ over (unpacked_by L with_last unpacks (some e)) (over (with_last g b) store))
      × (length (with_last g b) ≤ L.size) × (length (unpacked_by L with_last unpacks (some e)) ≤ L.size)

  pub record Laid (g : List ℕ) (b : ℕ) (f : List ℕ) (r : L.Phase × Option (Segment L.Message)) : Type 0 where
    pub laid : LaidBy g b f r.0 (event_of r.1)

  -- what a link has to show: Fit holds of the phase of each known state with a long store, and stays; such a phase has its bytes at the front of the
  -- store, and the state after a byte stands for the phase that the rules give
  pub record Storing : Type 1 where
    pub Fit : L.Phase → Type 0
    pub fit_known : (s : L.State) (store : List ℕ) → L.known s ≡ true → L.size ≤ length store → Fit (L.phase_of s store)
    pub fit_next : (p : L.Phase) (b : ℕ) → Fit p → Fit (L.on_byte p b).0
    pub fits : (p : L.Phase) → Fit p → length (L.gathered p) ≤ L.size
    pub front-first : (s : L.State) (store : List ℕ) → over (L.gathered (L.phase_of s store)) store ≡ store
    pub phase_after : (s : L.State) (q : L.Phase) (o : Option (Segment L.Message)) (store : List ℕ) → Fit q
        → take (length (L.gathered q)) store ≡ L.gathered q → L.phase_of (L.state_after s q o) store ≡ q
    pub lays : (p : L.Phase) (b : ℕ) → Fit p → Laid (L.gathered p) b (L.front p b) (L.on_byte p b)

  -- a state and a store after a byte in a phase
  abbrev after : Lent L → ℕ → L.Phase → Lent L
  after c b p = (L.state_after c.0 (L.on_byte p b).0 (L.on_byte p b).1, over (L.front p b) c.1)

  -- where it makes no event they stand for the next phase
  goes_on : (laws : Storing) (c : Lent L) (p : L.Phase) (b : ℕ) → laws.Fit p → L.front p b ≡ L.gathered (L.on_byte p b).0
      → L.phase_of (after c b p).0 (after c b p).1 ≡ (L.on_byte p b).0
  goes_on laws c p b h e =
      laws.phase_after c.0 (L.on_byte p b).0 (L.on_byte p b).1 (after c b p).1 (laws.fit_next p b h) (rw e (take-append_seam (L.gathered (L.on_byte p b).0) _))

  module _ (laws : Storing) (store : List ℕ) (room : L.size ≤ length store) where
    abbrev given : L.Phase → List ℕ → Fed (Event L.Message) (Lent L) → List ℕ
    given p piece f = gathered_by L with_last unpacks p piece f.used f.event

    -- what a call from phase p on leaves in a store that was this one when nothing of the piece was read
    record Left (p : L.Phase) (piece : List ℕ) (f : Fed (Event L.Message) (Lent L)) : Type 0 where
      lies : f.after.1 ≡ over (unpacked_by L with_last unpacks f.event) (over (given p piece f) store)
      short : length (given p piece f) ≤ L.size
      shorter : length (unpacked_by L with_last unpacks f.event) ≤ L.size

    left : (c : Lent L) (p : L.Phase) (piece : List ℕ) → L.phase_of c.0 c.1 ≡ p → laws.Fit p → c.1 ≡ over (L.gathered p) store
        → Left p piece (feed (step_on L) c piece)
    left c p [] e h s = record { lies = s; short = laws.fits p h; shorter = omega arith }
    left c p (b ∷ bs) e h s =
        subst (λ (x : L.Phase). Left p (b ∷ bs) (stop (after c b x) (event_of (L.on_byte x b).1) (feed (step_on L) (after c b x) bs))) (sym e)
        (go (event_of (L.on_byte p b).1) refl (laws.lays p b h).laid (left next q bs))
      where
        q : L.Phase
        q = (L.on_byte p b).0

        next : Lent L
        next = after c b p

        rest : Fed (Event L.Message) (Lent L)
        rest = feed (step_on L) next bs

        -- the bytes before the last one used, one byte on
        shifted : (o : Outcome) → ((v : Event L.Message) → o ≡ some v → 1 ≤ rest.used)
            → gathered_by L with_last unpacks q bs rest.used o ≡ gathered_by L with_last unpacks p (b ∷ bs) (1 + rest.used) o
        shifted none u = rw (one-add rest.used)
        shifted (some v) u =
            let k : 1 + rest.used - 1 ≡ suc (rest.used - 1) = omega (arith, u v refl) in
            rw k

        go : (o : Outcome) → event_of (L.on_byte p b).1 ≡ o → LaidBy (L.gathered p) b (L.front p b) q o
            → (L.phase_of next.0 next.1 ≡ q → laws.Fit q → next.1 ≡ over (L.gathered q) store → Left q bs rest)
            → Left p (b ∷ bs) (stop next o rest)
        go none z l ih =
            let stored : next.1 ≡ over (L.gathered q) store =
            ap (λ (x : List ℕ). over x c.1) l.0 ∙ ap (over (L.gathered q)) s ∙ over-over (L.gathered q) (L.gathered p) store l.1 in
            let k = ih (goes_on laws c p b h l.0) (laws.fit_next p b h) stored in
            let same = shifted rest.event (λ v w. used_some (step_on L) next bs v w) in
            record {
              lies = k.lies ∙ ap (λ (x : List ℕ). over (unpacked_by L with_last unpacks rest.event) (over x store)) same;
              short = subst (λ (x : List ℕ). length x ≤ L.size) same k.short;
              shorter = k.shorter;
            }
        go (some v) z l ih =
            record { lies = ap (over (L.front p b)) s ∙ l.0 store; short = l.1; shorter = l.2 }

  pub stores_gathered : Storing → StoresGathered L with_last unpacks
  stores_gathered laws c piece k room =
      rw (k, le-leb L.size (length c.1) room)
      (let p = L.phase_of c.0 c.1 in
      let f = feed (step_on L) c piece in
      let x = left laws c.1 room c p piece refl (laws.fit_known c.0 c.1 k room) (sym (laws.front-first c.0 c.1)) in
      places_over (unpacked_by L with_last unpacks f.event) (gathered_by L with_last unpacks p piece f.used f.event) c.1 f.after.1
      (omega (arith, x.shorter)) (omega (arith, x.short)) x.lies)

  -- what holds of each message that a byte may accept in a fit phase
  module _ (laws : Storing) (Q : L.Message → Type 0) (each : (p : L.Phase) (b : ℕ) → laws.Fit p → Accepts Q (L.on_byte p b).1) where
    abbrev HandsOut : Outcome → Type 0
    HandsOut none = Unit
    HandsOut (some (message m)) = Q m
    HandsOut (some (refusal n)) = Unit

    -- holds of each that a call hands out
    hands_out_lem : (c : Lent L) (p : L.Phase) (piece : List ℕ) → L.phase_of c.0 c.1 ≡ p → laws.Fit p → HandsOut (feed (step_on L) c piece).event
    hands_out_lem c p [] e h = tt
    hands_out_lem c p (b ∷ bs) e h =
        subst (λ (x : L.Phase). HandsOut (stop (after c b x) (event_of (L.on_byte x b).1) (feed (step_on L) (after c b x) bs)).event) (sym e)
        (go (L.on_byte p b).1 (laws.lays p b h).laid (each p b h) (hands_out_lem next (L.on_byte p b).0 bs))
      where
        next : Lent L
        next = after c b p

        rest : Fed (Event L.Message) (Lent L)
        rest = feed (step_on L) next bs

        go : (o : Option (Segment L.Message)) → LaidBy (L.gathered p) b (L.front p b) (L.on_byte p b).0 (event_of o) → Accepts Q o
            → (L.phase_of next.0 next.1 ≡ (L.on_byte p b).0 → laws.Fit (L.on_byte p b).0 → HandsOut rest.event) → HandsOut (stop next (event_of o) rest).event
        go none l a ih = ih (goes_on laws c p b h l.0) (laws.fit_next p b h)
        go (some (noise w)) l a ih = ih (goes_on laws c p b h l.0) (laws.fit_next p b h)
        go (some (refused_frame n w)) l a ih = tt
        go (some (accepted_frame m)) l a ih = a

  pub data_within : (laws : Storing) (count : L.Numbers → ℕ) (most : ℕ)
      → ((p : L.Phase) (b : ℕ) → laws.Fit p → Accepts (λ m. count (L.numbers_of m) ≤ most) (L.on_byte p b).1) → DataWithin L count most
  data_within laws count most each c piece v =
      by_two (λ (f : Fed (Event L.Message) (Lent L)). told L f.event ≡ accepted v → count v ≤ most)
      (L.known c.0) (leb L.size (length c.1)) 12 1 (feed (step_on L) c piece) (λ n. refuses L n c) refl refl
      (λ _. from_told (some (refusal 12)) tt) (λ _ _. from_told (some (refusal 1)) tt)
      (λ k r. from_told (feed (step_on L) c piece).event
      (hands_out_lem laws Q each c (L.phase_of c.0 c.1) piece refl (laws.fit_known c.0 c.1 k (leb-true L.size (length c.1) r))))
    where
      Q : L.Message → Type 0
      Q m = count (L.numbers_of m) ≤ most

      from_told : (o : Outcome) → HandsOut laws Q each o → told L o ≡ accepted v → count v ≤ most
      from_told none h e = absurd (let z : ◌≡◌ {A = ℕ} 0 1 = cc in omega arith)
      from_told (some (message m)) h e = let z : L.numbers_of m ≡ v = cc in rw (sym z) h
      from_told (some (refusal n)) h e = absurd (let z : ◌≡◌ {A = ℕ} 0 1 = cc in omega arith)
