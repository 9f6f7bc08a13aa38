-- A receiver is any machine: a configuration, and a step that takes one byte and gives the next configuration and perhaps an event.
use Rattle.std.specs.Prelude.{ℕ, zero, suc, ◌+◌, List, [], ◌∷◌, ◌++◌, length, drop}
use Rattle.std.proofs.Math.Option.{Option, none, some}

-- what one call on a piece gives: the event, if any, the number of bytes used, and the configuration after
pub record Fed (E C : Type 0) : Type 0 where
  pub event : Option E
  pub used : ℕ
  pub after : C

-- the same, behind n more bytes without an event
abbrev pub later : {E C : Type 0} → ℕ → Fed E C → Fed E C
later n f = record { event = f.event; used = n + f.used; after = f.after }

-- what a step or a call adds to a list of events
abbrev pub emit : {E : Type 0} → Option E → List E → List E
emit none es = es
emit (some e) es = e ∷ es

-- a call stops at the first event, and otherwise goes on with the rest
abbrev pub stop : {E C : Type 0} → C → Option E → Fed E C → Fed E C
stop c none rest = later 1 rest
stop c (some e) rest = record { event = some e; used = 1; after = c }

module _ {C E : Type 0} (step : C → ℕ → C × Option E) where
  -- one call: byte after byte until one makes an event, that one included
  abbrev pub feed : C → List ℕ → Fed E C
  feed c [] = record { event = none; used = 0; after = c }
  feed c (b ∷ bs) = stop (step c b).0 (step c b).1 (feed (step c b).0 bs)

  -- the uncut stream: all events in order, and the last configuration
  abbrev pub events : C → List ℕ → List E
  events c [] = []
  events c (b ∷ bs) = emit (step c b).1 (events (step c b).0 bs)

  abbrev pub last : C → List ℕ → C
  last c [] = c
  last c (b ∷ bs) = last (step c b).0 bs

-- after a call with an event the rest of the piece is handed on, after one without nothing is left
abbrev pub onward : {E C : Type 0} → Option E → C → List E × C → List E × C
onward none c rest = ([], c)
onward (some e) c rest = (e ∷ rest.0, rest.1)

-- what a caller does with a stream that comes in pieces: all events in order, and the last configuration
module _ {C E : Type 0} (call : C → List ℕ → Fed E C) where
  -- one piece, in at most n calls
  abbrev pub drive_piece : ℕ → C → List ℕ → List E × C
  drive_piece zero c bs = ([], c)
  drive_piece (suc n) c bs =
      onward (call c bs).event (call c bs).after (drive_piece n (call c bs).after (drop (call c bs).used bs))

  -- each event uses a byte, so one call more than the piece has bytes is enough, also for an empty piece or an empty rest
  abbrev pub drive : C → List (List ℕ) → List E × C
  drive c [] = ([], c)
  drive c (p ∷ ps) = (
    (drive_piece (suc (length p)) c p).0 ++ (drive (drive_piece (suc (length p)) c p).1 ps).0,
    (drive (drive_piece (suc (length p)) c p).1 ps).1,
  )

-- the uncut stream of the pieces
abbrev pub join : List (List ℕ) → List ℕ
join [] = []
join (p ∷ ps) = p ++ join ps
