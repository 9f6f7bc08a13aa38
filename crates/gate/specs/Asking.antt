-- The asking end of the gate exchange: what each step does, for every state and every number.
use Rattle.std.specs.Prelude.{ℕ, ◌+◌, ◌-◌, ◌%◌, ◌^◌, Bool, cond, ◌&&◌, ◌==◌, nat_le, nat_lt}

-- mode 0 idle, 1 waiting; the id of the latest request, how often that was sent again, and when it was sent last
pub record Exchange : Type 0 where
  pub mode : ℕ
  pub id : ℕ
  pub repeat : ℕ
  pub sent : ℕ

-- what happens at a time: a start, a tick, the arrival of a reply with this id, of this type
pub data Step : Type 0 where
  start : (now : ℕ) → Step
  tick : (now : ℕ) → Step
  arrival : (id kind now : ℕ) → Step

-- what the end is told: to send its request with this id and repeat; that the request is done, or given up; nothing; the number of a refusal
pub data Asked : Type 0 where
  send : (id repeat : ℕ) → Asked
  done : Asked
  gave_up : Asked
  nothing : Asked
  refused : ℕ → Asked

-- the id is the latest request's, so the first request after this has id 0
abbrev pub fresh_exchange : Exchange
fresh_exchange = record { mode = 0; id = 255; repeat = 0; sent = 0 }

-- a state that does not give 12: a known mode, and a repeat of at most 3
abbrev pub known : Exchange → Bool
known e = nat_le e.mode 1 && nat_le e.repeat 3

-- now less sent, going round in 32 bits
abbrev pub since : ℕ → ℕ → ℕ
since now sent = (now + (2 ^ 32 - sent)) % 2 ^ 32

-- a wait lasts 100 milliseconds; set the clock back, and the difference goes round and ends it
abbrev pub wait_over : ℕ → ℕ → Bool
wait_over now sent = nat_le 100 (since now sent)

-- the request is sent at this time, and the end waits
abbrev pub sends : (id repeat now : ℕ) → Asked × Exchange
sends id repeat now = (send id repeat, record { mode = 1; id = id; repeat = repeat; sent = now })

-- idle again; repeat and sent time are free then, and stay
abbrev pub ended : Exchange → Exchange
ended e = record { mode = 0; id = e.id; repeat = e.repeat; sent = e.sent }

-- sent again with repeat plus 1, or given up if the repeat was already 3
abbrev pub again : Exchange → ℕ → Asked × Exchange
again e now = cond (nat_lt e.repeat 3) (sends e.id (e.repeat + 1) now) (gave_up, ended e)

-- a reply with the waiting id: type 1, an acknowledgement, ends the exchange; type 2, a check error, has it sent again
abbrev pub replied : Exchange → (kind now : ℕ) → Asked × Exchange
replied e kind now = cond (kind == 1) (done, ended e) (cond (kind == 2) (again e now) (nothing, e))

-- a step in a known state: a start while idle takes the next id, 0 behind 255, and while waiting gives 14; a wait that is over sends again; a
-- reply counts while its id is waited for; everything else changes nothing
abbrev pub acts : Exchange → Step → Asked × Exchange
acts e (start now) = cond (e.mode == 0) (sends ((e.id + 1) % 256) 0 now) (refused 14, e)
acts e (tick now) = cond (e.mode == 1 && wait_over now e.sent) (again e now) (nothing, e)
acts e (arrival id kind now) = cond (e.mode == 1 && id == e.id) (replied e kind now) (nothing, e)

-- a step in any state: 12 comes before everything else and changes nothing
abbrev pub asks : Exchange → Step → Asked × Exchange
asks e s = cond (known e) (acts e s) (refused 12, e)
