-- What a step may do to the asking end, and what follows for any order of steps.
use Rattle.std.proofs.Common.{◌≡◌, ℕ, zero, suc, ◌+◌, ◌-◌, ◌%◌, ◌<◌, ◌≤◌, cond, ◌&&◌, eqb, List, [], ◌∷◌, length, get_or, ◌∙◌, arith, eq-eqb, eqb-true}
use mathlib.Core.List.{cons≢nil}
use mathlib.Core.Option.{Option, none, some}
use Rattle.runs.proofs.Cases.{by_test, by_eqb, by_ltb, and_both}
use Rattle.framing.specs.Receiver.{emit}
use Rattle.gate.specs.Asking.{Exchange, Step, start, tick, arrival, Asked, known, wait_over, sends, ended, again, asks}
use Rattle.gate.specs.Claims.{request_of, start_of, requests, starts}

-- the next id
abbrev pub next : Exchange → ℕ
next e = (e.id + 1) % 256

-- P speaks of the start that is taken, of the request that is sent and of the state after: the state stays, the exchange ends, a start is
-- taken, or the request is sent again
module _ (e : Exchange) (P : Option ℕ → Option (ℕ × ℕ) → Exchange → Type 0) (stays : P none none e) (ends : P none none (ended e))
    (begins : (now : ℕ) → P (some (next e)) (some (next e, 0)) (sends (next e) 0 now).1)
    (repeats : (now : ℕ) → e.mode ≡ 1 → e.repeat < 3 → P none (some (e.id, e.repeat + 1)) (sends e.id (e.repeat + 1) now).1) where
  -- after a tick or a reply
  abbrev Q : Asked × Exchange → Type 0
  Q r = P none (request_of r.0) r.1

  by_again : (now : ℕ) → e.mode ≡ 1 → Q (again e now)
  by_again now m = by_ltb Q e.repeat 3 (repeats now m) (λ _. ends)

  pub by_step : (s : Step) → P (start_of s (asks e s).0) (request_of (asks e s).0) (asks e s).1
  by_step (start now) =
      by_test (λ (r : Asked × Exchange). P (start_of (start now) r.0) (request_of r.0) r.1) (known e)
      (λ _. by_eqb (λ (r : Asked × Exchange). P (start_of (start now) r.0) (request_of r.0) r.1) e.mode 0 (λ _. begins now) (λ _. stays)) (λ _. stays)
  by_step (tick now) =
      by_test Q (known e)
      (λ _. by_test Q (eqb e.mode 1 && wait_over now e.sent) (λ t. by_again now (eqb-true e.mode 1 (and_both _ _ t).0)) (λ _. stays))
      (λ _. stays)
  by_step (arrival id kind now) =
      by_test Q (known e)
      (λ _. by_test Q (eqb e.mode 1 && eqb id e.id)
      (λ t. by_eqb Q kind 1 (λ _. ends) (λ _. by_eqb Q kind 2 (λ _. by_again now (eqb-true e.mode 1 (and_both _ _ t).0)) (λ _. stays)))
      (λ _. stays))
      (λ _. stays)

-- how often a state may still send its request
abbrev pub left : Exchange → ℕ
left e = cond (eqb e.mode 1) (3 - e.repeat) 0

pub left_le : (e : Exchange) → left e ≤ 3
left_le e = by_eqb (λ (n : ℕ). n ≤ 3) e.mode 1 (λ _. omega arith) (λ _. omega arith)

pub sends-left : (e : Exchange) (ss : List Step) → starts e ss ≡ [] → length (requests e ss) ≤ left e
unfolding requests starts
sends-left e [] h = omega arith
sends-left e (s ∷ ss) h =
    by_step e (λ b m e'. emit b (starts e' ss) ≡ [] → length (emit m (requests e' ss)) ≤ left e) (sends-left e ss)
    (λ h. let l = sends-left (ended e) ss h in omega arith) (λ now h. absurd (cons≢nil h))
    (λ now m r h. let l = sends-left (sends e.id (e.repeat + 1) now).1 ss h in rw (eq-eqb e.mode 1 m) (omega arith)) s h

-- an id, and then those that follow it
ids_more : (id : ℕ) (xs : List ℕ) → ((n : ℕ) → n < length xs → get_or xs n 0 ≡ ((id + 1) % 256 + 1 + n) % 256)
    → (n : ℕ) → n < suc (length xs) → get_or ((id + 1) % 256 ∷ xs) n 0 ≡ (id + 1 + n) % 256
ids_more id xs k zero h = omega arith
ids_more id xs k (suc n) h = k n (omega arith) ∙ omega arith

pub ids : (e : Exchange) (ss : List Step) (n : ℕ) → n < length (starts e ss) → get_or (starts e ss) n 0 ≡ (e.id + 1 + n) % 256
unfolding starts
ids e [] n h = absurd (omega arith)
ids e (s ∷ ss) n h =
    by_step e (λ b m e'. (n : ℕ) → n < length (emit b (starts e' ss)) → get_or (emit b (starts e' ss)) n 0 ≡ (e.id + 1 + n) % 256) (ids e ss) (ids (ended e) ss)
    (λ now. ids_more e.id (starts (sends (next e) 0 now).1 ss) (ids (sends (next e) 0 now).1 ss)) (λ now m r. ids (sends e.id (e.repeat + 1) now).1 ss) s n h
