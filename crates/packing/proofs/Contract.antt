-- What the calls answer and leave, case by case: callers cite these laws and open no definition.
use Rattle.std.proofs.Common.{◌≡◌, ℕ, ◌+◌, ◌<◌, ◌≤◌, true, false, List, length, take, drop, le-leb}
use mathlib.Core.Option.{none, some}
use lib.Seq.{sets}
use borrow.Author.Tests.{lt-leb}
use Rattle.runs.specs.Total.{total_from}
use Rattle.framing.specs.Answer.{done, refused}
use Rattle.packing.specs.Unpacked.{data_in_groups, well_packed, unpacked}
use Rattle.packing.specs.Contract.{summed_at, stored_first, unpacked_in}

module _ (s : ℕ) (run memory : List ℕ) (at : ℕ) where
  pub summed_done : at + length run ≤ length memory → summed_at s run memory at ≡ (total_from s run, sets memory at run)
  unfolding summed_at
  summed_done h = rw (le-leb (at + length run) (length memory) h)

  pub summed_none : length memory < at + length run → summed_at s run memory at ≡ (s, memory)
  unfolding summed_at
  summed_none h = rw (lt-leb (at + length run) (length memory) h)

module _ (store : List ℕ) (from count : ℕ) where
  pub unpacked_done : (d : List ℕ) → unpacked (take count (drop from store)) ≡ some d
      → unpacked_in store from count ≡ (done (length d), sets store 0 d)
  unfolding unpacked_in stored_first
  unpacked_done d e = rw e

  pub unpacked_refused : unpacked (take count (drop from store)) ≡ none → unpacked_in store from count ≡ (refused 13, store)
  unfolding unpacked_in stored_first
  unpacked_refused e = rw e

-- what the test says of unpacking

pub well_unpacks : (p : List ℕ) → well_packed p ≡ true → unpacked p ≡ some (data_in_groups p)
unfolding unpacked
well_unpacks p w = rw w

pub badly_unpacks : (p : List ℕ) → well_packed p ≡ false → unpacked p ≡ none
unfolding unpacked
badly_unpacks p w = rw w
