-- What the tests of fields say.
use Prim.Native.Nat.{ℕ, ◌≤◌}
use mathlib.Core.Path.{◌≡◌, refl}
use mathlib.Core.Bool.{Bool, true, false, ◌&&◌, ◌||◌}
use mathlib.Core.List.{List, []}
use native.Mathlib.Omega.{arith}
use lib.ListN.{length, get_or}
use lib.Dec.{eqb, leb}
use borrow.Author.Tests.{leb-true, eq-eqb, eqb-true}
use Rattle.runs.proofs.Cases.{and_both}
use Rattle.packing.specs.Seven.{is_sent}
use Rattle.pcs.specs.Frame.{Message, plain_ok, receiver_ok, plain_fields_ok, kind_ok, ok}
use Rattle.pcs.specs.Rules.{info_ok, kind_of, stated, message_with, fields_ok}

or_right : (a b c : Bool) → (b ≡ true → c ≡ true) → a || b ≡ true → a || c ≡ true
or_right true b c f h = refl
or_right false b c f h = f h

-- the kind goes with another count, where that is 0 if the first is
pub kind_same : (k s t : ℕ) → (s ≡ 0 → t ≡ 0) → kind_ok k s ≡ true → kind_ok k t ≡ true
kind_same k s t f h =
    or_right (leb k 1) (leb k 3 && eqb s 0) (leb k 3 && eqb t 0)
    (λ e. let a = and_both (leb k 3) (eqb s 0) e in rw a.0 (eq-eqb t 0 (f (eqb-true s 0 a.1)))) h

pub kind_most : (k n : ℕ) → kind_ok k n ≡ true → k ≤ 3
kind_most k n = go (leb k 1) refl
  where
    go : (a : Bool) → leb k 1 ≡ a → a || (leb k 3 && eqb n 0) ≡ true → k ≤ 3
    go true e h = let l = leb-true k 1 e in omega arith
    go false e h = leb-true k 3 (and_both (leb k 3) (eqb n 0) h).0

pub plain_most : (x : ℕ) → plain_ok x ≡ true → x ≤ 250
plain_most x h = leb-true x 250 (and_both (leb 1 x) (leb x 250) h).1

-- addresses, number and ports that are allowed
pub record Plain (m : Message) : Type 0 where
  pub receiver : receiver_ok m.receiver ≡ true
  pub sender : plain_ok m.sender ≡ true
  pub number : plain_ok m.number ≡ true
  pub sender_port : plain_ok m.sender_port ≡ true
  pub receiver_port : plain_ok m.receiver_port ≡ true

plain : (m : Message) → plain_fields_ok m ≡ true → Plain m
plain m h =
    let a = and_both (receiver_ok m.receiver) _ h in
    let b = and_both (plain_ok m.sender) _ a.1 in
    let d = and_both (plain_ok m.number) _ b.1 in
    let e = and_both (plain_ok m.sender_port) (plain_ok m.receiver_port) d.1 in
    record { receiver = a.0; sender = b.0; number = d.0; sender_port = e.0; receiver_port = e.1 }

-- a message that may be sent
pub record Sendable (m : Message) : Type 0 where
  pub plain : Plain m
  pub kind : kind_ok m.kind (length m.payload) ≡ true
  pub most : length m.payload ≤ 1024

pub sendable : (m : Message) → ok m ≡ true → Sendable m
sendable m h =
    let p = and_both (plain_fields_ok m) _ h in
    let k = and_both (kind_ok m.kind (length m.payload)) (leb (length m.payload) 1024) p.1 in
    record { plain = plain m p.0; kind = k.0; most = leb-true (length m.payload) 1024 k.1 }

-- gathered bytes whose fields are allowed
pub record Allowed (g : List ℕ) : Type 0 where
  pub plain : Plain (message_with g [])
  pub info : info_ok (get_or g 2 0) ≡ true
  pub high : is_sent (get_or g 4 0) ≡ true
  pub low : is_sent (get_or g 5 0) ≡ true
  pub kind : kind_ok (kind_of g) (stated g) ≡ true

pub allowed : (g : List ℕ) → fields_ok g ≡ true → Allowed g
allowed g h =
    let p = and_both (plain_fields_ok (message_with g [])) _ h in
    let i = and_both (info_ok (get_or g 2 0)) _ p.1 in
    let j = and_both (is_sent (get_or g 4 0)) _ i.1 in
    let k = and_both (is_sent (get_or g 5 0)) (kind_ok (kind_of g) (stated g)) j.1 in
    record { plain = plain (message_with g []) p.0; info = i.0; high = j.0; low = k.0; kind = k.1 }
