-- What the number of a message packs on each link.
use Prim.Native.Nat.{ℕ, zero, suc}
use mathlib.Core.Path.{◌≡◌, refl}
use mathlib.Core.Bool.{true, false, cond}
use mathlib.Core.List.{List, [], ◌∷◌}
use native.Mathlib.Omega.{arith}
use lib.Dec.{eqb, leb, lit<}
use lib.ListN.{length}
use borrow.Author.Tests.{leb-true, ne_eqb}
use Rattle.runs.specs.Runs.{Bytes}
use Rattle.runs.proofs.Bytes.{bytes_one, bytes_two, bytes_append}
use Rattle.runs.proofs.Cases.{and_both, by_eqb}
use Rattle.pcs.specs.declared.Message as PcsNumbers
use Rattle.pcs.specs.Frame as PcsFrame
use Rattle.pcs.specs.Contract as Pcs
use Rattle.pcs.proofs.Allowed.{sendable, kind_most}
use Rattle.mdu.specs.declared.Message as MduNumbers
use Rattle.mdu.specs.Frame as MduFrame
use Rattle.mdu.specs.Contract as Mdu
use Rattle.mdu.proofs.Known.{length_most}
use Rattle.dle.specs.declared.Message as DleNumbers
use Rattle.dle.specs.Frame as DleFrame
use Rattle.dle.specs.Contract as Dle
use Rattle.dle.proofs.Body.{ok-length}
use Rattle.expansion.specs.declared.Message as ExpansionNumbers
use Rattle.expansion.specs.Frame as ExpansionFrame
use Rattle.expansion.specs.Contract as Expansion
use Rattle.host.specs.Read.{refusal_of, pcs_code, mdu_code, dle_code, expansion_code}
use Rattle.host.proofs.Packed.{packed_refusal}
use Rattle.host.proofs.Parts.{Packs}

-- ---- PCS

abbrev pcs_fields : PcsNumbers.Message → List ℕ
pcs_fields v = v.receiver ∷ v.sender ∷ v.number ∷ v.sender_port ∷ v.receiver_port ∷ []

pcs_bytes : (m : PcsFrame.Message) → PcsFrame.Typed m → Bytes (pcs_fields (Pcs.numbers_of m))
pcs_bytes m t zero = t.receiver
pcs_bytes m t (suc zero) = t.sender
pcs_bytes m t (suc (suc zero)) = t.number
pcs_bytes m t (suc (suc (suc i))) = bytes_two m.sender_port m.receiver_port t.sender_port t.receiver_port i

pub pcs_packs : (m : PcsFrame.Message) → PcsFrame.ok m ≡ true → PcsFrame.Typed m
    → Packs pcs_code (λ v. v.length) (λ v. v.kind) (λ v. v.crc) pcs_fields (Pcs.numbers_of m)
pcs_packs m h t =
    let s = sendable m h in
    record {
      number = refl;
      size_fits = omega (arith, s.most);
      kind_fits = omega (arith, kind_most m.kind (length m.payload) s.kind);
      fields_fit = pcs_bytes m t;
    }

pub pcs_zero : (v : PcsNumbers.Message) → refusal_of (pcs_code v) ≡ 0
pcs_zero v = packed_refusal v.length v.kind v.crc _

-- ---- MDU

pub mdu_packs : (m : MduFrame.Message) → MduFrame.ok m ≡ true → MduFrame.Typed m
    → Packs mdu_code (λ v. v.length) (λ v. 0) (λ v. false) (λ v. v.address ∷ []) (Mdu.numbers_of m)
mdu_packs m h t =
    let k = length_most (length m.body) (and_both (leb 1 m.address) (MduFrame.length_ok (length m.body)) h).1 in
    record { number = refl; size_fits = omega arith; kind_fits = lit< tt; fields_fit = bytes_one m.address t.0 }

pub mdu_zero : (v : MduNumbers.Message) → refusal_of (mdu_code v) ≡ 0
mdu_zero v = packed_refusal v.length 0 false _

-- ---- DLE

abbrev dle_fields : DleNumbers.Message → List ℕ
dle_fields v = v.sequence ∷ v.node ∷ v.error ∷ []

-- 1 for an error message, which has length 0
abbrev dle_kind : DleNumbers.Message → ℕ
dle_kind v = cond (eqb v.length 0) 1 0

pub dle_packs : (m : DleFrame.Message) → DleFrame.ok m ≡ true → DleFrame.Typed m
    → Packs dle_code (λ v. v.length) dle_kind (λ v. false) dle_fields (Dle.numbers_of m)
dle_packs (DleFrame.content s n d) h t =
    let l = ok-length (length d) h in
    let z = ne_eqb (length d) 0 (λ e. omega (arith, l.0)) in
    record {
      number = rw z;
      size_fits = omega (arith, l.1);
      kind_fits = rw z (lit< tt);
      fields_fit = bytes_append (s ∷ n ∷ []) (0 ∷ []) (bytes_two s n t.0 t.1) (bytes_one 0 (lit< tt));
    }
dle_packs (DleFrame.error s n e) h t =
    record {
      number = refl;
      size_fits = lit< tt;
      kind_fits = lit< tt;
      fields_fit = bytes_append (s ∷ n ∷ []) (e ∷ []) (bytes_two s n t.0 t.1) (bytes_one e t.2);
    }

pub dle-zero : (v : DleNumbers.Message) → refusal_of (dle_code v) ≡ 0
dle-zero v =
    by_eqb (λ r. refusal_of r ≡ 0) v.length 0 (λ _. packed_refusal 0 1 false _) (λ _. packed_refusal v.length 0 false _)

-- ---- expansion

abbrev expansion_fields : ExpansionNumbers.Message → List ℕ
expansion_fields v = v.id ∷ v.kind ∷ v.repeat ∷ v.address ∷ []

expansion_bytes : (m : ExpansionFrame.Message) → ExpansionFrame.Typed m → Bytes (expansion_fields (Expansion.numbers_of m))
expansion_bytes m t zero = t.id
expansion_bytes m t (suc zero) = t.kind
expansion_bytes m t (suc (suc i)) = bytes_two m.repeat m.address t.repeat t.address i

pub expansion_packs : (m : ExpansionFrame.Message) → ExpansionFrame.ok m ≡ true → ExpansionFrame.Typed m
    → Packs expansion_code (λ v. v.length) (λ v. 0) (λ v. false) expansion_fields (Expansion.numbers_of m)
expansion_packs m h t =
    let a = and_both (ExpansionFrame.kind_ok m.kind (length m.payload)) _ h in
    let b = leb-true (length m.payload) 1024 (and_both (leb m.repeat 3) (leb (length m.payload) 1024) a.1).1 in
    record {
      number = refl;
      size_fits = omega arith;
      kind_fits = lit< tt;
      fields_fit = expansion_bytes m t;
    }

pub expansion-zero : (v : ExpansionNumbers.Message) → refusal_of (expansion_code v) ≡ 0
expansion-zero v = packed_refusal v.length 0 false _
