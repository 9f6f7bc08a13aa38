-- A reply may be sent, and is short.
use Rattle.std.proofs.Common.{◌≡◌, ℕ, ◌≤◌, Bool, true, List, ◌++◌, length, sym, ◌∙◌, subst, arith, length-append}
use mathlib.Core.Bool.{false≢true}
use mathlib.Core.Option.{some}
use Rattle.runs.proofs.Number.{length-bytes_of}
use Rattle.framing.specs.Answer.{refused}
use Rattle.framing.specs.Link.{write_on}
use Rattle.framing.proofs.Stored.{by_writer}
use Rattle.escape.specs.Expansion as Escape
use Rattle.escape.proofs.Lawful.{hide_short}
use Rattle.escape.specs.Laws.{expansion_lawful}
use Rattle.expansion.specs.Frame.{kind_ok, ok, body, trailer, frame}
use Rattle.expansion.specs.Frame as Frame
use Rattle.expansion.specs.Contract.{link}
use Rattle.gate.specs.Responder.{reply}
use Rattle.gate.specs.Claims.{Sendable}

-- a message that may be sent is answered with its length or with 2
never_3 : (m : Frame.Message) → ok m ≡ true → (memory : List ℕ) → (write_on link m memory).0 ≡ refused 3 → ⊥
never_3 m h memory =
    by_writer ok frame m memory (λ w. w.0 ≡ refused 3 → ⊥) (λ n _. false≢true (sym n ∙ h)) (λ _ _ e. let z : ◌≡◌ {A = ℕ} 2 3 = cc in omega arith)
    (λ _ _ e. let z : ◌≡◌ {A = ℕ} 0 1 = cc in omega arith)

-- two marks, and at most two bytes for each of the header and the CRC
reply_short : (head : Bool) (id kind address : ℕ) → length (frame (reply head id kind address)) ≤ 18
reply_short head id kind address =
    let b : List ℕ = body (reply head id kind address) in
    let h = hide_short Escape.expansion expansion_lawful (b ++ trailer b) in
    let l = length-append b (trailer b) in
    let t : length (trailer b) ≡ 4 = simp length-bytes_of in
    simp length-append (omega arith)

pub sendable : (head : Bool) (id kind address : ℕ) (m : Frame.Message) → kind_ok kind 0 ≡ true → some (reply head id kind address) ≡ some m → Sendable m
sendable head id kind address m k h =
    let e : reply head id kind address ≡ m = cc in
    let may : ok (reply head id kind address) ≡ true = rw k in
    subst Sendable e (record { may = may; short = reply_short head id kind address; never3 = never_3 (reply head id kind address) may })
