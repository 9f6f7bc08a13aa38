use Rattle.std.proofs.Common.{List, ℕ, ◌∷◌, ◌++◌, sym, ap, ◌∙◌}
use Rattle.runs.specs.Number.{bytes_of}
use Rattle.framing.specs.Answer.{stored_at}
use Rattle.framing.proofs.Stored.{writes_stored}
use Rattle.expansion.specs.Frame.{Message, ok, enclose, frame}
use Rattle.expansion.proofs.Judge.{four_bytes}
use Rattle.expansion.proofs.write.Goals as goal

pub returns-then-not-is_sendable : goal.returns-then-not-is_sendable
returns-then-not-is_sendable c = rw (sym c.is_sendable.ensures ∙ c.if-not-is_sendable.true)

pub returns : goal.returns
returns c =
    let a = c.args in
    let m : Message = record { id = a.id; kind = a.kind; repeat = a.repeat; address = a.address; payload = a.«data».now } in
    c.enclose_into.ensures
    ∙ ap (λ (x : List ℕ). stored_at (enclose (a.id ∷ a.kind ∷ a.repeat ∷ a.address ∷ (a.«data».now ++ x))) a.out.now 0)
    (c.to_le_bytes-check.ensures ∙ four_bytes c.crc32_joined.result ∙ ap (bytes_of 4) c.crc32_joined.ensures)
    ∙ sym (writes_stored ok frame m a.out.now (sym c.is_sendable.ensures ∙ c.if-not-is_sendable.false))
