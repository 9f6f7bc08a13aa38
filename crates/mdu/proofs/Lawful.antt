-- The MDU link has all that the claims of every link rest on.
use Rattle.std.proofs.Common.{◌≡◌, ℕ, zero, suc, ◌^◌, ◌<◌, true, leb, List, ◌++◌, length, take, refl, ap, arith, lit<, le-ltb, lt-ltb}
use Rattle.runs.specs.Runs.{Bytes}
use Rattle.runs.proofs.Cases.{by_eqb, by_ltb, and_both}
use Rattle.runs.proofs.Bytes.{bytes_append}
use Rattle.framing.proofs.States.{shared_next, shared_leaves}
use Rattle.framing.proofs.States as Shared
use Rattle.framing.proofs.Lawful.{Lawful}
use Rattle.checksum.specs.Crc.{crc16_of}
use Rattle.checksum.proofs.CheckValue.{crc16_lt}
use Rattle.mdu.specs.Frame.{Message, Typed, length_ok, ok, header, trailer, frame}
use Rattle.mdu.specs.Rules.{Phase, hunting, in_header, in_body, gathered, held}
use Rattle.mdu.specs.Contract.{mode_of, length_of, phase_of, link}
use Rattle.mdu.specs.declared.State.{State}
use Rattle.mdu.proofs.Known.{length_most, sized_known}
use Rattle.mdu.proofs.Entered.{Good, good_sized, reached}
use Rattle.mdu.proofs.OnByte.{takes}
use Rattle.mdu.proofs.Readback.{reads-frame}

abbrev state_of : Phase → ℕ → State
state_of p n = record { base = Shared.state_of mode_of gathered held p n; length = length_of p }

phase_of_lem : (p : Phase) (n : ℕ) (store : List ℕ) → Good p → take (length (gathered p)) store ≡ gathered p → phase_of (state_of p n) store ≡ p
phase_of_lem hunting n store g h = refl
phase_of_lem (in_header x) n store g h = rw (lt-ltb (length x) 6 (good_sized (in_header x) g).1) (ap in_header h)
phase_of_lem (in_body k x) n store g h = rw (le-ltb (length x) 6 (good_sized (in_body k x) g).low) (ap (in_body k) h)

-- only mode 0 hunts
hunting_mode : (s : State) (store : List ℕ) → phase_of s store ≡ hunting → s.base.mode ≡ 0
hunting_mode s store =
    by_eqb P s.base.mode 0 (λ e _. e)
    (λ _. by_ltb P s.base.count 6 (λ _ h. omega (arith, ap mode_of h)) (λ _ h. omega (arith, ap mode_of h)))
  where
    P : Phase → Type 0
    P p = p ≡ hunting → s.base.mode ≡ 0

header_bytes : (k a : ℕ) → k < 65536 → a < 256 → Bytes (header k a)
header_bytes k a l h zero = lit< tt
header_bytes k a l h (suc zero) = lit< tt
header_bytes k a l h (suc (suc zero)) = omega arith
header_bytes k a l h (suc (suc (suc zero))) = omega arith
header_bytes k a l h (suc (suc (suc (suc zero)))) = h
header_bytes k a l h (suc (suc (suc (suc (suc zero))))) = omega arith
header_bytes k a l h (suc (suc (suc (suc (suc (suc i)))))) = lit< tt

trailer_bytes : (c : ℕ) → c < 2 ^ 16 → Bytes (trailer c)
trailer_bytes c h zero = omega arith
trailer_bytes c h (suc zero) = omega arith
trailer_bytes c h (suc (suc i)) = lit< tt

frame_bytes : (m : Message) → Typed m → ok m ≡ true → Bytes (frame m)
frame_bytes m t o =
    let most = length_most (length m.body) (and_both (leb 1 m.address) (length_ok (length m.body)) o).1 in
    bytes_append (header (length m.body) m.address) (m.body ++ trailer (crc16_of m.body))
    (header_bytes (length m.body) m.address (omega arith) t.0)
    (bytes_append m.body (trailer (crc16_of m.body)) t.1 (trailer_bytes (crc16_of m.body) (crc16_lt m.body t.1)))

pub lawful : Lawful link
lawful =
    record {
      reached = reached;
      takes = takes;
      state_of = state_of;
      noise_of_lem = λ p n. refl;
      open_of = λ p n. refl;
      known_of = λ p n g. sized_known p (length (held p)) n (good_sized p g);
      phase_of_lem = phase_of_lem;
      fresh_first = refl;
      state_next = λ p q o n b e l. λ i. record { base = shared_next frame mode_of gathered held p q o n b e l i; length = length_of q };
      state_leaves = λ s store q o h. λ i. record {
        base = shared_leaves frame mode_of gathered held s.base q o (hunting_mode s store h) i;
        length = length_of q;
      };
      frame_bytes = frame_bytes;
      frame_filled = λ m. omega arith;
      reads-frame = λ m rest n t o. reads-frame m rest n o;
    }
