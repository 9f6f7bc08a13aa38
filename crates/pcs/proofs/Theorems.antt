-- What is claimed of the PCS link besides the claims on every link, which follow from `lawful` (framing/proofs/Lawful.antt, Wire.antt, Whole.antt).
use Prim.Native.Nat.{◌≤◌}
use mathlib.Core.Path.{◌≡◌}
use mathlib.Core.Bool.{true}
use native.Mathlib.Omega.{arith}
use lib.ListN.{length}
use Rattle.framing.specs.Whole.{OnlyFrames, FramesRead}
use Rattle.framing.proofs.Refusals as any
use Rattle.framing.proofs.Whole as any-whole
use Rattle.framing.proofs.Places as Places
use Rattle.pcs.specs.Frame.{Message, ok, frame}
use Rattle.pcs.specs.Contract.{link}
use Rattle.pcs.specs.Claims.{stream_numbers, GivesExactly, ReceiveGives, StoresGathered, DataWithin}
use Rattle.pcs.proofs.Allowed.{sendable}
use Rattle.pcs.proofs.Trailer.{trailing_range}
use Rattle.pcs.proofs.Written.{frame-length}
use Rattle.pcs.proofs.Lawful.{lawful}
use Rattle.pcs.proofs.Numbers.{given}
use Rattle.pcs.proofs.Places.{storing, few}

-- a stream gives exactly these numbers
pub gives_exactly : GivesExactly
gives_exactly = any.gives_exactly link lawful stream_numbers given

-- and a call of `receive` 12, 1 and these
pub receive_gives : ReceiveGives
receive_gives = any.receive_gives link lawful stream_numbers given

-- what a call leaves in the store, place by place
pub stores_gathered : StoresGathered
stores_gathered = Places.stores_gathered link (λ g b. g) (λ m. m.payload) storing

-- how much data a message has that a call tells
pub data_within : DataWithin
data_within = Places.data_within link (λ g b. g) (λ m. m.payload) storing (λ v. v.length) 1024 few

-- no frame takes more wire bytes
pub frame_bound : (m : Message) → ok m ≡ true → length (frame m) ≤ 1185
frame_bound m h =
    let s = sendable m h in
    omega (arith, s.most, frame-length m, (trailing_range m.crc).1)

-- a read of a whole frame: only a frame is read as a message, and each frame is read as its message
pub only_frames : OnlyFrames link
only_frames = any-whole.only_frames link lawful

pub frames_read : FramesRead link
frames_read = any-whole.frames_read link lawful (λ m h. omega (arith, frame_bound m h))
