-- With a CRC or without: what may be sent, and which damage the CRC shows.
use Prim.Native.Nat.{ℕ, ◌+◌, ◌*◌, ◌/◌, ◌%◌}
use mathlib.Core.Path.{◌≡◌, refl, ap, sym, ◌∙◌}
use mathlib.Core.Bool.{true}
use mathlib.Core.List.{List}
use native.Mathlib.Omega.{arith}
use lib.ListN.{get_or}
use Rattle.runs.specs.Runs.{Bytes}
use Rattle.packing.proofs.Seven.{sent_value}
use Rattle.checksum.specs.Crc.{crc16_of}
use Rattle.checksum.proofs.CheckValue.{crc16_lt, crc16_detects}
use Rattle.pcs.specs.Frame.{trailer}
use Rattle.pcs.specs.Claims.{EitherWay, CrcDetects}

pub either_way : EitherWay
either_way receiver sender kind number from to d = refl

-- the value that three bytes of a CRC stand for, behind the sum
value_in : List ℕ → ℕ
value_in t = get_or t 1 0 % 128 + 128 * (get_or t 2 0 % 128) + 16384 * (get_or t 3 0 % 128)

value_back : (b : List ℕ) → Bytes b → value_in (trailer true b) ≡ crc16_of b
unfolding value_in
value_back b y =
    let c : ℕ = crc16_of b in
    let l = crc16_lt b y in
    let low = sent_value {v = c % 128} (omega arith) in
    let middle = sent_value {v = c / 128 % 128} (omega arith) in
    let top = sent_value {v = c / 16384} (omega arith) in
    rw (low, middle, top) (omega arith)

pub crc_detects : CrcDetects
crc_detects u v yu yv long near differ same = crc16_detects u v yu yv long near differ (sym (value_back u yu) ∙ ap value_in same ∙ value_back v yv)
