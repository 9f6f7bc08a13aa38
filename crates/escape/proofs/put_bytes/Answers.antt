use Rattle.std.proofs.Common.{◌+◌, length, get_or, ap, arith}
use Rattle.std.proofs.Math.ListN.{drop_of_length-le}
use Rattle.runs.specs.Runs.{each}
use Rattle.runs.proofs.Run.{run-part, run_end}
use Rattle.runs.proofs.Each.{each_next, each-length}
use Rattle.escape.specs.Code.{hide}
use Rattle.escape.proofs.put_bytes.Goals as goal

pub put_byte-n-requires : goal.put_byte-n-requires
put_byte-n-requires g c =
    let e = each-length g.C.Code.code.hide_byte c.args.bytes.now c.loop-byte.byte-index c.loop-byte-test.true in
    omega (arith, e, c.loop-byte.invariant)

-- `put_byte` promises that the wire bytes of this byte are stored and how many they are: one part more of the run
pub loop-byte-preserved : goal.loop-byte-preserved
loop-byte-preserved g c =
    let run = g.C.Code.code.hide_byte in
    let bytes = c.args.bytes.now in
    let i = c.loop-byte.byte-index in
    let p = c.put_byte-n.ensures in
    run-part (run (get_or bytes i 0)) c.loop-byte.invariant (each_next run bytes i c.loop-byte-test.true) (ap (λ k. c.loop-byte.n + k) p.taken) p.put

pub returns : goal.returns
unfolding each
returns g c =
    let r = c.loop-byte.invariant in
    let e = ap (hide g.C.Code.code) (drop_of_length-le c.args.bytes.now c.loop-byte-test.false) in
    record { taken = omega (arith, ap length e, r.left); put = run_end r e }
