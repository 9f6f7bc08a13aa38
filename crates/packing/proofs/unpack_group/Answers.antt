use Rattle.std.proofs.Common.{◌≡◌, ℕ, ◌+◌, ◌-◌, ◌*◌, ◌/◌, ◌%◌, ◌^◌, ◌<◌, ◌≤◌, List, [], ◌∷◌, length, get_or, take, drop, sym, ap, ◌∙◌, arith, length-drop, drop_of_length-le, length-take, get_or-drop, get_or-take}
use Rattle.runs.proofs.Run.{run-start, run-one, run_get, run_end}
use Rattle.packing.specs.Packed.{last_place}
use Rattle.packing.specs.Unpacked.{joined, unpacked_group}
use Rattle.packing.proofs.Tops.{place_back}
use Rattle.packing.proofs.Group.{length-unpacked_group}
use Rattle.runs.proofs.Bytes.{drop-next}
use Rattle.packing.proofs.unpack_group.Goals as goal

-- the low byte at hand with its top bit, and those behind it
next : (d : List ℕ) (from k j v : ℕ) → k ≤ 7 → from + k < length d → j < k
    → joined (v / 2 ^ last_place k) (drop j (take k (drop from d)))
    ≡ (get_or d (from + j) 0 % 128 + 128 * (v / 2 ^ (6 - j) % 2)) ∷ joined (v / 2 ^ last_place k) (drop (j + 1) (take k (drop from d)))
unfolding joined
next d from k j v seven h l =
    let t : ℕ = v / 2 ^ last_place k in
    let lows : List ℕ = take k (drop from d) in
    let long : length lows ≡ k = simp (length-take, length-drop) (omega arith) in
    let at_j : get_or lows j 0 ≡ get_or d (from + j) 0 = get_or-take k (drop from d) j 0 l ∙ get_or-drop from d j 0 in
    let place : length (drop (j + 1) lows) ≡ k - 1 - j = rw (length-drop, long) (omega arith) in
    rw (← place_back v k j seven l, ← at_j, ← place) (ap (joined t) (drop-next lows j (omega arith)))

pub loop-j-init : goal.loop-j-init
unfolding unpacked_group
loop-j-init c =
    let d : List ℕ = c.args.store.now in
    let from : ℕ = c.args.from in
    let k : ℕ = c.args.k in
    let room : k ≤ length (drop from d) = simp length-drop (omega arith) in
    let tops : c.value_of-tops.result ≡ get_or (drop from d) k 0 % 128 =
    c.value_of-tops.ensures ∙ ap (λ (n : ℕ). n % 128) (sym (get_or-drop from d k 0)) in
    let long : length (unpacked_group k (drop from d)) ≡ k = length-unpacked_group k (drop from d) room in
    run-start (omega (arith)) (ap (λ (v : ℕ). joined (v / 2 ^ last_place k) (take k (drop from d))) tops)

pub loop-j-preserved : goal.loop-j-preserved
loop-j-preserved c =
    let d : List ℕ = c.args.store.now in
    let v : ℕ = c.value_of-tops.result in
    let j : ℕ = c.loop-j.j in
    let here : ℕ = c.args.from + j in
    let byte : c.data_byte.result ≡ get_or c.loop-j.store here 0 % 128 + 128 * (v / 2 ^ (6 - j) % 2) = c.data_byte.ensures in
    let low : get_or c.loop-j.store here 0 ≡ get_or d here 0 = run_get 0 here (omega arith) c.loop-j.invariant in
    let more = next d c.args.from c.args.k j v c.requires.0 c.requires.2 (omega arith) in
    run-one c.loop-j.invariant more (byte ∙ ap (λ (b : ℕ). b % 128 + 128 * (v / 2 ^ (6 - j) % 2)) low)

pub returns : goal.returns
unfolding joined
returns c =
    let rest : drop c.loop-j.j (take c.args.k (drop c.args.from c.args.store.now)) ≡ [] =
    drop_of_length-le _ {i = c.loop-j.j} (simp (length-take, length-drop) (omega arith)) in
    run_end c.loop-j.invariant (ap (joined (c.value_of-tops.result / 2 ^ last_place c.args.k)) rest)
