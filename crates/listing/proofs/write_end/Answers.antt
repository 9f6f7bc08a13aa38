use Rattle.std.proofs.Common.{◌≤◌, length, arith}
use lib.ListN.{length-take}
use Rattle.listing.proofs.Stored.{stored_counts}
use Rattle.listing.proofs.write_end.Goals as goal
use Rattle.listing.proofs.write_end.Goals.{After-count_of-n}

-- what was stored lies within the memory
fits : (g : _) (c : After-count_of-n g) → c.count_of-n.result ≤ length c.finish.new.text
fits g c = omega (arith, c.count_of-n.ensures, stored_counts _ _ c.finish.ensures)

pub slice_bounds-write_all-end : goal.slice_bounds-write_all-end
slice_bounds-write_all-end g c = fits g c

pub slice_bounds-write_all-end-2 : goal.slice_bounds-write_all-end-2
slice_bounds-write_all-end-2 g c = simp length-take (omega (arith, fits g c))
