-- The examples, which the checker works out.
use mathlib.Core.Path.{refl}
use mathlib.Core.List.{sum}
use Rattle.runs.specs.Runs.{each}
use Rattle.runs.specs.Number.{little_endian}
use Rattle.packing.specs.Seven.{is_sent}
use Rattle.packing.specs.Packed.{last_place, tops_after, tops_of, packed_group, packed_groups, packed}
use Rattle.packing.specs.Unpacked.{joined, unpacked_group, unpacked_groups, data_in_groups, all_sent, unused_clear, well_ended, well_packed, unpacked}
use Rattle.checksum.specs.Crc.{shifts, byte_step, run}
use Rattle.record.specs.Form.{form_of, allowed, well_formed}
use Rattle.record.specs.Answers.{reading}
use Rattle.claims.specs.Examples.{Examples}

pub examples : Examples
unfolding sum each little_endian is_sent last_place tops_after tops_of packed_group packed_groups packed joined unpacked_group unpacked_groups
    data_in_groups all_sent unused_clear well_ended well_packed unpacked shifts byte_step run form_of allowed well_formed reading
examples = (refl, (refl, (refl, (refl, (refl, (refl, (refl, (refl, (refl, (refl, (refl, (refl, (refl, (refl, (refl, tt)))))))))))))))
