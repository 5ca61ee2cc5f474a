-- When the bytes that a call gives are the stored ones: the ring, the fields, the output.
use Rattle.std.specs.Prelude.{ℕ, ◌+◌, ◌-◌, Bool, ◌&&◌, List, eqb, length, get_or}
use Rattle.lists.specs.Lists.{same}
use Rattle.layout.specs.declared.Fields.{Fields}
use Rattle.rows.specs.Rows.{rows_at}
use Rattle.layout.specs.Layout.{points_at, body_bytes}
use Rattle.ring.specs.declared.Ring.{Ring}
use Rattle.records.specs.Records.{length_in, part_in, ring_at, output_at}

-- the ring is the stored one
unfoldable pub ring_is : Ring → List ℕ → Bool
ring_is ring stored = eqb ring.m (length_in stored) && same eqb ring.v (part_in stored ring_at 10)

-- the fields are those that are stored in their places of the block
unfoldable pub fields_are : Fields → List ℕ → Bool
fields_are fields stored =
    eqb fields.version (get_or stored output_at 0)
    && (eqb fields.points (get_or stored (output_at + 1) 0)
    && (eqb fields.rows (get_or stored (output_at + 2) 0)
    && (same eqb fields.coordinates (part_in stored (output_at + points_at) (rows_at - points_at))
    && same eqb fields.table (part_in stored (output_at + rows_at) (body_bytes - rows_at)))))

-- every byte of the output is the stored one
abbrev pub output_is : List ℕ → List ℕ → Bool
output_is out stored = same eqb out (part_in stored output_at (length out))
