-- Two wrong kernels that lose a load surface, each ours but for its removal.
use Rattle.rows.specs.Rows.{version}
use Rattle.layout.specs.Layout.{Patch, fields_of, bytes_of}
use Rattle.answers.specs.Answers.{written}
use Rattle.ring.specs.Ring.{Site, site_of}
use Rattle.triangulation.specs.Triangulation.{table_after}
use Rattle.triangulation.specs.Best.{chosen}
use Rattle.calls.specs.Removing.{patch_after, remove_answer, remove_gives}
use Rattle.demands.specs.Kernels.{Kernel}
use Rattle.rivals.specs.Useless.{with_remove}

-- the patch afterwards, with the new rows unmarked
abbrev pub patch_plain : Site → Patch
patch_plain site = record { points = site.points; rows = table_after site (chosen site) }

-- one that drops the marks of the shell: it gives what ours gives, and writes that
abbrev pub dropping_marks : Kernel
dropping_marks = with_remove (λ block out e f.
    let site = site_of (fields_of block) e f in
    (remove_gives block out e f, written (remove_answer block out e f) (bytes_of (version block) (patch_plain site)) out))

-- one that writes version 1, whatever the version of its block: it gives what ours gives
abbrev pub writing_version1 : Kernel
writing_version1 = with_remove (λ block out e f.
    let site = site_of (fields_of block) e f in
    (remove_gives block out e f, written (remove_answer block out e f) (bytes_of 1 (patch_after site)) out))
