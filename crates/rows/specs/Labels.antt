-- Requirement §2: the fifth byte of a row, read and written by the version of its block. In version 1 it is the region. In version 2 its low
-- four bits are the region and its high four the marks of the row's directed faces, bit 4 for the first.
use Rattle.std.specs.Prelude.{ℕ, ◌+◌, ◌/◌, ◌%◌, ◌^◌, Bool, false, cond, ◌&&◌, eqb, ltb}
use Rattle.std.specs.Bool.{beq}
use Rattle.rows.specs.declared.Marks.{Marks}
use Rattle.rows.specs.declared.Labels.{Labels}

-- version 1: regions 0 to 255 and no marks
abbrev pub plain_version : ℕ
plain_version = 1

-- version 2: regions 0 to 15 and marks
abbrev pub marked_version : ℕ
marked_version = 2

-- four bits hold the numbers below 16
abbrev pub four_bits : ℕ
four_bits = 16

-- no face is marked
abbrev pub no_marks : Marks
no_marks = record { qrs = false; psr = false; pqs = false; prq = false }

-- the same four marks
abbrev pub same_marks : Marks → Marks → Bool
same_marks m n =
    beq m.qrs n.qrs && beq m.psr n.psr && beq m.pqs n.pqs && beq m.prq n.prq

-- bit k of a number
abbrev pub bit : ℕ → ℕ → Bool
bit k n = eqb (n / 2 ^ k % 2) 1

-- bit k alone, if it is set
abbrev pub bit_of : ℕ → Bool → ℕ
bit_of k mark = cond mark (2 ^ k) 0

-- bit 4 for the face (q,r,s), 5 for (p,s,r), 6 for (p,q,s), 7 for (p,r,q)
abbrev pub marks_of : ℕ → Marks
marks_of byte = record { qrs = bit 4 byte; psr = bit 5 byte; pqs = bit 6 byte; prq = bit 7 byte }

-- the marks in their bits
abbrev pub mark_bits : Marks → ℕ
mark_bits m = bit_of 4 m.qrs + bit_of 5 m.psr + bit_of 6 m.pqs + bit_of 7 m.prq

-- version 1: the byte is the region
abbrev pub plain_labels : ℕ → Labels
plain_labels byte = record { region = byte; marks = no_marks }

-- version 2: the region in the low four bits, the marks in the high four
abbrev pub marked_labels : ℕ → Labels
marked_labels byte = record { region = byte % four_bits; marks = marks_of byte }

-- the region and the marks of a byte; a block that opens has version 1 or 2
unfoldable pub labels_of : ℕ → ℕ → Labels
labels_of version byte = cond (eqb version plain_version) (plain_labels byte) (marked_labels byte)

-- version 2, written: of a region its low four bits
abbrev pub marked_byte : Labels → ℕ
marked_byte labels = labels.region % four_bits + mark_bits labels.marks

-- the byte of a region and marks
unfoldable pub label_byte : ℕ → Labels → ℕ
label_byte version labels = cond (eqb version plain_version) labels.region (marked_byte labels)

-- a block of this version has room for the labels: in version 1 there are no marks, in version 2 regions have four bits
unfoldable pub has_room_for : ℕ → Labels → Bool
has_room_for version labels = cond (eqb version plain_version) (same_marks labels.marks no_marks) (ltb labels.region four_bits)
