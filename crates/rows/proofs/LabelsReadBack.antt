-- The byte of region and marks: what is read is what would be written, and what is written is read back, in both versions. Of version 2 both
-- are computed tests, over the 256 bytes and over 16 regions with 16 ways to mark.
use Prim.Native.Nat.{ℕ, ◌%◌, ◌<◌}
use mathlib.Core.Bool.{Bool, true, false, cond, ◌&&◌, beq}
use mathlib.Core.List.{List, [], ◌∷◌, Memᴰ}
use mathlib.Core.Path.{◌≡◌, refl, sym}
use native.Mathlib.Omega.{arith}
use lib.Dec.{T, eqb, ltb, eqb→eq, ltb→lt, lt→ltb}
use Rattle.lists.specs.Lists.{every, numbers_from}
use Rattle.lists.proofs.Tests.{and_l, and_r, and_i}
use Rattle.lists.proofs.Lists.{every_at}
use Rattle.lists.proofs.Numbers.{numbers_i}
use Rattle.rows.specs.declared.Marks.{Marks}
use Rattle.rows.specs.declared.Labels.{Labels}
use Rattle.rows.specs.Labels.{plain_version, four_bits, no_marks, same_marks, plain_labels, marked_labels, labels_of, marked_byte, label_byte, has_room_for}

-- ---- the same marks

same_bit : (x y : Bool) → T (beq x y) → x ≡ y
same_bit true true h = refl
same_bit true false h = absurd h
same_bit false true h = absurd h
same_bit false false h = refl

bit_refl : (x : Bool) → T (beq x x)
bit_refl true = tt
bit_refl false = tt

pub same_marks_lem : (m n : Marks) → T (same_marks m n) → m ≡ n
same_marks_lem m n h =
    let a = beq m.qrs n.qrs in
    let b = beq m.psr n.psr in
    let c = beq m.pqs n.pqs in
    let d = beq m.prq n.prq in
    let three = and_l (a && b && c) d h in
    let two = and_l (a && b) c three in
    equal m.qrs n.qrs m.psr n.psr m.pqs n.pqs m.prq n.prq
    (same_bit _ _ (and_l a b two)) (same_bit _ _ (and_r a b two)) (same_bit _ _ (and_r (a && b) c three)) (same_bit _ _ (and_r (a && b && c) d h))
  where
    equal : (a a' b b' c c' d d' : Bool) → a ≡ a' → b ≡ b' → c ≡ c' → d ≡ d'
        → ◌≡◌ {A = Marks} (record { qrs = a; psr = b; pqs = c; prq = d }) (record { qrs = a'; psr = b'; pqs = c'; prq = d' })
    equal a a' b b' c c' d d' e f g h = rw (e, f, g, h)

pub same_marks_refl : (m : Marks) → T (same_marks m m)
same_marks_refl m = search (and_i, bit_refl) depth 8

-- ---- computed

-- a byte, read in version 2 and written again
wrote : ℕ → Bool
wrote byte = eqb (marked_byte (marked_labels byte)) byte

all_wrote : T (every wrote (numbers_from 0 256))
unfolding wrote every numbers_from
all_wrote = tt

-- a region and marks, written in version 2: a byte, and read back the same
reads : Bool → Bool → Bool → Bool → ℕ → Bool
reads a b c d region =
    let m : Marks = record { qrs = a; psr = b; pqs = c; prq = d } in
    let byte = marked_byte (record { region = region; marks = m }) in
    let back = marked_labels byte in
    eqb back.region region && same_marks back.marks m && ltb byte 256

both : List Bool
both = true ∷ false ∷ []

all_read : T (every (λ a. every (λ b. every (λ c. every (λ d. every (reads a b c d) (numbers_from 0 four_bits)) both) both) both) both)
unfolding reads both every numbers_from
all_read = tt

in_both : (a : Bool) → Memᴰ a both
unfolding both
in_both true = Memᴰ.head refl
in_both false = Memᴰ.tail (Memᴰ.head refl)

read_each : (a b c d : Bool) (region : ℕ) → region < four_bits → T (reads a b c d region)
read_each a b c d region h =
    every_at (reads a b c d) (numbers_from 0 four_bits)
    (every_at (λ d. every (reads a b c d) (numbers_from 0 four_bits)) both
    (every_at (λ c. every (λ d. every (reads a b c d) (numbers_from 0 four_bits)) both) both
    (every_at (λ b. every (λ c. every (λ d. every (reads a b c d) (numbers_from 0 four_bits)) both) both) both
    (every_at (λ a. every (λ b. every (λ c. every (λ d. every (reads a b c d) (numbers_from 0 four_bits)) both) both) both) both
    all_read (in_both a)) (in_both b)) (in_both c)) (in_both d))
    (numbers_i 0 four_bits region (omega arith) (omega arith))

-- ---- both versions

-- what is read is what would be written
pub read_written : (version byte : ℕ) → byte < 256 → label_byte version (labels_of version byte) ≡ byte
unfolding labels_of label_byte wrote
read_written version byte h = go (eqb version plain_version)
  where
    second : marked_byte (marked_labels byte) ≡ byte
    second = eqb→eq _ byte (every_at wrote (numbers_from 0 256) all_wrote (numbers_i 0 256 byte (omega arith) (omega arith)))

    go : (first : Bool)
        → cond first (cond first (plain_labels byte) (marked_labels byte)).region (marked_byte (cond first (plain_labels byte) (marked_labels byte))) ≡ byte
    go true = refl
    go false = second

-- what is written is read back
pub written_read : (version : ℕ) (labels : Labels) → T (has_room_for version labels) → labels_of version (label_byte version labels) ≡ labels
unfolding labels_of label_byte has_room_for reads
written_read version labels = go (eqb version plain_version)
  where
    equal : (x y : ℕ) (k n : Marks) → x ≡ y → k ≡ n → ◌≡◌ {A = Labels} (record { region = x; marks = k }) (record { region = y; marks = n })
    equal x y k n e f = rw (e, f)

    go : (first : Bool) → T (cond first (same_marks labels.marks no_marks) (ltb labels.region four_bits))
        → ◌≡◌ {A = Labels} (cond first (plain_labels (cond first labels.region (marked_byte labels))) (marked_labels (cond first labels.region (marked_byte labels)))) labels
    go true h = equal labels.region labels.region no_marks labels.marks refl (sym (same_marks_lem labels.marks no_marks h))
    go false h =
        let byte = marked_byte labels in
        let back = marked_labels byte in
        let m = labels.marks in
        let r = read_each m.qrs m.psr m.pqs m.prq labels.region (ltb→lt _ four_bits h) in
        let a = eqb back.region labels.region in
        let b = same_marks back.marks m in
        let both = and_l (a && b) (ltb byte 256) r in
        equal back.region labels.region back.marks m (eqb→eq back.region labels.region (and_l a b both))
        (same_marks_lem back.marks m (and_r a b both))

-- and is a byte if the region is
pub written_byte : (version : ℕ) (labels : Labels) → labels.region < 256 → T (has_room_for version labels) → label_byte version labels < 256
unfolding label_byte has_room_for reads
written_byte version labels small = go (eqb version plain_version)
  where
    go : (first : Bool) → T (cond first (same_marks labels.marks no_marks) (ltb labels.region four_bits))
        → cond first labels.region (marked_byte labels) < 256
    go true h = small
    go false h =
        let byte = marked_byte labels in
        let back = marked_labels byte in
        let m = labels.marks in
        let r = read_each m.qrs m.psr m.pqs m.prq labels.region (ltb→lt _ four_bits h) in
        ltb→lt byte 256 (and_r (eqb back.region labels.region && same_marks back.marks m) (ltb byte 256) r)

-- there is room for what is read
pub read_room : (version byte : ℕ) → T (has_room_for version (labels_of version byte))
unfolding labels_of has_room_for
read_room version byte = go (eqb version plain_version)
  where
    go : (first : Bool)
        → T (cond first (same_marks (cond first (plain_labels byte) (marked_labels byte)).marks no_marks)
        (ltb (cond first (plain_labels byte) (marked_labels byte)).region four_bits))
    go true = tt
    go false = lt→ltb (byte % four_bits) four_bits (omega arith)

-- and its region is a byte if it was read off one
pub read_byte : (version byte : ℕ) → byte < 256 → (labels_of version byte).region < 256
unfolding labels_of
read_byte version byte h = go (eqb version plain_version)
  where
    go : (first : Bool) → (cond first (plain_labels byte) (marked_labels byte)).region < 256
    go true = h
    go false = omega arith

-- ---- which bit is whose: reading back does not tell

bit_4_is_qrs : labels_of 2 19 ≡ record { region = 3; marks = record { qrs = true; psr = false; pqs = false; prq = false } }
unfolding labels_of
bit_4_is_qrs = refl

bits_5_and_6 : labels_of 2 96 ≡ record { region = 0; marks = record { qrs = false; psr = true; pqs = true; prq = false } }
unfolding labels_of
bits_5_and_6 = refl

bit_7_is_prq : labels_of 2 143 ≡ record { region = 15; marks = record { qrs = false; psr = false; pqs = false; prq = true } }
unfolding labels_of
bit_7_is_prq = refl

version_1_as_before : labels_of 1 143 ≡ record { region = 143; marks = no_marks }
unfolding labels_of
version_1_as_before = refl
