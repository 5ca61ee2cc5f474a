-- The input and the output before the call are those of the record.
use Prim.Native.Nat.{ℕ, ◌+◌, ◌-◌}
use mathlib.Core.Bool.{Bool}
use mathlib.Core.List.{List}
use mathlib.Core.Path.{◌≡◌, ap, ◌∙◌}
use native.Mathlib.Omega.{arith}
use lib.ListN.{length, get_or, take, replicate, length-take, length-replicate}
use Rattle.records.specs.Records.{part_bytes, input_at, part_in, length_at, input_in}
use Rattle.agreement.specs.Agreement.{call_agrees, case_agrees}
use Rattle.agreement.proofs.agrees.Goals as goal

whole : {filled : List ℕ} {byte : ℕ} → filled ≡ replicate part_bytes byte → length filled ≡ part_bytes
whole {filled} {byte} e = ap length e ∙ length-replicate part_bytes byte

-- the parts that the code lends are the record's
at_record :
    (s filled : List ℕ)
    (m n : ℕ)
    {r : Bool}
    → r ≡ call_agrees s (part_in s input_at (input_at + m - input_at)) (take n filled)
    → m ≡ length_at s 2
    → n ≡ length_at s 4
    → filled ≡ replicate part_bytes (get_or s 6 0)
    → r ≡ case_agrees s
at_record s filled m n h p q e =
    let end : input_at + m - input_at ≡ m = omega arith in
    h
    ∙ ap (λ k. call_agrees s (part_in s input_at k) (take n filled)) (end ∙ p)
    ∙ ap (λ k. call_agrees s (input_in s) (take k filled)) q
    ∙ ap (λ bytes. call_agrees s (input_in s) (take (length_at s 4) bytes)) e

pub slice_bounds-call_agrees-end-2 : goal.slice_bounds-call_agrees-end-2
slice_bounds-call_agrees-end-2 c =
    simp length-take (omega (arith, whole c.filled-out.ensures, c.length_at-n.ensures))

pub returns : goal.returns
returns c =
    at_record
    c.args.stored.now
    c.filled-out.result
    c.length_at-input_end.result
    c.length_at-n.result
    c.call_agrees.ensures
    c.length_at-input_end.ensures
    c.length_at-n.ensures
    c.filled-out.ensures
