-- Counts of whole records: none at the start, and one more with each that is read.
use Prim.Native.Nat.{ℕ}
use mathlib.Core.List.{List, [], ◌∷◌, ◌++◌, foldl-append}
use mathlib.Core.Path.{◌≡◌, sym, ap, ◌∙◌}
use borrow.Author.Tests.{eq-eqb}
use lib.ListN.{length}
use Rattle.lists.specs.Lists.{every}
use Rattle.lists.proofs.Lists.{every_both}
use Rattle.counts.specs.declared.Counts.{Counts}
use Rattle.records.specs.Records.{record_bytes}
use Rattle.counts.specs.CaseCounts.{no_cases}
use Rattle.vectors.specs.Counting.{record_counted, is_whole, Counted}

pub none_counted : (counts : Counts) → counts ≡ no_cases → Counted counts
unfolding every
none_counted counts e = record { records = []; whole = tt; all = e }

pub one_counted : (counts after : Counts) (stored : List ℕ) → Counted counts → length stored ≡ record_bytes
    → after ≡ record_counted counts stored
    → Counted after
unfolding every
one_counted counts after stored c size e = record {
  records = c.records ++ stored ∷ [];
  whole = every_both is_whole c.records (stored ∷ []) c.whole (rw (eq-eqb (length stored) record_bytes size) tt);
  all = e ∙ (ap (λ before. record_counted before stored) c.all ∙ sym (foldl-append record_counted no_cases c.records (stored ∷ [])));
}
