-- The stored output is the record's last part.
use mathlib.Core.Path.{◌≡◌, ap, ◌∙◌}
use native.Mathlib.Omega.{arith}
use lib.Dec.{eqb}
use lib.ListN.{length, take, drop}
use Rattle.std.proofs.Common.{length-drop}
use Rattle.std.proofs.lemmas.List.{take_all}
use Rattle.lists.specs.Lists.{same}
use Rattle.records.specs.Records.{part_bytes, output_at}
use Rattle.expected.proofs.SameBytes.{pointwise-same}
use Rattle.expected.proofs.output_is.Goals as goal

pub returns : goal.returns
returns c =
    let out = c.args.out.now in
    let last = drop output_at c.args.stored.now in
    let whole : take part_bytes last ≡ last = take_all part_bytes last (simp length-drop (omega (arith, c.told-stored))) in
    c.starts_with.ensures.value
    ∙ pointwise-same out (take (length out) (take part_bytes last))
    ∙ ap (λ bytes. same eqb out (take (length out) bytes)) whole
