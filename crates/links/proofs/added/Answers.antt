-- `added` stores the place and the link after those that are there.
use mathlib.Core.Path.{◌≡◌, refl}
use native.Mathlib.Omega.{arith}
use lib.ListN.{length}
use Rattle.links.proofs.LinkArrays.{in_added, places_added}
use borrow.Author.Rules.{rules}
use Rattle.links.proofs.added.Goals as goal

pub returns : goal.returns
returns c =
    let s : length c.args.links.starts ≡ 60 = search rules in
    let e : length c.args.links.ends ≡ 60 = search rules in
    let p : length c.args.links.places ≡ 60 = search rules in (
      refl,
      in_added c.args.links c.args.place c.args.l.v c.args.l.w (omega (arith, c.requires)) (omega (arith, c.requires)),
      places_added c.args.links c.args.place c.args.l.v c.args.l.w (omega (arith, c.requires)),
    )
