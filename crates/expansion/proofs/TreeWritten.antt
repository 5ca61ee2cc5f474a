-- The tree that a table of apexes stands for, one cut at a time, and its rows as the expansion writes them: the piece's own two, then those of
-- (i,k), then those of (k,j). A tree never spans more than its piece; so where the whole is spanned, both parts are.
use Prim.Native.Nat.{ℕ, zero, suc, ◌+◌, ◌-◌, ◌*◌, ◌≤◌, ◌<◌}
use mathlib.Core.List.{List, [], ◌++◌, append_assoc, flat_map}
use mathlib.Core.Option.{Option, none, some, none-ne-some, some-injective}
use mathlib.Core.Path.{◌≡◌, refl, sym, ap, ◌∙◌}
use native.Mathlib.Decide.{dec_lt}
use native.Mathlib.Omega.{arith}
use borrow.Author.Tests.{lt-ltb, le-ltb}
use lib.ListN.{length, get_or, length-append}
use Rattle.rows.specs.declared.Row.{Row}
use Rattle.rows.specs.Rows.{rows_at, row_size, with_rows}
use Rattle.rows.proofs.PastedRows.{with_more}
use Rattle.ring.specs.Ring.{Site}
use Rattle.triangulation.specs.Triangulation.{Tri, side, cut, span, triangles, two_rows, new_rows}
use Rattle.triangulation.proofs.WorstOfWays.{rows_cut}
use Rattle.kept_faces.specs.declared.Rim.{Rim}
use Rattle.cells.specs.Steps.{cell_at, coded_apex, apex_in}
use Rattle.candidates.specs.Steps.{two_over}
use Rattle.filling.proofs.CellFilled.{apex_over_lem}
use Rattle.expansion.specs.Steps.{rows_over, Between, SiteRows, tree_within, tree_in}

-- ---- apexes between the ends of their pieces

-- what lies between the ends of a piece lies so in each piece inside it
pub part_between : {apexes : List ℕ} {i j l e : ℕ} → i ≤ l → e ≤ j → Between apexes i j → Between apexes l e
part_between g h b =
    record { high = λ l e s t u. b.high l e (omega arith) t (omega arith); low = λ l e s t u. b.low l e (omega arith) t (omega arith) }

coded_is : (n k : ℕ) → coded_apex n ≡ some k → (n ≡ k) × (n ≡ 0 → ⊥)
unfolding coded_apex
coded_is zero k e = absurd (none-ne-some k e)
coded_is (suc n) k e = (some-injective (suc n) k e, λ z. omega arith)

module _ (apexes : List ℕ) where
  lies : {i j k : ℕ} → Between apexes i j → i + 2 ≤ j → apex_in apexes i j ≡ some k → (i < k) × (k < j)
  lies {i} {j} {k} b long e =
      let is = coded_is (get_or apexes (cell_at i j) 0) k e in
      let low = b.low i j (omega arith) long (omega arith) is.1 in
      let high = b.high i j (omega arith) long (omega arith) in
      (omega (arith, is.0, low), omega (arith, is.0, high))

  -- ---- one cut; the depth never binds

  -- the two parts at the apex, if there is one
  abbrev pub branch : ℕ → ℕ → ℕ → Option ℕ → Tri
  branch depth i j o = elim o [ none ↦ side | some k ↦ cut (tree_within depth apexes i k) (tree_within depth apexes k j) ]

  tree_none : (i j : ℕ) → tree_within zero apexes i j ≡ side
  unfolding tree_within
  tree_none i j = refl

  pub tree_near : (depth i j : ℕ) → j < i + 2 → tree_within depth apexes i j ≡ side
  unfolding tree_within
  tree_near zero i j h = refl
  tree_near (suc depth) i j h = rw (lt-ltb j (i + 2) h)

  pub tree_far : (depth i j : ℕ) → i + 2 ≤ j → tree_within (suc depth) apexes i j ≡ branch depth i j (apex_in apexes i j)
  unfolding tree_within
  tree_far depth i j h = rw (le-ltb j (i + 2) h)

  tree_same : (d e i j : ℕ) → j - i ≤ d → j - i ≤ e → Between apexes i j → tree_within d apexes i j ≡ tree_within e apexes i j
  tree_same zero e i j h k b = tree_near zero i j (omega arith) ∙ sym (tree_near e i j (omega arith))
  tree_same (suc d) zero i j h k b = tree_near (suc d) i j (omega arith) ∙ sym (tree_near zero i j (omega arith))
  tree_same (suc d) (suc e) i j within_d within-e b = go (dec_lt j (i + 2)) (tree_same d e)
    where
      go : Dec (j < i + 2)
          → ((i j : ℕ) → j - i ≤ d → j - i ≤ e → Between apexes i j → tree_within d apexes i j ≡ tree_within e apexes i j)
          → tree_within (suc d) apexes i j ≡ tree_within (suc e) apexes i j
      go (yes h) below = tree_near (suc d) i j h ∙ sym (tree_near (suc e) i j h)
      go (no h) below = tree_far d i j (omega arith) ∙ parts (apex_in apexes i j) refl ∙ sym (tree_far e i j (omega arith))
        where
          parts : (o : Option ℕ) → apex_in apexes i j ≡ o → branch d i j o ≡ branch e i j o
          parts none q = refl
          parts (some k) q =
              let at = lies b (omega arith) q in
              let left = below i k (omega (arith, at.1)) (omega (arith, at.1)) (part_between (omega arith) (omega (arith, at.1)) b) in
              let right = below k j (omega (arith, at.0)) (omega (arith, at.0)) (part_between (omega (arith, at.0)) (omega arith) b) in
              rw (left, right)

  tree_level : (i j : ℕ) → i + 2 ≤ j → Between apexes i j → tree_in apexes i j ≡ branch (j - i) i j (apex_in apexes i j)
  tree_level i j long b = tree_same (j - i) (suc (j - i)) i j (omega arith) (omega arith) b ∙ tree_far (j - i) i j long

  tree_mark : (i j : ℕ) → i + 2 ≤ j → Between apexes i j → apex_in apexes i j ≡ none → tree_in apexes i j ≡ side
  tree_mark i j long b e = tree_level i j long b ∙ ap (branch (j - i) i j) e

  tree_cut : (i j k : ℕ) → i + 2 ≤ j → Between apexes i j → apex_in apexes i j ≡ some k
      → tree_in apexes i j ≡ cut (tree_in apexes i k) (tree_in apexes k j)
  tree_cut i j k long b e =
      let at = lies b long e in
      let left = tree_same (j - i) (k - i) i k (omega (arith, at.1)) (omega arith) (part_between (omega arith) (omega (arith, at.1)) b) in
      let right = tree_same (j - i) (j - k) k j (omega (arith, at.0)) (omega arith) (part_between (omega (arith, at.0)) (omega arith) b) in
      tree_level i j long b
      ∙ ap (branch (j - i) i j) e
      ∙ ap (λ l. cut l (tree_within (j - i) apexes k j)) left
      ∙ ap (cut (tree_in apexes i k)) right

  -- a tree never spans more than its piece
  span_most : (depth i j : ℕ) → i < j → Between apexes i j → span (tree_within depth apexes i j) ≤ j - i
  unfolding span
  span_most zero i j h b = rw (tree_none i j) (omega arith)
  span_most (suc depth) i j h b = go (dec_lt j (i + 2)) (span_most depth)
    where
      go : Dec (j < i + 2)
          → ((i j : ℕ) → i < j → Between apexes i j → span (tree_within depth apexes i j) ≤ j - i)
          → span (tree_within (suc depth) apexes i j) ≤ j - i
      go (yes near) below = rw (tree_near (suc depth) i j near) (omega arith)
      go (no far) below = rw (tree_far depth i j (omega arith)) (parts (apex_in apexes i j) refl)
        where
          parts : (o : Option ℕ) → apex_in apexes i j ≡ o → span (branch depth i j o) ≤ j - i
          parts none q = omega arith
          parts (some k) q =
              let at = lies b (omega arith) q in
              let left = below i k at.0 (part_between (omega arith) (omega (arith, at.1)) b) in
              let right = below k j at.1 (part_between (omega (arith, at.0)) (omega arith) b) in
              omega (arith, left, right, at.0, at.1)

-- ---- one step of the expansion

no_rows : (site : Site) (i : ℕ) {t : Tri} → t ≡ side → new_rows site i t ≡ []
unfolding new_rows triangles flat_map
no_rows site i e = rw e

-- two neighbours, and a piece with the mark, have no rows
pub near_rows : (site : Site) (apexes : List ℕ) (i j : ℕ) → j < i + 2 → new_rows site i (tree_in apexes i j) ≡ []
near_rows site apexes i j h = no_rows site i (tree_near apexes (j - i) i j h)

module _ {apexes : List ℕ} {i j : ℕ} where
  module _ (b : Between apexes i j) (long : i + 2 ≤ j) {k : ℕ} (is : k ≡ get_or apexes (cell_at i j) 0) where
    pub mark_rows : (site : Site) → k ≡ 0 → new_rows site i (tree_in apexes i j) ≡ []
    unfolding coded_apex
    mark_rows site z = no_rows site i (tree_mark apexes i j long b (ap coded_apex (sym is ∙ z)))

    module _ (low : i < k) (high : k < j) where
      own : apex_in apexes i j ≡ some k
      own = ap coded_apex (sym is) ∙ apex_over_lem k (omega arith)

      module _ (spans : span (tree_in apexes i j) ≡ j - i) where
        both : span (tree_in apexes i k) + span (tree_in apexes k j) ≡ j - i
        unfolding span
        both = sym (ap span (tree_cut apexes i j k long b own)) ∙ spans

        left_most : span (tree_in apexes i k) ≤ k - i
        left_most = span_most apexes (k - i) i k low (part_between (omega arith) (omega arith) b)

        right_most : span (tree_in apexes k j) ≤ j - k
        right_most = span_most apexes (j - k) k j high (part_between (omega arith) (omega arith) b)

        pub left_spans : span (tree_in apexes i k) ≡ k - i
        left_spans = omega (arith, both, left_most, right_most)

        pub right_spans : span (tree_in apexes k j) ≡ j - k
        right_spans = omega (arith, both, left_most, right_most)

        abbrev left : Site → List Row
        left site = new_rows site i (tree_in apexes i k)

        abbrev right : Site → List Row
        right site = new_rows site k (tree_in apexes k j)

        rows_are : (site : Site) → new_rows site i (tree_in apexes i j) ≡ two_rows site (i, k, j) ++ left site ++ right site
        rows_are site =
            let at_k : i + span (tree_in apexes i k) ≡ k = omega (arith, left_spans) in
            let at_j : k + span (tree_in apexes k j) ≡ j = omega (arith, right_spans) in
            ap (new_rows site i) (tree_cut apexes i j k long b own)
            ∙ rw (at_k, at_j) at (rows_cut site i (tree_in apexes i k) (tree_in apexes k j))
            ∙ sym (append_assoc (two_rows site (i, k, j)) (left site) (right site))

        module _ {site : Site} {rim : Rim} {region : ℕ} (rows : SiteRows site rim region i j) where
          pub left_rows : SiteRows site rim region i k
          left_rows =
              record { a = rows.a; b = rows.b; v = λ l s e. rows.v l s (omega arith); own_region = rows.own_region }

          pub right_rows : SiteRows site rim region k j
          right_rows =
              record { a = rows.a; b = rows.b; v = λ l s e. rows.v l (omega arith) e; own_region = rows.own_region }

          two_are : rows_over (two_over rim i k j) region ≡ two_rows site (i, k, j)
          unfolding two_rows
          two_are =
              rw (
                rows.a,
                rows.b,
                rows.v i (omega arith) (omega arith),
                rows.v k (omega arith) (omega arith),
                rows.v j (omega arith) (omega arith),
                rows.own_region,
              )

          -- the tables after the two rows, after the left piece and after the right one
          pub all_written : (table : List ℕ) (at : ℕ) {one two three : List ℕ} {next last : ℕ}
              → one ≡ with_rows table at (rows_over (two_over rim i k j) region)
              → (two ≡ with_rows one (at + 2) (left site)) × (next ≡ at + 2 + length (left site))
              → (three ≡ with_rows two next (right site)) × (last ≡ next + length (right site))
              → rows_at + row_size * last ≤ length table
              → (three ≡ with_rows table at (new_rows site i (tree_in apexes i j)))
              × (last ≡ at + length (new_rows site i (tree_in apexes i j)))
          all_written table at {one} {two} {three} {next} {last} a b c room =
              let pair = rows_over (two_over rim i k j) region in
              let all : pair ++ left site ++ right site ≡ new_rows site i (tree_in apexes i j) = ap (λ rows. rows ++ left site ++ right site) two_are
              ∙ sym (rows_are site) in
              let count = length-append pair (left site) in
              let first : with_rows one (at + 2) (left site) ≡ with_rows table at (pair ++ left site) =
              ap (λ t. with_rows t (at + 2) (left site)) a ∙ with_more table at (at + 2) pair (left site) refl (omega (arith, b.1, c.1)) in (
                c.0
                    ∙ ap (λ t. with_rows t next (right site)) (b.0 ∙ first)
                    ∙ with_more table at next (pair ++ left site) (right site) (omega (arith, b.1)) (omega (arith, c.1))
                    ∙ ap (with_rows table at) all,
                omega (arith, b.1, c.1, length-append (pair ++ left site) (right site), ap length all),
              )
