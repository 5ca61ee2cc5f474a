-- The region of some rows. The test for more than one is the statement; where they have one, it is that of each of them; and rows that have
-- the regions of others are mixed exactly if those are, and have the same region.
use Prim.Native.Nat.{ℕ}
use mathlib.Core.Bool.{Bool, true, false, not}
use mathlib.Core.List.Memᴰ
use mathlib.Core.List.{List, [], ◌∷◌, map, Memᴰ}
use mathlib.Core.Option.{Option, none, some, get_or}
use mathlib.Core.Path.{◌≡◌, refl, sym, ap, ◌∙◌, subst}
use lib.Dec.{T, eqb, eqb→eq, T_not, not_T}
use Rattle.lists.specs.Lists.{every, any, first, first_or}
use Rattle.lists.proofs.Tests.{same_test, no_is, eq_test}
use Rattle.lists.proofs.Lists.{every_at, every_i, any_i, any_e, first_some, first_found}
use Rattle.lists.proofs.Places.{in_cases}
use Rattle.rows.specs.declared.Row.{Row}
use Rattle.rows.specs.Regions.{in_region, region_of, mixed, OneRegion}

-- two rows with different regions
pub mixed_i : (rows : List Row) {s t : Row} → Memᴰ s rows → Memᴰ t rows → (t.region ≡ s.region → ⊥) → T (mixed rows)
unfolding mixed
mixed_i rows {s} {t} k i apart =
    any_i (λ (row : Row). any (λ other. not (in_region row.region other)) rows) rows k
    (any_i (λ other. not (in_region s.region other)) rows i (not_T (in_region s.region t) (λ e. apart (eqb→eq t.region s.region e))))

pub mixed_e : (rows : List Row) → T (mixed rows) → (s t : Row) × Memᴰ s rows × Memᴰ t rows × (t.region ≡ s.region → ⊥)
unfolding mixed
mixed_e rows h =
    let (s, k, another) = any_e (λ (row : Row). any (λ other. not (in_region row.region other)) rows) rows h in
    let (t, i, apart) = any_e (λ other. not (in_region s.region other)) rows another in
    (s, t, k, i, λ e. T_not (in_region s.region t) apart (eq_test t.region s.region e))

-- the test is the statement
pub one_region : (rows : List Row) → mixed rows ≡ false → OneRegion rows
one_region rows e s t k i = go (eqb t.region s.region) refl
  where
    go : (b : Bool) → eqb t.region s.region ≡ b → s.region ≡ t.region
    go true q = sym (eqb→eq t.region s.region (subst T (sym q) tt))
    go false q = absurd (subst T e (mixed_i rows k i (λ r. subst T q (eq_test t.region s.region r))))

pub not_mixed : (rows : List Row) → OneRegion rows → mixed rows ≡ false
not_mixed rows one = no_is (mixed rows) (not_T (mixed rows) (λ h. let (s, t, k, i, apart) = mixed_e rows h in apart (one t s i k)))

-- each of them has region g
abbrev pub AllIn : ℕ → List Row → Type 0
AllIn g rows = (row : Row) → Memᴰ row rows → row.region ≡ g

pub all_none : (g : ℕ) → AllIn g []
all_none g row k = absurd (Memᴰ.not-nil k)

pub all_cons : {g : ℕ} {row : Row} {rows : List Row} → row.region ≡ g → AllIn g rows → AllIn g (row ∷ rows)
all_cons own all t k = in_cases k (λ e. ap (λ (row : Row). row.region) e ∙ own) (all t)

pub all_one : (g : ℕ) (rows : List Row) → AllIn g rows → OneRegion rows
all_one g rows all s t k i = all s k ∙ sym (all t i)

-- the region of all of them is that of each
pub region_is : (rows : List Row) → OneRegion rows → {row : Row} → Memᴰ row rows → region_of rows ≡ row.region
unfolding region_of
region_is rows one {row} k =
    let shared : ℕ → Bool = λ g. every (in_region g) rows in
    let all = map (λ (r : Row). r.region) rows in
    let own : T (shared row.region) = every_i (in_region row.region) rows (λ r i. eq_test r.region row.region (one r row i k)) in
    let found = first_found 0 shared all (any_i shared all (Memᴰ.map (λ (r : Row). r.region) k) own) in
    sym (eqb→eq row.region (first_or 0 shared all) (every_at (in_region (first_or 0 shared all)) rows found.1 k))

-- ---- rows that have the regions of others

-- each has the region of one of the others
abbrev pub Among : List Row → List Row → Type 0
Among rows others = (row : Row) → Memᴰ row rows → (other : Row) × Memᴰ other others × (row.region ≡ other.region)

mixed_too : (rows others : List Row) → Among rows others → T (mixed rows) → T (mixed others)
mixed_too rows others among h =
    let (s, t, k, i, apart) = mixed_e rows h in
    let (s', k', e) = among s k in
    let (t', i', f) = among t i in
    mixed_i others k' i' (λ q. apart (f ∙ q ∙ sym e))

pub mixed_same : (rows others : List Row) → Among rows others → Among others rows → mixed rows ≡ mixed others
mixed_same rows others there back = same_test (mixed rows) (mixed others) (mixed_too rows others there) (mixed_too others rows back)

-- the region that each of them has, if there is one
abbrev shared : List Row → Option ℕ
shared rows = first (λ g. every (in_region g) rows) (map (λ (row : Row). row.region) rows)

region_too : (rows others : List Row) → Among rows others → Among others rows → {g : ℕ} → shared rows ≡ some g → region_of others ≡ g
region_too rows others there back {g} e =
    let (k, all) = first_some (λ g. every (in_region g) rows) (map (λ (row : Row). row.region) rows) e in
    let (row, i, own) = Memᴰ.of_map (λ (row : Row). row.region) rows k in
    let (other, j, same) = there row i in
    let each : AllIn g others = λ t l. let (r, n, q) = back t l in q ∙ eqb→eq r.region g (every_at (in_region g) rows all n) in
    region_is others (all_one g others each) j ∙ each other j

pub region_same : (rows others : List Row) → Among rows others → Among others rows → region_of rows ≡ region_of others
unfolding region_of
region_same rows others there back = go (shared rows) refl (shared others) refl
  where
    is : (rows : List Row) {o : Option ℕ} → shared rows ≡ o → region_of rows ≡ get_or o 0
    is rows e = ap (λ o. get_or o 0) e

    go : (o : Option ℕ) → shared rows ≡ o → (p : Option ℕ) → shared others ≡ p → region_of rows ≡ region_of others
    go (some g) e p f = is rows e ∙ sym (region_too rows others there back e)
    go none e (some h) f = region_too others rows back there f ∙ sym (is others f)
    go none e none f = is rows e ∙ sym (is others f)
