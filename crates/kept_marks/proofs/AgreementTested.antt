-- Both rows at a face agree: the test is the statement. The test looks at the four faces of every row, and a face that a row uses is one
-- of them, turned. The other way the numbers of a row must be different, or two of its faces could be one.
use mathlib.Core.Bool.{Bool, true, false, not, ◌||◌, beq}
use mathlib.Core.List.{List, Memᴰ, flat_map}
use mathlib.Core.Path.{◌≡◌, refl, sym, ◌∙◌, subst}
use lib.Dec.{T}
use Rattle.lists.specs.Lists.{every}
use Rattle.lists.proofs.Tests.{or_r, same_test}
use Rattle.lists.proofs.Lists.{every_at, every_i}
use Rattle.lists.proofs.Images.{flat_map_i, flat_map_e}
use Rattle.rows.specs.declared.Row.{Row}
use Rattle.mesh.specs.Mesh.{Face, same_face, reversed}
use Rattle.mesh.proofs.TurnedFaces.{uses_turned, Turned, same_turned, turned_same, turned_sym, turned_trans, turned_reversed}
use Rattle.marking.specs.Marking.{marked_faces, marks, agree}
use Rattle.kept_marks.specs.Replacing.{AllDifferent, Agree}
use Rattle.kept_marks.proofs.MarksOfRows.{marks_e, marks_i, uses_marked, marked_uses, marks_turned, mark_at_lem}

-- a face and another, the same the other way round, are both marked or neither is
meets : Face × Bool → Face × Bool → Bool
meets g h = beq g.1 h.1 || not (same_face (reversed g.0) h.0)

meets_e : (g h : Face × Bool) → T (meets g h) → Turned (reversed g.0) h.0 → g.1 ≡ h.1
unfolding meets
meets_e g h k e = go (same_face (reversed g.0) h.0) (turned_same _ _ e) g.1 h.1 k
  where
    go : (a : Bool) → T a → (b c : Bool) → T (beq b c || not a) → b ≡ c
    go true h true true k = refl
    go true h true false k = absurd k
    go true h false true k = absurd k
    go true h false false k = refl
    go false h b c k = absurd h

meets_i : (g h : Face × Bool) → (Turned (reversed g.0) h.0 → g.1 ≡ h.1) → T (meets g h)
unfolding meets
meets_i g h k = go (same_face (reversed g.0) h.0) g.1 h.1 (λ s. k (same_turned _ _ s))
  where
    go : (a b c : Bool) → (T a → b ≡ c) → T (beq b c || not a)
    go false b c e = or_r (beq b c) true tt
    go true true c e = rw (sym (e tt)) tt
    go true false c e = rw (sym (e tt)) tt

pub agree_stated : (rows : List Row) → T (agree rows) → Agree rows
unfolding agree meets
agree_stated rows h t u mt mu f used met =
    let all = flat_map marked_faces rows in
    let same : (g h : Face × Bool) → Memᴰ g (marked_faces t) → Memᴰ h (marked_faces u)
    → Turned f g.0 → Turned (reversed f) h.0 → g.1 ≡ h.1 =
    λ g k mg mk e d. meets_e g k
    (every_at (meets g) all (every_at (λ g. every (meets g) all) all h (flat_map_i marked_faces rows mt mg))
    (flat_map_i marked_faces rows mu mk))
    (turned_trans (turned_sym (turned_reversed e)) d) in
    same_test (marks f t) (marks (reversed f) u)
    (λ marked.
    let g = marks_e f t marked in
    let k = uses_marked (reversed f) u met in
    marks_i (reversed f) k.0 u k.1 k.2 (subst T (same g.0 k.0 g.1 k.1 g.2 k.2) g.3))
    (λ marked.
    let k = marks_e (reversed f) u marked in
    let g = uses_marked f t used in
    marks_i f g.0 t g.1 g.2 (subst T (sym (same g.0 k.0 g.1 k.1 g.2 k.2)) k.3))

pub agree_tested : (rows : List Row) → Agree rows → AllDifferent rows → T (agree rows)
unfolding agree meets
agree_tested rows h apart =
    let all = flat_map marked_faces rows in
    every_i (λ g. every (meets g) all) all λ g mg.
    every_i (meets g) all λ k mk.
    let t = flat_map_e marked_faces rows mg in
    let u = flat_map_e marked_faces rows mk in
    meets_i g k λ e. go g k t.0 u.0 t.1 u.1 t.2 u.2 e
  where
    go : (g k : Face × Bool) (t u : Row) → Memᴰ t rows → Memᴰ u rows → Memᴰ g (marked_faces t) → Memᴰ k (marked_faces u)
        → Turned (reversed g.0) k.0 → g.1 ≡ k.1
    go g k t u mt mu mg mk e =
        sym (mark_at_lem t (apart t mt) g mg)
        ∙ h t u mt mu g.0 (marked_uses g t mg) (rw (uses_turned _ _ u e) (marked_uses k u mk))
        ∙ marks_turned _ _ u e ∙ mark_at_lem u (apart u mu) k mk
