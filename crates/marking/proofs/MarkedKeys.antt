-- The keys of the faces that a row marks, one face after the other.
use Prim.Native.Nat.{ℕ}
use mathlib.Core.Bool.{Bool, true, false, cond}
use mathlib.Core.List.{List, [], ◌∷◌, ◌++◌, map, append_assoc, append-nil}
use mathlib.Core.Path.{◌≡◌, refl, sym, ap, ◌∙◌}
use Rattle.lists.specs.Lists.{those}
use Rattle.rows.specs.declared.Row.{Row}
use Rattle.mesh.specs.Mesh.{Face}
use Rattle.marking.specs.Marking.{marked_faces}
use Rattle.marking.specs.Steps.{key_of, marked_keys}

-- the key of a face, if it is marked
abbrev pub key_if : Bool → Bool → Face → List ℕ
key_if over mark f = cond mark (key_of over f ∷ []) []

-- the first of some faces, then the others
those_next : (over : Bool) (g : Face × Bool) (gs : List (Face × Bool))
    → map (λ g. key_of over g.0) (those (λ g. g.1) (g ∷ gs)) ≡ key_if over g.1 g.0 ++ map (λ g. key_of over g.0) (those (λ g. g.1) gs)
unfolding those
those_next over g gs = go g.1
  where
    go : (b : Bool) → map (λ g. key_of over g.0) (cond b (g ∷ those (λ g. g.1) gs) (those (λ g. g.1) gs))
        ≡ key_if over b g.0 ++ map (λ g. key_of over g.0) (those (λ g. g.1) gs)
    go true = refl
    go false = refl

-- four keys in order
pub keys_four : (over : Bool) (row : Row) (front : List ℕ)
    → (let p = row.p in
    let q = row.q in
    let r = row.r in
    let s = row.s in
    let m = row.marks in
    front ++ key_if over m.qrs (q, r, s) ++ key_if over m.psr (p, s, r) ++ key_if over m.pqs (p, q, s) ++ key_if over m.prq (p, r, q)
    ≡ front ++ marked_keys over row)
unfolding marked_keys marked_faces those
keys_four over row front =
    let p = row.p in
    let q = row.q in
    let r = row.r in
    let s = row.s in
    let m = row.marks in
    let a = key_if over m.qrs (q, r, s) in
    let b = key_if over m.psr (p, s, r) in
    let c = key_if over m.pqs (p, q, s) in
    let d = key_if over m.prq (p, r, q) in
    let none : List (Face × Bool) = [] in
    let e4 : map (λ g. key_of over g.0) (those (λ g. g.1) (((p, r, q), m.prq) ∷ none)) ≡ d =
    those_next over ((p, r, q), m.prq) none ∙ append-nil d in
    let e3 = those_next over ((p, q, s), m.pqs) (((p, r, q), m.prq) ∷ none) ∙ ap (λ xs. c ++ xs) e4 in
    let e2 = those_next over ((p, s, r), m.psr) (((p, q, s), m.pqs) ∷ ((p, r, q), m.prq) ∷ none) ∙ ap (λ xs. b ++ xs) e3 in
    let e1 = those_next over ((q, r, s), m.qrs) (((p, s, r), m.psr) ∷ ((p, q, s), m.pqs) ∷ ((p, r, q), m.prq) ∷ none) ∙ ap (λ xs. a ++ xs) e2 in
    append_assoc (front ++ a ++ b) c d
    ∙ append_assoc (front ++ a) b (c ++ d)
    ∙ append_assoc front a (b ++ (c ++ d))
    ∙ ap (λ xs. front ++ xs) (sym e1)
