-- What even rearrangements of a row keep of its faces, and that they keep it proper: both moves do, so all twelve do.
use Prim.Native.Nat.{ℕ}
use mathlib.Core.Path.{◌≡◌, sym}
use lib.Dec.{T}
use Rattle.rows.specs.declared.Row.{Row}
use Rattle.rows.specs.Tetrahedra.{rearranged}
use Rattle.rows.proofs.EvenMoves.{spin, cross, moved, even_test}
use Rattle.mesh.specs.Mesh.{Face, uses, numbers_fit, Proper}
use Rattle.mesh.proofs.TurnedFaces.{on, back, turned_trans, FaceOf, no_p, no_q, no_r, no_s, uses_face, face_uses}
use Rattle.mesh.proofs.MeshRuleStated.{fit_proper, proper_fits}

-- the faces of a row

spin_face : {f : Face} {t : Row} → FaceOf f t → FaceOf f (spin t)
spin_face (no_p e) = no_p (turned_trans e back)
spin_face (no_q e) = no_s e
spin_face (no_r e) = no_q e
spin_face (no_s e) = no_r e

cross_face : {f : Face} {t : Row} → FaceOf f t → FaceOf f (cross t)
cross_face (no_p e) = no_q e
cross_face (no_q e) = no_p e
cross_face (no_r e) = no_s (turned_trans e back)
cross_face (no_s e) = no_r (turned_trans e on)

-- an even rearrangement uses the same faces
pub even_uses : (t u : Row) → T (rearranged t u) → (f : Face) → uses f t ≡ uses f u
even_uses t u e f =
    even_test (uses f) (λ t h. face_uses f (spin t) (spin_face (uses_face f t h)))
    (λ t h. face_uses f (cross t) (cross_face (uses_face f t h))) t u e

-- an even rearrangement is proper exactly when the row is

spin_proper : (count : ℕ) (t : Row) → Proper count t → Proper count (spin t)
spin_proper count t h = record {
  below_p = h.below_p;
  below_q = h.below_r;
  below_r = h.below_s;
  below_s = h.below_q;
  p_q = h.p_r;
  p_r = h.p_s;
  p_s = h.p_q;
  q_r = h.r_s;
  q_s = λ e. h.q_r (sym e);
  r_s = λ e. h.q_s (sym e);
}

cross_proper : (count : ℕ) (t : Row) → Proper count t → Proper count (cross t)
cross_proper count t h = record {
  below_p = h.below_q;
  below_q = h.below_p;
  below_r = h.below_s;
  below_s = h.below_r;
  p_q = λ e. h.p_q (sym e);
  p_r = h.q_s;
  p_s = h.q_r;
  q_r = h.p_s;
  q_s = h.p_r;
  r_s = λ e. h.r_s (sym e);
}

pub even_proper : (count : ℕ) (t u : Row) → T (rearranged t u) → Proper count u → Proper count t
even_proper count t u e h = moved (Proper count) (spin_proper count) (cross_proper count) t u e h

pub even_fits : (count : ℕ) (t u : Row) → T (rearranged t u) → numbers_fit count t ≡ numbers_fit count u
even_fits count t u e = even_test (numbers_fit count) (on spin (spin_proper count)) (on cross (cross_proper count)) t u e
  where
    on : (move : Row → Row) → ((t : Row) → Proper count t → Proper count (move t)) → (t : Row) → T (numbers_fit count t)
        → T (numbers_fit count (move t))
    on move f t h = proper_fits count (move t) (f t (fit_proper count t h))
