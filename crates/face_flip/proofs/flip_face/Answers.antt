-- `flip_face` tests the numbers of the face; what is left is the flip of a face with right numbers.
use Prim.Native.Nat.{ℕ, ◌<◌}
use mathlib.Core.List.{[], ◌∷◌, Memᴰ}
use mathlib.Core.Path.{refl}
use native.Mathlib.Omega.{arith}
use Rattle.tally.proofs.OpensMeasured.{block_size, few_points}
use Rattle.face_flip.proofs.FaceGiven.{is_9, face_given, numbers_below}
use Rattle.face_flip.proofs.flip_face.Goals as goal

pub bounds-block-1 : goal.bounds-block-1
bounds-block-1 c =
    omega (arith, block_size c.args.block.now c.requires.0)

pub overflow_cast-block : goal.overflow_cast-block
overflow_cast-block c = omega (arith, c.type_inv.block 1)

pub returns-then-face_wrong : goal.returns-then-face_wrong
returns-then-face_wrong c =
    let a = c.args in
    let both =
    is_9 a.block.now a.out.now a.x a.y a.z c.requires.0 c.requires.1 c.face_wrong.result
    c.face_wrong.ensures c.if-face_wrong.true in
    record { answer = both.0; bytes = both.1 }

pub overflow_cast-x : goal.overflow_cast-x
overflow_cast-x c = omega (arith, (let it : (n : ℕ) → Memᴰ n (let a = c.args in a.x ∷ a.y ∷ a.z ∷ []) → n < 256 = λ n m. let a = c.args in omega (arith, few_points a.block.now c.requires.0, numbers_below a.block.now a.out.now a.x a.y a.z c.requires.0 c.requires.1 c.face_wrong.result c.face_wrong.ensures c.if-face_wrong.false n m) in it) _ (Memᴰ.head refl))

pub overflow_cast-y : goal.overflow_cast-y
overflow_cast-y c = omega (arith, (let it : (n : ℕ) → Memᴰ n (let a = c.args in a.x ∷ a.y ∷ a.z ∷ []) → n < 256 = λ n m. let a = c.args in omega (arith, few_points a.block.now c.requires.0, numbers_below a.block.now a.out.now a.x a.y a.z c.requires.0 c.requires.1 c.face_wrong.result c.face_wrong.ensures c.if-face_wrong.false n m) in it) _ (Memᴰ.tail (Memᴰ.head refl)))

pub overflow_cast-z : goal.overflow_cast-z
overflow_cast-z c = omega (arith, (let it : (n : ℕ) → Memᴰ n (let a = c.args in a.x ∷ a.y ∷ a.z ∷ []) → n < 256 = λ n m. let a = c.args in omega (arith, few_points a.block.now c.requires.0, numbers_below a.block.now a.out.now a.x a.y a.z c.requires.0 c.requires.1 c.face_wrong.result c.face_wrong.ensures c.if-face_wrong.false n m) in it) _ (Memᴰ.tail (Memᴰ.tail (Memᴰ.head refl))))

pub flip_right-requires : goal.flip_right-requires
flip_right-requires c =
    let a = c.args in
    face_given a.block.now a.out.now a.x a.y a.z c.requires.0 c.requires.1 c.face_wrong.result
    c.face_wrong.ensures c.if-face_wrong.false
