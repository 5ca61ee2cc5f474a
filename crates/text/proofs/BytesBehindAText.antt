-- Bytes put behind a text: one byte where there is room, none where there is not; bytes put after bytes are one piece.
use Prim.Native.Nat.{ℕ, suc, ◌+◌, ◌-◌, ◌≤◌, ◌<◌, min}
use mathlib.Core.List.{List, [], ◌∷◌, ◌++◌, append_assoc, append-nil}
use mathlib.Core.Path.{◌≡◌, refl, sym, ap, ap₂, ◌∙◌, subst}
use native.Mathlib.Omega.{arith}
use lib.ListN.{length, set, replicate, length-take, length-append}
use lib.Seq.{take_all, take-append-le}
use Rattle.layout.specs.Layout.{filled}
use Rattle.layout.proofs.BlockParts.{filled_length}
use Rattle.text.specs.declared.Text.{Text}
use Rattle.text.specs.Texts.{text_bytes, text_of}
use Rattle.text.specs.Steps.{held, Behind, Whole}

-- ---- what a text holds

held_size : (front : List ℕ) → (held front).n ≡ min text_bytes (length front)
unfolding held text_of
held_size front = length-take text_bytes front

-- bytes that a text has room for are all held
held_all : (front : List ℕ) → length front ≤ text_bytes → held front ≡ text_of front
unfolding held
held_all front h = ap text_of (take_all text_bytes front h)

pub whole : (bytes : List ℕ) {text : Text} → text ≡ held bytes → length bytes ≤ text_bytes → Whole bytes text
whole bytes e h = (e ∙ held_all bytes h, h)

-- the same bytes, said in another way
pub whole_as : {bytes others : List ℕ} {text : Text} → others ≡ bytes → Whole bytes text → Whole others text
whole_as {text = text} e = subst (λ (xs : List ℕ). Whole xs text) (sym e)

-- the bytes of a text that has room for them all may be lent
pub text_lends : {text : Text} (bytes : List ℕ) → text ≡ text_of bytes → length bytes ≤ text_bytes → text.n ≤ length text.bytes
unfolding text_of
text_lends bytes e h = rw (e, filled_length text_bytes bytes h) h

held_full : (front bytes : List ℕ) → text_bytes ≤ length front → held front ≡ held (front ++ bytes)
unfolding held
held_full front bytes h = ap text_of (sym (take-append-le text_bytes front bytes h))

-- ---- one byte

-- a byte stored behind some bytes, where zeros stand
stored_behind : (front : List ℕ) (k byte : ℕ) → set (front ++ replicate (suc k) 0) (length front) byte ≡ (front ++ byte ∷ []) ++ replicate k 0
stored_behind [] k byte = refl
stored_behind (x ∷ front) k byte = ap (λ (xs : List ℕ). x ∷ xs) (stored_behind front k byte)

stored : (front : List ℕ) (byte : ℕ) → length front < text_bytes
    → set (filled text_bytes front) (length front) byte ≡ filled text_bytes (front ++ byte ∷ [])
stored front byte h =
    let zeros : text_bytes - length front ≡ suc (text_bytes - length (front ++ byte ∷ [])) = omega (arith, length-append front (byte ∷ [])) in
    ap (λ k. set (front ++ replicate k 0) (length front) byte) zeros ∙ stored_behind front (text_bytes - length (front ++ byte ∷ [])) byte

one_more : (text : Text) (byte : ℕ) → text.n < text_bytes → (front : List ℕ) → text ≡ text_of front
    → record { n = text.n + 1; bytes = set text.bytes text.n byte } ≡ held (front ++ byte ∷ [])
unfolding text_of
one_more text byte h front e =
    let size : text.n ≡ length front = ap (λ (t : Text). t.n) e in
    let longer : length (front ++ byte ∷ []) ≡ length front + 1 = length-append front (byte ∷ []) in
    let made : (n : ℕ) (bytes : List ℕ) → Text = λ n bytes. record { n = n; bytes = bytes } in
    rw e (ap₂ made (sym longer) (stored front byte (omega arith)))
    ∙ sym (held_all (front ++ byte ∷ []) (omega arith))

module _ (text : Text) (byte : ℕ) where
  -- a full text stays as it is
  pub byte_dropped : text_bytes ≤ text.n → Behind text (byte ∷ []) text
  byte_dropped h = record {
    put = λ front e. e ∙ held_full front (byte ∷ []) (omega (arith, ap (λ (t : Text). t.n) e, held_size front));
  }

  -- a byte where there is room
  pub byte_put : text.n < text_bytes → Behind text (byte ∷ []) (record { n = text.n + 1; bytes = set text.bytes text.n byte })
  byte_put h = record {
    put = λ front e. one_more text byte h front (e ∙ held_all front (omega (arith, ap (λ (t : Text). t.n) e, held_size front)));
  }

-- ---- bytes after bytes

-- nothing put
pub none_put : (text : Text) → Behind text [] text
none_put text = record { put = λ front e. e ∙ ap held (sym (append-nil front)) }

-- bytes put after others
pub then_put : {text middle after : Text} {xs ys : List ℕ} → Behind text xs middle → Behind middle ys after → Behind text (xs ++ ys) after
then_put {xs = xs} {ys = ys} p q = record { put = λ front e. q.put (front ++ xs) (p.put front e) ∙ ap held (append_assoc front xs ys) }

-- a text of no bytes
pub put_first : {text after : Text} {bytes : List ℕ} → text ≡ held [] → Behind text bytes after → after ≡ held bytes
put_first e p = p.put [] e
