-- What only contracts of inner functions and proofs say: bytes put behind those of a text, and a text that holds all of some bytes.
use Rattle.std.specs.Prelude.{ℕ, ◌≤◌, List, ◌++◌, ◌≡◌, length, take}
use Rattle.text.specs.declared.Text.{Text}
use Rattle.text.specs.Texts.{text_bytes, text_of}

-- as many of some bytes as a text holds
unfoldable pub held : List ℕ → Text
held bytes = text_of (take text_bytes bytes)

-- Some bytes are put behind those of a text, as many as there is room for.
pub record Behind (text : Text) (bytes : List ℕ) (after : Text) : Type 0 where
  pub put : (front : List ℕ) → text ≡ held front → after ≡ held (front ++ bytes)

-- a text holds some bytes, and has room for them all
abbrev pub Whole : List ℕ → Text → Type 0
Whole bytes text = (text ≡ text_of bytes) × (length bytes ≤ text_bytes)
