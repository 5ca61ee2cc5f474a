-- A text: bytes in the front of an array of 512.
use Rattle.std.specs.Prelude.{ℕ, List, length}
use Rattle.layout.specs.Layout.{filled}
use Rattle.text.specs.declared.Text.{Text}

-- a text holds at most 512 bytes
abbrev pub text_bytes : ℕ
text_bytes = 512

-- some bytes as a text: how many they are, and the bytes with zeros behind them
unfoldable pub text_of : List ℕ → Text
text_of bytes = record { n = length bytes; bytes = filled text_bytes bytes }
