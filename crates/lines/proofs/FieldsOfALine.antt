-- Fields put after fields are one line.
use Prim.Native.Nat.{ℕ}
use mathlib.Core.List.{List, [], ◌∷◌, ◌++◌, map, flat_map, append_assoc, append-nil}
use mathlib.Core.Path.{◌≡◌, sym}
use Rattle.text.specs.declared.Text.{Text}
use Rattle.text.specs.Decimal.{decimal}
use Rattle.text.specs.Steps.{Behind}
use Rattle.text.proofs.BytesBehindAText.{then_put}
use Rattle.lines.specs.Lines.{spaced, line_end, ended}

-- the end of a line after no field
pub end_put : {text after : Text} → Behind text line_end after → Behind text (ended []) after
unfolding ended flat_map
end_put p = p

-- a field, and then the others with the end of the line
pub field_put : (field : List ℕ) (fields : List (List ℕ)) {text middle after : Text} → Behind text (spaced field) middle
    → Behind middle (ended fields) after → Behind text (ended (field ∷ fields)) after
unfolding ended flat_map
field_put field fields p q = rw append_assoc (then_put p q)

-- the fields, and then the end of the line
pub fields_put : (fields : List (List ℕ)) {text middle after : Text} → Behind text (flat_map spaced fields) middle
    → Behind middle line_end after → Behind text (ended fields) after
unfolding ended
fields_put fields p q = then_put p q

-- one number more among the fields
pub fields_more : (ns : List ℕ) (n : ℕ)
    → flat_map spaced (map decimal (ns ++ n ∷ [])) ≡ flat_map spaced (map decimal ns) ++ spaced (decimal n)
unfolding flat_map
fields_more [] n = append-nil (spaced (decimal n))
fields_more (k ∷ ns) n =
    rw (fields_more ns n) (sym (append_assoc (spaced (decimal k)) (flat_map spaced (map decimal ns)) (spaced (decimal n))))
