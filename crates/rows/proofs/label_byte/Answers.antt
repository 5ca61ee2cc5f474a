-- `label_byte` writes region and marks as the version says; in version 2 they share a byte.
use native.Mathlib.Omega.{arith}
use borrow.Author.Tests.{eq-eqb, ne_eqb}
use Rattle.rows.specs.Labels.{label_byte}
use Rattle.rows.proofs.label_byte.Goals as goal

pub returns-then-version-eq-PLAIN_VERSION : goal.returns-then-version-eq-PLAIN_VERSION
unfolding label_byte
returns-then-version-eq-PLAIN_VERSION c = rw (eq-eqb _ _ c.if-version-eq-PLAIN_VERSION.true)

pub overflow_add-result : goal.overflow_add-result
overflow_add-result c = omega (arith, c.mark_bits.ensures.1)

pub returns : goal.returns
unfolding label_byte
returns c = rw (ne_eqb _ _ c.if-version-eq-PLAIN_VERSION.false, c.mark_bits.ensures.0)
