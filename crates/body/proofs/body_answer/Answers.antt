-- Each answer is what the tests that led to it decide; they are met on the way from the answer's place back to the start.
use mathlib.Core.Path.{ap}
use mathlib.Core.Bool.{Bool, true, false, not}
use mathlib.Core.Path.{◌≡◌, sym, ◌∙◌}
use borrow.Author.Tests.{not-true, not-false}
use Rattle.body.proofs.BodyAnswers.{refused_3, refused_4_points, refused_4_rows, refused_5, refused_7, refused_8}
use Rattle.body.proofs.BodyAnswers.{refused_22, all_right}
use Rattle.body.proofs.body_answer.Goals as goal

told_no : {b : Bool} (r : Bool) → r ≡ b → not r ≡ true → b ≡ false
told_no r e h = sym e ∙ not-true r h

told_yes : {b : Bool} (r : Bool) → r ≡ b → not r ≡ false → b ≡ true
told_yes r e h = sym e ∙ not-false r h

pub returns-then-not-is_version : goal.returns-then-not-is_version
returns-then-not-is_version c = refused_3 c.args.block.now (told_no c.is_version.result c.is_version.ensures (ap not c.if-not-is_version.true))

pub returns-then-block-gt-MAX_POINTS : goal.returns-then-block-gt-MAX_POINTS
returns-then-block-gt-MAX_POINTS c =
    refused_4_points c.args.block.now (told_yes c.is_version.result c.is_version.ensures (ap not c.if-not-is_version.false)) c.if-block-gt-MAX_POINTS.true

pub returns-then-block-gt-MAX_ROWS : goal.returns-then-block-gt-MAX_ROWS
returns-then-block-gt-MAX_ROWS c =
    refused_4_rows c.args.block.now (told_yes c.is_version.result c.is_version.ensures (ap not c.if-not-is_version.false)) c.if-block-gt-MAX_POINTS.false c.if-block-gt-MAX_ROWS.true

pub returns-then-zero_missing : goal.returns-then-zero_missing
returns-then-zero_missing c =
    refused_5
    c.args.block.now
    (told_yes c.is_version.result c.is_version.ensures (ap not c.if-not-is_version.false))
    c.if-block-gt-MAX_POINTS.false
    c.if-block-gt-MAX_ROWS.false
    (sym c.zero_missing.ensures ∙ c.if-zero_missing.true)

pub returns-then-number_wrong : goal.returns-then-number_wrong
returns-then-number_wrong c =
    refused_7
    c.args.block.now
    (told_yes c.is_version.result c.is_version.ensures (ap not c.if-not-is_version.false))
    c.if-block-gt-MAX_POINTS.false
    c.if-block-gt-MAX_ROWS.false
    (sym c.zero_missing.ensures ∙ c.if-zero_missing.false)
    (sym c.number_wrong.ensures ∙ c.if-number_wrong.true)

pub returns-then-face_twice : goal.returns-then-face_twice
returns-then-face_twice c =
    refused_8
    c.args.block.now
    (told_yes c.is_version.result c.is_version.ensures (ap not c.if-not-is_version.false))
    c.if-block-gt-MAX_POINTS.false
    c.if-block-gt-MAX_ROWS.false
    (sym c.zero_missing.ensures ∙ c.if-zero_missing.false)
    (sym c.number_wrong.ensures ∙ c.if-number_wrong.false)
    (sym c.face_twice.ensures ∙ c.if-face_twice.true)

pub returns-then-marks_disagree : goal.returns-then-marks_disagree
returns-then-marks_disagree c =
    refused_22
    c.args.block.now
    (told_yes c.is_version.result c.is_version.ensures (ap not c.if-not-is_version.false))
    c.if-block-gt-MAX_POINTS.false
    c.if-block-gt-MAX_ROWS.false
    (sym c.zero_missing.ensures ∙ c.if-zero_missing.false)
    (sym c.number_wrong.ensures ∙ c.if-number_wrong.false)
    (sym c.face_twice.ensures ∙ c.if-face_twice.false)
    (sym c.marks_disagree.ensures ∙ c.if-marks_disagree.true)

pub returns : goal.returns
returns c =
    all_right
    c.args.block.now
    (told_yes c.is_version.result c.is_version.ensures (ap not c.if-not-is_version.false))
    c.if-block-gt-MAX_POINTS.false
    c.if-block-gt-MAX_ROWS.false
    (sym c.zero_missing.ensures ∙ c.if-zero_missing.false)
    (sym c.number_wrong.ensures ∙ c.if-number_wrong.false)
    (sym c.face_twice.ensures ∙ c.if-face_twice.false)
    (sym c.marks_disagree.ensures ∙ c.if-marks_disagree.false)
