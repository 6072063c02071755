-- Two tuples of which the rows hold somewhere, and the texts do, have a common point.
use Rattle.std.proofs.Common.{List, [], ◌++◌, ◌∙◌}
use Rattle.ded_model.specs.Cell.{conj_holds, HoldsSomewhere}
use Rattle.ded_model.specs.Normal.{IsNormalTheme, IsNormalTuple}
use Rattle.ded_model.specs.Row.{Atom, row_holds, row_mentions, theme_holds, theme_mentions, tuple_holds}
use Rattle.ded_model.specs.Lines.{row_lines}
use Rattle.ded_theory.specs.declared.answers.Verdict.TheVariants.{Inhabited}
use Rattle.ded_theory.specs.Both.{firsts, seconds}
use Rattle.ded_theory.proofs.PartLaws.{verdicts_joined}
use Rattle.ded_theory.proofs.TwoKinds.{parts_normal}
use Rattle.ded_theme.proofs.Shared.{text_laws}
use Rattle.ded_elimination.specs.LinearAtoms.{IsLinearAtom}
use Rattle.ded_linear.proofs.Shared.{row_laws}
use Rattle.ded_cert.proofs.Halves.{tuple_is}
use Rattle.ded_cert.proofs.Parts.{linear_rows, normal_texts}

pub common_point : (t u : List Atom) → IsNormalTuple t → IsNormalTuple u → HoldsSomewhere (conj_holds row_holds (firsts (t ++ u))) → HoldsSomewhere (conj_holds theme_holds (seconds (t ++ u))) → HoldsSomewhere (tuple_holds (t ++ u))
common_point t u n m h k =
    let w =
    verdicts_joined row_holds row_mentions row_lines IsLinearAtom row_laws theme_holds theme_mentions (λ a. []) IsNormalTheme text_laws (t ++ u)
    (parts_normal IsLinearAtom IsNormalTheme (t ++ u) (linear_rows t u n m) (normal_texts t u n m)) Inhabited Inhabited h k in
    (w.0, w.1, tuple_is (t ++ u) w.0 ∙ w.2)
