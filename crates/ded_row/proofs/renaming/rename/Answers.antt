use Rattle.std.proofs.Common.{◌≡◌, ap, sym, ◌∙◌}
use Rattle.std.specs.Int.{w128}
use Rattle.std.proofs.lemmas.Int.{to_z-of_z, fits_signed_from_abs}
use Rattle.ded_model.specs.Row.{row_holds, row_mentions}
use Rattle.ded_model.specs.Normal.{normal_row}
use Rattle.ded_model.specs.Renaming.{renamed}
use Rattle.ded_model.specs.Lines.{row_lines}
use Rattle.ded_row.specs.Renaming.{renamed_row}
use Rattle.ded_row.proofs.Targets.{renamed-holds, renamed_only, renamed_mentions, renamed_row_is}
use Rattle.ded_row.proofs.RenamedLines.{renamed-lines}
use Rattle.ded_row.proofs.renaming.rename.Goals as goal
use Rattle.ded_row.proofs.renaming.rename.Goals.{After-normal}

-- the row's normal form at the new slots
value : (c : After-normal) → c.normal.result ≡ normal_row (renamed_row c.args.map.now c.args.row.now)
value c =
    c.normal.ensures.value
    ∙ ap normal_row (renamed_row_is c.args.map.now _ c.args.row.now c.in_ok-coefs.coefs _ c.in_ok-coefs.ensures.value (to_z-of_z w128 c.row.inside.constant (fits_signed_from_abs w128 _ c.row.invariant)) c.row.view_is)

pub returns-clause-alike : goal.returns-clause-alike
returns-clause-alike c = λ p q h n. ap (λ r. row_holds r q) (value c) ∙ renamed-holds c.args.map.now c.args.row.now p q c.requires.one c.in_ok-coefs.ensures.coefs h n

pub returns-clause-mentions : goal.returns-clause-mentions
returns-clause-mentions c = λ s e. ap (λ r. row_mentions r (renamed c.args.map.now s)) (value c) ∙ renamed_mentions c.args.map.now c.args.row.now s c.requires.one c.in_ok-coefs.ensures.coefs e

pub returns-clause-only : goal.returns-clause-only
returns-clause-only c = λ t e. renamed_only c.args.map.now c.args.row.now t (ap (λ r. row_mentions r t) (sym (value c)) ∙ e)

pub returns-clause-lines : goal.returns-clause-lines
returns-clause-lines c = ap row_lines (value c) ∙ renamed-lines c.args.map.now c.args.row.now c.in_ok-coefs.ensures.coefs
