use Rattle.std.proofs.Common.{sym, subst}
use Rattle.ded_model.specs.declared.tuple.BothAtom.TheVariants.{First}
use Rattle.ded_model.specs.Row.{theme_holds, theme_mentions}
use Rattle.ded_atoms.specs.Reading.{StandsFor}
use Rattle.ded_atoms.proofs.RowsRead.{first_stands, second_stands}
use Rattle.ded_atoms.proofs.rows.BothThemeOfTuples.read.Goals as goal

pub returns-in_ok-from_row-in-First-clause-stands : goal.returns-in_ok-from_row-in-First-clause-stands
returns-in_ok-from_row-in-First-clause-stands g c =
    subst (StandsFor _ _ _ _) (sym c.in-First.is) (first_stands g.N.Theory.holds theme_holds g.N.Theory.mentions theme_mentions g.N.Theory.lines _ c.in_ok-from_row-in-First.field-0 (First c.in-First.row) c.in_ok-from_row-in-First.ensures.stands)

pub returns-in_ok-copy-in-Second-clause-stands : goal.returns-in_ok-copy-in-Second-clause-stands
returns-in_ok-copy-in-Second-clause-stands g c =
    subst (StandsFor _ _ _ _) (sym c.in-Second.is) (second_stands g.N.Theory.holds g.N.Theory.mentions g.N.Theory.lines _ c.in_ok-copy-in-Second.field-0 c.in-Second.theme (λ x i. i) c.in_ok-copy-in-Second.ensures)
