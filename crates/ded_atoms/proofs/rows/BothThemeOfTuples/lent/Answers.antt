use Rattle.ded_model.specs.declared.tuple.BothAtom.TheVariants.{First}
use Rattle.ded_model.specs.Row.{theme_holds, theme_mentions}
use Rattle.ded_atoms.proofs.RowsRead.{first_lent, second_lent}
use Rattle.ded_atoms.proofs.rows.BothThemeOfTuples.lent.Goals as goal

pub returns-in-First : goal.returns-in-First
returns-in-First g c = first_lent g.N.Theory.holds theme_holds g.N.Theory.mentions theme_mentions g.N.Theory.lines _ c.args.atom.now c.in-First.row (First c.row.result.now) c.in-First.is c.row.ensures

pub returns-in-Second : goal.returns-in-Second
returns-in-Second g c = second_lent g.N.Theory.holds g.N.Theory.mentions g.N.Theory.lines _ c.args.atom.now c.in-Second.theme c.in-Second.is (λ x i. i)
