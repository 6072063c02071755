use Rattle.ded_theory.specs.Eliminations.{eliminated_atoms}
use Rattle.ded_theme.proofs.Turning.{lines-within}
use Rattle.ded_theme.proofs.theory.ThemeTheory.eliminate.Goals as goal

pub returns-clause-lines : goal.returns-clause-lines
returns-clause-lines c = lines-within (eliminated_atoms c.in_ok-eliminate.field-0) _
