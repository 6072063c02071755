use Rattle.ded_width.proofs.Longest.{longest}
use Rattle.ded_width.proofs.ShortLines.{formula_length, formula_short_lines}
use Rattle.ded_width.proofs.laws.short_lines.Goals as goal

pub returns-clause-longest : goal.returns-clause-longest
returns-clause-longest c = longest

pub returns-clause-lengths : goal.returns-clause-lengths
returns-clause-lengths c = formula_length

pub returns-clause-short : goal.returns-clause-short
returns-clause-short c = formula_short_lines
