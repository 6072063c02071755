use Rattle.ded_cells.proofs.Digits.{decimal_value, decimal_digits}
use Rattle.ded_cells.proofs.laws.decimals.Goals as goal

pub returns-clause-value : goal.returns-clause-value
returns-clause-value c = decimal_value

pub returns-clause-digits : goal.returns-clause-digits
returns-clause-digits c = decimal_digits
