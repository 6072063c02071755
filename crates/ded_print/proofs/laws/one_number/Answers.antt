use Rattle.std.proofs.Common.{refl}
use Rattle.ded_print.specs.Numbers.{number_text}
use Rattle.ded_print.proofs.Numerals.{number_value, number_numeral, number_leads, count_is}
use Rattle.ded_print.proofs.laws.one_number.Goals as goal

pub returns-clause-value : goal.returns-clause-value
returns-clause-value c = number_value

pub returns-clause-digits : goal.returns-clause-digits
returns-clause-digits c = number_numeral

pub returns-clause-leading : goal.returns-clause-leading
returns-clause-leading c = number_leads

pub returns-clause-zero : goal.returns-clause-zero
unfolding number_text
returns-clause-zero c = refl

pub returns-clause-counts : goal.returns-clause-counts
returns-clause-counts c = count_is
