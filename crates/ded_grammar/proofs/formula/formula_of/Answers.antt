use Rattle.std.proofs.Common.{refl}
use Rattle.ded_grammar.proofs.Levels.{not_read}
use Rattle.ded_grammar.proofs.Told.{read_deep, read_right}
use Rattle.ded_grammar.proofs.formula.formula_of.Goals as goal

pub returns-in-Ok-clause-built : goal.returns-in-Ok-clause-built
returns-in-Ok-clause-built c = read_right _ _ c.requires c.in-Ok.ensures.read

pub returns-in-Err-NotRead-clause-refused : goal.returns-in-Err-NotRead-clause-refused
returns-in-Err-NotRead-clause-refused c = λ other. (refl, read_deep _ c.requires (not_read _ _ c.in-Err-NotRead.field-0-is c.in-Err-NotRead.ensures.read))
