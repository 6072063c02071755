use Rattle.ded_run.proofs.Parsing.{Limit, Make, no_fault, reads_value}
use Rattle.ded_run.proofs.words.values_in.Goals as goal

pub returns-in-Ok-clause-none : goal.returns-in-Ok-clause-none
returns-in-Ok-clause-none c = no_fault _ _ c.in_ok-command.ensures c.in-Ok.ensures.kinds

pub returns-in-Ok-clause-limit : goal.returns-in-Ok-clause-limit
returns-in-Ok-clause-limit c = reads_value Limit _ _ c.in-Ok.matches _ c.in_ok-command.ensures c.in-Ok.ensures.matches c.get_str.ensures

pub returns-in-Ok-clause-size : goal.returns-in-Ok-clause-size
returns-in-Ok-clause-size c = reads_value Make _ _ c.in-Ok.matches _ c.in_ok-command.ensures c.in-Ok.ensures.matches c.get_str-in-Ok.ensures
