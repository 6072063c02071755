use Rattle.std.specs.Prelude.{codes}
use Rattle.ded_draw.proofs.Parsing.{no_fault, reads_value}
use Rattle.ded_draw.proofs.words.values_in.Goals as goal

pub returns-in-Ok-clause-none : goal.returns-in-Ok-clause-none
returns-in-Ok-clause-none c = no_fault _ _ c.in_ok-command.ensures c.in-Ok.ensures.kinds

pub returns-in-Ok-clause-limit : goal.returns-in-Ok-clause-limit
returns-in-Ok-clause-limit c = reads_value (codes "limit") _ _ c.in-Ok.matches _ c.in_ok-command.ensures c.in-Ok.ensures.matches c.get_str.ensures

pub returns-in-Ok-clause-columns : goal.returns-in-Ok-clause-columns
returns-in-Ok-clause-columns c = reads_value (codes "columns") _ _ c.in-Ok.matches _ c.in_ok-command.ensures c.in-Ok.ensures.matches c.get_str-in-Ok.ensures

pub returns-in-Ok-clause-window : goal.returns-in-Ok-clause-window
returns-in-Ok-clause-window c = reads_value (codes "window") _ _ c.in-Ok.matches _ c.in_ok-command.ensures c.in-Ok.ensures.matches c.get_str-in-Ok-2.ensures

pub returns-in-Ok-clause-size : goal.returns-in-Ok-clause-size
returns-in-Ok-clause-size c = reads_value (codes "size") _ _ c.in-Ok.matches _ c.in_ok-command.ensures c.in-Ok.ensures.matches c.get_str-in-Ok-3.ensures

pub returns-in-Ok-clause-time : goal.returns-in-Ok-clause-time
returns-in-Ok-clause-time c = reads_value (codes "time") _ _ c.in-Ok.matches _ c.in_ok-command.ensures c.in-Ok.ensures.matches c.get_str-in-Ok-4.ensures
