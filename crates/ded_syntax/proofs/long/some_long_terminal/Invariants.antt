use Rattle.std.proofs.Common.{◌≡◌, drop}
use Rattle.std.specs.List.{list_any}
use Rattle.ded_grammar.specs.Forms.{terminal_forms}
use Rattle.ded_grammar.specs.Trees.{terminal_atom}
use Rattle.ded_syntax.specs.Marks.{is_unfit_atom}
use Rattle.ded_syntax.proofs.long.some_long_terminal.Given as goal

abbrev pub invariant-loop-terminal : goal.invariant-loop-terminal
invariant-loop-terminal l = list_any (terminal_atom is_unfit_atom) (terminal_forms (drop l.terminal-index l.terminals)) ≡ list_any (terminal_atom is_unfit_atom) (terminal_forms l.terminals)
