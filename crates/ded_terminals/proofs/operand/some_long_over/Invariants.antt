use Rattle.std.proofs.Common.{◌≡◌, drop}
use Rattle.std.specs.List.{list_any}
use Rattle.ded_terminals.specs.Literals.{is_long_over}
use Rattle.ded_terminals.specs.Operands.{literals_of}
use Rattle.ded_terminals.specs.Views.{seen_parts}
use Rattle.ded_terminals.proofs.operand.some_long_over.Given as goal

abbrev pub invariant-loop-part : goal.invariant-loop-part
invariant-loop-part l = list_any (is_long_over l.over) (literals_of (seen_parts (drop l.part-index l.parts))) ≡ list_any (is_long_over l.over) (literals_of (seen_parts l.parts))
