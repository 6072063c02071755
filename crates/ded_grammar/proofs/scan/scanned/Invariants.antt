use Rattle.std.proofs.Common.{◌≡◌, ◌≤◌, drop}
use Rattle.ded_grammar.specs.declared.scan.Spot.TheVariants.{Start}
use Rattle.ded_grammar.specs.Forms.{terminal_forms}
use Rattle.ded_grammar.specs.Scanning.{scan}
use Rattle.ded_grammar.proofs.scan.scanned.Given as goal

abbrev pub invariant-loop-terminal : goal.invariant-loop-terminal
invariant-loop-terminal l = record {
  same : scan l.spot l.opened (terminal_forms (drop l.terminal-index l.terminals)) ≡ scan Start 0 (terminal_forms l.terminals);
  low : l.opened ≤ l.terminal-index;
}
