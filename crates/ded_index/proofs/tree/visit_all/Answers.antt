use Rattle.std.proofs.Common.{sym}
use Rattle.ded_index.specs.Trees.{entries_of}
use Rattle.ded_index.proofs.Finding.{none_found}
use Rattle.ded_index.proofs.tree.visit_all.Goals as goal

pub returns-else-is_full-clause-found : goal.returns-else-is_full-clause-found
returns-else-is_full-clause-found g c = none_found c.args.window.now (entries_of c.args.nodes.now) c.args.found.now.items (sym c.if-is_full.ensures.value)
