use Rattle.std.proofs.Common.{ap}
use Rattle.ded_syntax.specs.DraftViews.{seen_head, seen_draft}
use Rattle.ded_syntax.proofs.Drafted.{formed_tree, formed_deep}
use Rattle.ded_syntax.proofs.command.command_of.Goals as goal

pub formula_of-requires : goal.formula_of-requires
formula_of-requires c = formed_tree (seen_draft c.args.draft) (seen_head c.in-Formed.head) c.deref.result.now c.in-Formed.terminals.items (ap seen_draft c.in-Formed.is) c.deref.ensures.value c.requires

pub returns-in-Err-clause-refused : goal.returns-in-Err-clause-refused
returns-in-Err-clause-refused c = λ other.
    let r = c.in-Err.ensures.refused other in
    (r.0, formed_deep (seen_draft c.args.draft) (seen_head c.in-Formed.head) c.deref.result.now c.in-Formed.terminals.items (ap seen_draft c.in-Formed.is) c.deref.ensures.value r.1)
