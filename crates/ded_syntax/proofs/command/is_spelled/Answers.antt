use Rattle.std.proofs.Common.{ap}
use Rattle.ded_syntax.specs.DraftViews.{seen_head, seen_draft}
use Rattle.ded_syntax.proofs.Drafted.{formed_scans}
use Rattle.ded_syntax.proofs.command.is_spelled.Goals as goal

pub returns-in-Formed : goal.returns-in-Formed
returns-in-Formed c = formed_scans (seen_draft c.args.draft.now) (seen_head c.in-Formed.field-0) c.deref.result.now c.in-Formed.terminals.items (ap seen_draft c.in-Formed.is) c.deref.ensures.value c.is_formula.result c.is_formula.ensures
