-- The formula of a command that is accepted is ready, and what is made of it is that of the command.
use Rattle.std.proofs.Common.{sym, ap, subst}
use Rattle.std.specs.Result.{IfOk}
use Rattle.ded_model.specs.Command.{CommandForm, command_form}
use Rattle.ded_model.specs.Form.{form, forms}
use Rattle.ded_resolve.specs.Resolved.{IsResolved}
use Rattle.ded_resolve.proofs.Readiness.{view_ready, ask_ready, query_ready, explain_ready, insert_ready}
use Rattle.ded_resolve.proofs.resolving.by_slots.Goals as goal

pub insertion-requires : goal.insertion-requires
insertion-requires g c =
    insert_ready (g.N.Names.catalogue c.args.names.now) (command_form c.args.command) c.in-Insert.name (forms c.in-Insert.comparisons.items) (ap command_form c.in-Insert.is) c.requires.plain c.requires.short c.requires.accepted

pub view-requires : goal.view-requires
view-requires g c =
    view_ready (g.N.Names.catalogue c.args.names.now) (command_form c.args.command) c.in-View.name c.in-View.heading (form c.in-View.formula) (ap command_form c.in-View.is) c.requires.plain c.requires.accepted

pub returns-in-View-clause-resolved : goal.returns-in-View-clause-resolved
returns-in-View-clause-resolved g c =
    let here = g.N.Names.catalogue c.args.names.now in
    subst (λ (k : CommandForm). IfOk c.view.result (IsResolved here k)) (sym (ap command_form c.in-View.is)) (c.view.ensures.resolved here)

pub returns-in-View-clause-stored : goal.returns-in-View-clause-stored
returns-in-View-clause-stored g c = c.view.ensures.stored (g.N.Names.catalogue c.args.names.now)

pub question-requires : goal.question-requires
question-requires g c =
    ask_ready (g.N.Names.catalogue c.args.names.now) (command_form c.args.command) (form c.in-Ask.formula) (ap command_form c.in-Ask.is) c.requires.plain c.requires.accepted

pub returns-in-Ask-clause-resolved : goal.returns-in-Ask-clause-resolved
returns-in-Ask-clause-resolved g c =
    let here = g.N.Names.catalogue c.args.names.now in
    subst (λ (k : CommandForm). IfOk c.question.result (IsResolved here k)) (sym (ap command_form c.in-Ask.is)) (c.question.ensures.resolved here)

pub returns-in-Ask-clause-stored : goal.returns-in-Ask-clause-stored
returns-in-Ask-clause-stored g c = c.question.ensures.stored (g.N.Names.catalogue c.args.names.now)

pub query-requires : goal.query-requires
query-requires g c =
    query_ready (g.N.Names.catalogue c.args.names.now) (command_form c.args.command) c.in-Query.heading (form c.in-Query.formula) (ap command_form c.in-Query.is) c.requires.plain c.requires.accepted

pub returns-in-Query-clause-resolved : goal.returns-in-Query-clause-resolved
returns-in-Query-clause-resolved g c =
    let here = g.N.Names.catalogue c.args.names.now in
    subst (λ (k : CommandForm). IfOk c.query.result (IsResolved here k)) (sym (ap command_form c.in-Query.is)) (c.query.ensures.resolved here)

pub returns-in-Query-clause-stored : goal.returns-in-Query-clause-stored
returns-in-Query-clause-stored g c = c.query.ensures.stored (g.N.Names.catalogue c.args.names.now)

pub explanation-requires : goal.explanation-requires
explanation-requires g c =
    explain_ready (g.N.Names.catalogue c.args.names.now) (command_form c.args.command) c.in-Explain.heading (form c.in-Explain.formula) (ap command_form c.in-Explain.is) c.requires.plain c.requires.accepted

pub returns-in-Explain-clause-resolved : goal.returns-in-Explain-clause-resolved
returns-in-Explain-clause-resolved g c =
    let here = g.N.Names.catalogue c.args.names.now in
    subst (λ (k : CommandForm). IfOk c.explanation.result (IsResolved here k)) (sym (ap command_form c.in-Explain.is)) (c.explanation.ensures.resolved here)

pub returns-in-Explain-clause-stored : goal.returns-in-Explain-clause-stored
returns-in-Explain-clause-stored g c = c.explanation.ensures.stored (g.N.Names.catalogue c.args.names.now)
