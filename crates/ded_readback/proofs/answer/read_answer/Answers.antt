use Rattle.std.proofs.lemmas.Result.{err_from_is_err_and}
use Rattle.ded_readback.proofs.AnswersRead.{none_read, none_over, none_printed}
use Rattle.ded_readback.proofs.answer.read_answer.Goals as goal

pub returns-in_err-list-clause-none : goal.returns-in_err-list-clause-none
returns-in_err-list-clause-none c =
    let p = err_from_is_err_and c.from_residual.result c.from_residual.ensures.1 in
    rw (p.1, p.2) (λ e ts s. none_read c.args.bytes.now c.args.heading.now _ ts c.requires c.columns_of-columns.ensures (c.in_err-list.ensures.unread e) s)

pub returns-then-not-are_over-clause-none : goal.returns-then-not-are_over-clause-none
returns-then-not-are_over-clause-none c = λ e. none_over c.args.bytes.now c.args.heading.now _ c.in_ok-list.list.items _ c.are_over.result c.requires c.columns_of-columns.ensures c.as_slice.ensures.value c.in_ok-list.ensures.read c.are_over.ensures.all c.if-not-are_over.true

pub returns-then-not-branch-clause-none : goal.returns-then-not-branch-clause-none
returns-then-not-branch-clause-none c = λ e. none_printed c.args.bytes.now c.args.heading.now _ _ c.in_ok-list.list.items _ c.requires c.columns_of-columns.ensures c.in_ok-list.ensures.read c.in_ok-copy.ensures c.in_ok-is_printed.ensures.same c.if-not-branch.true
