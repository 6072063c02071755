use Rattle.std.proofs.Common.{sym, ap, ◌∙◌, ◌<◌, arith, length}
use Rattle.std.proofs.lemmas.List.{length-map, map_push}
use Rattle.std.proofs.lemmas.Result.{err_from_is_err_and}
use Rattle.ded_grammar.specs.Forms.{terminal_form, terminal_forms}
use Rattle.ded_terminals.specs.Items.{seen, left}
use Rattle.ded_terminals.specs.Literals.{capped_reader}
use Rattle.ded_terminals.proofs.TerminalLoops.{terminals_on, terminals_done, terminals_fail, terminals_out, not_none, none_seen, some_seen}
use Rattle.ded_terminals.proofs.terminals.terminals.Goals as goal

pub returns-in_err-next-clause-unread : goal.returns-in_err-next-clause-unread
returns-in_err-next-clause-unread c =
    let p = err_from_is_err_and c.from_residual.result c.from_residual.ensures.1 in
    let some : 0 < length (left c.loop.rest) = omega (arith, not_none c.loop.rest.items.now c.is_empty.result c.is_empty.ensures c.if-is_empty.false, length-map c.loop.rest.items.now (seen c.loop.rest.bytes.now)) in
    rw (p.1, p.2) (λ e.
    sym c.loop.invariant.same
    ∙ terminals_fail capped_reader (length (left c.args.items)) c.loop.counter (terminal_forms c.loop.list.items) (left c.loop.rest) (omega (arith, c.loop-test.true, length-map c.args.items.items.now (seen c.args.items.bytes.now))) some (c.in_err-next.ensures.unread e))

pub loop-preserved : goal.loop-preserved
loop-preserved c = record {
  same =
      terminals_on capped_reader (length (left c.args.items)) c.loop.counter (terminal_forms c.loop.list.items) _ _ _ (omega (arith, c.loop-test.true, length-map c.args.items.items.now (seen c.args.items.bytes.now))) c.in_ok-next.ensures.read (ap terminal_forms c.in_ok-push.ensures.items ∙ map_push terminal_form c.loop.list.items c.in_ok-next.next)
      ∙ c.loop.invariant.same;
  low = omega (arith, c.loop.invariant.low, c.in_ok-next.ensures.low);
}

pub returns-then-is_empty-clause-read : goal.returns-then-is_empty-clause-read
returns-then-is_empty-clause-read c =
    sym c.loop.invariant.same
    ∙ terminals_done capped_reader (length (left c.args.items)) c.loop.counter (terminal_forms c.loop.list.items) (left c.loop.rest) (none_seen (seen c.loop.rest.bytes.now) c.loop.rest.items.now c.is_empty.result c.is_empty.ensures c.if-is_empty.true)

pub returns-then-not-is_empty-clause-unread : goal.returns-then-not-is_empty-clause-unread
returns-then-not-is_empty-clause-unread c = λ other.
    sym c.loop.invariant.same
    ∙ terminals_out capped_reader (length (left c.args.items)) c.loop.counter (terminal_forms c.loop.list.items) (left c.loop.rest) (omega (arith, c.loop-test.false, length-map c.args.items.items.now (seen c.args.items.bytes.now))) (some_seen (seen c.loop.rest.bytes.now) c.loop.rest.items.now c.is_empty-2.result c.is_empty-2.ensures c.if-not-is_empty.true)

pub returns-clause-read : goal.returns-clause-read
returns-clause-read c =
    sym c.loop.invariant.same
    ∙ terminals_done capped_reader (length (left c.args.items)) c.loop.counter (terminal_forms c.loop.list.items) (left c.loop.rest) (none_seen (seen c.loop.rest.bytes.now) c.loop.rest.items.now c.is_empty-2.result c.is_empty-2.ensures c.if-not-is_empty.false)
