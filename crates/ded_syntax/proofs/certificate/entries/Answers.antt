use Rattle.std.proofs.Common.{sym, ap, ◌∙◌, arith, length}
use Rattle.std.specs.Prelude.{Bool, Some}
use Rattle.std.proofs.lemmas.List.{length-map}
use Rattle.std.proofs.lemmas.Result.{err_from_is_err_and}
use Rattle.ded_terminals.specs.Items.{seen, left}
use Rattle.ded_terminals.specs.AtomReading.{brace_at}
use Rattle.ded_syntax.specs.CertificateReading.{entry_at}
use Rattle.ded_terminals.specs.Literals.{capped_reader}
use Rattle.ded_terminals.proofs.ListLoops.{list_on, list_done, list_fails, list_breaks, list_out}
use Rattle.ded_syntax.proofs.certificate.entries.Goals as goal

pub returns-in_default-clause-unread : goal.returns-in_default-clause-unread
returns-in_default-clause-unread c = λ other.
    sym c.loop.invariant.same
    ∙ list_breaks (entry_at capped_reader) brace_at (length (left c.args.items)) c.loop.counter _ _ _ (omega (arith, c.loop-test.true, length-map c.args.items.items.now (seen c.args.items.bytes.now))) c.in_ok-next.ensures.read c.in_default.ensures.none

pub returns-then-not-goes_on-clause-read : goal.returns-then-not-goes_on-clause-read
returns-then-not-goes_on-clause-read c =
    sym c.loop.invariant.same
    ∙ list_done (entry_at capped_reader) brace_at (length (left c.args.items)) c.loop.counter _ _ _ _ _ (omega (arith, c.loop-test.true, length-map c.args.items.items.now (seen c.args.items.bytes.now))) c.in_ok-next.ensures.read (c.in-Some.ensures.some ∙ ap (λ (b : Bool). Some (b, left c.in-Some.behind)) c.if-not-goes_on.true) c.in_ok-push.ensures.items

pub loop-preserved : goal.loop-preserved
loop-preserved c = record {
  same =
      list_on (entry_at capped_reader) brace_at (length (left c.args.items)) c.loop.counter _ _ _ _ _ (omega (arith, c.loop-test.true, length-map c.args.items.items.now (seen c.args.items.bytes.now))) c.in_ok-next.ensures.read (c.in-Some.ensures.some ∙ ap (λ (b : Bool). Some (b, left c.in-Some.behind)) c.if-not-goes_on.false) c.in_ok-push.ensures.items
      ∙ c.loop.invariant.same;
  low = omega (arith, c.loop.invariant.low, c.in_ok-next.ensures.low, c.in-Some.ensures.low);
}

pub returns-in_err-next-clause-unread : goal.returns-in_err-next-clause-unread
returns-in_err-next-clause-unread c =
    let p = err_from_is_err_and c.from_residual.result c.from_residual.ensures.1 in
    rw (p.1, p.2) (λ e.
    sym c.loop.invariant.same
    ∙ list_fails (entry_at capped_reader) brace_at (length (left c.args.items)) c.loop.counter _ _ (omega (arith, c.loop-test.true, length-map c.args.items.items.now (seen c.args.items.bytes.now))) (c.in_err-next.ensures.unread e))

pub returns-clause-unread : goal.returns-clause-unread
returns-clause-unread c = λ other.
    sym c.loop.invariant.same
    ∙ list_out (entry_at capped_reader) brace_at (length (left c.args.items)) c.loop.counter _ _ (omega (arith, c.loop-test.false, length-map c.args.items.items.now (seen c.args.items.bytes.now)))
