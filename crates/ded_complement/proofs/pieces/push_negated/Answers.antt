use Rattle.std.proofs.Common.{◌||◌, sym, ap, ◌∙◌, true≢false}
use Rattle.std.proofs.lemmas.Result.{IfOk-weaker}
use Rattle.ded_complement.proofs.Cutting.{one_more, one_nowhere, two_more, two_nowhere}
use Rattle.ded_complement.proofs.pieces.push_negated.Goals as goal

pub returns-in-One-clause-more : goal.returns-in-One-clause-more
returns-in-One-clause-more g c =
    let n = c.in_ok-only.ensures in
    IfOk-weaker c.push_with.result _ _ (λ x k. one_more g.T.Theory.holds g.T.Theory.mentions g.T.Theory.lines g.T.Theory.cell c.args.rest.items c.args.atom.now c.in-One.only c.in_ok-only.field-0 c.args.out.now c.push_with.new.out c.in-One.is
    (record { holds = n.holds; disjoint = n.disjoint; slots = n.slots; lines = n.lines; cells = n.cells }) k) c.push_with.ensures.more

pub returns-then-kept_first-clause-more : goal.returns-then-kept_first-clause-more
returns-then-kept_first-clause-more g c =
    let n = c.in_ok-only.ensures in
    two_more g.T.Theory.holds g.T.Theory.mentions g.T.Theory.lines g.T.Theory.cell c.args.rest.items c.in_ok-copy_conj-in-Two.field-0.items c.args.atom.now c.in-Two.first c.in-Two.second c.in_ok-only.field-0 c.args.out.now c.push_with-in-Two.new.out c.push_with-in-Two-2.new.out
    c.in-Two.is (c.in_ok-copy_conj-in-Two.ensures ∙ c.deref.ensures.value) (record { holds = n.holds; disjoint = n.disjoint; slots = n.slots; lines = n.lines; cells = n.cells })
    c.in_ok-kept_first-in-Two.ensures.more c.in_ok-kept_second-in-Two.ensures.more

pub returns-else-kept_first-clause-more : goal.returns-else-kept_first-clause-more
returns-else-kept_first-clause-more g c =
    let n = c.in_ok-only.ensures in
    two_more g.T.Theory.holds g.T.Theory.mentions g.T.Theory.lines g.T.Theory.cell c.args.rest.items c.in_ok-copy_conj-in-Two.field-0.items c.args.atom.now c.in-Two.first c.in-Two.second c.in_ok-only.field-0 c.args.out.now c.push_with-in-Two.new.out c.push_with-in-Two-2.new.out
    c.in-Two.is (c.in_ok-copy_conj-in-Two.ensures ∙ c.deref.ensures.value) (record { holds = n.holds; disjoint = n.disjoint; slots = n.slots; lines = n.lines; cells = n.cells })
    c.in_ok-kept_first-in-Two.ensures.more c.in_ok-kept_second-in-Two.ensures.more

pub returns-in-One-clause-dropped : goal.returns-in-One-clause-dropped
returns-in-One-clause-dropped g c =
    let n = c.in_ok-only.ensures in
    IfOk-weaker c.push_with.result _ _ (λ x k e. one_nowhere g.T.Theory.holds g.T.Theory.mentions g.T.Theory.lines g.T.Theory.cell c.args.rest.items c.args.atom.now c.in-One.only c.in_ok-only.field-0 c.in-One.is
    (record { holds = n.holds; disjoint = n.disjoint; slots = n.slots; lines = n.lines; cells = n.cells }) (k e)) c.push_with.ensures.dropped

pub returns-then-kept_first-clause-dropped : goal.returns-then-kept_first-clause-dropped
returns-then-kept_first-clause-dropped g c = λ e. absurd (true≢false (sym c.if-kept_first.true ∙ e))

pub returns-else-kept_first-clause-dropped : goal.returns-else-kept_first-clause-dropped
returns-else-kept_first-clause-dropped g c =
    let n = c.in_ok-only.ensures in
    two_nowhere g.T.Theory.holds g.T.Theory.mentions g.T.Theory.lines g.T.Theory.cell c.args.rest.items c.in_ok-copy_conj-in-Two.field-0.items c.args.atom.now c.in-Two.first c.in-Two.second c.in_ok-only.field-0 c.in_ok-kept_first-in-Two.kept_first c.in_ok-kept_second-in-Two.kept_second
    c.in_ok-kept_second-in-Two.kept_second c.in-Two.is (c.in_ok-copy_conj-in-Two.ensures ∙ c.deref.ensures.value) (record { holds = n.holds; disjoint = n.disjoint; slots = n.slots; lines = n.lines; cells = n.cells })
    (ap (λ b. b || c.in_ok-kept_second-in-Two.kept_second) (sym c.if-kept_first.false)) c.in_ok-kept_first-in-Two.ensures.dropped c.in_ok-kept_second-in-Two.ensures.dropped
