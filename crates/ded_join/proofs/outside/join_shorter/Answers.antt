use Rattle.std.proofs.Common.{◌++◌, length, arith}
use Rattle.std.specs.List.{AllByRecursion}
use Rattle.ded_model.specs.Cell.{conj_holds, HoldsSomewhere}
use Rattle.ded_complement.specs.Pieces.{all_atoms}
use Rattle.ded_join.proofs.Alike.{meet_alike}
use Rattle.ded_join.proofs.Few.{few_short, few_by_pieces, no_longer, not_small, small, fewer, longest}
use Rattle.ded_join.proofs.Shorter.{pieces_inhabited, shorter_same, shorter_condensed, shorter_pieces}
use Rattle.ded_join.proofs.outside.join_shorter.Goals as goal

pub returns-then-not-has_grown-clause-is : goal.returns-then-not-has_grown-clause-is
returns-then-not-has_grown-clause-is g c =
    meet_alike g.T.Theory.holds g.T.Theory.mentions g.T.Theory.lines c.args.a.now c.args.b.now c.in_ok-pairs.pairs c.in_ok-pairs-2.pairs c.in_ok-pairs.ensures.is c.in_ok-pairs-2.ensures.condensed.alike

pub returns-else-list-clause-is : goal.returns-else-list-clause-is
returns-else-list-clause-is g c =
    meet_alike g.T.Theory.holds g.T.Theory.mentions g.T.Theory.lines c.args.a.now c.args.b.now c.in_ok-pairs.pairs c.in_ok-pairs-2.pairs c.in_ok-pairs.ensures.is c.in_ok-pairs-2.ensures.condensed.alike

pub returns-then-not-is_small-clause-few : goal.returns-then-not-is_small-clause-few
returns-then-not-is_small-clause-few g c = λ h. absurd (not_small (length (all_atoms c.args.b.now)) c.is_small.result c.is_small.ensures c.if-not-is_small.true h)

pub returns-then-not-has_grown-clause-few : goal.returns-then-not-has_grown-clause-few
returns-then-not-has_grown-clause-few g c = λ _ _. few_short g.T.Theory.cell c.args.a.now c.args.b.now c.in_ok-pairs-2.pairs (c.has_grown.ensures.few c.if-not-has_grown.true)

pub returns-then-list-clause-few : goal.returns-then-list-clause-few
returns-then-list-clause-few g c = λ _ n.
    few_by_pieces g.T.Theory.cell (λ ps. AllByRecursion (λ d. HoldsSomewhere (conj_holds g.T.Theory.holds d)) ps) c.args.a.now c.args.b.now c.in_ok-pieces.pieces c.in_ok-pieces.pieces (c.in_ok-pieces.ensures.cells n) (omega arith)

pub returns-else-list-clause-few : goal.returns-else-list-clause-few
returns-else-list-clause-few g c = λ _ n.
    few_by_pieces g.T.Theory.cell (λ ps. AllByRecursion (λ d. HoldsSomewhere (conj_holds g.T.Theory.holds d)) ps) c.args.a.now c.args.b.now c.in_ok-pieces.pieces c.in_ok-pairs-2.pairs (c.in_ok-pieces.ensures.cells n)
    (no_longer c.list-3.result.now c.list-4.result.now c.in_ok-pieces.pieces c.in_ok-pairs-2.pairs c.list-3.ensures.list c.list-4.ensures.list c.if-list.false)

pub returns-then-not-is_small-clause-met : goal.returns-then-not-is_small-clause-met
returns-then-not-is_small-clause-met g c = shorter_same g.T.Theory.holds g.T.Theory.mentions g.T.Theory.lines c.args.slots.now c.args.a.now c.args.b.now c.in_ok-pairs.pairs c.args.met.now c.join_inhabited.new.met c.in_ok-pairs.ensures.met

pub returns-then-not-has_grown-clause-met : goal.returns-then-not-has_grown-clause-met
returns-then-not-has_grown-clause-met g c =
    shorter_condensed g.T.Theory.holds g.T.Theory.mentions g.T.Theory.lines c.args.slots.now c.args.a.now c.args.b.now c.in_ok-pairs.pairs c.args.met.now c.join_inhabited.new.met c.in_ok-pairs-2.pairs c.max-longest.result
    (longest c.list.result.now c.list-2.result.now c.args.a.now c.args.b.now c.max-longest.result c.list.ensures.list c.list-2.ensures.list c.max-longest.ensures)
    (small (length (all_atoms c.args.b.now)) c.is_small.result c.is_small.ensures c.if-not-is_small.false) c.in_ok-pairs.ensures.met c.in_ok-pairs-2.ensures.condensed c.in_ok-pairs-2.ensures.short

pub returns-then-list-clause-met : goal.returns-then-list-clause-met
returns-then-list-clause-met g c =
    shorter_pieces g.T.Theory.holds g.T.Theory.mentions g.T.Theory.lines c.args.slots.now c.args.a.now c.args.b.now c.in_ok-pairs.pairs c.args.met.now c.join_inhabited.new.met c.in_ok-pairs-2.pairs c.in_ok-pieces.pieces
    (small (length (all_atoms c.args.b.now)) c.is_small.result c.is_small.ensures c.if-not-is_small.false) c.in_ok-pairs.ensures.met c.in_ok-pairs-2.ensures.condensed (c.has_grown.ensures.grown c.if-not-has_grown.false)
    (fewer c.list-3.result.now c.list-4.result.now c.in_ok-pieces.pieces c.in_ok-pairs-2.pairs c.list-3.ensures.list c.list-4.ensures.list c.if-list.true)
    (λ n. pieces_inhabited g.T.Theory.holds g.T.Theory.cell (all_atoms c.args.a.now ++ all_atoms c.args.b.now) c.args.a.now c.in_ok-pieces.pieces (c.in_ok-pieces.ensures.cells n))

pub returns-else-list-clause-met : goal.returns-else-list-clause-met
returns-else-list-clause-met g c =
    shorter_condensed g.T.Theory.holds g.T.Theory.mentions g.T.Theory.lines c.args.slots.now c.args.a.now c.args.b.now c.in_ok-pairs.pairs c.args.met.now c.join_inhabited.new.met c.in_ok-pairs-2.pairs c.max-longest.result
    (longest c.list.result.now c.list-2.result.now c.args.a.now c.args.b.now c.max-longest.result c.list.ensures.list c.list-2.ensures.list c.max-longest.ensures)
    (small (length (all_atoms c.args.b.now)) c.is_small.result c.is_small.ensures c.if-not-is_small.false) c.in_ok-pairs.ensures.met c.in_ok-pairs-2.ensures.condensed c.in_ok-pairs-2.ensures.short
