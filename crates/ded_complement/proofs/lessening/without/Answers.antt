use Rattle.std.proofs.Common.{[], ◌∷◌, ◌++◌, ◌∙◌}
use Rattle.std.proofs.lemmas.Iterator.Adapters.{YieldsList-from_vec}
use Rattle.std.proofs.lemmas.Iterator.Consumers.{YieldsList-turn}
use Rattle.ded_num.proofs.Tests.{all-at}
use Rattle.ded_complement.specs.Boxed.{conjs_in, IsBoxed}
use Rattle.ded_complement.proofs.Boxes.{conjs_in-append}
use Rattle.ded_complement.proofs.Cutting.{lessening_more}
use Rattle.ded_complement.proofs.lessening.without.Goals as goal

pub push_without-requires-clause-boxed_piece : goal.push_without-requires-clause-boxed_piece
push_without-requires-clause-boxed_piece g c =
    let gives = c.into_iter-piece-iterator.ensures.into_iter_gives in
    let turn = YieldsList-turn (YieldsList-from_vec c.args.pieces.items gives.0 (gives.1 ∙ c.args.pieces.ok.0)) c.loop-piece.yielded c.loop-piece.piece-iterator c.loop-piece.yielded_by c.next.result c.next.new.self c.in-Some.piece c.in-Some.is c.next.ensures.steps in
    all-at (IsBoxed g.T.Theory.holds g.T.Theory.normal c.args.slots.now) c.args.pieces.items _ c.in-Some.piece turn.0 turn.1 c.requires.boxed

pub loop-piece-preserved : goal.loop-piece-preserved
loop-piece-preserved g c = record {
  less = lessening_more g.T.Theory.holds g.T.Theory.mentions g.T.Theory.lines g.T.Theory.cell c.args.conj.now.conj.items (conjs_in c.loop-piece.yielded) (conjs_in (c.loop-piece.yielded ++ c.in-Some.piece ∷ [])) (conjs_in c.loop-piece.out.items) (conjs_in c.push_without.new.out.items)
      c.in-Some.piece.conj.items (conjs_in-append c.loop-piece.yielded (c.in-Some.piece ∷ [])) c.loop-piece.invariant.less c.in_ok-push_without.ensures.is;
  boxed = c.in_ok-push_without.ensures.boxed;
}
