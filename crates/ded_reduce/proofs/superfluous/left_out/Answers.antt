use Rattle.std.proofs.Common.{◌++◌, take, ap, ◌∙◌}
use Rattle.std.proofs.lemmas.Result.{IfOk-weaker}
use Rattle.ded_reduce.proofs.Sublists.{after_taken}
use Rattle.ded_reduce.proofs.Sifting.{implied_at, needed_at, open_at}
use Rattle.ded_reduce.proofs.superfluous.left_out.Goals as goal

pub returns-clause-implied : goal.returns-clause-implied
returns-clause-implied g c =
    let o = c.in_ok-others.ensures ∙ ap (λ xs. take c.args.index c.args.conj.now ++ xs) (after_taken c.args.conj.now c.args.index) in
    IfOk-weaker c.some_point_outside.result _ _ (λ v k e. implied_at g.T.Theory.decides g.T.Theory.holds g.T.Theory.mentions g.T.Theory.lines c.args.conj.now c.in_ok-others.others.items c.args.index c.index-conj-index.result c.requires.within c.index-conj-index.is o (k e)) c.some_point_outside.ensures.implied

pub returns-clause-needed : goal.returns-clause-needed
returns-clause-needed g c =
    let o = c.in_ok-others.ensures ∙ ap (λ xs. take c.args.index c.args.conj.now ++ xs) (after_taken c.args.conj.now c.args.index) in
    IfOk-weaker c.some_point_outside.result _ _ (λ v k e. needed_at g.T.Theory.decides g.T.Theory.holds g.T.Theory.mentions g.T.Theory.lines c.args.conj.now c.in_ok-others.others.items c.args.index c.index-conj-index.result c.requires.within c.index-conj-index.is o (k e)) c.some_point_outside.ensures.needed

pub returns-clause-open : goal.returns-clause-open
returns-clause-open g c =
    let o = c.in_ok-others.ensures ∙ ap (λ xs. take c.args.index c.args.conj.now ++ xs) (after_taken c.args.conj.now c.args.index) in
    IfOk-weaker c.some_point_outside.result _ _ (λ v k e. open_at g.T.Theory.decides g.T.Theory.holds g.T.Theory.mentions g.T.Theory.lines c.args.conj.now c.in_ok-others.others.items c.args.index c.index-conj-index.result c.requires.within c.index-conj-index.is o (k e)) c.some_point_outside.ensures.open
