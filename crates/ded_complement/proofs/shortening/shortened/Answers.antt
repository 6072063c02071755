use Rattle.std.proofs.Common.{[], ◌∷◌, ◌++◌, ◌∙◌, refl, sym, subst}
use Rattle.std.proofs.lemmas.Iterator.Adapters.{YieldsList-from_vec}
use Rattle.std.proofs.lemmas.Iterator.Consumers.{YieldsList-turn, YieldsList-end}
use Rattle.std.proofs.lemmas.List.{map-id}
use Rattle.ded_num.proofs.Tests.{all-at}
use Rattle.ded_complement.proofs.Implied.{Shortened, shortened_kept, shortened_dropped, shortened_alike}
use Rattle.ded_complement.proofs.shortening.shortened.Goals as goal

pub loop-atom-preserved : goal.loop-atom-preserved
loop-atom-preserved g c =
    let gives = c.into_iter-atom-iterator.ensures.into_iter_gives in
    let turn = YieldsList-turn (YieldsList-from_vec c.args.rest.items gives.0 (gives.1 ∙ c.args.rest.ok.0)) c.loop-atom.yielded c.loop-atom.atom-iterator c.loop-atom.yielded_by c.next.result c.next.new.self c.in-Some.atom c.in-Some.is c.next.ensures.steps in
    shortened_kept g.T.Theory.holds g.T.Theory.normal c.args.last c.loop-atom.yielded (c.loop-atom.yielded ++ c.in-Some.atom ∷ []) c.loop-atom.kept.items c.push.new.self.items c.in-Some.atom refl c.in_ok-push.ensures.items
    (all-at g.T.Theory.normal c.args.rest.items _ c.in-Some.atom turn.0 turn.1 c.requires.normal) c.loop-atom.invariant

pub loop-atom-preserved-then-implies : goal.loop-atom-preserved-then-implies
loop-atom-preserved-then-implies g c =
    shortened_dropped g.T.Theory.holds g.T.Theory.normal c.args.last c.loop-atom.yielded (c.loop-atom.yielded ++ c.in-Some.atom ∷ []) c.loop-atom.kept.items c.in-Some.atom refl (λ p i. c.implies.ensures c.if-implies.true p i.positive) c.loop-atom.invariant

pub returns-clause-alike : goal.returns-clause-alike
returns-clause-alike g c =
    let gives = c.into_iter-atom-iterator.ensures.into_iter_gives in
    let all = YieldsList-end (YieldsList-from_vec c.args.rest.items gives.0 (gives.1 ∙ c.args.rest.ok.0)) c.loop-atom.yielded c.loop-atom.atom-iterator c.loop-atom.yielded_by c.next.result c.next.new.self c.in-None.is c.next.ensures.steps in
    shortened_alike g.T.Theory.holds g.T.Theory.normal c.args.last c.args.rest.items c.loop-atom.kept.items c.push-2.new.self.items c.in_ok-push-2.ensures.items
    (subst (λ xs. Shortened g.T.Theory.holds g.T.Theory.normal c.args.last xs c.loop-atom.kept.items) (sym (map-id c.loop-atom.yielded) ∙ all.0) c.loop-atom.invariant)
