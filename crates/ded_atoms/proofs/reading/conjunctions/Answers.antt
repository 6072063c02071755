use Rattle.std.proofs.Common.{◌+◌, ◌∷◌, ◌∙◌, sym, ap, subst, take, []}
use Rattle.std.proofs.lemmas.List.{take_all, map-append}
use Rattle.ded_genrel.proofs.Items.{done_to}
use Rattle.ded_packed.specs.Lent.{tuple_of, lent}
use Rattle.ded_atoms.specs.Reading.{IsListOf}
use Rattle.std.specs.List.{AllByRecursion}
use Rattle.ded_atoms.proofs.TuplesRead.{lent_at, list_none, list_more}
use Rattle.ded_atoms.proofs.reading.conjunctions.Goals as goal

pub loop-tuple-init : goal.loop-tuple-init
loop-tuple-init g c = subst (λ xs. IsListOf g.T.Theory.holds g.T.Theory.mentions g.T.Theory.lines xs []) (sym c.new-list.ensures) (list_none g.T.Theory.holds g.T.Theory.mentions g.T.Theory.lines)

pub lent_conjunction-requires : goal.lent_conjunction-requires
lent_conjunction-requires g c = lent_at (AllByRecursion g.T.OfTuples.reads) c.args.tuples.now c.loop-tuple.tuple-index c.tuple-item.result c.loop-tuple-test.true c.tuple-item.is c.requires

pub loop-tuple-preserved : goal.loop-tuple-preserved
loop-tuple-preserved g c =
    list_more g.T.Theory.holds g.T.Theory.mentions g.T.Theory.lines c.loop-tuple.list c.push.new.self (lent (take c.loop-tuple.tuple-index c.args.tuples.now)) (lent (take (c.loop-tuple.tuple-index + 1) c.args.tuples.now)) c.in_ok-lent_conjunction.field-0.items (tuple_of c.tuple-item.result)
    c.in_ok-push.ensures.pushed (ap lent (done_to c.args.tuples.now c.loop-tuple.tuple-index c.tuple-item.result c.loop-tuple-test.true c.tuple-item.is) ∙ map-append _ (take c.loop-tuple.tuple-index c.args.tuples.now) (c.tuple-item.result ∷ [])) c.loop-tuple.invariant c.in_ok-lent_conjunction.ensures.stands

pub returns : goal.returns
returns g c = subst (λ ts. IsListOf g.T.Theory.holds g.T.Theory.mentions g.T.Theory.lines c.loop-tuple.list (lent ts)) (take_all c.loop-tuple.tuple-index c.args.tuples.now c.loop-tuple-test.false) c.loop-tuple.invariant
