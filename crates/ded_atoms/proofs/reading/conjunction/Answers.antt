use Rattle.std.proofs.Common.{◌+◌, sym, subst, take, ◌∙◌, []}
use Rattle.std.proofs.lemmas.List.{take_all}
use Rattle.std.specs.List.{AllByRecursion}
use Rattle.ded_num.proofs.Tests.{all-at}
use Rattle.ded_model.specs.Normal.{IsNormalTuple}
use Rattle.ded_packed.proofs.Putting.{atom_at_place}
use Rattle.ded_genrel.proofs.Items.{done_to, all-push}
use Rattle.ded_atoms.specs.Reading.{IsConjunctionOf}
use Rattle.ded_atoms.proofs.TuplesRead.{conjunction_none, conjunction_more}
use Rattle.ded_atoms.proofs.reading.conjunction.Goals as goal

pub loop-atom-init : goal.loop-atom-init
loop-atom-init g c = (
  subst (λ xs. IsConjunctionOf g.T.Theory.holds g.T.Theory.mentions g.T.Theory.lines xs []) (sym c.in_ok-atoms.ensures.items) (conjunction_none g.T.Theory.holds g.T.Theory.mentions g.T.Theory.lines),
  subst (AllByRecursion g.T.Theory.normal) (sym c.in_ok-atoms.ensures.items) tt,
)

pub read-requires-clause-normal : goal.read-requires-clause-normal
read-requires-clause-normal g c =
    atom_at_place c.deref-atom-items.result.now c.loop-atom.atom-index c.atom-item.result c.loop-atom-test.true c.atom-item.is (subst IsNormalTuple (sym c.deref-atom-items.ensures.value) c.tuple.invariant)

pub read-requires-clause-reads : goal.read-requires-clause-reads
read-requires-clause-reads g c =
    all-at g.T.OfTuples.reads c.deref-atom-items.result.now c.loop-atom.atom-index c.atom-item.result c.loop-atom-test.true c.atom-item.is (subst (AllByRecursion g.T.OfTuples.reads) (sym (c.deref-atom-items.ensures.value ∙ c.tuple.view_is)) c.requires)

pub loop-atom-preserved : goal.loop-atom-preserved
loop-atom-preserved g c = (
  conjunction_more g.T.Theory.holds g.T.Theory.mentions g.T.Theory.lines c.loop-atom.atoms.items c.push.new.self.items (take c.loop-atom.atom-index c.deref-atom-items.result.now) (take (c.loop-atom.atom-index + 1) c.deref-atom-items.result.now) c.in_ok-read.field-0 c.atom-item.result
      c.in_ok-push.ensures.items (done_to c.deref-atom-items.result.now c.loop-atom.atom-index c.atom-item.result c.loop-atom-test.true c.atom-item.is) c.loop-atom.invariant.0 c.in_ok-read.ensures.stands,
  subst (AllByRecursion g.T.Theory.normal) (sym c.in_ok-push.ensures.items) (all-push g.T.Theory.normal c.loop-atom.atoms.items c.in_ok-read.field-0 c.loop-atom.invariant.1 c.in_ok-read.ensures.normal),
)

pub returns-clause-stands : goal.returns-clause-stands
returns-clause-stands g c =
    subst (IsConjunctionOf g.T.Theory.holds g.T.Theory.mentions g.T.Theory.lines c.loop-atom.atoms.items) (take_all c.loop-atom.atom-index c.deref-atom-items.result.now c.loop-atom-test.false ∙ c.deref-atom-items.ensures.value ∙ c.tuple.view_is) c.loop-atom.invariant.0

pub returns-clause-normal : goal.returns-clause-normal
returns-clause-normal g c = c.loop-atom.invariant.1
