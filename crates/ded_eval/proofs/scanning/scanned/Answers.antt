use Rattle.std.proofs.Common.{Some, ◌∙◌, sym, ap, subst}
use Rattle.std.specs.Option.{option_map}
use Rattle.std.proofs.lemmas.Result.{IfOk-weaker}
use Rattle.ded_model.specs.Cell.{conj_holds}
use Rattle.ded_model.specs.Point.{AreDistinctSlots}
use Rattle.ded_packed.specs.Lent.{lent}
use Rattle.ded_eval.specs.Within.{IsWindowOf}
use Rattle.ded_eval.proofs.Found.{lent_found, lent_reads, lent_normal}
use Rattle.ded_eval.proofs.Scanned.{scan_apart, scan_sorts, scan_is}
use Rattle.ded_eval.proofs.Staying.{list_stays}
use Rattle.ded_eval.proofs.scanning.scanned.Goals as goal

pub in_slots-requires-clause-one : goal.in_slots-requires-clause-one
in_slots-requires-clause-one g c =
    scan_apart g.T.Theory.holds g.T.Theory.mentions g.T.Theory.lines g.T.OfTuples.reads (g.R.Relations.catalogue c.args.relations.now) c.args.name.now c.args.slots.now c.in_ok-columns.columns (lent c.deref-2.result.now)
    (lent_found g.T.OfTuples.reads (g.R.Relations.catalogue c.args.relations.now) c.args.name.now c.args.slots.now c.in_ok-columns.columns (lent c.deref-2.result.now) (option_map (λ ts. lent ts.items) c.in_ok-near.field-0)
    (ap (option_map (λ ts. lent ts.items)) c.unwrap-tuples.ensures ∙ ap (λ us. Some (lent us)) (sym c.deref-2.ensures.value)) c.formed.ensures c.requires c.in_ok-near.ensures)
    c.in_ok-conjunctions.field-0 c.in_ok-conjunctions.ensures (subst AreDistinctSlots c.slots.view_is c.slots.invariant)

pub in_slots-requires-clause-sorts : goal.in_slots-requires-clause-sorts
in_slots-requires-clause-sorts g c =
    scan_sorts g.T.Theory.holds g.T.Theory.mentions g.T.Theory.lines g.T.OfTuples.reads (g.R.Relations.catalogue c.args.relations.now) c.args.name.now c.args.slots.now c.in_ok-columns.columns (lent c.deref-2.result.now)
    (lent_found g.T.OfTuples.reads (g.R.Relations.catalogue c.args.relations.now) c.args.name.now c.args.slots.now c.in_ok-columns.columns (lent c.deref-2.result.now) (option_map (λ ts. lent ts.items) c.in_ok-near.field-0)
    (ap (option_map (λ ts. lent ts.items)) c.unwrap-tuples.ensures ∙ ap (λ us. Some (lent us)) (sym c.deref-2.ensures.value)) c.formed.ensures c.requires c.in_ok-near.ensures)
    c.in_ok-conjunctions.field-0 c.in_ok-conjunctions.ensures

pub in_slots-requires-clause-stays : goal.in_slots-requires-clause-stays
in_slots-requires-clause-stays g c =
    list_stays g.T.Theory.holds g.T.Theory.mentions g.T.Theory.lines c.in_ok-conjunctions.field-0 (lent c.deref-2.result.now)
    (lent_normal g.T.OfTuples.reads (g.R.Relations.catalogue c.args.relations.now) c.args.name.now c.args.slots.now c.in_ok-columns.columns (lent c.deref-2.result.now)
    (lent_found g.T.OfTuples.reads (g.R.Relations.catalogue c.args.relations.now) c.args.name.now c.args.slots.now c.in_ok-columns.columns (lent c.deref-2.result.now) (option_map (λ ts. lent ts.items) c.in_ok-near.field-0)
    (ap (option_map (λ ts. lent ts.items)) c.unwrap-tuples.ensures ∙ ap (λ us. Some (lent us)) (sym c.deref-2.ensures.value)) c.formed.ensures c.requires c.in_ok-near.ensures))
    c.in_ok-conjunctions.ensures

pub conjunctions-requires : goal.conjunctions-requires
conjunctions-requires g c =
    lent_reads g.T.OfTuples.reads (g.R.Relations.catalogue c.args.relations.now) c.args.name.now c.args.slots.now c.in_ok-columns.columns (lent c.deref-2.result.now)
    (lent_found g.T.OfTuples.reads (g.R.Relations.catalogue c.args.relations.now) c.args.name.now c.args.slots.now c.in_ok-columns.columns (lent c.deref-2.result.now) (option_map (λ ts. lent ts.items) c.in_ok-near.field-0)
    (ap (option_map (λ ts. lent ts.items)) c.unwrap-tuples.ensures ∙ ap (λ us. Some (lent us)) (sym c.deref-2.ensures.value)) c.formed.ensures c.requires c.in_ok-near.ensures)

pub returns : goal.returns
returns g c = IfOk-weaker c.in_slots.result _ _ (λ r k.
    scan_is g.T.Theory.holds g.T.Theory.mentions g.T.Theory.lines g.T.OfTuples.reads (g.R.Relations.catalogue c.args.relations.now) c.args.name.now c.args.slots.now c.in_ok-columns.columns (lent c.deref-2.result.now)
    (lent_found g.T.OfTuples.reads (g.R.Relations.catalogue c.args.relations.now) c.args.name.now c.args.slots.now c.in_ok-columns.columns (lent c.deref-2.result.now) (option_map (λ ts. lent ts.items) c.in_ok-near.field-0)
    (ap (option_map (λ ts. lent ts.items)) c.unwrap-tuples.ensures ∙ ap (λ us. Some (lent us)) (sym c.deref-2.ensures.value)) c.formed.ensures c.requires c.in_ok-near.ensures)
    c.in_ok-conjunctions.field-0 c.in_ok-conjunctions.ensures (conj_holds g.T.Theory.holds c.args.window.now)
    (subst (λ ss. IsWindowOf ss (conj_holds g.T.Theory.holds c.args.window.now) c.in_ok-columns.columns) (c.deref.ensures.value ∙ c.slots.view_is) c.in_ok-columns.ensures)
    r k g.met.T.Theory.line_slots (subst AreDistinctSlots c.slots.view_is c.slots.invariant)) c.in_slots.ensures
