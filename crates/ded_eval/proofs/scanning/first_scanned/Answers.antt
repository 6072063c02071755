use Rattle.std.proofs.Common.{◌∙◌, sym, ap, subst}
use Rattle.std.specs.Option.{option_map}
use Rattle.ded_model.specs.Cell.{conj_holds}
use Rattle.ded_model.specs.Point.{AreDistinctSlots}
use Rattle.ded_packed.specs.Lent.{lent}
use Rattle.ded_eval.specs.Within.{IsWindowOf}
use Rattle.ded_eval.proofs.Found.{IsLent, lent_found}
use Rattle.ded_eval.proofs.Scanned.{scan_holds}
use Rattle.ded_eval.proofs.ScannedFirst.{IsSomeOf, first_lent, all_lent, first_reads, first_normal, first_apart, first_sorts, first_found}
use Rattle.ded_eval.proofs.Staying.{list_stays}
use Rattle.ded_eval.proofs.scanning.first_scanned.Goals as goal

pub in_slots-requires-clause-one : goal.in_slots-requires-clause-one
in_slots-requires-clause-one g c =
    first_apart g.T.Theory.holds g.T.Theory.mentions g.T.Theory.lines g.T.OfTuples.reads (g.R.Relations.catalogue c.args.relations.now) c.args.name.now c.args.slots.now (lent c.deref-2.result.now)
    (subst (λ bs. IsSomeOf g.T.OfTuples.reads (g.R.Relations.catalogue c.args.relations.now) c.args.name.now c.args.slots.now (lent bs)) (sym (c.deref-2.ensures.value ∙ c.truncate.ensures.items))
    (first_lent g.T.OfTuples.reads (g.R.Relations.catalogue c.args.relations.now) c.args.name.now c.args.slots.now c.in_ok-columns.columns c.args.count c.unwrap-tuples.result.items
    (lent_found g.T.OfTuples.reads (g.R.Relations.catalogue c.args.relations.now) c.args.name.now c.args.slots.now c.in_ok-columns.columns (lent c.unwrap-tuples.result.items) (option_map (λ ts. lent ts.items) c.in_ok-near.field-0) (ap (option_map (λ ts. lent ts.items)) c.unwrap-tuples.ensures) c.formed.ensures c.requires c.in_ok-near.ensures)))
    c.in_ok-conjunctions.field-0 c.in_ok-conjunctions.ensures (subst AreDistinctSlots c.slots.view_is c.slots.invariant)

pub in_slots-requires-clause-sorts : goal.in_slots-requires-clause-sorts
in_slots-requires-clause-sorts g c =
    first_sorts g.T.Theory.holds g.T.Theory.mentions g.T.Theory.lines g.T.OfTuples.reads (g.R.Relations.catalogue c.args.relations.now) c.args.name.now c.args.slots.now (lent c.deref-2.result.now)
    (subst (λ bs. IsSomeOf g.T.OfTuples.reads (g.R.Relations.catalogue c.args.relations.now) c.args.name.now c.args.slots.now (lent bs)) (sym (c.deref-2.ensures.value ∙ c.truncate.ensures.items))
    (first_lent g.T.OfTuples.reads (g.R.Relations.catalogue c.args.relations.now) c.args.name.now c.args.slots.now c.in_ok-columns.columns c.args.count c.unwrap-tuples.result.items
    (lent_found g.T.OfTuples.reads (g.R.Relations.catalogue c.args.relations.now) c.args.name.now c.args.slots.now c.in_ok-columns.columns (lent c.unwrap-tuples.result.items) (option_map (λ ts. lent ts.items) c.in_ok-near.field-0) (ap (option_map (λ ts. lent ts.items)) c.unwrap-tuples.ensures) c.formed.ensures c.requires c.in_ok-near.ensures)))
    c.in_ok-conjunctions.field-0 c.in_ok-conjunctions.ensures

pub in_slots-requires-clause-stays : goal.in_slots-requires-clause-stays
in_slots-requires-clause-stays g c =
    list_stays g.T.Theory.holds g.T.Theory.mentions g.T.Theory.lines c.in_ok-conjunctions.field-0 (lent c.deref-2.result.now)
    (first_normal g.T.OfTuples.reads (g.R.Relations.catalogue c.args.relations.now) c.args.name.now c.args.slots.now (lent c.deref-2.result.now)
    (subst (λ bs. IsSomeOf g.T.OfTuples.reads (g.R.Relations.catalogue c.args.relations.now) c.args.name.now c.args.slots.now (lent bs)) (sym (c.deref-2.ensures.value ∙ c.truncate.ensures.items))
    (first_lent g.T.OfTuples.reads (g.R.Relations.catalogue c.args.relations.now) c.args.name.now c.args.slots.now c.in_ok-columns.columns c.args.count c.unwrap-tuples.result.items
    (lent_found g.T.OfTuples.reads (g.R.Relations.catalogue c.args.relations.now) c.args.name.now c.args.slots.now c.in_ok-columns.columns (lent c.unwrap-tuples.result.items) (option_map (λ ts. lent ts.items) c.in_ok-near.field-0) (ap (option_map (λ ts. lent ts.items)) c.unwrap-tuples.ensures) c.formed.ensures c.requires c.in_ok-near.ensures))))
    c.in_ok-conjunctions.ensures

pub conjunctions-requires : goal.conjunctions-requires
conjunctions-requires g c =
    first_reads g.T.OfTuples.reads (g.R.Relations.catalogue c.args.relations.now) c.args.name.now c.args.slots.now (lent c.deref-2.result.now)
    (subst (λ bs. IsSomeOf g.T.OfTuples.reads (g.R.Relations.catalogue c.args.relations.now) c.args.name.now c.args.slots.now (lent bs)) (sym (c.deref-2.ensures.value ∙ c.truncate.ensures.items))
    (first_lent g.T.OfTuples.reads (g.R.Relations.catalogue c.args.relations.now) c.args.name.now c.args.slots.now c.in_ok-columns.columns c.args.count c.unwrap-tuples.result.items
    (lent_found g.T.OfTuples.reads (g.R.Relations.catalogue c.args.relations.now) c.args.name.now c.args.slots.now c.in_ok-columns.columns (lent c.unwrap-tuples.result.items) (option_map (λ ts. lent ts.items) c.in_ok-near.field-0) (ap (option_map (λ ts. lent ts.items)) c.unwrap-tuples.ensures) c.formed.ensures c.requires c.in_ok-near.ensures)))

pub returns-clause-found : goal.returns-clause-found
returns-clause-found g c =
    first_found g.T.Theory.holds g.T.Theory.mentions g.T.Theory.lines g.T.OfTuples.reads (g.R.Relations.catalogue c.args.relations.now) c.args.name.now c.args.slots.now (lent c.deref-2.result.now)
    (subst (λ bs. IsSomeOf g.T.OfTuples.reads (g.R.Relations.catalogue c.args.relations.now) c.args.name.now c.args.slots.now (lent bs)) (sym (c.deref-2.ensures.value ∙ c.truncate.ensures.items))
    (first_lent g.T.OfTuples.reads (g.R.Relations.catalogue c.args.relations.now) c.args.name.now c.args.slots.now c.in_ok-columns.columns c.args.count c.unwrap-tuples.result.items
    (lent_found g.T.OfTuples.reads (g.R.Relations.catalogue c.args.relations.now) c.args.name.now c.args.slots.now c.in_ok-columns.columns (lent c.unwrap-tuples.result.items) (option_map (λ ts. lent ts.items) c.in_ok-near.field-0) (ap (option_map (λ ts. lent ts.items)) c.unwrap-tuples.ensures) c.formed.ensures c.requires c.in_ok-near.ensures)))
    c.in_ok-conjunctions.field-0 c.in_ok-conjunctions.ensures (conj_holds g.T.Theory.holds c.args.window.now) c.in_ok-list.list c.in_ok-list.ensures

pub returns-clause-whole : goal.returns-clause-whole
returns-clause-whole g c = λ e p i w x.
    (scan_holds g.T.Theory.holds g.T.Theory.mentions g.T.Theory.lines g.T.OfTuples.reads (g.R.Relations.catalogue c.args.relations.now) c.args.name.now c.args.slots.now c.in_ok-columns.columns (lent c.deref-2.result.now)
    (subst (λ bs. IsLent g.T.OfTuples.reads (g.R.Relations.catalogue c.args.relations.now) c.args.name.now c.args.slots.now c.in_ok-columns.columns (lent bs)) (sym (c.deref-2.ensures.value ∙ c.truncate.ensures.items))
    (all_lent g.T.OfTuples.reads (g.R.Relations.catalogue c.args.relations.now) c.args.name.now c.args.slots.now c.in_ok-columns.columns c.args.count c.len.result c.unwrap-tuples.result.items (c.len.ensures ∙ c.unwrap-tuples.result.ok.0) e
    (lent_found g.T.OfTuples.reads (g.R.Relations.catalogue c.args.relations.now) c.args.name.now c.args.slots.now c.in_ok-columns.columns (lent c.unwrap-tuples.result.items) (option_map (λ ts. lent ts.items) c.in_ok-near.field-0) (ap (option_map (λ ts. lent ts.items)) c.unwrap-tuples.ensures) c.formed.ensures c.requires c.in_ok-near.ensures)))
    c.in_ok-conjunctions.field-0 c.in_ok-conjunctions.ensures (conj_holds g.T.Theory.holds c.args.window.now)
    (subst (λ ss. IsWindowOf ss (conj_holds g.T.Theory.holds c.args.window.now) c.in_ok-columns.columns) (c.deref.ensures.value ∙ c.slots.view_is) c.in_ok-columns.ensures) c.in_ok-list.list c.in_ok-list.ensures p i w).1 x
