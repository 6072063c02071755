use Rattle.std.proofs.Common.{◌≡◌, true, Bool, List, sym, ap, ◌∙◌, subst}
use Rattle.std.proofs.lemmas.Result.{IfOk-weaker}
use Rattle.ded_model.specs.declared.slot.Slot.{Slot}
use Rattle.ded_model.specs.Point.{stands_in}
use Rattle.ded_model.specs.Row.{Atom, row_mentions, theme_mentions, tuple_holds}
use Rattle.ded_model.specs.Renaming.{IsOneToOne, KeepsSorts, IsRenamedPoint}
use Rattle.ded_theory.specs.Both.{by_kind}
use Rattle.ded_theory.specs.Conjunctions.{conj_mentions}
use Rattle.ded_query.specs.Columns.{slot_columns}
use Rattle.ded_query.specs.Windows.{column_values}
use Rattle.ded_query.proofs.ColumnsRead.{columns_apart, columns_sorted, columns_there}
use Rattle.ded_query.proofs.columns.at_columns.Goals as goal

abbrev mentions : List Atom → Slot → Bool
mentions t s = conj_mentions (by_kind row_mentions theme_mentions) t s

pub renamed_conj-requires-clause-one : goal.renamed_conj-requires-clause-one
renamed_conj-requires-clause-one c =
    let ss : List Slot = c.args.slots.now in
    let map = c.deref-3.ensures.value ∙ c.in_ok-columns.ensures ∙ ap (slot_columns 0) (c.deref.ensures.value ∙ c.slots.view_is) in
    let atoms = c.deref-2.ensures.value ∙ c.tuple.view_is in
    let own : (u : Slot) → mentions c.deref-2.result.now u ≡ true → stands_in ss u ≡ true = λ u e. c.requires u (sym (c.tuples_are_conjunctions.ensures.slots c.args.tuple.now u) ∙ ap (λ (t : List Atom). mentions t u) (sym atoms) ∙ e) in
    subst (λ m. IsOneToOne m (mentions c.deref-2.result.now)) (sym map) (columns_apart ss (mentions c.deref-2.result.now) own)

pub renamed_conj-requires-clause-sorts : goal.renamed_conj-requires-clause-sorts
renamed_conj-requires-clause-sorts c =
    let ss : List Slot = c.args.slots.now in
    let map = c.deref-3.ensures.value ∙ c.in_ok-columns.ensures ∙ ap (slot_columns 0) (c.deref.ensures.value ∙ c.slots.view_is) in
    let atoms = c.deref-2.ensures.value ∙ c.tuple.view_is in
    let own : (u : Slot) → mentions c.deref-2.result.now u ≡ true → stands_in ss u ≡ true = λ u e. c.requires u (sym (c.tuples_are_conjunctions.ensures.slots c.args.tuple.now u) ∙ ap (λ (t : List Atom). mentions t u) (sym atoms) ∙ e) in
    subst (λ m. KeepsSorts m (mentions c.deref-2.result.now)) (sym map) (columns_sorted ss (mentions c.deref-2.result.now) own)

pub returns : goal.returns
returns c =
    let ss : List Slot = c.args.slots.now in
    let map = c.deref-3.ensures.value ∙ c.in_ok-columns.ensures ∙ ap (slot_columns 0) (c.deref.ensures.value ∙ c.slots.view_is) in
    let atoms = c.deref-2.ensures.value ∙ c.tuple.view_is in
    let own : (u : Slot) → mentions c.deref-2.result.now u ≡ true → stands_in ss u ≡ true = λ u e. c.requires u (sym (c.tuples_are_conjunctions.ensures.slots c.args.tuple.now u) ∙ ap (λ (t : List Atom). mentions t u) (sym atoms) ∙ e) in
    IfOk-weaker c.normal_tuple.result _ _
    (λ t holds h j p i.
    holds (column_values p h ss)
    ∙ sym (c.tuples_are_conjunctions.ensures.holds c.in_ok-atoms.atoms.items (column_values p h ss))
    ∙ c.in_ok-atoms.ensures.is.holds p (column_values p h ss) i.positive
    (subst (λ m. IsRenamedPoint m (mentions c.deref-2.result.now) p (column_values p h ss)) (sym map) (columns_there ss (mentions c.deref-2.result.now) own p h j))
    ∙ c.tuples_are_conjunctions.ensures.holds c.deref-2.result.now p
    ∙ ap (λ t. tuple_holds t p) atoms) c.normal_tuple.ensures.holds
