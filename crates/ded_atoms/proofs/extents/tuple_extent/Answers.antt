use Rattle.std.proofs.Common.{◌≡◌, ◌∙◌, sym, subst, List, [], rules}
use Rattle.std.specs.List.{AllByRecursion}
use Rattle.std.proofs.lemmas.Result.{IfOk-weaker}
use Rattle.ded_model.specs.declared.bound.BoxReply.{BoxReply}
use Rattle.ded_model.specs.declared.name.Column.{Column}
use Rattle.ded_model.specs.Cell.{conj_holds}
use Rattle.ded_model.specs.Lines.{row_lines}
use Rattle.ded_model.specs.Normal.{IsNormalTheme}
use Rattle.ded_model.specs.Row.{Atom, row_holds, theme_holds, row_mentions, theme_mentions, tuple_holds}
use Rattle.ded_theory.specs.Both.{by_kind, IsByKind}
use Rattle.ded_theory.specs.Conjunctions.{IsWide}
use Rattle.ded_elimination.specs.LinearAtoms.{IsLinearAtom}
use Rattle.ded_elimination.proofs.Shared.{atoms_normal}
use Rattle.ded_box.specs.Extents.{IsBox}
use Rattle.ded_order.specs.OrderRows.{IsOrderAtom}
use Rattle.ded_atoms.specs.Orders.{AreOrderAtoms}
use Rattle.ded_atoms.proofs.Extending.{tuple_box}
use Rattle.ded_atoms.proofs.OrderTuples.{order_normal}
use Rattle.ded_atoms.proofs.WideTuples.{wide_tuple}
use Rattle.ded_atoms.proofs.extents.tuple_extent.Goals as goal

-- the box of equal atoms over an equal heading
boxed : (h k : List Column) (t u : List Atom) → k ≡ h → u ≡ t → (r : BoxReply) → IsBox (conj_holds (by_kind row_holds theme_holds) u) k r → IsBox (tuple_holds t) h r
boxed h k t u e f r x = tuple_box h t r (subst (λ (v : List Atom). IsBox (conj_holds (by_kind row_holds theme_holds) v) h r) f (subst (λ (i : List Column). IsBox (conj_holds (by_kind row_holds theme_holds) u) i r) e x))

pub conj_extent-requires : goal.conj_extent-requires
conj_extent-requires c =
    let same : c.deref-in-Some-2.result.now ≡ c.args.tuple.now = search rules in
    let orders : AreOrderAtoms c.args.tuple.now = search rules in
    subst (AllByRecursion (IsByKind IsOrderAtom IsNormalTheme)) (sym same) (order_normal c.args.tuple.now c.requires.normal orders)

pub returns-in-Some-clause-is : goal.returns-in-Some-clause-is
returns-in-Some-clause-is c =
    let same : c.deref-in-Some-2.result.now ≡ c.args.tuple.now = search rules in
    IfOk-weaker c.conj_extent.result _ _ (λ r x. boxed c.args.heading.now c.deref-in-Some.result.now c.args.tuple.now c.deref-in-Some-2.result.now (c.deref-in-Some.ensures.value ∙ c.heading.view_is) same r x) c.conj_extent.ensures.is

pub conj_extent-requires-2 : goal.conj_extent-requires-2
conj_extent-requires-2 c = subst (AllByRecursion (IsByKind IsLinearAtom IsNormalTheme)) (sym (c.deref-3.ensures.value ∙ c.tuple.view_is)) (atoms_normal c.args.tuple.now c.requires.normal)

pub returns-clause-is : goal.returns-clause-is
returns-clause-is c =
    IfOk-weaker c.conj_extent-2.result _ _ (λ r x. boxed c.args.heading.now c.deref-2.result.now c.args.tuple.now c.deref-3.result.now (c.deref-2.ensures.value ∙ c.heading.view_is) (c.deref-3.ensures.value ∙ c.tuple.view_is) r x) c.conj_extent-2.ensures.is

pub returns-clause-wide : goal.returns-clause-wide
returns-clause-wide c = λ e.
    wide_tuple c.args.heading.now c.args.tuple.now c.requires
    (subst (IsWide (by_kind row_mentions theme_mentions) (by_kind row_lines (λ a. []))) (c.deref-3.ensures.value ∙ c.tuple.view_is) (c.conj_extent-2.ensures.wide e))
