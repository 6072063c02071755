use Rattle.std.proofs.Common.{◌≡◌, ◌∙◌, sym, ap, subst}
use Rattle.std.proofs.lemmas.Result.{IfOk-weaker}
use Rattle.ded_model.specs.declared.slot.Slot.{Slot}
use Rattle.ded_model.specs.Renaming.{renamed, IsOneToOne, KeepsSorts}
use Rattle.ded_genrel.specs.Lists.{conjs_hold, conjs_mention, conjs_lines}
use Rattle.ded_genrel.specs.Operations.{IsRenaming}
use Rattle.ded_algebra.specs.Columns.{column_pairs}
use Rattle.ded_eval.proofs.Staying.{renaming_stays}
use Rattle.ded_eval.proofs.scanning.in_slots.Goals as goal

pub rename-requires-clause-one : goal.rename-requires-clause-one
rename-requires-clause-one g c =
    subst (λ ps. IsOneToOne ps (conjs_mention g.T.Theory.mentions c.args.list)) (sym (c.deref-3.ensures.value ∙ c.in_ok-pairs.ensures ∙ ap (column_pairs 0) (c.deref-2.ensures.value ∙ c.slots.view_is))) c.requires.one

pub rename-requires-clause-sorts : goal.rename-requires-clause-sorts
rename-requires-clause-sorts g c =
    subst (λ ps. KeepsSorts ps (conjs_mention g.T.Theory.mentions c.args.list)) (sym (c.deref-3.ensures.value ∙ c.in_ok-pairs.ensures ∙ ap (column_pairs 0) (c.deref-2.ensures.value ∙ c.slots.view_is))) c.requires.sorts

pub returns-then-are_columns : goal.returns-then-are_columns
returns-then-are_columns g c =
    renaming_stays (column_pairs 0 c.args.slots.now) (subst (λ ss. (s : Slot) → renamed (column_pairs 0 ss) s ≡ s) (c.deref.ensures.value ∙ c.slots.view_is) (c.are_columns.ensures c.if-are_columns.true))
    (conjs_hold g.T.Theory.holds c.args.list) (conjs_hold g.T.Theory.holds c.args.list) (conjs_mention g.T.Theory.mentions c.args.list) (conjs_mention g.T.Theory.mentions c.args.list)
    (conjs_lines g.T.Theory.lines c.args.list) (conjs_lines g.T.Theory.lines c.args.list) c.requires.stays

pub returns : goal.returns
returns g c = IfOk-weaker c.rename.result _ _ (λ r k.
    subst (λ ps. IsRenaming ps (conjs_hold g.T.Theory.holds c.args.list) (conjs_hold g.T.Theory.holds r) (conjs_mention g.T.Theory.mentions c.args.list) (conjs_mention g.T.Theory.mentions r)
    (conjs_lines g.T.Theory.lines c.args.list) (conjs_lines g.T.Theory.lines r))
    (c.deref-3.ensures.value ∙ c.in_ok-pairs.ensures ∙ ap (column_pairs 0) (c.deref-2.ensures.value ∙ c.slots.view_is)) k)
    c.rename.ensures
