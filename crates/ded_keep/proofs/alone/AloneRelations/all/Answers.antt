use Rattle.std.proofs.Common.{◌≡◌, Some, sym, ap, ◌∙◌, subst}
use Rattle.std.specs.Prelude.{IfOk}
use Rattle.std.specs.Option.{option_map}
use Rattle.ded_packed.specs.Lent.{lent}
use Rattle.ded_keep.proofs.AloneMeanings.{own_tuples, other_tuples}
use Rattle.ded_keep.proofs.alone.AloneRelations.all.Goals as goal

pub returns-in_ok-lend : goal.returns-in_ok-lend
returns-in_ok-lend g c =
    let a = c.args.self.now in
    ap Some c.in_ok-lend.ensures ∙ sym (own_tuples (g.R.Relations.catalogue a.others.now) a.name.now a.heading.now a.tuples.now c.args.name.now (sym c.is_same.ensures ∙ c.if-is_same.true))

pub returns-else-is_same : goal.returns-else-is_same
returns-else-is_same g c =
    let a = c.args.self.now in
    subst (λ ts. IfOk c.all.result (λ o. option_map (λ us. lent us.items) o ≡ ts))
    (sym (other_tuples (g.R.Relations.catalogue a.others.now) a.name.now a.heading.now a.tuples.now c.args.name.now (sym c.is_same.ensures ∙ c.if-is_same.false))) c.all.ensures
