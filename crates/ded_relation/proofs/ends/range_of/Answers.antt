use Rattle.std.proofs.Common.{rules, sym, subst}
use Rattle.std.specs.List.{AllByRecursion}
use Rattle.ded_model.specs.Bound.{lower, upper}
use Rattle.ded_model.specs.Cell.{conj_holds}
use Rattle.ded_model.specs.Interval.{IsExactBound}
use Rattle.ded_model.specs.Normal.{IsNormalTheme}
use Rattle.ded_model.specs.Row.{row_holds, theme_holds}
use Rattle.ded_theory.specs.Both.{by_kind, IsByKind}
use Rattle.ded_theory.specs.Verdicts.{IsBound}
use Rattle.ded_elimination.specs.LinearAtoms.{IsLinearAtom}
use Rattle.ded_elimination.proofs.Shared.{atoms_normal}
use Rattle.ded_relation.proofs.Bounded.{exact_range, sure_range}
use Rattle.ded_relation.proofs.ends.range_of.Goals as goal

pub bounds-requires-clause-normal : goal.bounds-requires-clause-normal
bounds-requires-clause-normal c = subst (AllByRecursion (IsByKind IsLinearAtom IsNormalTheme)) (sym c.deref.ensures.value) (atoms_normal c.tuple.inside.atoms.items c.tuple.invariant)

pub returns-in-Exact : goal.returns-in-Exact
returns-in-Exact c =
    let t = c.args.tuple.now in
    let s = c.args.slot in
    let low : IsExactBound (conj_holds (by_kind row_holds theme_holds) t) s lower c.in-Exact.low = search rules in
    let high : IsExactBound (conj_holds (by_kind row_holds theme_holds) t) s upper c.in-Exact.high = search rules in
    exact_range t s c.between.result c.in-Exact.low c.in-Exact.high c.between.ensures.low c.between.ensures.high (low, high)

pub returns-in-Around : goal.returns-in-Around
returns-in-Around c =
    let t = c.args.tuple.now in
    let s = c.args.slot in
    let low : IsBound (conj_holds (by_kind row_holds theme_holds) t) s lower c.in-Around.low = search rules in
    let high : IsBound (conj_holds (by_kind row_holds theme_holds) t) s upper c.in-Around.high = search rules in
    sure_range t s c.between-in-Around.result c.in-Around.low c.in-Around.high c.between-in-Around.ensures.low c.between-in-Around.ensures.high low high
