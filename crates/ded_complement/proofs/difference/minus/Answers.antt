use Rattle.std.proofs.Common.{IfSome, not, ◌&&◌, ◌||◌, ◌++◌, ◌∙◌, length, ap, sym, subst}
use Rattle.std.proofs.lemmas.Result.{IfOk-weaker}
use Rattle.std.specs.List.{AllByRecursion}
use Rattle.ded_model.specs.Cell.{conj_holds, HoldsSomewhere, HasCells}
use Rattle.ded_theory.specs.Conjunctions.{IsWide}
use Rattle.ded_genrel.specs.Lists.{conjs_hold, conjs_mention, conjs_lines}
use Rattle.ded_genrel.specs.Operations.{IsOperation}
use Rattle.ded_complement.specs.Boxed.{conjs_in}
use Rattle.ded_complement.specs.Keys.{AreKeys}
use Rattle.ded_complement.specs.Pieces.{all_atoms, IsListForEach, IsMadeOf}
use Rattle.ded_complement.proofs.difference.minus.Goals as goal

pub minus_boxed-requires-clause-keys : goal.minus_boxed-requires-clause-keys
minus_boxed-requires-clause-keys g c =
    subst (λ bs. IfSome c.in_ok-keys.keys (λ k. AreKeys g.T.Theory.holds bs (conjs_in bs) k)) (c.deref-2.ensures.value ∙ sym c.deref-3.ensures.value) c.in_ok-keys.ensures

pub returns-clause-is : goal.returns-clause-is
returns-clause-is g c =
    let same = ap conjs_in c.deref-3.ensures.value ∙ c.in_ok-boxed.ensures.same in
    IfOk-weaker c.minus_boxed.result _ _ (λ out k. subst (λ ts. IsOperation g.T.Theory.holds g.T.Theory.mentions g.T.Theory.lines (λ p. conjs_hold g.T.Theory.holds c.args.from.now p && not (conjs_hold g.T.Theory.holds ts p))
    (λ s. conjs_mention g.T.Theory.mentions c.args.from.now s || conjs_mention g.T.Theory.mentions ts s) (conjs_lines g.T.Theory.lines c.args.from.now ++ conjs_lines g.T.Theory.lines ts) out) same k) c.minus_boxed.ensures.is

pub returns-clause-cells : goal.returns-clause-cells
returns-clause-cells g c =
    let same = ap conjs_in c.deref-3.ensures.value ∙ c.in_ok-boxed.ensures.same in
    IfOk-weaker c.minus_boxed.result _ _ (λ out k. subst (λ ts. (IsWide g.T.Theory.mentions g.T.Theory.lines (all_atoms c.args.from.now ++ all_atoms ts) → ⊥) → IsListForEach (λ pieces. HasCells g.T.Theory.cell (all_atoms c.args.from.now ++ all_atoms ts) (length pieces)
    × AllByRecursion (λ d. HoldsSomewhere (conj_holds g.T.Theory.holds d)) pieces) c.args.from.now out) same k) c.minus_boxed.ensures.cells

pub returns-clause-made : goal.returns-clause-made
returns-clause-made g c =
    let same = ap conjs_in c.deref-3.ensures.value ∙ c.in_ok-boxed.ensures.same in
    IfOk-weaker c.minus_boxed.result _ _ (λ out k. subst (λ ts. AllByRecursion (IsMadeOf g.T.Theory.mentions g.T.Theory.lines g.T.Theory.cell (all_atoms c.args.from.now ++ all_atoms ts)) out) same k) c.minus_boxed.ensures.made
