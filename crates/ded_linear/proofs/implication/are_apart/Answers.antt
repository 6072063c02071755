use Rattle.std.proofs.Common.{◌≡◌, ◌++◌, ◌∷◌, [], true, IfOk, sym, subst}
use Rattle.std.specs.List.{AllByRecursion}
use Rattle.ded_model.specs.Cell.{conj_holds, HoldsNowhere}
use Rattle.ded_model.specs.Row.{row_holds}
use Rattle.ded_elimination.specs.LinearAtoms.{IsLinearAtom}
use Rattle.ded_linear.proofs.implication.are_apart.Goals as goal

pub are_all_apart-requires : goal.are_all_apart-requires
are_all_apart-requires c = record { kept = subst (AllByRecursion IsLinearAtom) (sym c.deref.ensures.value) c.requires.kept; behind = c.requires.behind }

pub returns-then-branch : goal.returns-then-branch
returns-then-branch c = λ e. c.in_ok-are_two_apart.ensures c.if-branch.true c.args.behind.now

pub returns : goal.returns
returns c =
    subst (λ xs. IfOk c.are_all_apart.result (λ b. b ≡ true → HoldsNowhere (conj_holds row_holds ((xs ++ c.args.behind.now) ++ c.args.row.now ∷ [])))) c.deref.ensures.value c.are_all_apart.ensures
