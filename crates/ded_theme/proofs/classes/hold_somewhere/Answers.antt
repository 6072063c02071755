use Rattle.std.proofs.Common.{MatchOption, subst, sym}
use Rattle.ded_model.specs.Row.{theme_holds}
use Rattle.ded_model.specs.Cell.{conj_holds, HoldsNowhere}
use Rattle.ded_theme.specs.Classes.{rules_of, AreRulesOf, AreSplit}
use Rattle.ded_theme.proofs.Ruling.{nowhere_with}
use Rattle.ded_theme.proofs.Filling.{somewhere}
use Rattle.ded_theme.proofs.classes.hold_somewhere.Goals as goal

pub returns-in-Some-clause-somewhere : goal.returns-in-Some-clause-somewhere
returns-in-Some-clause-somewhere c =
    let atoms = c.args.atoms.now in
    let rs = rules_of c.in-Some.rules.items in
    let h : AreRulesOf atoms rs = subst (λ o. MatchOption o (HoldsNowhere (conj_holds theme_holds atoms)) (λ v. AreRulesOf atoms (rules_of v.items))) c.in-Some.is c.in_ok-rules.ensures in
    λ k. somewhere atoms rs c.requires h (subst (λ xs. AreSplit (rules_of xs) atoms) c.deref.ensures.value (c.differ.ensures.split k))

pub returns-in-Some-clause-nowhere : goal.returns-in-Some-clause-nowhere
returns-in-Some-clause-nowhere c =
    let atoms = c.args.atoms.now in
    let rs = rules_of c.deref.result.now in
    let h : AreRulesOf atoms rs =
    subst (λ xs. AreRulesOf atoms (rules_of xs)) (sym c.deref.ensures.value)
    (subst (λ o. MatchOption o (HoldsNowhere (conj_holds theme_holds atoms)) (λ v. AreRulesOf atoms (rules_of v.items))) c.in-Some.is c.in_ok-rules.ensures) in
    λ k. nowhere_with atoms rs h (c.differ.ensures.joined k)
