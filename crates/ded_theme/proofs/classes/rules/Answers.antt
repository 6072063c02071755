use Rattle.std.proofs.Common.{take, subst, sym, ◌∙◌}
use Rattle.ded_theme.specs.Sources.{source, right}
use Rattle.ded_theme.specs.Classes.{rules_of, AreRulesOf, AreUnited, AreApart}
use Rattle.ded_theme.proofs.Lists.{done_to}
use Rattle.ded_theme.proofs.Ruling.{AreRulesOf-skipped, AreRulesOf-more, nowhere_by}
use Rattle.ded_theme.proofs.classes.rules.Goals as goal
use Rattle.ded_theme.proofs.classes.rules.Goals.{else-comparison-via-then-comparison+in_ok-unite+else-not-branch, else-comparison-via-else-comparison}

pub returns-then-not-branch : goal.returns-then-not-branch
returns-then-not-branch c =
    let e = c.comparison_of-comparison.ensures in
    let rs = rules_of c.loop-atom.rules.items in
    nowhere_by c.args.atoms.now c.loop-atom.atom-index c.atom-item.result rs c.loop-atom-test.true c.atom-item.is
    (sym e.equal ∙ c.if-comparison.true) c.loop-atom.invariant
    (subst (λ v. AreApart rs v (right c.atom-item.result)) e.left (subst (λ w. AreApart rs (source c.comparison_of-comparison.result.left) w) e.right (c.in_ok-unite.ensures.apart c.if-not-branch.true)))

pub loop-atom-preserved : goal.loop-atom-preserved
loop-atom-preserved c =
    let e = c.comparison_of-comparison.ensures in
    let atoms = c.args.atoms.now in
    let i = c.loop-atom.atom-index in
    let a = c.atom-item.result in
    let old = rules_of c.loop-atom.rules.items in
    let new = rules_of c.else-comparison.rules.items in
    subst (λ done. AreRulesOf done new) (sym (done_to atoms i a c.loop-atom-test.true c.atom-item.is))
    (elim c.else-comparison.branch [
      | else-comparison-via-then-comparison+in_ok-unite+else-not-branch w ↦
          rw w.rules-is (AreRulesOf-more (take i atoms) old a (rules_of w.unite.new.rules.items) c.loop-atom.invariant (sym e.equal ∙ w.if-comparison.true)
          (subst (λ x. AreUnited old (rules_of w.unite.new.rules.items) x (right a)) e.left
          (subst (λ y. AreUnited old (rules_of w.unite.new.rules.items) (source c.comparison_of-comparison.result.left) y) e.right (w.in_ok-unite.ensures.united w.if-not-branch.false))))
      | else-comparison-via-else-comparison w ↦ rw w.rules-is (AreRulesOf-skipped (take i atoms) old a c.loop-atom.invariant (sym e.equal ∙ w.if-comparison.false))
    ])
