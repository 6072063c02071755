use Rattle.std.proofs.Common.{ap, sym, ◌∙◌}
use Rattle.ded_theme.specs.Classes.{rules_of, class_of}
use Rattle.ded_theme.proofs.Ruling.{fails_by}
use Rattle.ded_theme.proofs.classes.differ.Goals as goal

pub returns-then-are_joined-clause-joined : goal.returns-then-are_joined-clause-joined
returns-then-are_joined-clause-joined c =
    let e = c.comparison_of-comparison.ensures in
    let rs = rules_of c.args.rules.now in
    λ _. fails_by c.args.atoms.now c.loop-atom.atom-index c.atom-item.result rs c.loop-atom-test.true c.atom-item.is
    (sym e.equal ∙ c.if-not-comparison.true)
    (ap (class_of rs) (sym e.left) ∙ c.are_joined.ensures.0 c.if-are_joined.true ∙ ap (class_of rs) e.right)
