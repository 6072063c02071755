use Rattle.ded_theme.proofs.Bounding.{unbounded_below, unbounded_above}
use Rattle.ded_theme.proofs.theory.ThemeTheory.bounds.Goals as goal

pub returns-then-branch-clause-span : goal.returns-then-branch-clause-span
returns-then-branch-clause-span c =
    let h = c.in_ok-hold_somewhere.ensures.somewhere c.if-branch.true in
    (unbounded_below c.args._slot c.args.atoms.now c.requires.rational c.requires.normal h, unbounded_above c.args._slot c.args.atoms.now c.requires.rational c.requires.normal h)
