use Rattle.std.proofs.Common.{◌∙◌, subst}
use Rattle.ded_model.specs.Lines.{tuples_lines}
use Rattle.ded_database.specs.Changes.{after}
use Rattle.ded_database.specs.Lost.{AreApartLines}
use Rattle.ded_database.proofs.LostViews.{none_but}
use Rattle.ded_database.proofs.shortening.settled.Goals.{then-not-branch-via-then-not-branch, then-not-branch-via-else-not-branch+in_ok-have_none_lost+then-branch}
use Rattle.ded_database.proofs.shortening.settled.Goals as goal

pub returns-then-not-branch-clause-is : goal.returns-then-not-branch-clause-is
returns-then-not-branch-clause-is g c =
    elim c.then-not-branch.branch [
      | then-not-branch-via-then-not-branch w ↦ none_but (after c.args.renewal.now.change.now) c.args.renewal.now.mark.now.name c.args.lost.now c.args.tuples c.requires.but
          (subst (λ ts. AreApartLines (tuples_lines ts) c.args.lost.now) (c.deref.ensures.value ∙ c.tuples.view_is) (c.in_ok-have_any.ensures w.if-not-branch.true))
      | then-not-branch-via-else-not-branch+in_ok-have_none_lost+then-branch w ↦
          let k = w.in_ok-have_none_lost.ensures w.if-branch.true in
          none_but (after c.args.renewal.now.change.now) c.args.renewal.now.mark.now.name k.more c.args.tuples (c.requires.loses k.more k.loses)
          (subst (λ ts. AreApartLines (tuples_lines ts) k.more) (w.deref-else-not-branch.ensures.value ∙ c.tuples.view_is) k.apart)
    ]
