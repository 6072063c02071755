use Rattle.std.proofs.Common.{sym, ap, ◌∙◌, subst, bytes_eq, [], ◌∷◌, ◌++◌}
use Rattle.std.specs.List.{list_any}
use Rattle.ded_plan.specs.ScannedNames.{AreDistinctNames}
use Rattle.ded_query.proofs.Owed.{distinct_more}
use Rattle.ded_query.proofs.tried.Tried.begin.Goals as goal

pub invariant_of-self-2 : goal.invariant_of-self-2
invariant_of-self-2 c =
    subst AreDistinctNames (sym (c.in_ok-push.ensures.items ∙ ap (λ n. c.self.inside.names.items ++ n ∷ []) c.in_ok-copy.ensures))
    (distinct_more c.args.name.now c.self.inside.names.items (ap (list_any (bytes_eq c.args.name.now)) c.self.view_is ∙ c.requires.fresh) c.self.invariant)
