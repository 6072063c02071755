use Rattle.std.proofs.Common.{rules, ◌≡◌, ◌∙◌, false, [], ◌∷◌, refl, sym, subst}
use Rattle.ded_model.specs.Made.{is_made}
use Rattle.ded_model.proofs.Made.{plain_name}
use Rattle.ded_trials.proofs.catalogues.answers.Goals as goal

pub define_at-requires-clause-new : goal.define_at-requires-clause-new
define_at-requires-clause-new c = (search rules, subst (λ n. is_made n ≡ false) (sym (c.in_ok-copy.ensures ∙ c.in_ok-name.ensures)) (plain_name (84 ∷ []) refl))
