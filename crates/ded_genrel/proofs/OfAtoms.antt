-- Lemmas that several crates cite.
use Rattle.std.proofs.Common.{◌≡◌, ◌||◌, List, [], ◌∷◌, refl, ap₂}
use Rattle.ded_model.specs.Point.{Point}
use Rattle.ded_model.specs.Row.{Atom, row_holds, theme_holds, tuples_hold}
use Rattle.ded_theory.specs.Both.{by_kind}
use Rattle.ded_theory.proofs.Shared.{holds_alike}
use Rattle.ded_genrel.specs.Lists.{conjs_hold}

pub lists_hold : (cs : List (List Atom)) (p : Point) → conjs_hold (by_kind row_holds theme_holds) cs p ≡ tuples_hold cs p
unfolding tuples_hold
lists_hold [] p = refl
lists_hold (c ∷ cs) p = ap₂ (λ a b. a || b) (holds_alike c p) (lists_hold cs p)
