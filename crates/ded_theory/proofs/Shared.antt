-- Lemmas that several crates cite.
use Rattle.std.proofs.Common.{◌≡◌, ◌&&◌, List, [], ◌∷◌, refl, ap}
use Rattle.ded_model.specs.declared.tuple.BothAtom.TheVariants.{First, Second}
use Rattle.ded_model.specs.Cell.{conj_holds}
use Rattle.ded_model.specs.Point.{Point}
use Rattle.ded_model.specs.Row.{Atom, row_holds, theme_holds, atom_holds, tuple_holds}
use Rattle.ded_theory.specs.Both.{by_kind}

pub holds_alike : (t : List Atom) (p : Point) → conj_holds (by_kind row_holds theme_holds) t p ≡ tuple_holds t p
unfolding tuple_holds atom_holds
holds_alike [] p = refl
holds_alike (First r ∷ t) p = ap (λ b. row_holds r p && b) (holds_alike t p)
holds_alike (Second a ∷ t) p = ap (λ b. theme_holds a p && b) (holds_alike t p)
