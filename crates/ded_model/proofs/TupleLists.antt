-- What holds of a list of tuples, tuple by tuple.
use Rattle.std.proofs.Common.{◌≡◌, false, [], refl, ◌&&◌, List, ◌++◌, ◌||◌, ◌∷◌, sym, ap, ◌∙◌, append_assoc, append-nil}
use Rattle.std.proofs.lemmas.List.Folds.{list_all-append}
use Rattle.std.proofs.Math.Bool.{or_assoc, or-false}
use Rattle.ded_model.specs.Point.{Point}
use Rattle.ded_model.specs.Row.{tuples_hold, Atom, atom_holds, tuple_holds}
use Rattle.ded_model.specs.Lines.{atoms_lines, tuples_lines}

-- no tuple holds nowhere
pub none_hold : (p : Point) → tuples_hold [] p ≡ false
unfolding tuples_hold
none_hold p = refl

pub together : (t u : List Atom) (p : Point) → tuple_holds (t ++ u) p ≡ (tuple_holds t p && tuple_holds u p)
unfolding tuple_holds
together t u p = list_all-append (λ a. atom_holds a p) t u

pub tuples_hold-push : (ts : List (List Atom)) (t : List Atom) (p : Point) → tuples_hold (ts ++ t ∷ []) p ≡ (tuples_hold ts p || tuple_holds t p)
unfolding tuples_hold
tuples_hold-push [] t p = or-false (tuple_holds t p)
tuples_hold-push (x ∷ ts) t p = ap (λ z. tuple_holds x p || z) (tuples_hold-push ts t p) ∙ sym (or_assoc (tuple_holds x p) _ _)

pub tuples_lines-push : (ts : List (List Atom)) (t : List Atom) → tuples_lines (ts ++ t ∷ []) ≡ tuples_lines ts ++ atoms_lines t
tuples_lines-push [] t = append-nil (atoms_lines t)
tuples_lines-push (x ∷ ts) t = ap (λ ls. atoms_lines x ++ ls) (tuples_lines-push ts t) ∙ sym (append_assoc (atoms_lines x) (tuples_lines ts) (atoms_lines t))
