-- Rows are the same as themselves in the order of atoms.
use Rattle.std.proofs.Common.{◌≡◌, ℕ, true, List, [], ◌∷◌, refl}
use Rattle.std.specs.Prelude.{ℤ}
use Rattle.std.specs.declared.cmp.Ordering.TheVariants.{Equal}
use Rattle.std.specs.Ordering.{nat_cmp, is_eq}
use Rattle.std.specs.Cmp.Lexicographic.{slice_cmp}
use Rattle.ded_model.specs.declared.slot.Slot.{Slot}
use Rattle.ded_model.specs.declared.tuple.ThemeAtom.{ThemeAtom}
use Rattle.ded_model.specs.declared.tuple.BothAtom.TheVariants.{First, Second}
use Rattle.ded_model.specs.Constraint.{LinearConstraint}
use Rattle.ded_model.specs.Row.{Atom}
use Rattle.ded_model.specs.Normal.{coefs_order, op_place, row_order, first_slot, kind_place, quoted_text, second_number, theme_order, atom_order}
use Rattle.ded_algebra.specs.Compiled.{same_rows}
use Rattle.std.proofs.lemmas.Bool.{and_from}
use Rattle.ded_row.proofs.Orders.{cmp_same}
use Rattle.ded_tuple.proofs.Chains.{int-same}

same_text : (x : List ℕ) → slice_cmp nat_cmp x x ≡ Equal
same_text [] = refl
same_text (a ∷ x) = rw (cmp_same a) (same_text x)

same_coefs : (cs : List (Slot × ℤ)) → coefs_order cs cs ≡ Equal
same_coefs [] = refl
same_coefs (c ∷ cs) = rw (cmp_same c.0.number, int-same c.1) (same_coefs cs)

same_row : (r : LinearConstraint) → row_order r r ≡ Equal
unfolding row_order
same_row r = rw (same_coefs r.coefs, int-same r.constant) (cmp_same (op_place r.op))

same_theme : (a : ThemeAtom) → theme_order a a ≡ Equal
unfolding theme_order
same_theme a = rw (cmp_same (first_slot a).number, cmp_same (kind_place a), same_text (quoted_text a)) (cmp_same (second_number a))

same_atom : (a : Atom) → is_eq (atom_order a a) ≡ true
same_atom (First r) = rw (same_row r) refl
same_atom (Second a) = rw (same_theme a) refl

pub same_rows_refl : (t : List Atom) → same_rows t t ≡ true
same_rows_refl [] = refl
same_rows_refl (a ∷ t) = and_from _ _ (same_atom a) (same_rows_refl t)
