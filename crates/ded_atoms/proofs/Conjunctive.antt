-- A tuple, as a conjunction of rows and text atoms.
use Rattle.std.proofs.Common.{◌≡◌, ◌||◌, List, [], ◌∷◌, ◌++◌, refl, ap}
use Rattle.std.specs.List.{AllByRecursion}
use Rattle.ded_model.specs.declared.slot.Slot.{Slot}
use Rattle.ded_model.specs.declared.tuple.BothAtom.TheVariants.{First, Second}
use Rattle.ded_model.specs.Point.{Point}
use Rattle.ded_model.specs.Row.{Atom, row_mentions, theme_mentions, atom_mentions, tuple_mentions}
use Rattle.ded_model.specs.Cell.{row_cell, theme_cell, atom_cell}
use Rattle.ded_model.specs.Lines.{row_lines, atoms_lines}
use Rattle.ded_model.specs.Normal.{IsNormalTheme}
use Rattle.ded_theory.specs.Both.{by_kind, IsByKind}
use Rattle.ded_theory.specs.Conjunctions.{conj_mentions, conj_lines}
use Rattle.ded_elimination.specs.LinearAtoms.{IsLinearAtom}
use Rattle.ded_tuple.specs.TrueRows.{IsNormalOrTrue}

-- mentions the same slots
pub tuple_mentions-is : (t : List Atom) (s : Slot) → conj_mentions (by_kind row_mentions theme_mentions) t s ≡ tuple_mentions t s
unfolding tuple_mentions atom_mentions
tuple_mentions-is [] s = refl
tuple_mentions-is (First r ∷ t) s = ap (λ b. row_mentions r s || b) (tuple_mentions-is t s)
tuple_mentions-is (Second a ∷ t) s = ap (λ b. theme_mentions a s || b) (tuple_mentions-is t s)

-- has the same lines
pub atoms_lines-is : (t : List Atom) → conj_lines (by_kind row_lines (λ a. [])) t ≡ atoms_lines t
atoms_lines-is [] = refl
atoms_lines-is (First r ∷ t) = ap (λ ls. row_lines r ++ ls) (atoms_lines-is t)
atoms_lines-is (Second a ∷ t) = atoms_lines-is t

-- atoms that are normal for the theory are what the making of a normal tuple asks for
pub normal_or_true : (atoms : List Atom) → AllByRecursion (IsByKind IsLinearAtom IsNormalTheme) atoms → AllByRecursion IsNormalOrTrue atoms
normal_or_true [] h = tt
normal_or_true (First r ∷ atoms) h = ((h.0.coefs, h.0.row), normal_or_true atoms h.1)
normal_or_true (Second a ∷ atoms) h = (h.0, normal_or_true atoms h.1)

-- it tells points apart alike
pub atom_cell-is : (a : Atom) (p : Point) → by_kind row_cell theme_cell a p ≡ atom_cell a p
atom_cell-is (First r) p = refl
atom_cell-is (Second a) p = refl
