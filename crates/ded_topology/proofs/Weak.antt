-- Conjunctions with their strict rows made weak: they are normal where the atoms are, and where these hold anywhere it is the weak
-- tuple. It has the slots and the lines of the tuple.
use Rattle.std.proofs.Common.{◌≡◌, ℕ, true, ◌||◌, List, [], ◌∷◌, ◌++◌, refl, sym, ap, ap₂, ◌∙◌, true≢false}
use Rattle.std.specs.Prelude.{ℤ, pos, ◌+ℤ◌, ◌*ℤ◌, int_lt}
use Rattle.std.specs.List.{AllByRecursion}
use Rattle.std.proofs.Math.IntN.{zero-*ℤ}
use Rattle.ded_model.specs.declared.slot.Slot.{Slot}
use Rattle.ded_model.specs.declared.row.RowOp.{RowOp}
use Rattle.ded_model.specs.declared.row.RowOp.TheVariants.{Zero, AtMost, Below}
use Rattle.ded_model.specs.declared.tuple.ThemeAtom.{ThemeAtom}
use Rattle.ded_model.specs.declared.tuple.ThemeAtom.TheVariants.{EqText, NeText, EqSlot, NeSlot}
use Rattle.ded_model.specs.declared.tuple.BothAtom.TheVariants.{First, Second}
use Rattle.ded_model.specs.Constraint.{LinearConstraint}
use Rattle.ded_model.specs.Lines.{row_lines, atoms_lines, tuples_lines}
use Rattle.ded_model.specs.Near.{weak_op, weak_tuple, weak_tuples, IsTextTheme, AreSortedAtoms}
use Rattle.ded_model.specs.Normal.{normal_row, IsNormalTheme}
use Rattle.ded_model.specs.Point.{Point}
use Rattle.ded_model.specs.Row.{Atom, row_holds, atom_holds, tuple_holds, row_mentions, atom_mentions, tuple_mentions, tuples_mention}
use Rattle.ded_model.proofs.Points.{and_left, and_right}
use Rattle.ded_laws.proofs.AtomSlots.{AreCoefs-rational}
use Rattle.ded_theory.specs.Both.{IsByKind}
use Rattle.ded_elimination.specs.LinearAtoms.{IsLinearAtom}
use Rattle.ded_topology.specs.Weakening.{weakened_op, weakened}

-- ---- normal

-- what an inequality is divided by doesn't depend on its strictness
row_weakened : (cs : List (Slot × ℤ)) (k : ℤ) (op : RowOp) → normal_row (record { coefs = cs; constant = k; op = op }) ≡ record { coefs = cs; constant = k; op = op }
    → normal_row (record { coefs = cs; constant = k; op = weakened_op op cs }) ≡ record { coefs = cs; constant = k; op = weakened_op op cs }
unfolding normal_row
row_weakened [] k op e = e
row_weakened (c ∷ cs) k Zero e = e
row_weakened (c ∷ cs) k AtMost e = e
row_weakened (c ∷ cs) k Below e = ap (λ (r : LinearConstraint). record { coefs = r.coefs; constant = r.constant; op = AtMost }) e

-- normal atoms are so made weak
pub weakened_normal : (t : List Atom) → AllByRecursion (IsByKind IsLinearAtom IsNormalTheme) t → AllByRecursion (IsByKind IsLinearAtom IsNormalTheme) (weakened t)
weakened_normal [] n = tt
weakened_normal (First r ∷ t) n = (record { coefs = n.0.coefs; row = record { normal = row_weakened r.coefs r.constant r.op n.0.row.normal } }, weakened_normal t n.1)
weakened_normal (Second a ∷ t) n = (n.0, weakened_normal t n.1)

-- ---- the weak tuple

-- `0 < 0` holds nowhere
never_holds : (k : ℤ) (d : ℕ) → pos 0 ≡ k → int_lt (pos 0 +ℤ k *ℤ pos d) (pos 0) ≡ true → ⊥
never_holds k d z e = true≢false (sym e ∙ ap (λ x. int_lt (pos 0 +ℤ x) (pos 0)) (ap (λ x. x *ℤ pos d) (sym z) ∙ zero-*ℤ (pos d)))

row_weak : (cs : List (Slot × ℤ)) (k : ℤ) (op : RowOp) (p : Point) → normal_row (record { coefs = cs; constant = k; op = op }) ≡ record { coefs = cs; constant = k; op = op }
    → row_holds (record { coefs = cs; constant = k; op = op }) p ≡ true → weakened_op op cs ≡ weak_op op
unfolding normal_row row_holds
row_weak (c ∷ cs) k op p n h = refl
row_weak [] k Zero p n h = refl
row_weak [] k AtMost p n h = refl
row_weak [] k Below p n h = absurd (never_holds k p.den (ap (λ (r : LinearConstraint). r.constant) n) h)

-- where the atoms hold anywhere
pub weakened_is : (t : List Atom) (p : Point) → AllByRecursion (IsByKind IsLinearAtom IsNormalTheme) t → tuple_holds t p ≡ true → weakened t ≡ weak_tuple t
unfolding tuple_holds atom_holds
weakened_is [] p n h = refl
weakened_is (First r ∷ t) p n h =
    ap₂ (λ (op : RowOp) (xs : List Atom). First (record { coefs = r.coefs; constant = r.constant; op = op }) ∷ xs)
    (row_weak r.coefs r.constant r.op p n.0.row.normal (and_left (row_holds r p) (tuple_holds t p) h)) (weakened_is t p n.1 (and_right (row_holds r p) (tuple_holds t p) h))
weakened_is (Second a ∷ t) p n h = ap (λ (xs : List Atom). Second a ∷ xs) (weakened_is t p n.1 (and_right (atom_holds (Second a) p) (tuple_holds t p) h))

-- ---- sorts

text_theme : (a : ThemeAtom) → IsNormalTheme a → IsTextTheme a
text_theme (EqText s t) n = n.0
text_theme (NeText s t) n = n.0
text_theme (EqSlot s t) n = (n.0, n.1)
text_theme (NeSlot s t) n = (n.0, n.1)

-- normal atoms are over slots of their sorts
pub sorted_atoms : (t : List Atom) → AllByRecursion (IsByKind IsLinearAtom IsNormalTheme) t → AreSortedAtoms t
sorted_atoms [] n = tt
sorted_atoms (First r ∷ t) n = (AreCoefs-rational r.coefs n.0.coefs, sorted_atoms t n.1)
sorted_atoms (Second a ∷ t) n = (text_theme a n.0, sorted_atoms t n.1)

-- ---- slots and lines

weak_mentions : (t : List Atom) (s : Slot) → tuple_mentions (weak_tuple t) s ≡ tuple_mentions t s
unfolding tuple_mentions atom_mentions row_mentions
weak_mentions [] s = refl
weak_mentions (First r ∷ t) s = ap (λ b. row_mentions r s || b) (weak_mentions t s)
weak_mentions (Second a ∷ t) s = ap (λ b. atom_mentions (Second a) s || b) (weak_mentions t s)

pub weak_slots : (ts : List (List Atom)) (s : Slot) → tuples_mention (weak_tuples ts) s ≡ tuples_mention ts s
unfolding tuples_mention
weak_slots [] s = refl
weak_slots (t ∷ ts) s = ap₂ (λ a b. a || b) (weak_mentions t s) (weak_slots ts s)

weak_atoms_lines : (t : List Atom) → atoms_lines (weak_tuple t) ≡ atoms_lines t
weak_atoms_lines [] = refl
weak_atoms_lines (First r ∷ t) = ap (λ ls. row_lines r ++ ls) (weak_atoms_lines t)
weak_atoms_lines (Second a ∷ t) = weak_atoms_lines t

pub weak_lines : (ts : List (List Atom)) → tuples_lines (weak_tuples ts) ≡ tuples_lines ts
weak_lines [] = refl
weak_lines (t ∷ ts) = ap₂ (λ xs ys. xs ++ ys) (weak_atoms_lines t) (weak_lines ts)
