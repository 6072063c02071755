-- Where a formula is narrow with the rational columns of its heading, each tuple of its answer is a narrow list of atoms.
use Rattle.std.proofs.Common.{◌≡◌, ℕ, true, ◌+◌, ◌*◌, ◌^◌, ◌≤◌, List, [], ◌∷◌, length, arith, sym, subst}
use Rattle.std.specs.List.{AllByRecursion}
use Rattle.std.proofs.Math.Pow.{pow-add}
use Rattle.ded_model.specs.declared.name.Column.{Column}
use Rattle.ded_model.specs.declared.slot.Slot.{Slot}
use Rattle.ded_model.specs.Catalogue.{Catalogue}
use Rattle.ded_model.specs.Entries.{known}
use Rattle.ded_model.specs.Form.{Form}
use Rattle.ded_model.specs.Known.{IsAccepted, IsWellFormed, IsTupleOver, heading_slots}
use Rattle.ded_model.specs.Lines.{Line, IsSubset, AreWithin, atoms_lines, tuples_lines}
use Rattle.ded_model.specs.Measure.{goal_b, goal_rank, goal_lines, measures}
use Rattle.ded_model.specs.Normal.{IsNormalAtom}
use Rattle.ded_model.specs.Point.{stands_in}
use Rattle.ded_model.specs.Row.{Atom, tuple_mentions}
use Rattle.ded_model.specs.Slotted.{goal_of}
use Rattle.ded_model.specs.Width.{IsNarrowWith, IsNarrowList, tuple_length, rational_slots, rational_columns}
use Rattle.ded_model.proofs.Members.{In-left, In-right}
use Rattle.ded_laws.proofs.TupleLengths.{normal_atoms, atoms_short}
use Rattle.ded_width.proofs.FormulaReaches.{formula_within}
use Rattle.ded_width.proofs.Reaches.{reach, some_power, from_within, narrow_with_less}
use Rattle.ded_width.proofs.SlotCounts.{slots_few}

-- ---- answers

-- what is narrow with q + m is, with the lengths that q leaves, narrow with m
pub narrow_after : (k b q m : ℕ) → k + 1 ≡ (b + 1) * 2 ^ q → IsNarrowWith b (q + m) → IsNarrowWith k m
narrow_after k b q m e n = subst (λ x. x * 2 ^ m ≤ 128) (sym e) (grouped (b + 1) (2 ^ q) (2 ^ m) (subst (λ x. (b + 1) * x ≤ 128) (pow-add 2 q m) n))
  where
    grouped : (a x y : ℕ) → a * (x * y) ≤ 128 → (a * x) * y ≤ 128
    grouped a x y h = omega (arith, h)

-- normal atoms that mention slots of the heading alone
pub atoms_narrow : (h : List Column) (k : ℕ) (ls : List Line) → IsNarrowWith k (rational_columns h) → AreWithin k ls → (t : List Atom) → AllByRecursion IsNormalAtom t
    → ((s : Slot) → tuple_mentions t s ≡ true → stands_in (heading_slots 0 h) s ≡ true) → IsSubset (atoms_lines t) ls → IsNarrowList t
unfolding IsNarrowList
atoms_narrow h k ls n w t a o s = narrow_with_less (tuple_length t) k (length (rational_slots t)) (rational_columns h) (atoms_short t k a (λ l i. w l (s l i))) (slots_few h t a o) n

pub tuples_narrow : (h : List Column) (k : ℕ) (ls : List Line) → IsNarrowWith k (rational_columns h) → AreWithin k ls → (ts : List (List Atom)) → AllByRecursion (IsTupleOver h) ts → IsSubset (tuples_lines ts) ls
    → AllByRecursion IsNarrowList ts
tuples_narrow h k ls n w [] o s = tt
tuples_narrow h k ls n w (t ∷ ts) o s = (
  atoms_narrow h k ls n w t (normal_atoms t o.0.normal) o.0.slots (λ l i. s l (In-left l (atoms_lines t) (tuples_lines ts) i)),
  tuples_narrow h k ls n w ts o.1 (λ l i. s l (In-right l (atoms_lines t) (tuples_lines ts) i)),
)

-- tuples over the heading of an accepted formula whose lines are among the formula's
pub answer_narrow : (c : Catalogue) → IsWellFormed c → (h : List Column) (f : Form) → IsAccepted (known c) h f → IsNarrowWith (goal_b (measures c) (goal_of h f)) (goal_rank (measures c) (goal_of h f) + rational_columns h)
    → (ts : List (List Atom)) → AllByRecursion (IsTupleOver h) ts → IsSubset (tuples_lines ts) (goal_lines (measures c) (goal_of h f)) → AllByRecursion IsNarrowList ts
answer_narrow c w h f a n ts o s =
    let b = goal_b (measures c) (goal_of h f) in
    let q = goal_rank (measures c) (goal_of h f) in
    let ls = goal_lines (measures c) (goal_of h f) in
    tuples_narrow h (reach b q) ls (narrow_after (reach b q) b q (rational_columns h) (whole b q) n) (from_within b q ls (formula_within c w h f a)) ts o s
  where
    whole : (b q : ℕ) → reach b q + 1 ≡ (b + 1) * 2 ^ q
    whole b q = omega (arith, some_power b q)
