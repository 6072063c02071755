-- Windows of evaluations: what they ask of the columns that are read into slots, and the rows that stand beside each other in a join.
use Rattle.std.specs.Prelude.{◌≡◌, ℕ, zero, suc, ℤ, Bool, true, false, List, [], ◌∷◌}
use Rattle.std.specs.List.{AllByRecursion, list_all}
use Rattle.ded_model.specs.declared.slot.Slot.{Slot}
use Rattle.ded_model.specs.declared.slot.Sort.TheVariants.{Rat, Text}
use Rattle.ded_model.specs.Constraint.{LinearConstraint}
use Rattle.ded_model.specs.Point.{slot, Point, IsPoint, text_at}
use Rattle.ded_model.specs.Row.{row_holds, tuple_holds}
use Rattle.ded_model.specs.Cell.{conj_holds}
use Rattle.ded_model.specs.Lines.{Line, IsSubset, all_lines}
use Rattle.ded_model.specs.Logic.{atom, always, never, negation, every_of, some_of, implies, minus, exists, forall, logics, any_mentions}
use Rattle.ded_model.specs.Measure.{Measures, plan_atom_lines}
use Rattle.ded_model.specs.PlanForm.{scan, rows, PlanForm, in_plan_atom}
use Rattle.ded_theory.specs.Conjunctions.{conj_mentions, conj_lines}
use Rattle.ded_genrel.specs.Lists.{conjs_hold, conjs_mention, conjs_lines}
use Rattle.ded_ranges.specs.declared.limit.Limit.{Limit}
use Rattle.ded_ranges.specs.declared.window.Window.{Window}

-- ---- columns

-- the slot stands at the place of the list
abbrev pub StandsAt : List Slot → ℕ → Slot → Type 0
StandsAt [] i s = ⊥
StandsAt (t ∷ ss) zero s = t ≡ s
StandsAt (t ∷ ss) (suc i) s = StandsAt ss i s

-- a term for each coefficient, at the place of its slot, which is rational
abbrev pub AreTermsOf : List Slot → List (Slot × ℤ) → List (ℕ × ℤ) → Type 0
AreTermsOf ss [] [] = Unit {0}
AreTermsOf ss [] (t ∷ ts) = ⊥
AreTermsOf ss (c ∷ cs) [] = ⊥
AreTermsOf ss (c ∷ cs) (t ∷ ts) = (c.0.sort ≡ Rat) × StandsAt ss t.0 c.0 × (t.1 ≡ c.1) × AreTermsOf ss cs ts

-- the limit is the row, with places for slots
pub record IsLimitOf (ss : List Slot) (r : LinearConstraint) (l : Limit) : Type 0 where
  pub terms : AreTermsOf ss r.coefs l.terms.items
  pub constant : l.constant ≡ r.constant
  pub op : l.op ≡ r.op

-- the limit is that of a row that holds inside
pub record IsAskedRow (ss : List Slot) (inside : Point → Bool) (l : Limit) : Type 0 where
  pub row : LinearConstraint
  pub limit : IsLimitOf ss row l
  pub holds : (p : Point) → inside p ≡ true → row_holds row p ≡ true

-- inside the slot at the place has the text
pub record IsAskedText (ss : List Slot) (inside : Point → Bool) (i : ℕ) (t : List ℕ) : Type 0 where
  pub at : Slot
  pub sort : at.sort ≡ Text
  pub stands : StandsAt ss i at
  pub is : (p : Point) → inside p ≡ true → text_at p (slot at) ≡ t

-- what is asked of the columns is so inside
pub record IsWindowOf (ss : List Slot) (inside : Point → Bool) (w : Window) : Type 0 where
  pub rows : AllByRecursion (IsAskedRow ss inside) w.limits.items
  pub texts : AllByRecursion (λ t. IsAskedText ss inside t.0 t.1) w.texts.items

-- ---- joins

-- the plan is rows and text atoms alone
abbrev pub is_rows : PlanForm → Bool
is_rows (atom (scan n ss)) = false
is_rows (atom (rows t)) = true
is_rows always = false
is_rows never = false
is_rows (negation f) = false
is_rows (every_of fs) = false
is_rows (some_of fs) = false
is_rows (implies f g) = false
is_rows (minus f g) = false
is_rows (exists s k f) = false
is_rows (forall s k f) = false

-- and then they hold
abbrev pub rows_hold : PlanForm → Point → Bool
rows_hold (atom (scan n ss)) p = true
rows_hold (atom (rows t)) p = tuple_holds t p
rows_hold always p = true
rows_hold never p = true
rows_hold (negation f) p = true
rows_hold (every_of fs) p = true
rows_hold (some_of fs) p = true
rows_hold (implies f g) p = true
rows_hold (minus f g) p = true
rows_hold (exists s k f) p = true
rows_hold (forall s k f) p = true

-- so for all plans of the list
abbrev pub all_rows_hold : List PlanForm → Point → Bool
all_rows_hold fs p = list_all (λ f. rows_hold f p) fs

module _ {A : Type 0} (h : A → Point → Bool) (m : A → Slot → Bool) (l : A → List Line) where
  -- the atoms are those of all plans of the list that are rows and text atoms alone
  pub record AreRowsOf (fs : List PlanForm) (atoms : List A) : Type 0 where
    pub holds : (p : Point) → conj_holds h atoms p ≡ all_rows_hold fs p
    pub slots : (s : Slot) → conj_mentions m atoms s ≡ true → any_mentions in_plan_atom (logics fs) (slot s) ≡ true
    pub lines : (M : Measures) → IsSubset (conj_lines l atoms) (all_lines (plan_atom_lines M) (logics fs))

  -- the list holds where the atoms do, and has nothing else
  pub record IsBegun (atoms : List A) (xs : List (List A)) : Type 0 where
    pub holds : (p : Point) → IsPoint p → conjs_hold h xs p ≡ conj_holds h atoms p
    pub slots : (s : Slot) → conjs_mention m xs s ≡ true → conj_mentions m atoms s ≡ true
    pub lines : IsSubset (conjs_lines l xs) (conj_lines l atoms)
