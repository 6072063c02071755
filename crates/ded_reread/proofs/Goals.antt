-- The goal of what is read back is alike: it holds at the same points, and has the same b and rank.
--
-- The two goals differ in their atoms alone. A comparison of numbers has the row that it had, but for a `!=` without names, which is read
-- back as the true row or the false one. Arguments have equal values, and are scanned alike.
use Rattle.std.proofs.Common.{◌≡◌, ℕ, ◌+◌, ◌<◌, max, Bool, true, false, not, cond, ◌||◌, List, [], ◌∷◌, inl, inr, length, refl, sym, ap, ap₂, ◌∙◌, subst, true≢false}
use Rattle.std.specs.Prelude.{ℤ, ◌↔◌, IsTrue}
use Rattle.ded_model.specs.declared.slot.Slot.{Slot}
use Rattle.ded_model.specs.declared.slot.Sort.{Sort}
use Rattle.ded_model.specs.declared.row.RowOp.TheVariants.{Zero, AtMost, Below}
use Rattle.ded_model.specs.declared.name.Column.{Column}
use Rattle.ded_model.specs.declared.formula.CompareOp.{CompareOp}
use Rattle.ded_model.specs.declared.formula.CompareOp.TheVariants.{Less, LessEq, Equal, NotEqual, GreaterEq, Greater}
use Rattle.ded_model.specs.Catalogue.{Catalogue, GoalHolds, meaning}
use Rattle.ded_model.specs.Constraint.{LinearConstraint}
use Rattle.ded_model.specs.Form.{Form, FormAtom, compare, member}
use Rattle.ded_model.specs.Goal.{GoalAtom, GoalForm, GoalAtomHolds, linear}
use Rattle.ded_model.specs.Known.{KnownNames, IsAccepted}
use Rattle.ded_model.specs.Logic.{atom, always, never, negation, every_of, some_of, implies, minus, exists, forall, Logics, none, also, SatEvery, SatSome, greatest_rank, greatest_of, one_more, quantifiers}
use Rattle.ded_model.specs.Measure.{measures, goal_atom_b, goal_atom_rank, goal_b, goal_rank}
use Rattle.ded_model.specs.Normal.{normal_row, constant_row, is_true_row}
use Rattle.ded_model.specs.Plain.{IsPlain, IsPlainAtom}
use Rattle.ded_model.specs.Point.{Key, Point}
use Rattle.ded_model.specs.Row.{row_holds}
use Rattle.ded_model.specs.Scanned.{tied_atoms, fresh_slots, rational_count}
use Rattle.ded_model.specs.Slotted.{SlotScope, heading_scope, slot_sum, difference_row, comparison_row, sums_goal, texts_goal, text_side, compare_goal, atom_goal, goal_below, goals_below, goal_of}
use Rattle.ded_model.specs.Sum.{SlotSum}
use Rattle.ded_model.specs.Width.{tuple_length}
use Rattle.ded_model.proofs.Bools.{or_false_left}
use Rattle.ded_model.proofs.Points.{positive-extension}
use Rattle.ded_model.proofs.Sats.{meaning-respects}
use Rattle.ded_model.proofs.Normals.{constant_row-holds}
use Rattle.ded_sorts.proofs.Overs.{AreSlots}
use Rattle.ded_print.specs.Tuples.{Names, column_names}
use Rattle.ded_dump.specs.Headings.{places}
use Rattle.ded_reread.specs.Formulas.{restored, restored_atom}
use Rattle.ded_reread.specs.Operands.{stated, denied, restored_row}
use Rattle.ded_reread.proofs.Rows.{IsCalledIn, row_goal, denied_goal, constant_goal}
use Rattle.ded_reread.proofs.Below.{AllIn, AllInOf, IsFine, fine_over, again, all_again, quantifiers_again}
use Rattle.ded_reread.proofs.Compared.{IsVariable, slots_map, IsGoodRow, op_kept, constant_is, read_compare}
use Rattle.ded_reread.proofs.Scans.{scanned_restored, name_restored}
use Rattle.ded_reread.proofs.Atoms.{compare_good}

-- ---- goals that are alike

pub record IsAlike (c : Catalogue) (g g' : GoalForm) : Type 0 where
  pub b : goal_b (measures c) g ≡ goal_b (measures c) g'
  pub rank : goal_rank (measures c) g ≡ goal_rank (measures c) g'
  pub holds : (p : Point) → 0 < p.den → GoalHolds c g p ↔ GoalHolds c g' p

-- lists of them
pub record AreAlike (c : Catalogue) (gs gs' : Logics GoalAtom) : Type 0 where
  pub b : greatest_of (goal_atom_b (measures c)) gs ≡ greatest_of (goal_atom_b (measures c)) gs'
  pub rank : greatest_rank (goal_atom_rank (measures c)) gs ≡ greatest_rank (goal_atom_rank (measures c)) gs'
  pub every : (p : Point) → 0 < p.den → SatEvery (GoalAtomHolds (meaning c)) gs p ↔ SatEvery (GoalAtomHolds (meaning c)) gs' p
  pub some : (p : Point) → 0 < p.den → SatSome (GoalAtomHolds (meaning c)) gs p ↔ SatSome (GoalAtomHolds (meaning c)) gs' p

module _ (c : Catalogue) where
  alike_refl : (g : GoalForm) → IsAlike c g g
  alike_refl g = record { b = refl; rank = refl; holds = λ p i. (λ h. h, λ h. h) }

  alike_same : (g g' : GoalForm) → g ≡ g' → IsAlike c g g'
  alike_same g g' e = subst (IsAlike c g) e (alike_refl g)

  alike_negation : (g g' : GoalForm) → IsAlike c g g' → IsAlike c (negation g) (negation g')
  alike_negation g g' e = record { b = e.b; rank = e.rank; holds = λ p i. (λ n h. n ((e.holds p i).1 h), λ n h. n ((e.holds p i).0 h)) }

  alike_every : (gs gs' : Logics GoalAtom) → AreAlike c gs gs' → IsAlike c (every_of gs) (every_of gs')
  alike_every gs gs' e = record { b = e.b; rank = e.rank; holds = e.every }

  alike_some : (gs gs' : Logics GoalAtom) → AreAlike c gs gs' → IsAlike c (some_of gs) (some_of gs')
  alike_some gs gs' e = record { b = e.b; rank = e.rank; holds = e.some }

  alike_implies : (f f' g g' : GoalForm) → IsAlike c f f' → IsAlike c g g' → IsAlike c (implies f g) (implies f' g')
  alike_implies f f' g g' d e = record {
    b = ap₂ (λ m n. max m n) d.b e.b;
    rank = ap₂ (λ m n. max m n) d.rank e.rank;
    holds = λ p i. (λ x h. (e.holds p i).0 (x ((d.holds p i).1 h)), λ x h. (e.holds p i).1 (x ((d.holds p i).0 h)));
  }

  alike_exists : (s : Sort) (k : Key) (g g' : GoalForm) → IsAlike c g g' → IsAlike c (exists s k g) (exists s k g')
  alike_exists s k g g' e = record {
    b = e.b;
    rank = ap (one_more s) e.rank;
    holds = λ p i. (
      λ w. (w.0, w.1, (e.holds w.0 (positive-extension s p k w.0 i w.1)).0 w.2),
      λ w. (w.0, w.1, (e.holds w.0 (positive-extension s p k w.0 i w.1)).1 w.2),
    );
  }

  alike_forall : (s : Sort) (k : Key) (g g' : GoalForm) → IsAlike c g g' → IsAlike c (forall s k g) (forall s k g')
  alike_forall s k g g' e = record {
    b = e.b;
    rank = ap (one_more s) e.rank;
    holds = λ p i. (
      λ h q x. (e.holds q (positive-extension s p k q i x)).0 (h q x),
      λ h q x. (e.holds q (positive-extension s p k q i x)).1 (h q x),
    );
  }

  alike_none : AreAlike c none none
  alike_none = record { b = refl; rank = refl; every = λ p i. (λ h. h, λ h. h); some = λ p i. (λ h. h, λ h. h) }

  alike_also : (g g' : GoalForm) (gs gs' : Logics GoalAtom) → IsAlike c g g' → AreAlike c gs gs' → AreAlike c (also g gs) (also g' gs')
  alike_also g g' gs gs' d e = record {
    b = ap₂ (λ m n. max m n) d.b e.b;
    rank = ap₂ (λ m n. max m n) d.rank e.rank;
    every = λ p i. (λ h. ((d.holds p i).0 h.0, (e.every p i).0 h.1), λ h. ((d.holds p i).1 h.0, (e.every p i).1 h.1));
    some = λ p i. (
      λ h. elim h [ inl x ↦ inl ((d.holds p i).0 x) | inr x ↦ inr ((e.some p i).0 x) ],
      λ h. elim h [ inl x ↦ inl ((d.holds p i).1 x) | inr x ↦ inr ((e.some p i).1 x) ],
    );
  }

-- ---- rows

opposite : (b : Bool) → IsTrue (not b) ↔ (¬ IsTrue b)
opposite true = (λ h. absurd (true≢false (sym h)), λ n. absurd (n refl))
opposite false = (λ h k. true≢false (sym k), λ n. refl)

-- the true row for a false one that is denied, and the other way round
alike_constants : (c : Catalogue) (b : Bool) → IsAlike c (atom (linear (constant_row (not b)))) (negation (atom (linear (constant_row b))))
alike_constants c b = record {
  b = refl;
  rank = refl;
  holds = λ p i. subst (λ x. IsTrue x ↔ (¬ IsTrue (row_holds (constant_row b) p))) (sym (constant_row-holds (not b) p)) (subst (λ x. IsTrue (not b) ↔ (¬ IsTrue x)) (sym (constant_row-holds b p)) (opposite b));
}

module _ (c : Catalogue) (scope : SlotScope) (names : Names) where
  called : (cs : List (Slot × ℤ)) → AreSlots (IsVariable scope names) cs → AreSlots (IsCalledIn scope names) cs
  called cs h = slots_map (IsVariable scope names) (IsCalledIn scope names) (λ s v. v.called) cs h

  stated_alike : (p : LinearConstraint) → IsGoodRow scope names (normal_row p) → IsAlike c (atom_goal scope (stated names (normal_row p) (normal_row p).coefs)) (atom (linear (normal_row p)))
  stated_alike p g = by (normal_row p).coefs refl
    where
      by : (cs : List (Slot × ℤ)) → (normal_row p).coefs ≡ cs → IsAlike c (atom_goal scope (stated names (normal_row p) cs)) (atom (linear (normal_row p)))
      by [] e = alike_same c _ _ (constant_goal scope (is_true_row (normal_row p)) ∙ ap (λ r. atom (linear r)) (sym (constant_is p e)))
      by (d ∷ cs) e = alike_same c _ _ (row_goal scope names (normal_row p) g.ascend g.nonzero (called (normal_row p).coefs g.slots) g.normal)

  denied_alike : (p : LinearConstraint) → p.op ≡ Zero → IsGoodRow scope names (normal_row p) → IsAlike c (atom_goal scope (denied names (normal_row p) (normal_row p).coefs)) (negation (atom (linear (normal_row p))))
  denied_alike p z g = by (normal_row p).coefs refl
    where
      by : (cs : List (Slot × ℤ)) → (normal_row p).coefs ≡ cs → IsAlike c (atom_goal scope (denied names (normal_row p) cs)) (negation (atom (linear (normal_row p))))
      by [] e =
          let b = is_true_row (normal_row p) in
          subst (λ g. IsAlike c g (negation (atom (linear (normal_row p))))) (sym (constant_goal scope (not b)))
          (subst (λ r. IsAlike c (atom (linear (constant_row (not b)))) (negation (atom (linear r)))) (sym (constant_is p e)) (alike_constants c b))
      by (d ∷ cs) e = alike_same c _ _ (denied_goal scope names (normal_row p) g.ascend g.nonzero (called (normal_row p).coefs g.slots) g.normal (op_kept p d cs e ∙ z))

  sums_alike : (l : SlotSum) (o : CompareOp) (r : SlotSum) → IsGoodRow scope names (normal_row (comparison_row l o r)) → IsAlike c (atom_goal scope (restored_row names o (normal_row (comparison_row l o r)))) (sums_goal l o r)
  sums_alike l Less r g = stated_alike (difference_row l r Below) g
  sums_alike l LessEq r g = stated_alike (difference_row l r AtMost) g
  sums_alike l Equal r g = stated_alike (difference_row l r Zero) g
  sums_alike l NotEqual r g = denied_alike (difference_row l r Zero) refl g
  sums_alike l GreaterEq r g = stated_alike (difference_row r l AtMost) g
  sums_alike l Greater r g = stated_alike (difference_row r l Below) g

-- ---- atoms

module _ (c : Catalogue) (K : KnownNames) (names : Names) where
  atom_alike : (scope : SlotScope) (a : FormAtom) → IsFine K names IsPlainAtom scope a → IsAlike c (atom_goal scope (restored_atom names a (atom_goal scope a))) (atom_goal scope a)
  atom_alike scope (compare l o r) h =
      read_compare (λ a. IsAlike c (atom_goal scope a) (compare_goal scope l o r)) K names scope l o r h.sorted (λ n m. alike_refl c (compare_goal scope l o r))
      (λ n m. subst (λ g. IsAlike c (atom_goal scope (restored_row names o (normal_row (comparison_row (slot_sum scope l) o (slot_sum scope r))))) g)
      (sym (ap (λ b. cond b (texts_goal (text_side scope l) o (text_side scope r)) (sums_goal (slot_sum scope l) o (slot_sum scope r))) (ap₂ (λ x y. x || y) n m)))
      (sums_alike c scope names (slot_sum scope l) o (slot_sum scope r) (compare_good K names IsPlainAtom scope l o r h n m)))
  atom_alike scope (member n ts) h =
      let s = scanned_restored scope ts h.more (or_false_left _ _ h.sorted) in
      record {
        b = ap (λ gs. max (measures c n).b (tuple_length (tied_atoms gs))) s;
        rank = ap (λ gs. (measures c n).rank + rational_count (fresh_slots gs)) s;
        holds = λ p i. name_restored (meaning c) (meaning-respects c) n scope ts p i h.more;
      }

  -- ---- formulas

  mutual
    goal_alike : (f : Form) (scope : SlotScope) (n : ℕ) → AllIn (IsFine K names IsPlainAtom) scope n f → IsAlike c (goal_below scope n (again names scope n f)) (goal_below scope n f)
    goal_alike (atom a) scope n h = atom_alike scope a h
    goal_alike always scope n h = alike_refl c always
    goal_alike never scope n h = alike_refl c never
    goal_alike (negation f) scope n h = alike_negation c (goal_below scope n (again names scope n f)) (goal_below scope n f) (goal_alike f scope n h)
    goal_alike (every_of fs) scope n h = alike_every c (goals_below scope n (all_again names scope n fs)) (goals_below scope n fs) (goals_alike fs scope n h)
    goal_alike (some_of fs) scope n h = alike_some c (goals_below scope n (all_again names scope n fs)) (goals_below scope n fs) (goals_alike fs scope n h)
    goal_alike (implies f g) scope n h =
        let n' = n + quantifiers f in
        let F = again names scope n f in
        let G = again names scope n' g in
        subst (λ m. IsAlike c (implies (goal_below scope n F) (goal_below scope (n + m) G)) (implies (goal_below scope n f) (goal_below scope n' g))) (sym (quantifiers_again names f scope n))
        (alike_implies c (goal_below scope n F) (goal_below scope n f) (goal_below scope n' G) (goal_below scope n' g) (goal_alike f scope n h.0) (goal_alike g scope n' h.1))
    goal_alike (minus f g) scope n h = alike_refl c (goal_below scope n (minus f g))
    goal_alike (exists s k f) scope n h =
        let inner : SlotScope = (k, record { number = n; sort = s }) ∷ scope in
        alike_exists c s _ (goal_below inner (n + 1) (again names inner (n + 1) f)) (goal_below inner (n + 1) f) (goal_alike f inner (n + 1) h)
    goal_alike (forall s k f) scope n h =
        let inner : SlotScope = (k, record { number = n; sort = s }) ∷ scope in
        alike_forall c s _ (goal_below inner (n + 1) (again names inner (n + 1) f)) (goal_below inner (n + 1) f) (goal_alike f inner (n + 1) h)

    goals_alike : (fs : Logics FormAtom) (scope : SlotScope) (n : ℕ) → AllInOf (IsFine K names IsPlainAtom) scope n fs → AreAlike c (goals_below scope n (all_again names scope n fs)) (goals_below scope n fs)
    goals_alike none scope n h = alike_none c
    goals_alike (also f fs) scope n h =
        let n' = n + quantifiers f in
        let F = again names scope n f in
        let G = all_again names scope n' fs in
        subst (λ m. AreAlike c (also (goal_below scope n F) (goals_below scope (n + m) G)) (also (goal_below scope n f) (goals_below scope n' fs))) (sym (quantifiers_again names f scope n))
        (alike_also c (goal_below scope n F) (goal_below scope n f) (goals_below scope n' G) (goals_below scope n' fs) (goal_alike f scope n h.0) (goals_alike fs scope n' h.1))

-- the goal over a heading
pub alike_restored : (c : Catalogue) (K : KnownNames) (h : List Column) (f : Form) → IsAccepted K h f → IsPlain f → IsAlike c (goal_of h (restored h f)) (goal_of h f)
unfolding goal_of
alike_restored c K h f a p = goal_alike c K (column_names (places h f)) f (heading_scope 0 h) (length h) (fine_over K IsPlainAtom h f a p)
