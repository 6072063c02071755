-- The plans of the program are tidy: lists of plans are where each of their plans is. A tidy plan is well sorted, and its rows are
-- over rational slots.
use Rattle.std.proofs.Common.{List, [], ◌∷◌, ◌++◌}
use Rattle.ded_model.specs.declared.slot.Sort.{Sort}
use Rattle.ded_model.specs.declared.plan.Plan.{Plan}
use Rattle.ded_model.specs.declared.tuple.BothAtom.TheVariants.{First, Second}
use Rattle.ded_model.specs.Row.{Atom}
use Rattle.ded_model.specs.Normal.{IsNormalTuple}
use Rattle.ded_model.specs.Rational.{AreRationalAtoms, IsRationalPlanAtom, IsRationalPlan}
use Rattle.ded_model.specs.Logic.{Logic, atom, always, never, negation, every_of, some_of, implies, minus, exists, forall, Logics, none, also, AllAtoms, AllAtomsOf, IsOfSort, IsSorted, AreSorted}
use Rattle.ded_model.specs.PlanForm.{PlanAtom, scan, rows, PlanForm, plan_form, plan_forms}
use Rattle.ded_model.specs.Point.{Key, slot, name, IsSlotOf}
use Rattle.ded_plan.specs.Rewritten.{ProjectsSlots, EachProjectsSlots, IsTidyAtom, IsTidyPlan}
use Rattle.ded_laws.proofs.AtomSlots.{AreCoefs-rational}

-- ---- all atoms

module _ {L : Type 0} (P Q : L → Type 0) (weaker : (a : L) → P a → Q a) where
  mutual
    -- what follows of each atom follows of all
    pub all_weaker : (f : Logic L) → AllAtoms P f → AllAtoms Q f
    all_weaker (atom a) h = weaker a h
    all_weaker always h = tt
    all_weaker never h = tt
    all_weaker (negation f) h = all_weaker f h
    all_weaker (every_of fs) h = all_weaker_of fs h
    all_weaker (some_of fs) h = all_weaker_of fs h
    all_weaker (implies f g) h = (all_weaker f h.0, all_weaker g h.1)
    all_weaker (minus f g) h = (all_weaker f h.0, all_weaker g h.1)
    all_weaker (exists s k f) h = all_weaker f h
    all_weaker (forall s k f) h = all_weaker f h

    -- of a list
    all_weaker_of : (fs : Logics L) → AllAtomsOf P fs → AllAtomsOf Q fs
    all_weaker_of none h = tt
    all_weaker_of (also f fs) h = (all_weaker f h.0, all_weaker_of fs h.1)

-- ---- what a tidy plan is

slot_of_sort : (s : Sort) (k : Key) → IsSlotOf s k → IsOfSort s k
slot_of_sort s (slot u) h = h
slot_of_sort s (name x) h = absurd h

mutual
  -- projections of slots are well sorted
  pub sorted_plan : (f : PlanForm) → ProjectsSlots f → IsSorted f
  sorted_plan (atom a) h = tt
  sorted_plan always h = tt
  sorted_plan never h = tt
  sorted_plan (negation f) h = sorted_plan f h
  sorted_plan (every_of fs) h = sorted_plans fs h
  sorted_plan (some_of fs) h = sorted_plans fs h
  sorted_plan (implies f g) h = (sorted_plan f h.0, sorted_plan g h.1)
  sorted_plan (minus f g) h = (sorted_plan f h.0, sorted_plan g h.1)
  sorted_plan (exists s k f) h = (slot_of_sort s k h.0, sorted_plan f h.1)
  sorted_plan (forall s k f) h = (slot_of_sort s k h.0, sorted_plan f h.1)

  -- of a list
  sorted_plans : (fs : Logics PlanAtom) → EachProjectsSlots fs → AreSorted fs
  sorted_plans none h = tt
  sorted_plans (also f fs) h = (sorted_plan f h.0, sorted_plans fs h.1)

rational_atoms : (t : List Atom) → IsNormalTuple t → AreRationalAtoms t
rational_atoms [] h = tt
rational_atoms (First r ∷ t) h = (AreCoefs-rational r.coefs h.0.0, rational_atoms t h.2)
rational_atoms (Second a ∷ t) h = rational_atoms t h.2

rational_atom : (a : PlanAtom) → IsTidyAtom a → IsRationalPlanAtom a
rational_atom (scan n ss) h = tt
rational_atom (rows t) h = rational_atoms t h

-- the rows of normal tuples are over rational slots
pub rational_plan : (f : PlanForm) → AllAtoms IsTidyAtom f → IsRationalPlan f
rational_plan f h = all_weaker IsTidyAtom IsRationalPlanAtom rational_atom f h

-- ---- lists of plans

pub tidy_last : (ps : List Plan) (p : Plan) → IsTidyPlan (every_of (plan_forms ps)) → IsTidyPlan (plan_form p) → IsTidyPlan (every_of (plan_forms (ps ++ p ∷ [])))
tidy_last [] p h k = ((k.0, tt), (k.1, tt))
tidy_last (q ∷ ps) p h k = let r = tidy_last ps p (h.0.1, h.1.1) k in ((h.0.0, r.0), (h.1.0, r.1))
