-- A narrow plan is tight.
use Rattle.std.proofs.Common.{◌≡◌, ℕ, false, List}
use Rattle.ded_model.specs.PlanForm.{PlanAtom, scan, rows, PlanForm}
use Rattle.ded_model.specs.Measure.{Measures, plan_atom_b, plan_atom_rank, plan_atom_lines, plan_atom_clash, plan_b, plan_rank, plan_lines, plan_clashes}
use Rattle.ded_model.specs.Width.{IsNarrowWith}
use Rattle.ded_width.specs.Reach.{AreInReach, AreWithinReach, IsAscendingPlanAtom, IsAscendingPlan}
use Rattle.ded_width.proofs.Reaches.{IsInReach, in_reach, within, from_within}
use Rattle.ded_width.proofs.LineReaches.{atoms_in_reach}
use Rattle.ded_width.proofs.RenamedReaches.{renamed_in_reach}

-- the lines of a name
pub name_in_reach : (M : Measures) → AreInReach M → (n : List ℕ) → IsInReach (M n).b (M n).rank (M n).lines (M n).clash
name_in_reach M h n = record { lines = from_within (M n).b (M n).rank (M n).lines (h.within n); rational = h.rational n; tight = h.tight n }

plan_atom_in_reach : (M : Measures) → AreInReach M → (a : PlanAtom) → IsAscendingPlanAtom a → IsInReach (plan_atom_b M a) (plan_atom_rank M a) (plan_atom_lines M a) (plan_atom_clash M a)
plan_atom_in_reach M h (scan n ss) d = renamed_in_reach ss _ _ _ _ d (name_in_reach M h n)
plan_atom_in_reach M h (rows t) a = atoms_in_reach t a

plan_in_reach : (M : Measures) → AreInReach M → (f : PlanForm) → IsAscendingPlan f → IsInReach (plan_b M f) (plan_rank M f) (plan_lines M f) (plan_clashes M f)
plan_in_reach M h f a = in_reach (plan_atom_lines M) (plan_atom_clash M) (plan_atom_b M) (plan_atom_rank M) IsAscendingPlanAtom (plan_atom_in_reach M h) f a

pub plan_within : (M : Measures) → AreInReach M → (f : PlanForm) → IsAscendingPlan f → AreWithinReach (plan_b M f) (plan_rank M f) (plan_lines M f)
plan_within M h f a = within _ _ _ _ (plan_in_reach M h f a)

pub plan_tight : (M : Measures) → AreInReach M → (f : PlanForm) → IsAscendingPlan f → IsNarrowWith (plan_b M f) (plan_rank M f) → plan_clashes M f ≡ false
plan_tight M h f a n = (plan_in_reach M h f a).tight n
