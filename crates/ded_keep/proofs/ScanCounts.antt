-- Never, once or more often: how counts of scans add up.
use Rattle.std.proofs.Common.{◌≡◌, ℕ, zero, suc, ◌+◌, ◌<◌, Bool, true, false, List, ◌∷◌, length, get_or, drop, drop-cons, add-one, arith, refl, sym, ap, ◌∙◌}
use Rattle.ded_model.specs.declared.plan.Plan.{Plan}
use Rattle.ded_model.specs.Logic.{count_atoms, count_atoms_of}
use Rattle.ded_model.specs.PlanForm.{PlanForm, plan_form, plan_forms}
use Rattle.ded_model.specs.Uses.{plan_uses}
use Rattle.ded_algebra.specs.Compiled.{is_scan_of}
use Rattle.ded_keep.specs.declared.additive.Scans.{Scans}
use Rattle.ded_keep.specs.declared.additive.Scans.TheVariants.{Never, Once, Often}
use Rattle.ded_keep.specs.Scans.{scans_of, both}
use Rattle.ded_keep.proofs.Counting.{is_above, uses_is}

pub both_of : (x y : ℕ) → both (scans_of x) (scans_of y) ≡ scans_of (x + y)
both_of zero y = let e : y ≡ 0 + y = omega arith in ap scans_of e
both_of (suc zero) zero = let e : 1 ≡ 1 + 0 = omega arith in ap scans_of e
both_of (suc zero) (suc zero) = let e : 2 ≡ 1 + 1 = omega arith in ap scans_of e
both_of (suc zero) (suc (suc y)) = let e : suc (suc (suc y)) ≡ 1 + suc (suc y) = omega arith in ap scans_of e
both_of (suc (suc x)) y = let e : suc (suc (x + y)) ≡ suc (suc x) + y = omega arith in ap scans_of e

both_assoc : (a b c : Scans) → both (both a b) c ≡ both a (both b c)
both_assoc Never b c = refl
both_assoc Once Never c = refl
both_assoc Once Once Never = refl
both_assoc Once Once Once = refl
both_assoc Once Once Often = refl
both_assoc Once Often c = refl
both_assoc Often b c = refl

-- some scan at all
abbrev pub some_scan : Scans → Bool
some_scan Never = false
some_scan Once = true
some_scan Often = true

some_of : (k : ℕ) → is_above k ≡ some_scan (scans_of k)
some_of zero = refl
some_of (suc zero) = refl
some_of (suc (suc k)) = refl

-- whether a plan uses the name, by how often it scans it
pub uses_by : (n : List ℕ) (f : PlanForm) (s : Scans) → s ≡ scans_of (count_atoms (is_scan_of n) f) → some_scan s ≡ plan_uses n f
uses_by n f s e = ap some_scan e ∙ sym (uses_is n f ∙ some_of (count_atoms (is_scan_of n) f))

-- one plan of a list after another
module _ (n : List ℕ) where
  abbrev pub scans_from : List Plan → Scans
  scans_from ps = scans_of (count_atoms_of (is_scan_of n) (plan_forms ps))

  pub one_more : (ps : List Plan) (i : ℕ) (p : Plan) (all this new total : Scans) → i < length ps → p ≡ get_or ps i p → this ≡ scans_of (count_atoms (is_scan_of n) (plan_form p)) → new ≡ both all this
      → both all (scans_from (drop i ps)) ≡ total → both new (scans_from (drop (i + 1) ps)) ≡ total
  one_more ps i p all this new total l is e f h =
      let rest = scans_from (drop (i + 1) ps) in
      let split : both this rest ≡ scans_from (drop i ps) =
      ap (λ a. both a rest) e
      ∙ both_of (count_atoms (is_scan_of n) (plan_form p)) (count_atoms_of (is_scan_of n) (plan_forms (drop (i + 1) ps)))
      ∙ ap (λ k. scans_from (p ∷ drop k ps)) (add-one i)
      ∙ ap (λ q. scans_from (q ∷ drop (suc i) ps)) is
      ∙ sym (ap scans_from (drop-cons ps i p l)) in
      ap (λ a. both a rest) f ∙ both_assoc all this rest ∙ ap (both all) split ∙ h
