-- What is promised of the plan of a goal, put together.
use Rattle.std.proofs.Common.{◌≡◌, ℕ, suc, ◌+◌, ◌<◌, List, [], ◌∷◌, ◌++◌, arith, refl, sym, ap, ap₂, subst, ◌∙◌, map, length, take, drop, get_or}
use Rattle.std.proofs.Math.Seq.{drop-cons, take-length}
use Rattle.std.proofs.lemmas.List.{take_more, map-append}
use Rattle.ded_model.specs.declared.goal.Goal.{Goal}
use Rattle.ded_model.specs.declared.plan.Plan.{Plan}
use Rattle.ded_model.specs.Logic.{also, logics, AllAtomsOf}
use Rattle.ded_model.specs.Goal.{GoalForm, goal_form, goal_forms}
use Rattle.ded_model.specs.PlanForm.{plan_form, plan_forms}
use Rattle.ded_algebra.specs.Compile.{plan_of, plans_of}
use Rattle.ded_model.specs.NormalGoal.{IsNormalGoalAtom, IsNormalGoal}
use Rattle.ded_algebra.specs.Compiled.{HasByteTexts, IsOfBytes, IsCompiled}
use Rattle.ded_algebra.proofs.PlanMeanings.{means}
use Rattle.ded_algebra.proofs.PlanLines.{plan_of-length, plan_of-rank, plan_of-lines, plan_of-clashes}
use Rattle.ded_algebra.proofs.PlanShapes.{plan_slots, plan_atoms, conjunctive_plan}
use Rattle.ded_algebra.proofs.PlanSorts.{plan_sorted}

pub plan_compiled : (g : GoalForm) → IsNormalGoal g → IsOfBytes g → IsCompiled g (plan_of g)
plan_compiled g n b = record {
  holds = λ c p i. means c g n b p i;
  slots = λ k h. plan_slots g k h;
  length = λ M. plan_of-length M g;
  rank = λ M. plan_of-rank M g;
  lines = λ M. plan_of-lines M g;
  clashes = λ M h. plan_of-clashes M g h;
  atoms = plan_atoms g g (λ a h. h);
  conjunctive = λ h. conjunctive_plan g h;
  sorts = λ sort_of h. plan_sorted sort_of g h;
}

-- ---- the plans of several goals

plans_are : (gs : List Goal) → plans_of (goal_forms gs) ≡ logics (map (λ g. plan_of (goal_form g)) gs)
plans_are [] = refl
plans_are (g ∷ gs) = ap (also (plan_of (goal_form g))) (plans_are gs)

bytes_more : (gs : List Goal) (g : Goal) → AllAtomsOf HasByteTexts (goal_forms gs) → IsOfBytes (goal_form g) → AllAtomsOf HasByteTexts (goal_forms (gs ++ g ∷ []))
bytes_more [] g h k = (k, tt)
bytes_more (x ∷ gs) g h k = (h.0, bytes_more gs g h.1 k)

-- the first i goals have their plans, and the others are normal
pub record AreCompiled (gs : List Goal) (i : ℕ) (ps : List Plan) : Type 0 where
  pub plans : map plan_form ps ≡ map (λ g. plan_of (goal_form g)) (take i gs)
  pub bytes : AllAtomsOf HasByteTexts (goal_forms (take i gs))
  pub normal : AllAtomsOf IsNormalGoalAtom (goal_forms (drop i gs))

pub compiled_none : (gs : List Goal) → AllAtomsOf IsNormalGoalAtom (goal_forms gs) → AreCompiled gs 0 []
compiled_none gs h = record { plans = refl; bytes = tt; normal = h }

pub drop_split : {X : Type 0} (xs : List X) (i : ℕ) (d : X) → i < length xs → drop i xs ≡ get_or xs i d ∷ drop (i + 1) xs
drop_split xs i d h = let e : suc i ≡ i + 1 = omega arith in drop-cons xs i d h ∙ ap (λ n. get_or xs i d ∷ drop n xs) e

pub compiled_here : (gs : List Goal) (i : ℕ) (ps : List Plan) (g : Goal) → i < length gs → g ≡ get_or gs i g → AreCompiled gs i ps → IsNormalGoal (goal_form g)
compiled_here gs i ps g h e c = subst (λ x. IsNormalGoal (goal_form x)) (sym e) (subst (λ xs. AllAtomsOf IsNormalGoalAtom (goal_forms xs)) (drop_split gs i g h) c.normal).0

pub compiled_more : (gs : List Goal) (i : ℕ) (ps qs : List Plan) (g : Goal) (p : Plan) → i < length gs → g ≡ get_or gs i g → plan_form p ≡ plan_of (goal_form g) → IsOfBytes (goal_form g) → qs ≡ ps ++ p ∷ []
    → AreCompiled gs i ps → AreCompiled gs (i + 1) qs
compiled_more gs i ps qs g p h e f b q c =
    let more : take (i + 1) gs ≡ take i gs ++ g ∷ [] = take_more gs i g h ∙ ap (λ x. take i gs ++ x ∷ []) (sym e) in
    record {
      plans = ap (map plan_form) q ∙ map-append plan_form ps (p ∷ []) ∙ ap₂ (λ xs x. xs ++ x ∷ []) c.plans f
          ∙ sym (map-append (λ x. plan_of (goal_form x)) (take i gs) (g ∷ [])) ∙ ap (map (λ x. plan_of (goal_form x))) (sym more);
      bytes = subst (λ xs. AllAtomsOf HasByteTexts (goal_forms xs)) (sym more) (bytes_more (take i gs) g c.bytes b);
      normal = (subst (λ xs. AllAtomsOf IsNormalGoalAtom (goal_forms xs)) (drop_split gs i g h) c.normal).1;
    }

pub compiled_plans : (gs hs : List Goal) (i : ℕ) (ps : List Plan) → i ≡ length gs → gs ≡ hs → AreCompiled gs i ps → plan_forms ps ≡ plans_of (goal_forms hs)
compiled_plans gs hs i ps e f c = ap logics (c.plans ∙ ap (map (λ x. plan_of (goal_form x))) (ap (λ n. take n gs) e ∙ take-length gs ∙ f)) ∙ sym (plans_are hs)

pub compiled_bytes : (gs hs : List Goal) (i : ℕ) (ps : List Plan) → i ≡ length gs → gs ≡ hs → AreCompiled gs i ps → AllAtomsOf HasByteTexts (goal_forms hs)
compiled_bytes gs hs i ps e f c = subst (λ xs. AllAtomsOf HasByteTexts (goal_forms xs)) (ap (λ n. take n gs) e ∙ take-length gs ∙ f) c.bytes
