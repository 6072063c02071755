-- A plan of a formula is told by what is written of it.
use Rattle.std.proofs.Common.{◌≡◌, ℕ, true, not, List, [], ◌∷◌, map, refl, sym, ap₂, true≢false}
use Rattle.ded_algebra.specs.Evaluation.{HaveSorts}
use Rattle.ded_lex.specs.Pieces.{Statement, Whole}
use Rattle.ded_lex.specs.Pieces as pieces
use Rattle.ded_model.specs.declared.command.Language.{Language}
use Rattle.ded_model.specs.declared.name.Column.{Column}
use Rattle.ded_model.specs.declared.slot.Slot.{Slot}
use Rattle.ded_model.specs.declared.slot.Sort.{Sort}
use Rattle.ded_model.specs.Catalogue.{Catalogue}
use Rattle.ded_model.specs.Command.{CommandForm, explain}
use Rattle.ded_model.specs.Entries.{columns_in}
use Rattle.ded_model.specs.Form.{Form}
use Rattle.ded_model.specs.Logic.{atom, always, never, negation, every_of, some_of, implies, minus, exists, forall, Logics, none, also, AllAtoms, AllAtomsOf}
use Rattle.ded_model.specs.Made.{base}
use Rattle.ded_model.specs.PlanForm.{PlanAtom, scan, rows, PlanForm}
use Rattle.ded_model.specs.Pushed.{pushed, all_pushed, may_project, may_join, is_not, is_one}
use Rattle.ded_model.proofs.Points.{and_left, and_right}
use Rattle.ded_plan.specs.Plans.{IsScanOf}
use Rattle.ded_plan.specs.Rewritten.{ProjectsSlots, EachProjectsSlots, IsTidyAtom}
use Rattle.ded_print.specs.Told.{IsToldAtom, IsToldPlan, AreToldPlans}
use Rattle.ded_session.specs.Pairs.{IsPlainScan, IsPlainPlan, ArePlainPlans}
use Rattle.ded_session.specs.PlainNames.{HasPlainNames}
use Rattle.ded_session.specs.Replies.{steps}
use Rattle.ded_session.specs.Steps.{Does, Step}
use Rattle.ded_session.proofs.Pairs.{plain_reply}
use Rattle.ded_session.proofs.Telling.{member_quiet}

heading_sorts : (h : List Column) (ss : List Slot) → HaveSorts h ss → map (λ (s : Slot). s.sort) ss ≡ map (λ (k : Column). k.sort) h
heading_sorts [] [] j = refl
heading_sorts [] (s ∷ ss) j = absurd j
heading_sorts (k ∷ h) [] j = absurd j
heading_sorts (k ∷ h) (s ∷ ss) j = ap₂ (λ (x : Sort) (xs : List Sort). x ∷ xs) (sym j.0) (heading_sorts h ss j.1)

-- the sorts of the columns that a name has, or the name that it is made of
abbrev pub sorts_in : Catalogue → List ℕ → List Sort
sorts_in c n = map (λ (k : Column). k.sort) (columns_in c (base n))

module _ (c : Catalogue) (g : Form) where
  told_atom : (a : PlanAtom) → IsPlainScan a → IsScanOf c g a → IsTidyAtom a → IsToldAtom (sorts_in c) a
  told_atom (scan n ss) p h t = (member_quiet n p, heading_sorts (columns_in c (base n)) ss h.1)
  told_atom (rows ts) p h t = t

  mutual
    pub told_plan : (f : PlanForm) → IsPlainPlan f → pushed f ≡ true → AllAtoms (IsScanOf c g) f → AllAtoms IsTidyAtom f → ProjectsSlots f → IsToldPlan (sorts_in c) f
    told_plan (atom a) p e h t s = told_atom a p h t
    told_plan always p e h t s = true≢false (sym e)
    told_plan never p e h t s = true≢false (sym e)
    told_plan (negation f) p e h t s = told_plan f p (and_right (not (is_not f)) _ e) h t s
    told_plan (every_of fs) p e h t s = told_plans fs p (and_right (may_join fs) _ e) h t s
    told_plan (some_of fs) p e h t s = told_plans fs p (and_right (not (is_one fs)) _ e) h t s
    told_plan (implies f k) p e h t s = true≢false (sym e)
    told_plan (minus f k) p e h t s = (told_plan f p.0 (and_left _ _ e) h.0 t.0 s.0, told_plan k p.1 (and_right (pushed f) _ e) h.1 t.1 s.1)
    told_plan (exists s k f) p e h t j = (j.0, told_plan f p.1 (and_right (may_project k f) _ e) h t j.1)
    told_plan (forall s k f) p e h t j = true≢false (sym e)

    told_plans : (fs : Logics PlanAtom) → ArePlainPlans fs → all_pushed fs ≡ true → AllAtomsOf (IsScanOf c g) fs → AllAtomsOf IsTidyAtom fs → EachProjectsSlots fs → AreToldPlans (sorts_in c) fs
    told_plans none p e h t s = tt
    told_plans (also f fs) p e h t s = (told_plan f p.0 (and_left _ _ e) h.0 t.0 s.0, told_plans fs p.1 (and_right (pushed f) _ e) h.1 t.1 s.1)

-- ---- a statement

module _ (l : Language) (c d : Catalogue) (names : HasPlainNames c) where
  pub told_steps : (s : Statement) (plan : PlanForm) → Step l c s (steps plan) d → IsToldPlan (sorts_in c) plan
  told_steps (pieces.Unfinished rest) plan a = absurd a
  told_steps (Whole bytes) plan a = by a.command a.so (plain_reply l c d (Whole bytes) (steps plan) names a)
    where
      by : (x : CommandForm) → Does x c (steps plan) d → IsPlainPlan plan → IsToldPlan (sorts_in c) plan
      by (explain h f) k p = told_plan c f plan p k.0.pushed k.0.scans k.0.tidy k.0.projections
      by _ k p = absurd k
