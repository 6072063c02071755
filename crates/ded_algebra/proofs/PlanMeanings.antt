-- The plan of a goal holds where the goal does, by recursion over the goal: atoms by their plans, `implies` and `forall` by their
-- classical laws, which hold since every goal is decided at every point.
use Rattle.std.proofs.Common.{◌≡◌, Bool, true, false, cond, List, [], ◌∷◌, refl, sym, ap, ◌∙◌, ⊎_elim, inl, inr, true≢false}
use Rattle.std.specs.Prelude.{ℤ, IsTrue, ◌↔◌}
use Rattle.ded_model.specs.declared.slot.Slot.{Slot}
use Rattle.ded_model.specs.declared.row.RowOp.{RowOp}
use Rattle.ded_model.specs.declared.tuple.BothAtom.TheVariants.{First, Second}
use Rattle.ded_model.specs.Constraint.{LinearConstraint}
use Rattle.ded_model.specs.Point.{Point, IsPoint}
use Rattle.ded_model.specs.Row.{Atom, row_holds, theme_holds, atom_holds, tuple_holds, sign_meets}
use Rattle.ded_model.specs.Normal.{normal_row, normal_with, constant_row, is_true_with, is_true_row, IsNormalRow}
use Rattle.ded_model.specs.Logic.{atom, always, never, negation, every_of, some_of, implies, minus, exists, forall, Logics, none, also, Sat, SatEvery, SatSome, AllAtomsOf}
use Rattle.ded_model.specs.Goal.{GoalAtom, linear, theme, member, GoalForm, GoalAtomHolds}
use Rattle.ded_model.specs.PlanForm.{PlanAtomHolds}
use Rattle.ded_model.specs.Catalogue.{Catalogue, meaning, GoalHolds, PlanHolds}
use Rattle.ded_model.proofs.Points.{and_left}
use Rattle.ded_model.proofs.Sats.{meaning-respects}
use Rattle.ded_laws.proofs.Classical.{goal_forall_is, goal_implies_is}
use Rattle.ded_model.proofs.Normals.{constant_row-holds}
use Rattle.ded_algebra.specs.Compile.{plan_of, plans_of, atom_plan}
use Rattle.ded_model.specs.NormalGoal.{IsNormalGoalAtom, IsNormalGoal}
use Rattle.ded_algebra.specs.Compiled.{HasByteTexts, IsOfBytes}
use Rattle.ded_model.proofs.PointTexts.{extension-point}
use Rattle.ded_algebra.proofs.Scans.{member_holds}

-- ---- rows

-- a normal row without coefficients that is no inequality below 0 is `0 = 0`
truth_row : (r : LinearConstraint) (b : Bool) → normal_with r r.coefs ≡ r → is_true_row r ≡ true → r.coefs ≡ [] → sign_meets r.op r.constant ≡ b → r ≡ constant_row true
truth_row r true n t e s = sym n ∙ ap (normal_with r) e ∙ ap constant_row s
truth_row r false n t e s = absurd (true≢false (sym t ∙ ap (λ (q : LinearConstraint). is_true_row q) (sym n ∙ ap (normal_with r) e ∙ ap constant_row s)))

no_coefs : (op : RowOp) (cs : List (Slot × ℤ)) → is_true_with op cs ≡ true → cs ≡ []
no_coefs op [] h = refl
no_coefs op (c ∷ cs) h = absurd (true≢false (sym h))

true_row-holds : (r : LinearConstraint) → IsNormalRow r → is_true_row r ≡ true → (p : Point) → row_holds r p ≡ true
unfolding normal_row
true_row-holds r n t p = ap (λ (q : LinearConstraint). row_holds q p) (truth_row r (sign_meets r.op r.constant) n.normal t (no_coefs r.op r.coefs t) refl) ∙ constant_row-holds true p

one-holds : (a : Atom) (p : Point) → IsTrue (atom_holds a p) ↔ IsTrue (tuple_holds (a ∷ []) p)
unfolding tuple_holds
one-holds a p = (λ h. rw h refl, λ h. and_left (atom_holds a p) true h)

pub none-holds : (p : Point) → IsTrue (tuple_holds [] p)
unfolding tuple_holds
none-holds p = refl

row-plan : (r : LinearConstraint) (p : Point) (b : Bool) → is_true_row r ≡ b → IsNormalRow r → IsTrue (row_holds r p) ↔ IsTrue (tuple_holds (cond b [] (First r ∷ [])) p)
unfolding atom_holds
row-plan r p true e n = (λ h. none-holds p, λ h. true_row-holds r n e p)
row-plan r p false e n = one-holds (First r) p

theme-plan : (a : _) (p : Point) → IsTrue (theme_holds a p) ↔ IsTrue (tuple_holds (Second a ∷ []) p)
unfolding atom_holds
theme-plan a p = one-holds (Second a) p

-- ---- goals

module _ (c : Catalogue) where
  atom_means : (a : GoalAtom) → IsNormalGoalAtom a → HasByteTexts a → (p : Point) → IsPoint p → GoalAtomHolds (meaning c) a p ↔ Sat (PlanAtomHolds (meaning c)) (atom_plan a) p
  atom_means (linear r) n b p i = row-plan r p (is_true_row r) refl n
  atom_means (theme a) n b p i = theme-plan a p
  atom_means (member m ts) n b p i = member_holds (meaning c) (meaning-respects c) m ts b p i

  iff_trans : {A B C : Type 0} → A ↔ B → B ↔ C → A ↔ C
  iff_trans h k = (λ a. k.0 (h.0 a), λ x. h.1 (k.1 x))

  not_alike : {A B : Type 0} → A ↔ B → (¬ A) ↔ (¬ B)
  not_alike h = (λ n b. n (h.1 b), λ n a. n (h.0 a))

  mutual
    pub means : (g : GoalForm) → IsNormalGoal g → IsOfBytes g → (p : Point) → IsPoint p → GoalHolds c g p ↔ PlanHolds c (plan_of g) p
    means (atom a) n b p i = atom_means a n b p i
    means always n b p i = (λ h. h, λ h. h)
    means never n b p i = (λ h. h, λ h. h)
    means (negation f) n b p i = not_alike (means f n b p i)
    means (every_of fs) n b p i = mean_every fs n b p i
    means (some_of fs) n b p i = mean_some fs n b p i
    means (implies f g) n b p i =
        let k = means f n.0 b.0 p i in
        let l = means g n.1 b.1 p i in
        iff_trans (goal_implies_is c f g p) (
          (λ s. ⊎_elim (λ (h : ¬ GoalHolds c f p). inl (λ x. h (k.1 x))) (λ s. ⊎_elim (λ (h : GoalHolds c g p). inr (inl (l.0 h))) (λ h. absurd h) s) s),
          (λ s. ⊎_elim (λ (h : ¬ PlanHolds c (plan_of f) p). inl (λ x. h (k.0 x))) (λ s. ⊎_elim (λ (h : PlanHolds c (plan_of g) p). inr (inl (l.1 h))) (λ h. absurd h) s) s),
        )
    means (minus f g) n b p i =
        let k = means f n.0 b.0 p i in
        let l = means g n.1 b.1 p i in
        (λ h. (k.0 h.0, λ x. h.1 (l.1 x)), λ h. (k.1 h.0, λ x. h.1 (l.0 x)))
    means (exists s k f) n b p i = (
      λ h. (h.0, h.1, (means f n b h.0 (extension-point s p h.0 k i h.1)).0 h.2),
      λ h. (h.0, h.1, (means f n b h.0 (extension-point s p h.0 k i h.1)).1 h.2),
    )
    means (forall s k f) n b p i = iff_trans (goal_forall_is c s k f p) (
      (λ none h. none (h.0, h.1, λ x. h.2 ((means f n b h.0 (extension-point s p h.0 k i h.1)).0 x))),
      (λ none h. none (h.0, h.1, λ x. h.2 ((means f n b h.0 (extension-point s p h.0 k i h.1)).1 x))),
    )

    mean_every : (fs : Logics GoalAtom) → AllAtomsOf IsNormalGoalAtom fs → AllAtomsOf HasByteTexts fs → (p : Point) → IsPoint p
        → SatEvery (GoalAtomHolds (meaning c)) fs p ↔ SatEvery (PlanAtomHolds (meaning c)) (plans_of fs) p
    mean_every none n b p i = (λ h. h, λ h. h)
    mean_every (also f fs) n b p i =
        let k = means f n.0 b.0 p i in
        let l = mean_every fs n.1 b.1 p i in
        (λ h. (k.0 h.0, l.0 h.1), λ h. (k.1 h.0, l.1 h.1))

    mean_some : (fs : Logics GoalAtom) → AllAtomsOf IsNormalGoalAtom fs → AllAtomsOf HasByteTexts fs → (p : Point) → IsPoint p
        → SatSome (GoalAtomHolds (meaning c)) fs p ↔ SatSome (PlanAtomHolds (meaning c)) (plans_of fs) p
    mean_some none n b p i = (λ h. h, λ h. h)
    mean_some (also f fs) n b p i =
        let k = means f n.0 b.0 p i in
        let l = mean_some fs n.1 b.1 p i in (
          λ s. ⊎_elim (λ (h : GoalHolds c f p). inl (k.0 h)) (λ h. inr (l.0 h)) s,
          λ s. ⊎_elim (λ (h : PlanHolds c (plan_of f) p). inl (k.1 h)) (λ h. inr (l.1 h)) s,
        )
