-- The single steps of a rewriting that put what is no plan into the words of plans: each plan holds where the formula does by the
-- laws of `and`, `or` and `not`, and has the same atoms.
use Rattle.std.proofs.Common.{◌≡◌, Bool, true, false, ◌||◌, List, [], ◌++◌, inl, inr, refl, arith, ⊎_elim}
use Rattle.ded_model.specs.declared.slot.Sort.{Sort}
use Rattle.ded_model.specs.Point.{Key}
use Rattle.ded_model.specs.Logic.{always, never, negation, every_of, some_of, implies, exists, forall, none, also}
use Rattle.ded_model.specs.PlanForm.{PlanForm, plan_mentions}
use Rattle.ded_model.specs.Catalogue.{PlanHolds}
use Rattle.ded_model.specs.Lines.{Line, IsSubset}
use Rattle.ded_model.specs.Measure.{plan_lines, plan_clashes}
use Rattle.ded_laws.proofs.Decided.{plan_stable, plan_decided}
use Rattle.ded_model.proofs.Members.{In-left, In-right, subset_join}
use Rattle.ded_algebra.proofs.PlanLines.{drop_none}
use Rattle.ded_plan.proofs.Keeps.{Keeps}

pub always_is : Keeps always (every_of none)
always_is = record {
  holds = λ c p i. (λ x. x, λ x. x);
  slots = λ k h. h;
  length = λ of. omega arith;
  rank = λ of. omega arith;
  lines = λ t M l h. h;
  clashes = λ t M h. h;
  scans = λ test. refl;
  tidy = λ t. t;
  atoms = λ test t. t;
  parts = λ t. tt;
}

pub never_is : Keeps never (some_of none)
never_is = record {
  holds = λ c p i. (λ x. x, λ x. x);
  slots = λ k h. h;
  length = λ of. omega arith;
  rank = λ of. omega arith;
  lines = λ t M l h. h;
  clashes = λ t M h. h;
  scans = λ test. refl;
  tidy = λ t. t;
  atoms = λ test t. t;
  parts = λ t. tt;
}

or_both : (a b : Bool) → (a || (b || false)) ≡ true → (a || b) ≡ true
or_both true b h = refl
or_both false true h = refl
or_both false false h = h

both_lines : (xs ys : List Line) → IsSubset (xs ++ (ys ++ [])) (xs ++ ys)
both_lines xs ys = subset_join xs (ys ++ []) _ (λ l h. In-left l xs ys h) (λ l h. In-right l xs ys (drop_none ys l h))

pub implies_is : (f g : PlanForm) → Keeps (implies f g) (some_of (also (negation f) (also g none)))
implies_is f g = record {
  holds = λ c p i. (
    λ x. ⊎_elim (λ (y : PlanHolds c f p). inr (inl (x y))) (λ n. inl n) (plan_decided c f p),
    λ x y. ⊎_elim (λ (n : ¬ PlanHolds c f p). absurd (n y)) (⊎_elim (λ (z : PlanHolds c g p). z) (λ z. absurd z)) x,
  );
  slots = λ k h. or_both (plan_mentions f k) (plan_mentions g k) h;
  length = λ of. omega arith;
  rank = λ of. omega arith;
  lines = λ t M. both_lines (plan_lines M f) (plan_lines M g);
  clashes = λ t M h. or_both (plan_clashes M f) (plan_clashes M g) h;
  scans = λ test. omega arith;
  tidy = λ t. ((t.0.0, (t.0.1, tt)), (t.1.0, (t.1.1, tt)));
  atoms = λ test t. (t.0, (t.1, tt));
  parts = λ t. ((t.1.0.0, t.1.0), (t.1.1, tt));
}

pub forall_is : (s : Sort) (k : Key) (f : PlanForm) → Keeps (forall s k f) (negation (exists s k (negation f)))
forall_is s k f = record {
  holds = λ c p i. (λ every w. w.2 (every w.0 w.1), λ n q x. plan_stable c f q (λ fails. n (q, x, fails)));
  slots = λ j h. h;
  length = λ of. omega arith;
  rank = λ of. omega arith;
  lines = λ t M l h. h;
  clashes = λ t M h. h;
  scans = λ test. refl;
  tidy = λ t. t;
  atoms = λ test t. t;
  parts = λ t. (t.0, (t.1.0, t.1));
}
