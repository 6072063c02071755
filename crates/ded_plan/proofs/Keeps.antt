-- What a plan keeps of another one: the law of one step of a rewriting, and that steps may stand inside of plans and one after
-- another.
--
-- What is said of lines and clashes holds of tidy plans, as every plan of the program is; so a step also says that its plan is
-- tidy again. Of sorts it says that each number has one in each part of its plan, where it is so in the plan that it begins with.
use Rattle.std.proofs.Common.{◌≡◌, ℕ, ◌+◌, ◌<◌, ◌≤◌, Bool, true, not, List, inl, inr, refl, ap₂, ◌∙◌, arith, ⊎_elim}
use Rattle.std.specs.Prelude.{◌↔◌}
use Rattle.ded_model.specs.declared.slot.Slot.{Slot}
use Rattle.ded_model.specs.declared.slot.Sort.{Sort}
use Rattle.ded_model.specs.Point.{Key, Point, same_key}
use Rattle.ded_model.specs.Logic.{negation, every_of, some_of, minus, exists, Logics, also, any_mentions, greatest, rank, AllAtoms, count_atoms}
use Rattle.ded_model.specs.PlanForm.{PlanAtom, PlanForm, in_plan_atom, plan_mentions}
use Rattle.ded_model.specs.Catalogue.{Catalogue, PlanHolds}
use Rattle.ded_model.specs.Lines.{Line, IsSubset, all_lines, any_clashes}
use Rattle.ded_model.specs.Measure.{Measures, plan_atom_lines, plan_atom_clash, plan_lines, plan_clashes}
use Rattle.ded_model.proofs.Points.{positive-extension}
use Rattle.ded_model.proofs.Members.{subset_append}
use Rattle.ded_model.proofs.Rows.{or_right}
use Rattle.ded_model.proofs.Monotone.{past-grows, clash_past-grows, or-grows, max-grows, one_more-grows}
use Rattle.ded_plan.specs.Rewritten.{IsTidyPlan, IsPassed, is_scan_with}
use Rattle.ded_algebra.specs.Compiled.{HasOneSort, PartsHaveOneSort, IsOneSorted}
use Rattle.ded_algebra.proofs.PlanShapes.{and_grows}
use Rattle.ded_algebra.proofs.PlanSorts.{fewer_slots}

-- what members mention, their lines, and whether one clashes
abbrev pub any_mention : Logics PlanAtom → Key → Bool
any_mention fs k = any_mentions in_plan_atom fs k

abbrev pub member_lines : Measures → Logics PlanAtom → List Line
member_lines M fs = all_lines (plan_atom_lines M) fs

abbrev pub any_clash : Measures → Logics PlanAtom → Bool
any_clash M fs = any_clashes (plan_atom_lines M) (plan_atom_clash M) fs

pub record Keeps (f g : PlanForm) : Type 0 where
  pub holds : (c : Catalogue) (p : Point) → 0 < p.den → PlanHolds c f p ↔ PlanHolds c g p
  pub slots : (k : Key) → plan_mentions g k ≡ true → plan_mentions f k ≡ true
  pub length : (of : PlanAtom → ℕ) → greatest of g ≤ greatest of f
  pub rank : (of : PlanAtom → ℕ) → rank of g ≤ rank of f
  pub lines : IsTidyPlan f → (M : Measures) → IsSubset (plan_lines M g) (plan_lines M f)
  pub clashes : IsTidyPlan f → (M : Measures) → plan_clashes M g ≡ true → plan_clashes M f ≡ true
  pub scans : (test : List ℕ → List Slot → Bool) → count_atoms (is_scan_with test) g ≡ count_atoms (is_scan_with test) f
  pub tidy : IsTidyPlan f → IsTidyPlan g
  pub atoms : (test : PlanAtom → Bool) → AllAtoms (IsPassed test) f → AllAtoms (IsPassed test) g
  pub parts : IsOneSorted f → PartsHaveOneSort g

-- the plan as a whole mentions no more slots
pub one_sorted : (f g : PlanForm) → Keeps f g → IsOneSorted f → IsOneSorted g
one_sorted f g a t = (fewer_slots f g a.slots t.0, a.parts t)

-- so it is with members and parts without the first one
other_slots : (f : PlanForm) (fs : Logics PlanAtom) (k : Key) → any_mention fs k ≡ true → any_mention (also f fs) k ≡ true
other_slots f fs k h = or_right (plan_mentions f k) (any_mention fs k) h

pub other_members : (f : PlanForm) (fs : Logics PlanAtom) → HasOneSort (every_of (also f fs)) → HasOneSort (every_of fs)
other_members f fs h = fewer_slots (every_of (also f fs)) (every_of fs) (other_slots f fs) h

pub other_parts : (f : PlanForm) (fs : Logics PlanAtom) → HasOneSort (some_of (also f fs)) → HasOneSort (some_of fs)
other_parts f fs h = fewer_slots (some_of (also f fs)) (some_of fs) (other_slots f fs) h

pub keeps_refl : (f : PlanForm) → Keeps f f
keeps_refl f = record {
  holds = λ c p i. (λ x. x, λ x. x);
  slots = λ k h. h;
  length = λ of. omega arith;
  rank = λ of. omega arith;
  lines = λ t M l h. h;
  clashes = λ t M h. h;
  scans = λ test. refl;
  tidy = λ h. h;
  atoms = λ test t. t;
  parts = λ t. t.1;
}

pub keeps_trans : (f g h : PlanForm) → Keeps f g → Keeps g h → Keeps f h
keeps_trans f g h a b = record {
  holds = λ c p i. (λ x. (b.holds c p i).0 ((a.holds c p i).0 x), λ x. (a.holds c p i).1 ((b.holds c p i).1 x));
  slots = λ k x. a.slots k (b.slots k x);
  length = λ of. let m = a.length of in let n = b.length of in omega arith;
  rank = λ of. let m = a.rank of in let n = b.rank of in omega arith;
  lines = λ t M l x. a.lines t M l (b.lines (a.tidy t) M l x);
  clashes = λ t M x. a.clashes t M (b.clashes (a.tidy t) M x);
  scans = λ test. b.scans test ∙ a.scans test;
  tidy = λ x. b.tidy (a.tidy x);
  atoms = λ test x. b.atoms test (a.atoms test x);
  parts = λ t. b.parts (one_sorted f g a t);
}

-- ---- inside

pub keeps_negation : (f g : PlanForm) → Keeps f g → Keeps (negation f) (negation g)
keeps_negation f g a = record {
  holds = λ c p i. (λ n x. n ((a.holds c p i).1 x), λ n x. n ((a.holds c p i).0 x));
  slots = a.slots;
  length = a.length;
  rank = a.rank;
  lines = a.lines;
  clashes = a.clashes;
  scans = a.scans;
  tidy = a.tidy;
  atoms = a.atoms;
  parts = λ t. one_sorted f g a t.1;
}

pub keeps_exists : (s : Sort) (k : Key) (f g : PlanForm) → Keeps f g → Keeps (exists s k f) (exists s k g)
keeps_exists s k f g a = record {
  holds = λ c p i. (
    λ w. (w.0, w.1, (a.holds c w.0 (positive-extension s p k w.0 i w.1)).0 w.2),
    λ w. (w.0, w.1, (a.holds c w.0 (positive-extension s p k w.0 i w.1)).1 w.2),
  );
  slots = λ j h. and_grows (not (same_key j k)) _ _ (a.slots j) h;
  length = a.length;
  rank = λ of. one_more-grows s _ _ (a.rank of);
  lines = λ t M. past-grows s k _ _ (a.lines (t.0.1, t.1) M);
  clashes = λ t M h. or-grows _ _ _ _ (a.clashes (t.0.1, t.1) M) (clash_past-grows s k _ _ (a.lines (t.0.1, t.1) M)) h;
  scans = a.scans;
  tidy = λ t. let r = a.tidy (t.0.1, t.1) in ((t.0.0, r.0), r.1);
  atoms = a.atoms;
  parts = λ t. one_sorted f g a t.1;
}

pub keeps_minus : (f f' g g' : PlanForm) → Keeps f f' → Keeps g g' → Keeps (minus f g) (minus f' g')
keeps_minus f f' g g' a b = record {
  holds = λ c p i. (
    λ x. ((a.holds c p i).0 x.0, λ t. x.1 ((b.holds c p i).1 t)),
    λ x. ((a.holds c p i).1 x.0, λ t. x.1 ((b.holds c p i).0 t)),
  );
  slots = λ k h. or-grows _ _ _ _ (a.slots k) (b.slots k) h;
  length = λ of. max-grows _ _ _ _ (a.length of) (b.length of);
  rank = λ of. max-grows _ _ _ _ (a.rank of) (b.rank of);
  lines = λ t M. subset_append _ _ _ _ (a.lines (t.0.0, t.1.0) M) (b.lines (t.0.1, t.1.1) M);
  clashes = λ t M h. or-grows _ _ _ _ (a.clashes (t.0.0, t.1.0) M) (b.clashes (t.0.1, t.1.1) M) h;
  scans = λ test. ap₂ (λ m n. m + n) (a.scans test) (b.scans test);
  tidy = λ t. let q = a.tidy (t.0.0, t.1.0) in let r = b.tidy (t.0.1, t.1.1) in ((q.0, r.0), (q.1, r.1));
  atoms = λ test t. (a.atoms test t.0, b.atoms test t.1);
  parts = λ t. (one_sorted f f' a t.1.0, one_sorted g g' b t.1.1);
}

-- a member and the others of a join
pub keeps_member : (f g : PlanForm) (fs gs : Logics PlanAtom) → Keeps f g → Keeps (every_of fs) (every_of gs) → Keeps (every_of (also f fs)) (every_of (also g gs))
keeps_member f g fs gs a b = record {
  holds = λ c p i. (λ x. ((a.holds c p i).0 x.0, (b.holds c p i).0 x.1), λ x. ((a.holds c p i).1 x.0, (b.holds c p i).1 x.1));
  slots = λ k h. or-grows _ _ _ _ (a.slots k) (b.slots k) h;
  length = λ of. max-grows _ _ _ _ (a.length of) (b.length of);
  rank = λ of. max-grows _ _ _ _ (a.rank of) (b.rank of);
  lines = λ t M. subset_append _ _ _ _ (a.lines (t.0.0, t.1.0) M) (b.lines (t.0.1, t.1.1) M);
  clashes = λ t M h. or-grows _ _ _ _ (a.clashes (t.0.0, t.1.0) M) (b.clashes (t.0.1, t.1.1) M) h;
  scans = λ test. ap₂ (λ m n. m + n) (a.scans test) (b.scans test);
  tidy = λ t. let q = a.tidy (t.0.0, t.1.0) in let r = b.tidy (t.0.1, t.1.1) in ((q.0, r.0), (q.1, r.1));
  atoms = λ test t. (a.atoms test t.0, b.atoms test t.1);
  parts = λ t. (one_sorted f g a t.1.0, b.parts (other_members f fs t.0, t.1.1));
}

-- a part and the others of a union
pub keeps_part : (f g : PlanForm) (fs gs : Logics PlanAtom) → Keeps f g → Keeps (some_of fs) (some_of gs) → Keeps (some_of (also f fs)) (some_of (also g gs))
keeps_part f g fs gs a b = record {
  holds = λ c p i. (
    ⊎_elim (λ (x : PlanHolds c f p). inl ((a.holds c p i).0 x)) (λ x. inr ((b.holds c p i).0 x)),
    ⊎_elim (λ (x : PlanHolds c g p). inl ((a.holds c p i).1 x)) (λ x. inr ((b.holds c p i).1 x)),
  );
  slots = λ k h. or-grows _ _ _ _ (a.slots k) (b.slots k) h;
  length = λ of. max-grows _ _ _ _ (a.length of) (b.length of);
  rank = λ of. max-grows _ _ _ _ (a.rank of) (b.rank of);
  lines = λ t M. subset_append _ _ _ _ (a.lines (t.0.0, t.1.0) M) (b.lines (t.0.1, t.1.1) M);
  clashes = λ t M h. or-grows _ _ _ _ (a.clashes (t.0.0, t.1.0) M) (b.clashes (t.0.1, t.1.1) M) h;
  scans = λ test. ap₂ (λ m n. m + n) (a.scans test) (b.scans test);
  tidy = λ t. let q = a.tidy (t.0.0, t.1.0) in let r = b.tidy (t.0.1, t.1.1) in ((q.0, r.0), (q.1, r.1));
  atoms = λ test t. (a.atoms test t.0, b.atoms test t.1);
  parts = λ t. (one_sorted f g a t.1.0, b.parts (other_parts f fs t.0, t.1.1));
}
