-- The single steps of a rewriting that move a projection down: over the parts of a union, past a plan that doesn't mention the
-- key, and past such a member of a join.
--
-- At an extension a plan that doesn't mention the key holds alike. Its lines don't mention the key either, so an elimination
-- keeps them; and an elimination makes of some of the lines no more than of all.
use Rattle.std.proofs.Common.{◌≡◌, ℕ, ◌≤◌, Bool, true, false, not, ◌&&◌, ◌||◌, List, [], ◌++◌, inl, inr, refl, sym, ap, ◌∙◌, arith, ⊎_elim, true≢false}
use Rattle.std.specs.Prelude.{max}
use Rattle.ded_model.specs.declared.slot.Sort.{Sort}
use Rattle.ded_model.specs.declared.slot.Sort.TheVariants.{Rat, Text}
use Rattle.ded_model.specs.Point.{Key, slot, name, same_key}
use Rattle.ded_model.specs.Row.{row_mentions}
use Rattle.ded_model.specs.Logic.{every_of, some_of, exists, Logics, none, also, one_more}
use Rattle.ded_model.specs.PlanForm.{PlanAtom, PlanForm, PlanAtomHolds, in_plan_atom, plan_mentions}
use Rattle.ded_model.specs.Catalogue.{meaning, PlanHolds}
use Rattle.ded_model.specs.Lines.{Line, In, IsSubset, elim_past, clash_past}
use Rattle.ded_model.specs.Measure.{Measures, plan_lines, plan_clashes}
use Rattle.ded_laws.proofs.AtomSlots.{plan_lines-over}
use Rattle.ded_model.proofs.Members.{In-left, In-right, subset_none, subset_join, In-elim-kept}
use Rattle.ded_model.proofs.Monotone.{past-grows, clash_past-grows}
use Rattle.ded_model.proofs.Points.{same_key_is}
use Rattle.ded_model.proofs.Rows.{or_left, or_right}
use Rattle.ded_model.proofs.Sats.{plan_respects}
use Rattle.ded_model.proofs.Unused.{extension, unused}
use Rattle.ded_plan.specs.Rewritten.{IsTidyPlan}
use Rattle.ded_plan.proofs.Keeps.{Keeps, any_mention, member_lines, any_clash, other_members, other_parts}
use Rattle.ded_plan.proofs.TidyPlans.{sorted_plan, rational_plan}
use Rattle.std.proofs.lemmas.Bool.{and_from}
use Rattle.ded_algebra.specs.Compiled.{HasOneSort}
use Rattle.ded_algebra.proofs.PlanLines.{drop_none}
use Rattle.ded_algebra.proofs.PlanShapes.{and_grows}
use Rattle.ded_algebra.proofs.PlanSorts.{fewer_slots}

-- ---- a key that isn't mentioned

-- a key that is mentioned is another one
other_key : (f : PlanForm) (k j : Key) → plan_mentions f k ≡ false → plan_mentions f j ≡ true → not (same_key j k) ≡ true
other_key f k j n m = go (same_key j k) refl
  where
    go : (b : Bool) → same_key j k ≡ b → not b ≡ true
    go true e = absurd (true≢false (sym m ∙ ap (plan_mentions f) (same_key_is j k e) ∙ n))
    go false e = refl

one_more-above : (s : Sort) (n : ℕ) → n ≤ one_more s n
one_more-above Rat n = omega arith
one_more-above Text n = omega arith

-- its lines stay past the quantifier
lines_stay : (s : Sort) (k : Key) (f : PlanForm) (M : Measures) → IsTidyPlan f → plan_mentions f k ≡ false → IsSubset (plan_lines M f) (elim_past s k (plan_lines M f))
lines_stay Rat (slot u) f M t n l h = go (row_mentions l u) refl
  where
    go : (b : Bool) → row_mentions l u ≡ b → In l (elim_past Rat (slot u) (plan_lines M f))
    go true e = absurd (true≢false (sym (plan_lines-over M f (sorted_plan f t.0) (rational_plan f t.1) l u h e).0 ∙ n))
    go false e = In-elim-kept u (plan_lines M f) l h e
lines_stay Rat (name x) f M t n l h = h
lines_stay Text k f M t n l h = h

pub past_other : (s : Sort) (k : Key) (f : PlanForm) → plan_mentions f k ≡ false → Keeps (exists s k f) f
past_other s k f n = record {
  holds = λ c p i. unused (PlanAtomHolds (meaning c)) in_plan_atom (plan_respects c) f s k p i n;
  slots = λ j h. and_from (not (same_key j k)) (plan_mentions f j) (other_key f k j n h) h;
  length = λ of. omega arith;
  rank = λ of. one_more-above s _;
  lines = λ t M. lines_stay s k f M (t.0.1, t.1) n;
  clashes = λ t M h. or_left (plan_clashes M f) _ h;
  scans = λ test. refl;
  tidy = λ t. (t.0.1, t.1);
  atoms = λ test t. t;
  parts = λ t. t.1.1;
}

-- ---- unions

pub past_nothing : (s : Sort) (k : Key) → Keeps (exists s k (some_of none)) (some_of none)
past_nothing s k = record {
  holds = λ c p i. (λ w. w.2, λ x. absurd x);
  slots = λ j h. absurd (true≢false (sym h));
  length = λ of. omega arith;
  rank = λ of. omega arith;
  lines = λ t M. subset_none _;
  clashes = λ t M h. absurd (true≢false (sym h));
  scans = λ test. refl;
  tidy = λ t. (tt, tt);
  atoms = λ test t. tt;
  parts = λ t. tt;
}

and_parts : (n a b : Bool) → ((n && a) || ((n && b) || false)) ≡ true → (n && (a || b)) ≡ true
and_parts true true b h = refl
and_parts true false true h = refl
and_parts true false false h = h
and_parts false a b h = h

one_more-parts : (s : Sort) (m n : ℕ) → max (one_more s m) (max (one_more s n) 0) ≤ one_more s (max m n)
one_more-parts Rat m n = omega arith
one_more-parts Text m n = omega arith

parts_past : (s : Sort) (k : Key) (xs ys : List Line) → IsSubset (elim_past s k xs ++ (elim_past s k ys ++ [])) (elim_past s k (xs ++ ys))
parts_past s k xs ys =
    subset_join (elim_past s k xs) (elim_past s k ys ++ []) _ (past-grows s k xs (xs ++ ys) (λ l h. In-left l xs ys h))
    (λ l h. past-grows s k ys (xs ++ ys) (λ m i. In-right m xs ys i) l (drop_none (elim_past s k ys) l h))

-- what clashes among some clashes among all
first_clash : (s : Sort) (k : Key) (xs ys : List Line) → clash_past s k xs ≡ true → clash_past s k (xs ++ ys) ≡ true
first_clash s k xs ys = clash_past-grows s k xs (xs ++ ys) (λ l h. In-left l xs ys h)

second_clash : (s : Sort) (k : Key) (xs ys : List Line) → clash_past s k ys ≡ true → clash_past s k (xs ++ ys) ≡ true
second_clash s k xs ys = clash_past-grows s k ys (xs ++ ys) (λ l h. In-right l xs ys h)

or_clash : (a b x y z : Bool) → (x ≡ true → z ≡ true) → (y ≡ true → z ≡ true) → ((a || x) || ((b || y) || false)) ≡ true → ((a || b) || z) ≡ true
or_clash true b x y z f g h = refl
or_clash false true x y z f g h = refl
or_clash false false true y z f g h = f refl
or_clash false false false true z f g h = g refl
or_clash false false false false z f g h = absurd (true≢false (sym h))

-- the projections of the first part and of the others
first_slots : (s : Sort) (k : Key) (f : PlanForm) (fs : Logics PlanAtom) → HasOneSort (exists s k (some_of (also f fs))) → HasOneSort (exists s k f)
first_slots s k f fs h =
    fewer_slots (exists s k (some_of (also f fs))) (exists s k f)
    (λ j m. and_grows (not (same_key j k)) (plan_mentions f j) (plan_mentions f j || any_mention fs j) (or_left (plan_mentions f j) (any_mention fs j)) m) h

rest_slots : (s : Sort) (k : Key) (f : PlanForm) (fs : Logics PlanAtom) → HasOneSort (exists s k (some_of (also f fs))) → HasOneSort (exists s k (some_of fs))
rest_slots s k f fs h =
    fewer_slots (exists s k (some_of (also f fs))) (exists s k (some_of fs))
    (λ j m. and_grows (not (same_key j k)) (any_mention fs j) (plan_mentions f j || any_mention fs j) (or_right (plan_mentions f j) (any_mention fs j)) m) h

pub past_union : (s : Sort) (k : Key) (f : PlanForm) (fs : Logics PlanAtom) → Keeps (exists s k (some_of (also f fs))) (some_of (also (exists s k f) (also (exists s k (some_of fs)) none)))
past_union s k f fs = record {
  holds = λ c p i. (
    λ w. ⊎_elim (λ (x : PlanHolds c f w.0). inl (w.0, w.1, x)) (λ x. inr (inl (w.0, w.1, x))) w.2,
    ⊎_elim (λ (w : PlanHolds c (exists s k f) p). (w.0, w.1, inl w.2)) (⊎_elim (λ (w : PlanHolds c (exists s k (some_of fs)) p). (w.0, w.1, inr w.2)) (λ x. absurd x)),
  );
  slots = λ j h. and_parts (not (same_key j k)) (plan_mentions f j) (any_mention fs j) h;
  length = λ of. omega arith;
  rank = λ of. one_more-parts s _ _;
  lines = λ t M. parts_past s k (plan_lines M f) (member_lines M fs);
  clashes = λ t M h.
      or_clash (plan_clashes M f) (any_clash M fs) (clash_past s k (plan_lines M f)) (clash_past s k (member_lines M fs)) _ (first_clash s k (plan_lines M f) (member_lines M fs))
      (second_clash s k (plan_lines M f) (member_lines M fs)) h;
  scans = λ test. omega arith;
  tidy = λ t. (((t.0.0, t.0.1.0), ((t.0.0, t.0.1.1), tt)), (t.1.0, (t.1.1, tt)));
  atoms = λ test t. (t.0, (t.1, tt));
  parts = λ t.
      ((first_slots s k f fs t.0, t.1.1.0), ((rest_slots s k f fs t.0, (other_parts f fs t.1.0, t.1.1.1)), tt));
}

-- ---- joins

and_other : (n a b : Bool) → (a ≡ true → n ≡ true) → (a || ((n && b) || false)) ≡ true → (n && (a || b)) ≡ true
and_other true true b f h = refl
and_other true false true f h = refl
and_other true false false f h = h
and_other false true b f h = f refl
and_other false false b f h = h

one_more-other : (s : Sort) (m n : ℕ) → max m (max (one_more s n) 0) ≤ one_more s (max m n)
one_more-other Rat m n = omega arith
one_more-other Text m n = omega arith

other_past : (s : Sort) (k : Key) (xs ys : List Line) → IsSubset xs (elim_past s k xs) → IsSubset (xs ++ (elim_past s k ys ++ [])) (elim_past s k (xs ++ ys))
other_past s k xs ys f =
    subset_join xs (elim_past s k ys ++ []) _ (λ l h. past-grows s k xs (xs ++ ys) (λ m i. In-left m xs ys i) l (f l h))
    (λ l h. past-grows s k ys (xs ++ ys) (λ m i. In-right m xs ys i) l (drop_none (elim_past s k ys) l h))

or_other : (a b y z : Bool) → (y ≡ true → z ≡ true) → (a || ((b || y) || false)) ≡ true → ((a || b) || z) ≡ true
or_other true b y z g h = refl
or_other false true y z g h = refl
or_other false false true z g h = g refl
or_other false false false z g h = absurd (true≢false (sym h))

-- the projection of the other members
others_slots : (s : Sort) (k : Key) (f : PlanForm) (fs : Logics PlanAtom) → HasOneSort (exists s k (every_of (also f fs))) → HasOneSort (exists s k (every_of fs))
others_slots s k f fs h =
    fewer_slots (exists s k (every_of (also f fs))) (exists s k (every_of fs))
    (λ j m. and_grows (not (same_key j k)) (any_mention fs j) (plan_mentions f j || any_mention fs j) (or_right (plan_mentions f j) (any_mention fs j)) m) h

pub past_member : (s : Sort) (k : Key) (f : PlanForm) (fs : Logics PlanAtom) → plan_mentions f k ≡ false
    → Keeps (exists s k (every_of (also f fs))) (every_of (also f (also (exists s k (every_of fs)) none)))
past_member s k f fs n = record {
  holds = λ c p i. (
    λ w. ((extension (PlanAtomHolds (meaning c)) in_plan_atom (plan_respects c) f s k p w.0 i n w.1).1 w.2.0, ((w.0, w.1, w.2.1), tt)),
    λ x. (x.1.0.0, x.1.0.1, ((extension (PlanAtomHolds (meaning c)) in_plan_atom (plan_respects c) f s k p x.1.0.0 i n x.1.0.1).0 x.0, x.1.0.2)),
  );
  slots = λ j h. and_other (not (same_key j k)) (plan_mentions f j) (any_mention fs j) (other_key f k j n) h;
  length = λ of. omega arith;
  rank = λ of. one_more-other s _ _;
  lines = λ t M. other_past s k (plan_lines M f) (member_lines M fs) (lines_stay s k f M (t.0.1.0, t.1.0) n);
  clashes = λ t M h. or_other (plan_clashes M f) (any_clash M fs) (clash_past s k (member_lines M fs)) _ (second_clash s k (plan_lines M f) (member_lines M fs)) h;
  scans = λ test. omega arith;
  tidy = λ t. ((t.0.1.0, ((t.0.0, t.0.1.1), tt)), (t.1.0, (t.1.1, tt)));
  atoms = λ test t. (t.0, (t.1, tt));
  parts = λ t. (t.1.1.0, ((others_slots s k f fs t.0, (other_members f fs t.1.0, t.1.1.1)), tt));
}
