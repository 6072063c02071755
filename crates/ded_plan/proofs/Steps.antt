-- The single steps of a rewriting that only move the members of joins and the parts of unions: each plan holds where the other
-- does by the laws of `and`, `or` and `not`, and has the same atoms.
use Rattle.std.proofs.Common.{◌≡◌, Bool, true, false, ◌||◌, List, [], ◌++◌, inl, inr, refl, sym, arith, ⊎_elim, true≢false}
use Rattle.ded_model.specs.Row.{Atom}
use Rattle.ded_model.specs.Logic.{atom, negation, every_of, some_of, minus, Logics, none, also}
use Rattle.ded_model.specs.PlanForm.{PlanAtom, rows, PlanForm, plan_mentions}
use Rattle.ded_model.specs.Catalogue.{PlanHolds}
use Rattle.ded_model.specs.Lines.{Line, In, IsSubset}
use Rattle.ded_model.specs.Measure.{plan_lines, plan_clashes}
use Rattle.ded_laws.proofs.Decided.{plan_stable}
use Rattle.ded_model.proofs.Members.{In-left, In-right, subset_none, subset_join}
use Rattle.ded_plan.proofs.Keeps.{any_mention, member_lines, any_clash, Keeps, other_members, other_parts}
use Rattle.ded_algebra.proofs.PlanShapes.{or_one}
use Rattle.ded_plan.proofs.StepSlots.{two_slots, beside_first, beside_rest, taken_slots, kept_slots}
use Rattle.ded_algebra.proofs.PlanLines.{drop_none}

-- ---- two members, or three, in other places

or_none : (a : Bool) → a ≡ true → (a || false) ≡ true
or_none true h = h
or_none false h = h

or_swap : (a b d : Bool) → (b || (a || d)) ≡ true → (a || (b || d)) ≡ true
or_swap true b d h = refl
or_swap false true d h = refl
or_swap false false d h = h

or_in : (a b d : Bool) → ((a || (b || false)) || d) ≡ true → (a || (b || d)) ≡ true
or_in true b d h = refl
or_in false true d h = refl
or_in false false d h = h

or_out : (a b d : Bool) → (a || (b || d)) ≡ true → ((a || b) || d) ≡ true
or_out true b d h = refl
or_out false b d h = h

append_none : (xs : List Line) → IsSubset xs (xs ++ [])
append_none xs l h = In-left l xs [] h

swapped : (xs ys zs : List Line) → IsSubset (ys ++ (xs ++ zs)) (xs ++ (ys ++ zs))
swapped xs ys zs =
    subset_join ys (xs ++ zs) _ (λ l h. In-right l xs _ (In-left l ys zs h)) (subset_join xs zs _ (λ l h. In-left l xs _ h) (λ l h. In-right l xs _ (In-right l ys zs h)))

gathered : (xs ys zs : List Line) → IsSubset ((xs ++ (ys ++ [])) ++ zs) (xs ++ (ys ++ zs))
gathered xs ys zs =
    subset_join (xs ++ (ys ++ [])) zs _ (subset_join xs (ys ++ []) _ (λ l h. In-left l xs _ h) (λ l h. In-right l xs _ (In-left l ys zs (drop_none ys l h)))) (λ l h. In-right l xs _ (In-right l ys zs h))

split : (xs ys zs : List Line) → IsSubset (xs ++ (ys ++ zs)) ((xs ++ ys) ++ zs)
split xs ys zs = subset_join xs (ys ++ zs) _ (λ l h. In-left l (xs ++ ys) zs (In-left l xs ys h)) (subset_join ys zs _ (λ l h. In-left l (xs ++ ys) zs (In-right l xs ys h)) (λ l h. In-right l (xs ++ ys) zs h))

-- ---- joins

pub member_alone : (f : PlanForm) → Keeps (every_of (also f none)) f
member_alone f = record {
  holds = λ c p i. (λ x. x.0, λ x. (x, tt));
  slots = λ k h. or_none (plan_mentions f k) h;
  length = λ of. omega arith;
  rank = λ of. omega arith;
  lines = λ t M. append_none (plan_lines M f);
  clashes = λ t M h. or_none (plan_clashes M f) h;
  scans = λ test. omega arith;
  tidy = λ t. (t.0.0, t.1.0);
  atoms = λ test t. t.0;
  parts = λ t. t.1.0.1;
}

pub alone_member : (f : PlanForm) → Keeps f (every_of (also f none))
alone_member f = record {
  holds = λ c p i. (λ x. (x, tt), λ x. x.0);
  slots = λ k h. or_one (plan_mentions f k) h;
  length = λ of. omega arith;
  rank = λ of. omega arith;
  lines = λ t M. drop_none (plan_lines M f);
  clashes = λ t M h. or_one (plan_clashes M f) h;
  scans = λ test. omega arith;
  tidy = λ t. ((t.0, tt), (t.1, tt));
  atoms = λ test t. (t, tt);
  parts = λ t. (t, tt);
}

-- the members of an empty join as a member
pub no_members : (fs : Logics PlanAtom) → Keeps (every_of (also (every_of none) fs)) (every_of fs)
no_members fs = record {
  holds = λ c p i. (λ x. x.1, λ x. (tt, x));
  slots = λ k h. h;
  length = λ of. omega arith;
  rank = λ of. omega arith;
  lines = λ t M l h. h;
  clashes = λ t M h. h;
  scans = λ test. omega arith;
  tidy = λ t. (t.0.1, t.1.1);
  atoms = λ test t. t.1;
  parts = λ t. t.1.1;
}

-- the first member of a join as a member
pub first_member : (f : PlanForm) (gs fs : Logics PlanAtom) → Keeps (every_of (also (every_of (also f gs)) fs)) (every_of (also f (also (every_of gs) fs)))
first_member f gs fs = record {
  holds = λ c p i. (λ x. (x.0.0, (x.0.1, x.1)), λ x. ((x.0, x.1.0), x.1.1));
  slots = λ k h. or_out (plan_mentions f k) (any_mention gs k) (any_mention fs k) h;
  length = λ of. omega arith;
  rank = λ of. omega arith;
  lines = λ t M. split (plan_lines M f) (member_lines M gs) (member_lines M fs);
  clashes = λ t M h. or_out (plan_clashes M f) (any_clash M gs) (any_clash M fs) h;
  scans = λ test. omega arith;
  tidy = λ t. ((t.0.0.0, (t.0.0.1, t.0.1)), (t.1.0.0, (t.1.0.1, t.1.1)));
  atoms = λ test t. (t.0.0, (t.0.1, t.1));
  parts = λ t. (t.1.0.1.0, ((other_members f gs t.1.0.0, t.1.0.1.1), t.1.1));
}

pub members_swapped : (f g : PlanForm) (fs : Logics PlanAtom) → Keeps (every_of (also f (also g fs))) (every_of (also g (also f fs)))
members_swapped f g fs = record {
  holds = λ c p i. (λ x. (x.1.0, (x.0, x.1.1)), λ x. (x.1.0, (x.0, x.1.1)));
  slots = λ k h. or_swap (plan_mentions f k) (plan_mentions g k) (any_mention fs k) h;
  length = λ of. omega arith;
  rank = λ of. omega arith;
  lines = λ t M. swapped (plan_lines M f) (plan_lines M g) (member_lines M fs);
  clashes = λ t M h. or_swap (plan_clashes M f) (plan_clashes M g) (any_clash M fs) h;
  scans = λ test. omega arith;
  tidy = λ t. ((t.0.1.0, (t.0.0, t.0.1.1)), (t.1.1.0, (t.1.0, t.1.1.1)));
  atoms = λ test t. (t.1.0, (t.0, t.1.1));
  parts = λ t. (t.1.1.0, (t.1.0, t.1.1.1));
}

-- the first two as one
pub two_members : (f g : PlanForm) (fs : Logics PlanAtom) → Keeps (every_of (also f (also g fs))) (every_of (also (every_of (also f (also g none))) fs))
two_members f g fs = record {
  holds = λ c p i. (λ x. ((x.0, (x.1.0, tt)), x.1.1), λ x. (x.0.0, (x.0.1.0, x.1)));
  slots = λ k h. or_in (plan_mentions f k) (plan_mentions g k) (any_mention fs k) h;
  length = λ of. omega arith;
  rank = λ of. omega arith;
  lines = λ t M. gathered (plan_lines M f) (plan_lines M g) (member_lines M fs);
  clashes = λ t M h. or_in (plan_clashes M f) (plan_clashes M g) (any_clash M fs) h;
  scans = λ test. omega arith;
  tidy = λ t. (((t.0.0, (t.0.1.0, tt)), t.0.1.1), ((t.1.0, (t.1.1.0, tt)), t.1.1.1));
  atoms = λ test t. ((t.0, (t.1.0, tt)), t.1.1);
  parts = λ t. ((two_slots f g fs t.0, (t.1.0, (t.1.1.0, tt))), t.1.1.1);
}

-- ---- unions

pub part_alone : (f : PlanForm) → Keeps (some_of (also f none)) f
part_alone f = record {
  holds = λ c p i. (⊎_elim (λ (x : PlanHolds c f p). x) (λ x. absurd x), λ x. inl x);
  slots = λ k h. or_none (plan_mentions f k) h;
  length = λ of. omega arith;
  rank = λ of. omega arith;
  lines = λ t M. append_none (plan_lines M f);
  clashes = λ t M h. or_none (plan_clashes M f) h;
  scans = λ test. omega arith;
  tidy = λ t. (t.0.0, t.1.0);
  atoms = λ test t. t.0;
  parts = λ t. t.1.0.1;
}

-- ---- rows beside a union

or_parts : (a b d : Bool) → ((a || (b || false)) || ((a || (d || false)) || false)) ≡ true → (a || ((b || d) || false)) ≡ true
or_parts true b d h = refl
or_parts false true d h = refl
or_parts false false true h = refl
or_parts false false false h = h

parts : (xs ys zs : List Line) → IsSubset ((xs ++ (ys ++ [])) ++ ((xs ++ (zs ++ [])) ++ [])) (xs ++ ((ys ++ zs) ++ []))
parts xs ys zs =
    let first = λ (l : Line) (h : In l xs). In-left l xs ((ys ++ zs) ++ []) h in
    let rest = λ (l : Line) (h : In l (ys ++ zs)). In-right l xs ((ys ++ zs) ++ []) (In-left l (ys ++ zs) [] h) in
    subset_join (xs ++ (ys ++ [])) ((xs ++ (zs ++ [])) ++ []) _ (subset_join xs (ys ++ []) _ first (λ l h. rest l (In-left l ys zs (drop_none ys l h))))
    (λ l h. subset_join xs (zs ++ []) _ first (λ m i. rest m (In-right m ys zs (drop_none zs m i))) l (drop_none (xs ++ (zs ++ [])) l h))

-- beside the union of no parts nothing holds
pub rows_beside_nothing : (a : List Atom) → Keeps (every_of (also (atom (rows a)) (also (some_of none) none))) (some_of none)
rows_beside_nothing a = record {
  holds = λ c p i. (λ x. x.1.0, λ x. absurd x);
  slots = λ k h. absurd (true≢false (sym h));
  length = λ of. omega arith;
  rank = λ of. omega arith;
  lines = λ t M. subset_none _;
  clashes = λ t M h. absurd (true≢false (sym h));
  scans = λ test. refl;
  tidy = λ t. (tt, tt);
  atoms = λ test t. tt;
  parts = λ t. tt;
}

-- rows beside a union are rows beside its first part, or beside the union of the others
pub rows_beside_union : (a : List Atom) (f : PlanForm) (fs : Logics PlanAtom)
    → Keeps (every_of (also (atom (rows a)) (also (some_of (also f fs)) none)))
    (some_of (also (every_of (also (atom (rows a)) (also f none))) (also (every_of (also (atom (rows a)) (also (some_of fs) none))) none)))
rows_beside_union a f fs = record {
  holds = λ c p i. (
    λ x. ⊎_elim (λ (y : PlanHolds c f p). inl (x.0, (y, tt))) (λ y. inr (inl (x.0, (y, tt)))) x.1.0,
    ⊎_elim (λ (x : PlanHolds c (every_of (also (atom (rows a)) (also f none))) p). (x.0, (inl x.1.0, tt)))
        (⊎_elim (λ (x : PlanHolds c (every_of (also (atom (rows a)) (also (some_of fs) none))) p). (x.0, (inr x.1.0, tt))) (λ x. absurd x)),
  );
  slots = λ k h. or_parts (plan_mentions (atom (rows a)) k) (plan_mentions f k) (any_mention fs k) h;
  length = λ of. omega arith;
  rank = λ of. omega arith;
  lines = λ t M. parts (plan_lines M (atom (rows a))) (plan_lines M f) (member_lines M fs);
  clashes = λ t M h. or_parts (plan_clashes M (atom (rows a))) (plan_clashes M f) (any_clash M fs) h;
  scans = λ test. omega arith;
  tidy = λ t. (((tt, (t.0.1.0.0, tt)), ((tt, (t.0.1.0.1, tt)), tt)), ((t.1.0, (t.1.1.0.0, tt)), ((t.1.0, (t.1.1.0.1, tt)), tt)));
  atoms = λ test t. ((t.0, (t.1.0.0, tt)), ((t.0, (t.1.0.1, tt)), tt));
  parts = λ t. (
    (beside_first (atom (rows a)) f fs t.0, (t.1.0, (t.1.1.0.1.0, tt))),
    ((beside_rest (atom (rows a)) f fs t.0, (t.1.0, ((other_parts f fs t.1.1.0.0, t.1.1.0.1.1), tt))), tt),
  );
}

-- ---- complements

pub complement_twice : (f : PlanForm) → Keeps (negation (negation f)) f
complement_twice f = record {
  holds = λ c p i. (plan_stable c f p, λ x n. n x);
  slots = λ k h. h;
  length = λ of. omega arith;
  rank = λ of. omega arith;
  lines = λ t M l h. h;
  clashes = λ t M h. h;
  scans = λ test. refl;
  tidy = λ t. t;
  atoms = λ test t. t;
  parts = λ t. t.1.1.1;
}

-- nothing is taken away
pub nothing_taken : (f : PlanForm) → Keeps (minus f (some_of none)) f
nothing_taken f = record {
  holds = λ c p i. (λ x. x.0, λ x. (x, λ y. y));
  slots = λ k h. or_none _ h;
  length = λ of. omega arith;
  rank = λ of. omega arith;
  lines = λ t M. append_none _;
  clashes = λ t M h. or_none _ h;
  scans = λ test. omega arith;
  tidy = λ t. (t.0.0, t.1.0);
  atoms = λ test t. t.0;
  parts = λ t. t.1.0.1;
}

pub taken_from_everything : Keeps (every_of none) (minus (every_of none) (some_of none))
taken_from_everything = record {
  holds = λ c p i. (λ x. (tt, λ y. y), λ x. tt);
  slots = λ k h. h;
  length = λ of. omega arith;
  rank = λ of. omega arith;
  lines = λ t M l h. h;
  clashes = λ t M h. h;
  scans = λ test. refl;
  tidy = λ t. ((tt, tt), (tt, tt));
  atoms = λ test t. (tt, tt);
  parts = λ t. ((t.0, tt), (t.0, tt));
}

pub everything_without : (f : PlanForm) → Keeps (minus (every_of none) f) (negation f)
everything_without f = record {
  holds = λ c p i. (λ x. x.1, λ x. (tt, x));
  slots = λ k h. h;
  length = λ of. omega arith;
  rank = λ of. omega arith;
  lines = λ t M l h. h;
  clashes = λ t M h. h;
  scans = λ test. omega arith;
  tidy = λ t. (t.0.1, t.1.1);
  atoms = λ test t. t.1;
  parts = λ t. t.1.1;
}

-- a complement beside another member is taken from it
pub member_without : (f g : PlanForm) → Keeps (every_of (also f (also (negation g) none))) (minus f g)
member_without f g = record {
  holds = λ c p i. (λ x. (x.0, x.1.0), λ x. (x.0, (x.1, tt)));
  slots = λ k h. or_beside (plan_mentions f k) (plan_mentions g k) h;
  length = λ of. omega arith;
  rank = λ of. omega arith;
  lines = λ t M. beside_lines (plan_lines M f) (plan_lines M g);
  clashes = λ t M h. or_beside (plan_clashes M f) (plan_clashes M g) h;
  scans = λ test. omega arith;
  tidy = λ t. ((t.0.0, t.0.1.0), (t.1.0, t.1.1.0));
  atoms = λ test t. (t.0, t.1.0);
  parts = λ t. (t.1.0, t.1.1.0.1);
}
  where
    or_beside : (a b : Bool) → (a || b) ≡ true → (a || (b || false)) ≡ true
    or_beside true b h = refl
    or_beside false true h = refl
    or_beside false false h = h

    beside_lines : (xs ys : List Line) → IsSubset (xs ++ ys) (xs ++ (ys ++ []))
    beside_lines xs ys = subset_join xs ys _ (λ l h. In-left l xs _ h) (λ l h. In-right l xs _ (In-left l ys [] h))

or_taken : (a b d : Bool) → (b || (a || d)) ≡ true → (a || ((b || d) || false)) ≡ true
or_taken true b d h = refl
or_taken false true d h = refl
or_taken false false true h = refl
or_taken false false false h = h

taken_lines : (xs ys zs : List Line) → IsSubset (ys ++ (xs ++ zs)) (xs ++ ((ys ++ zs) ++ []))
taken_lines xs ys zs =
    let rest = λ (l : Line) (h : In l (ys ++ zs)). In-right l xs ((ys ++ zs) ++ []) (In-left l (ys ++ zs) [] h) in
    subset_join ys (xs ++ zs) _ (λ l h. rest l (In-left l ys zs h)) (subset_join xs zs _ (λ l h. In-left l xs _ h) (λ l h. rest l (In-right l ys zs h)))

-- a complement beside what something is taken from takes its part as well
pub complement_beside : (f g : PlanForm) (gs : Logics PlanAtom) → Keeps (every_of (also (negation g) (also (minus f (some_of gs)) none))) (minus f (some_of (also g gs)))
complement_beside f g gs = record {
  holds = λ c p i. (λ x. (x.1.0.0, ⊎_elim (λ (y : PlanHolds c g p). x.0 y) (λ y. x.1.0.1 y)), λ x. (λ y. x.1 (inl y), ((x.0, λ y. x.1 (inr y)), tt)));
  slots = λ k h. or_taken (plan_mentions g k) (plan_mentions f k) (any_mention gs k) h;
  length = λ of. omega arith;
  rank = λ of. omega arith;
  lines = λ t M. taken_lines (plan_lines M g) (plan_lines M f) (member_lines M gs);
  clashes = λ t M h. or_taken (plan_clashes M g) (plan_clashes M f) (any_clash M gs) h;
  scans = λ test. omega arith;
  tidy = λ t. ((t.0.1.0.0, (t.0.0, t.0.1.0.1)), (t.1.1.0.0, (t.1.0, t.1.1.0.1)));
  atoms = λ test t. (t.1.0.0, (t.0, t.1.0.1));
  parts = λ t. (t.1.1.0.1.0, (taken_slots f g gs t.0, (t.1.0.1, t.1.1.0.1.1.1)));
}

or_kept : (a b d : Bool) → ((a || b) || d) ≡ true → (a || ((b || d) || false)) ≡ true
or_kept true b d h = refl
or_kept false true d h = refl
or_kept false false true h = refl
or_kept false false false h = h

kept_lines : (xs ys zs : List Line) → IsSubset ((xs ++ ys) ++ zs) (xs ++ ((ys ++ zs) ++ []))
kept_lines xs ys zs =
    let rest = λ (l : Line) (h : In l (ys ++ zs)). In-right l xs ((ys ++ zs) ++ []) (In-left l (ys ++ zs) [] h) in
    subset_join (xs ++ ys) zs _ (subset_join xs ys _ (λ l h. In-left l xs _ h) (λ l h. rest l (In-left l ys zs h))) (λ l h. rest l (In-right l ys zs h))

-- another member is one more of what something is taken from
pub member_beside : (f g : PlanForm) (fs : Logics PlanAtom) → Keeps (every_of (also f (also (minus (every_of fs) g) none))) (minus (every_of (also f fs)) g)
member_beside f g fs = record {
  holds = λ c p i. (λ x. ((x.0, x.1.0.0), x.1.0.1), λ x. (x.0.0, ((x.0.1, x.1), tt)));
  slots = λ k h. or_kept (plan_mentions f k) (any_mention fs k) (plan_mentions g k) h;
  length = λ of. omega arith;
  rank = λ of. omega arith;
  lines = λ t M. kept_lines (plan_lines M f) (member_lines M fs) (plan_lines M g);
  clashes = λ t M h. or_kept (plan_clashes M f) (any_clash M fs) (plan_clashes M g) h;
  scans = λ test. omega arith;
  tidy = λ t. (((t.0.0, t.0.1.0.0), t.0.1.0.1), ((t.1.0, t.1.1.0.0), t.1.1.0.1));
  atoms = λ test t. ((t.0, t.1.0.0), t.1.0.1);
  parts = λ t. ((kept_slots f g fs t.0, (t.1.0, t.1.1.0.1.0.1)), t.1.1.0.1.1);
}
