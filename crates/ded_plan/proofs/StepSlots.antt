-- What members and parts mention freely when they are put together anew: no more than the whole, so its numbers have one sort.
use Rattle.std.proofs.Common.{◌≡◌, Bool, true, false, ◌||◌, refl, sym, true≢false}
use Rattle.ded_model.specs.Logic.{negation, every_of, some_of, minus, Logics, none, also}
use Rattle.ded_model.specs.PlanForm.{PlanAtom, PlanForm, plan_mentions}
use Rattle.ded_algebra.specs.Compiled.{HasOneSort}
use Rattle.ded_algebra.proofs.PlanSorts.{fewer_slots}
use Rattle.ded_plan.proofs.Keeps.{any_mention}

or_pair : (a b d : Bool) → (a || (b || false)) ≡ true → (a || (b || d)) ≡ true
or_pair true b d h = refl
or_pair false true d h = refl
or_pair false false d h = absurd (true≢false (sym h))

-- the first two members
pub two_slots : (f g : PlanForm) (fs : Logics PlanAtom) → HasOneSort (every_of (also f (also g fs))) → HasOneSort (every_of (also f (also g none)))
two_slots f g fs h =
    fewer_slots (every_of (also f (also g fs))) (every_of (also f (also g none))) (λ k m. or_pair (plan_mentions f k) (plan_mentions g k) (any_mention fs k) m) h

or_first_part : (a b d : Bool) → (a || (b || false)) ≡ true → (a || ((b || d) || false)) ≡ true
or_first_part true b d h = refl
or_first_part false true d h = refl
or_first_part false false d h = absurd (true≢false (sym h))

or_other_parts : (a b d : Bool) → (a || (d || false)) ≡ true → (a || ((b || d) || false)) ≡ true
or_other_parts true b d h = refl
or_other_parts false true d h = refl
or_other_parts false false true h = refl
or_other_parts false false false h = h

-- a member beside the first part of a union, and beside the others
pub beside_first : (r f : PlanForm) (fs : Logics PlanAtom) → HasOneSort (every_of (also r (also (some_of (also f fs)) none))) → HasOneSort (every_of (also r (also f none)))
beside_first r f fs h =
    fewer_slots (every_of (also r (also (some_of (also f fs)) none))) (every_of (also r (also f none))) (λ k m. or_first_part (plan_mentions r k) (plan_mentions f k) (any_mention fs k) m) h

pub beside_rest : (r f : PlanForm) (fs : Logics PlanAtom) → HasOneSort (every_of (also r (also (some_of (also f fs)) none))) → HasOneSort (every_of (also r (also (some_of fs) none)))
beside_rest r f fs h =
    fewer_slots (every_of (also r (also (some_of (also f fs)) none))) (every_of (also r (also (some_of fs) none)))
    (λ k m. or_other_parts (plan_mentions r k) (plan_mentions f k) (any_mention fs k) m) h

or_beside_taken : (a b d : Bool) → (a || d) ≡ true → (a || ((b || d) || false)) ≡ true
or_beside_taken true b d h = refl
or_beside_taken false true d h = refl
or_beside_taken false false true h = refl
or_beside_taken false false false h = h

-- what is taken from a member, with the part of a complement beside it
pub taken_slots : (f g : PlanForm) (gs : Logics PlanAtom) → HasOneSort (every_of (also (negation g) (also (minus f (some_of gs)) none))) → HasOneSort (some_of (also g gs))
taken_slots f g gs h =
    fewer_slots (every_of (also (negation g) (also (minus f (some_of gs)) none))) (some_of (also g gs)) (λ k m. or_beside_taken (plan_mentions g k) (plan_mentions f k) (any_mention gs k) m) h

or_beside_kept : (a b d : Bool) → (a || b) ≡ true → (a || ((b || d) || false)) ≡ true
or_beside_kept true b d h = refl
or_beside_kept false true d h = refl
or_beside_kept false false d h = absurd (true≢false (sym h))

-- a member beside what something is taken from
pub kept_slots : (f g : PlanForm) (fs : Logics PlanAtom) → HasOneSort (every_of (also f (also (minus (every_of fs) g) none))) → HasOneSort (every_of (also f fs))
kept_slots f g fs h =
    fewer_slots (every_of (also f (also (minus (every_of fs) g) none))) (every_of (also f fs)) (λ k m. or_beside_kept (plan_mentions f k) (any_mention fs k) (plan_mentions g k) m) h
