-- The names that a plan scans.
use Rattle.std.proofs.Common.{◌≡◌, ℕ, Bool, true, false, inl, inr, List, sym, subst, true≢false, is_some}
use Rattle.std.proofs.lemmas.Slice.Eq.{bytes_eq-Decides}
use Rattle.ded_model.specs.Catalogue.{Catalogue}
use Rattle.ded_model.specs.Form.{Form, FormAtom, compare, member, atom_uses, uses}
use Rattle.ded_model.specs.Known.{KnownNames, is_unknown_atom, uses_unknown}
use Rattle.ded_model.specs.Logic.{Logic, atom, always, never, negation, every_of, some_of, implies, minus, exists, forall, Logics, none, also, AllAtoms, AllAtomsOf, some_atom, some_atom_of}
use Rattle.ded_model.specs.Made.{base}
use Rattle.ded_model.specs.PlanForm.{PlanAtom, scan, rows, PlanForm}
use Rattle.ded_model.specs.Uses.{plan_atom_uses, plan_uses}
use Rattle.ded_model.proofs.Members.{or_split}
use Rattle.ded_plan.specs.Plans.{IsScanOf}
use Rattle.ded_views.proofs.Atoms.{all_where_none}
use Rattle.ded_views.proofs.ViewNames.{is_known}

-- what an atom that passes a test has, follows where some atom passes it
module _ {L : Type 0} (test : L → Bool) (P : L → Type 0) (X : Type 0) (step : (a : L) → P a → test a ≡ true → X) where
  mutual
    some_with : (f : Logic L) → AllAtoms P f → some_atom test f ≡ true → X
    some_with (atom a) k h = step a k h
    some_with always k h = absurd (true≢false (sym h))
    some_with never k h = absurd (true≢false (sym h))
    some_with (negation f) k h = some_with f k h
    some_with (every_of fs) k h = some_with_of fs k h
    some_with (some_of fs) k h = some_with_of fs k h
    some_with (implies f g) k h = elim (or_split (some_atom test f) (some_atom test g) h) [ inl e ↦ some_with f k.0 e | inr e ↦ some_with g k.1 e ]
    some_with (minus f g) k h = elim (or_split (some_atom test f) (some_atom test g) h) [ inl e ↦ some_with f k.0 e | inr e ↦ some_with g k.1 e ]
    some_with (exists s k' f) k h = some_with f k h
    some_with (forall s k' f) k h = some_with f k h

    some_with_of : (fs : Logics L) → AllAtomsOf P fs → some_atom_of test fs ≡ true → X
    some_with_of none k h = absurd (true≢false (sym h))
    some_with_of (also f fs) k h = elim (or_split (some_atom test f) (some_atom_of test fs) h) [ inl e ↦ some_with f k.0 e | inr e ↦ some_with_of fs k.1 e ]

-- a name that a plan of a formula scans is used by the formula
pub scanned_used : (c : Catalogue) (f : Form) (plan : PlanForm) (n : List ℕ) → AllAtoms (IsScanOf c f) plan → plan_uses n plan ≡ true → uses n f ≡ true
scanned_used c f plan n q u = some_with (plan_atom_uses n) (IsScanOf c f) (uses n f ≡ true) step plan q u
  where
    step : (a : PlanAtom) → IsScanOf c f a → plan_atom_uses n a ≡ true → uses n f ≡ true
    step (scan m ss) k h = subst (λ x. uses x f ≡ true) (sym ((bytes_eq-Decides n m).0 h)) k.0
    step (rows t) k h = absurd (true≢false (sym h))

-- and a name that an accepted formula uses is made of a defined one
pub used_known : (K : KnownNames) (f : Form) (n : List ℕ) → uses_unknown K f ≡ false → uses n f ≡ true → is_some (K (base n)) ≡ true
used_known K f n k u = some_with (atom_uses n) (λ a. (m : List ℕ) → atom_uses m a ≡ true → is_some (K (base m)) ≡ true) (is_some (K (base n)) ≡ true) (λ a h e. h n e) f (all_where_none (is_unknown_atom K) _ step f k) u
  where
    step : (a : FormAtom) → is_unknown_atom K a ≡ false → (m : List ℕ) → atom_uses m a ≡ true → is_some (K (base m)) ≡ true
    step (compare l op r) h m e = absurd (true≢false (sym e))
    step (member x ts) h m e = subst (λ y. is_some (K (base y)) ≡ true) (sym ((bytes_eq-Decides m x).0 e)) (is_known (K (base x)) h)

-- ---- lists of names
