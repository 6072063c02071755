-- A plan over names that are given can be evaluated, and what it is evaluated to holds where its goal does over the catalogue.
use Rattle.std.proofs.Common.{◌≡◌, ℕ, suc, true, List, [], ◌∷◌, length, refl, sym, ap, ◌∙◌, subst}
use Rattle.std.specs.List.{AllByRecursion}
use Rattle.std.proofs.lemmas.Slice.Eq.{bytes_eq-Decides}
use Rattle.ded_model.specs.declared.name.Column.{Column}
use Rattle.ded_model.specs.declared.slot.Slot.{Slot}
use Rattle.ded_model.specs.Row.{Atom}
use Rattle.ded_model.specs.Catalogue.{Catalogue, tuples_of, stored, meaning}
use Rattle.ded_model.specs.Entries.{columns_in}
use Rattle.ded_model.specs.Form.{Form}
use Rattle.ded_model.specs.Known.{IsTupleOver}
use Rattle.ded_model.specs.Logic.{atom, always, never, negation, every_of, some_of, implies, minus, exists, forall, Logics, none, also, AllAtoms, AllAtomsOf, some_atom_of}
use Rattle.ded_model.specs.Made.{base}
use Rattle.ded_model.specs.PlanForm.{PlanAtom, scan, rows, PlanForm}
use Rattle.ded_model.specs.Uses.{plan_atom_uses, plan_uses}
use Rattle.ded_model.proofs.Rows.{or_left, or_right}
use Rattle.ded_algebra.specs.Evaluation.{HaveSorts, IsScannedFrom, IsScannable, IsEvaluable, IsAnyAtom}
use Rattle.ded_plan.specs.Plans.{IsScanOf}
use Rattle.ded_algebra.specs.declared.given.GivenRelation.{GivenRelation}
use Rattle.ded_algebra.specs.Given.{unnumbered, given_catalogue, has_name}
use Rattle.ded_query.specs.Gathering.{IsGivenOf}
use Rattle.ded_query.specs.Windows.{IsShapedOf}
use Rattle.ded_views.specs.Same.{ScansSame}
use Rattle.ded_query.proofs.GivenNames.{found_of, given_means}

-- what follows of an atom from a property of it and one of the names that it uses follows of all atoms
module _ (Q R : PlanAtom → Type 0) (P : List ℕ → Type 0) (step : (a : PlanAtom) → Q a → ((n : List ℕ) → plan_atom_uses n a ≡ true → P n) → R a) where
  mutual
    pub all_with : (f : PlanForm) → AllAtoms Q f → ((n : List ℕ) → plan_uses n f ≡ true → P n) → AllAtoms R f
    all_with (atom a) q u = step a q u
    all_with always q u = tt
    all_with never q u = tt
    all_with (negation f) q u = all_with f q u
    all_with (every_of fs) q u = all_with_of fs q u
    all_with (some_of fs) q u = all_with_of fs q u
    all_with (implies f g) q u = (all_with f q.0 (λ n e. u n (or_left (plan_uses n f) (plan_uses n g) e)), all_with g q.1 (λ n e. u n (or_right (plan_uses n f) (plan_uses n g) e)))
    all_with (minus f g) q u = (all_with f q.0 (λ n e. u n (or_left (plan_uses n f) (plan_uses n g) e)), all_with g q.1 (λ n e. u n (or_right (plan_uses n f) (plan_uses n g) e)))
    all_with (exists s k f) q u = all_with f q u
    all_with (forall s k f) q u = all_with f q u

    all_with_of : (fs : Logics PlanAtom) → AllAtomsOf Q fs → ((n : List ℕ) → some_atom_of (plan_atom_uses n) fs ≡ true → P n) → AllAtomsOf R fs
    all_with_of none q u = tt
    all_with_of (also f fs) q u =
        (all_with f q.0 (λ n e. u n (or_left (plan_uses n f) (some_atom_of (plan_atom_uses n) fs) e)), all_with_of fs q.1 (λ n e. u n (or_right (plan_uses n f) (some_atom_of (plan_atom_uses n) fs) e)))

pub any_atoms : (t : List Atom) → AllByRecursion IsAnyAtom t
any_atoms [] = tt
any_atoms (a ∷ t) = (tt, any_atoms t)

read_over : (h : List Column) (ts : List (List Atom)) → AllByRecursion (IsTupleOver h) ts → AllByRecursion (λ t. IsTupleOver h t × AllByRecursion IsAnyAtom t) (tuples_of (unnumbered ts))
read_over h [] k = tt
read_over h (t ∷ ts) k = ((k.0, any_atoms t), read_over h ts k.1)

-- as many slots as columns
pub sorts_long : (h : List Column) (ss : List Slot) → HaveSorts h ss → length ss ≡ length h
sorts_long [] [] k = refl
sorts_long [] (s ∷ ss) k = absurd k
sorts_long (x ∷ h) [] k = absurd k
sorts_long (x ∷ h) (s ∷ ss) k = ap suc (sorts_long h ss k.1)

module _ (c : Catalogue) (f : Form) (rs : List GivenRelation) (g : AllByRecursion (IsShapedOf c) rs) where
  pub scannable : (a : PlanAtom) → IsScanOf c f a → ((n : List ℕ) → plan_atom_uses n a ≡ true → has_name n rs ≡ true) → IsScannable IsAnyAtom (given_catalogue rs) a
  scannable (rows t) q u = any_atoms t
  scannable (scan n ss) q u =
      let found = found_of (IsShapedOf c) rs n g (u n ((bytes_eq-Decides n n).1 refl)) in
      let columns : columns_in c (base n) ≡ found.relation.heading = ap (λ m. columns_in c (base m)) (sym found.named) ∙ found.of.columns in
      subst (λ e. IsScannedFrom IsAnyAtom e ss) (sym found.entry)
      (subst (λ h. HaveSorts h ss) columns q.1, read_over found.relation.heading found.relation.tuples found.of.over)

  -- the law
  pub evaluable : (plan : PlanForm) → AllAtoms (IsScanOf c f) plan → ((n : List ℕ) → plan_uses n plan ≡ true → has_name n rs ≡ true) → IsEvaluable IsAnyAtom (given_catalogue rs) plan
  evaluable plan q u = all_with (IsScanOf c f) (IsScannable IsAnyAtom (given_catalogue rs)) (λ n. has_name n rs ≡ true) scannable plan q u

module _ (c : Catalogue) (f : Form) (rs : List GivenRelation) (g : AllByRecursion (IsGivenOf c) rs) where
  -- each scan is of what is given, and means over it what it means over the catalogue
  pub scans_same : (a : PlanAtom) → IsScanOf c f a → ((n : List ℕ) → plan_atom_uses n a ≡ true → has_name n rs ≡ true) → ScansSame (stored (given_catalogue rs)) (meaning c) a
  scans_same (rows t) q u = tt
  scans_same (scan n ss) q u = λ d xs i b l. given_means c rs n g (u n ((bytes_eq-Decides n n).1 refl)) d xs i b (l ∙ sorts_long (columns_in c (base n)) ss q.1)

  pub scanned_same : (plan : PlanForm) → AllAtoms (IsScanOf c f) plan → ((n : List ℕ) → plan_uses n plan ≡ true → has_name n rs ≡ true) → AllAtoms (ScansSame (stored (given_catalogue rs)) (meaning c)) plan
  scanned_same plan q u = all_with (IsScanOf c f) (ScansSame (stored (given_catalogue rs)) (meaning c)) (λ n. has_name n rs ≡ true) scans_same plan q u
