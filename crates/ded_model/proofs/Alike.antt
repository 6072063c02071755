-- Catalogues whose names mean the same give formulas, goals and plans one meaning.
--
-- By induction on the formula, from its atoms. An atom that uses a name holds alike where the name means the same, and each
-- other atom holds alike over all catalogues; so the names that are used are enough.
use Rattle.std.proofs.Common.{◌≡◌, ℕ, Bool, true, inl, inr, List, refl}
use Rattle.std.specs.Prelude.{◌↔◌}
use Rattle.std.proofs.lemmas.Slice.Eq.{bytes_eq-Decides}
use Rattle.ded_model.specs.Point.{Point}
use Rattle.ded_model.specs.Logic.{Logic, atom, always, never, negation, every_of, some_of, implies, minus, exists, forall, Logics, none, also, Sat, SatEvery, SatSome, AllAtoms, AllAtomsOf, some_atom, some_atom_of}
use Rattle.ded_model.specs.Form.{Form, FormAtom, compare, member, atom_uses, uses}
use Rattle.ded_model.specs.Goal.{GoalForm, GoalAtom, linear, theme, GoalAtomHolds}
use Rattle.ded_model.specs.Goal as goal
use Rattle.ded_model.specs.PlanForm.{PlanForm, PlanAtom, scan, rows, PlanAtomHolds}
use Rattle.ded_model.specs.Catalogue.{Catalogue, AtomHolds, meaning, Holds, GoalHolds, PlanHolds}
use Rattle.ded_model.specs.Uses.{goal_atom_uses, goal_uses, plan_atom_uses, plan_uses, MeansAlike}
use Rattle.ded_model.proofs.Rows.{or_left, or_right}

-- a fact that goes both ways
pub iff_refl : (A : Type 0) → A ↔ A
iff_refl A = (λ a. a, λ a. a)

-- ---- any atoms

-- an atom holds alike by two readings
abbrev pub IsAlike : {L : Type 0} → (L → Point → Type 0) → (L → Point → Type 0) → L → Type 0
IsAlike H H' a = (p : Point) → H a p ↔ H' a p

module _ {L : Type 0} (H H' : L → Point → Type 0) where
  mutual
    -- the law, from atoms
    pub Sat-alike : (f : Logic L) → AllAtoms (IsAlike H H') f → (p : Point) → Sat H f p ↔ Sat H' f p
    Sat-alike (atom a) h p = h p
    Sat-alike always h p = iff_refl _
    Sat-alike never h p = iff_refl _
    Sat-alike (negation f) h p = let e = Sat-alike f h p in (λ n s. n (e.1 s), λ n s. n (e.0 s))
    Sat-alike (every_of fs) h p = SatEvery-alike fs h p
    Sat-alike (some_of fs) h p = SatSome-alike fs h p
    Sat-alike (implies f g) h p = let e = Sat-alike f h.0 p in let e' = Sat-alike g h.1 p in (λ i s. e'.0 (i (e.1 s)), λ i s. e'.1 (i (e.0 s)))
    Sat-alike (minus f g) h p = let e = Sat-alike f h.0 p in let e' = Sat-alike g h.1 p in (λ m. (e.0 m.0, λ s. m.1 (e'.1 s)), λ m. (e.1 m.0, λ s. m.1 (e'.0 s)))
    Sat-alike (exists s k f) h p = (λ some. (some.0, some.1, (Sat-alike f h some.0).0 some.2), λ some. (some.0, some.1, (Sat-alike f h some.0).1 some.2))
    Sat-alike (forall s k f) h p = (λ every q x. (Sat-alike f h q).0 (every q x), λ every q x. (Sat-alike f h q).1 (every q x))

    -- all of a list
    SatEvery-alike : (fs : Logics L) → AllAtomsOf (IsAlike H H') fs → (p : Point) → SatEvery H fs p ↔ SatEvery H' fs p
    SatEvery-alike none h p = iff_refl _
    SatEvery-alike (also f fs) h p =
        let e = Sat-alike f h.0 p in let e' = SatEvery-alike fs h.1 p in (λ s. (e.0 s.0, e'.0 s.1), λ s. (e.1 s.0, e'.1 s.1))

    -- some of a list
    SatSome-alike : (fs : Logics L) → AllAtomsOf (IsAlike H H') fs → (p : Point) → SatSome H fs p ↔ SatSome H' fs p
    SatSome-alike none h p = iff_refl _
    SatSome-alike (also f fs) h p =
        let e = Sat-alike f h.0 p in let e' = SatSome-alike fs h.1 p in
        (λ s. elim s [ inl a ↦ inl (e.0 a) | inr b ↦ inr (e'.0 b) ], λ s. elim s [ inl a ↦ inl (e.1 a) | inr b ↦ inr (e'.1 b) ])

-- a property of atoms that follows from a fact of each name that the atom uses holds of all, where each name that the
-- formula uses has the fact
module _ {L : Type 0} (test : List ℕ → L → Bool) (Fact : List ℕ → Type 0) (P : L → Type 0) (step : (a : L) → ((n : List ℕ) → test n a ≡ true → Fact n) → P a) where
  mutual
    -- the law, of a formula
    pub all_atoms : (f : Logic L) → ((n : List ℕ) → some_atom (test n) f ≡ true → Fact n) → AllAtoms P f
    all_atoms (atom a) h = step a h
    all_atoms always h = tt
    all_atoms never h = tt
    all_atoms (negation f) h = all_atoms f h
    all_atoms (every_of fs) h = all_atoms_of fs h
    all_atoms (some_of fs) h = all_atoms_of fs h
    all_atoms (implies f g) h = (all_atoms f (λ n e. h n (or_left _ _ e)), all_atoms g (λ n e. h n (or_right (some_atom (test n) f) _ e)))
    all_atoms (minus f g) h = (all_atoms f (λ n e. h n (or_left _ _ e)), all_atoms g (λ n e. h n (or_right (some_atom (test n) f) _ e)))
    all_atoms (exists s k f) h = all_atoms f h
    all_atoms (forall s k f) h = all_atoms f h

    -- of a list
    all_atoms_of : (fs : Logics L) → ((n : List ℕ) → some_atom_of (test n) fs ≡ true → Fact n) → AllAtomsOf P fs
    all_atoms_of none h = tt
    all_atoms_of (also f fs) h = (all_atoms f (λ n e. h n (or_left _ _ e)), all_atoms_of fs (λ n e. h n (or_right (some_atom (test n) f) _ e)))

-- ---- formulas, goals and plans

-- what the atoms of each kind owe
-- an atom of a formula holds alike over both catalogues where the names that it uses do
form_step : (c d : Catalogue) (a : FormAtom) → ((n : List ℕ) → atom_uses n a ≡ true → MeansAlike c d n) → IsAlike (AtomHolds (meaning c)) (AtomHolds (meaning d)) a
form_step c d (compare l op r) h p = iff_refl _
form_step c d (member n ts) h p = h n ((bytes_eq-Decides n n).1 refl) _ _

-- an atom of a goal
goal_step : (c d : Catalogue) (a : GoalAtom) → ((n : List ℕ) → goal_atom_uses n a ≡ true → MeansAlike c d n) → IsAlike (GoalAtomHolds (meaning c)) (GoalAtomHolds (meaning d)) a
goal_step c d (linear r) h p = iff_refl _
goal_step c d (theme a) h p = iff_refl _
goal_step c d (goal.member n ts) h p = h n ((bytes_eq-Decides n n).1 refl) _ _

-- a scan or a list of atoms
plan_step : (c d : Catalogue) (a : PlanAtom) → ((n : List ℕ) → plan_atom_uses n a ≡ true → MeansAlike c d n) → IsAlike (PlanAtomHolds (meaning c)) (PlanAtomHolds (meaning d)) a
plan_step c d (scan n ss) h p = h n ((bytes_eq-Decides n n).1 refl) _ _
plan_step c d (rows t) h p = iff_refl _

-- a formula
pub Holds-alike : (c d : Catalogue) (f : Form) (p : Point) → ((n : List ℕ) → uses n f ≡ true → MeansAlike c d n) → Holds c f p ↔ Holds d f p
Holds-alike c d f p h = Sat-alike (AtomHolds (meaning c)) (AtomHolds (meaning d)) f (all_atoms atom_uses (MeansAlike c d) _ (form_step c d) f h) p

-- a goal
pub GoalHolds-alike : (c d : Catalogue) (g : GoalForm) (p : Point) → ((n : List ℕ) → goal_uses n g ≡ true → MeansAlike c d n) → GoalHolds c g p ↔ GoalHolds d g p
GoalHolds-alike c d g p h = Sat-alike (GoalAtomHolds (meaning c)) (GoalAtomHolds (meaning d)) g (all_atoms goal_atom_uses (MeansAlike c d) _ (goal_step c d) g h) p

-- a plan
pub PlanHolds-alike : (c d : Catalogue) (f : PlanForm) (p : Point) → ((n : List ℕ) → plan_uses n f ≡ true → MeansAlike c d n) → PlanHolds c f p ↔ PlanHolds d f p
PlanHolds-alike c d f p h = Sat-alike (PlanAtomHolds (meaning c)) (PlanAtomHolds (meaning d)) f (all_atoms plan_atom_uses (MeansAlike c d) _ (plan_step c d) f h) p
