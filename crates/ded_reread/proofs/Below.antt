-- What each atom of a formula has below the slots of its scope, and what each atom that is read back has there.
use Rattle.std.proofs.Common.{◌≡◌, ℕ, ◌+◌, Bool, false, List, ◌∷◌, length, refl, sym, ap, ap₂, ◌∙◌, subst}
use Rattle.std.proofs.lemmas.Bool.{or_from}
use Rattle.ded_model.specs.declared.name.Column.{Column}
use Rattle.ded_model.specs.Form.{Form, FormAtom}
use Rattle.ded_model.specs.Known.{KnownNames, is_unbound_atom, is_missorted_atom, IsAccepted}
use Rattle.ded_model.specs.Logic.{atom, always, never, negation, every_of, some_of, implies, minus, exists, forall, Logics, none, also, Scope, some_atom, some_atom_of, some_below, some_below_of, AllAtoms, AllAtomsOf, quantifiers, quantifiers_of}
use Rattle.ded_model.specs.Slotted.{SlotScope, heading_scope, atom_goal, goal_below, goals_below}
use Rattle.ded_model.proofs.Bools.{or_false_left, or_false_right}
use Rattle.ded_resolve.specs.Scope.{sorts_of, AreApart, IsNumbered}
use Rattle.ded_resolve.proofs.Reading.{numbered_more, numbered_next, numbered_heading, sorts_heading}
use Rattle.ded_print.specs.Tuples.{Names, column_names}
use Rattle.ded_dump.specs.Headings.{variables, variables_of, places}
use Rattle.ded_reread.specs.Formulas.{restored_atom, restored_by, restored_each}
use Rattle.ded_reread.proofs.Scopes.{HasAt, IsCalled, called_next, called_heading, has-append, place_names, variables_counted}

-- ---- properties of atoms below their scopes

abbrev mutual
  pub AllIn : (SlotScope → FormAtom → Type 0) → SlotScope → ℕ → Form → Type 0
  AllIn P scope n (atom a) = P scope a
  AllIn P scope n always = Unit {0}
  AllIn P scope n never = Unit {0}
  AllIn P scope n (negation f) = AllIn P scope n f
  AllIn P scope n (every_of fs) = AllInOf P scope n fs
  AllIn P scope n (some_of fs) = AllInOf P scope n fs
  AllIn P scope n (implies f g) = AllIn P scope n f × AllIn P scope (n + quantifiers f) g
  AllIn P scope n (minus f g) = AllIn P scope n f × AllIn P scope (n + quantifiers f) g
  AllIn P scope n (exists s k f) = AllIn P ((k, record { number = n; sort = s }) ∷ scope) (n + 1) f
  AllIn P scope n (forall s k f) = AllIn P ((k, record { number = n; sort = s }) ∷ scope) (n + 1) f

  pub AllInOf : (SlotScope → FormAtom → Type 0) → SlotScope → ℕ → Logics FormAtom → Type 0
  AllInOf P scope n none = Unit {0}
  AllInOf P scope n (also f fs) = AllIn P scope n f × AllInOf P scope (n + quantifiers f) fs

module _ (P Q : SlotScope → FormAtom → Type 0) (each : (scope : SlotScope) (a : FormAtom) → P scope a → Q scope a) where
  mutual
    pub all_map : (f : Form) (scope : SlotScope) (n : ℕ) → AllIn P scope n f → AllIn Q scope n f
    all_map (atom a) scope n h = each scope a h
    all_map always scope n h = tt
    all_map never scope n h = tt
    all_map (negation f) scope n h = all_map f scope n h
    all_map (every_of fs) scope n h = all_map_of fs scope n h
    all_map (some_of fs) scope n h = all_map_of fs scope n h
    all_map (implies f g) scope n h = (all_map f scope n h.0, all_map g scope (n + quantifiers f) h.1)
    all_map (minus f g) scope n h = (all_map f scope n h.0, all_map g scope (n + quantifiers f) h.1)
    all_map (exists s k f) scope n h = all_map f ((k, record { number = n; sort = s }) ∷ scope) (n + 1) h
    all_map (forall s k f) scope n h = all_map f ((k, record { number = n; sort = s }) ∷ scope) (n + 1) h

    all_map_of : (fs : Logics FormAtom) (scope : SlotScope) (n : ℕ) → AllInOf P scope n fs → AllInOf Q scope n fs
    all_map_of none scope n h = tt
    all_map_of (also f fs) scope n h = (all_map f scope n h.0, all_map_of fs scope (n + quantifiers f) h.1)

-- ---- tests of atoms

-- a test that no atom passes below its scope
pub record Fails (test : Scope → FormAtom → Bool) (scope : SlotScope) (a : FormAtom) : Type 0 where
  pub is : test (sorts_of scope) a ≡ false

module _ (test : Scope → FormAtom → Bool) where
  mutual
    pub none_below : (f : Form) (scope : SlotScope) (n : ℕ) → AllIn (Fails test) scope n f → some_below test (sorts_of scope) f ≡ false
    none_below (atom a) scope n h = h.is
    none_below always scope n h = refl
    none_below never scope n h = refl
    none_below (negation f) scope n h = none_below f scope n h
    none_below (every_of fs) scope n h = none_below_of fs scope n h
    none_below (some_of fs) scope n h = none_below_of fs scope n h
    none_below (implies f g) scope n h = or_from _ _ (none_below f scope n h.0) (none_below g scope (n + quantifiers f) h.1)
    none_below (minus f g) scope n h = or_from _ _ (none_below f scope n h.0) (none_below g scope (n + quantifiers f) h.1)
    none_below (exists s k f) scope n h = none_below f ((k, record { number = n; sort = s }) ∷ scope) (n + 1) h
    none_below (forall s k f) scope n h = none_below f ((k, record { number = n; sort = s }) ∷ scope) (n + 1) h

    none_below_of : (fs : Logics FormAtom) (scope : SlotScope) (n : ℕ) → AllInOf (Fails test) scope n fs → some_below_of test (sorts_of scope) fs ≡ false
    none_below_of none scope n h = refl
    none_below_of (also f fs) scope n h = or_from _ _ (none_below f scope n h.0) (none_below_of fs scope (n + quantifiers f) h.1)

-- what each atom has, whatever its scope
pub record Has (X : FormAtom → Type 0) (scope : SlotScope) (a : FormAtom) : Type 0 where
  pub is : X a

module _ (X : FormAtom → Type 0) where
  mutual
    pub all_atoms : (f : Form) (scope : SlotScope) (n : ℕ) → AllIn (Has X) scope n f → AllAtoms X f
    all_atoms (atom a) scope n h = h.is
    all_atoms always scope n h = tt
    all_atoms never scope n h = tt
    all_atoms (negation f) scope n h = all_atoms f scope n h
    all_atoms (every_of fs) scope n h = all_atoms_of fs scope n h
    all_atoms (some_of fs) scope n h = all_atoms_of fs scope n h
    all_atoms (implies f g) scope n h = (all_atoms f scope n h.0, all_atoms g scope (n + quantifiers f) h.1)
    all_atoms (minus f g) scope n h = (all_atoms f scope n h.0, all_atoms g scope (n + quantifiers f) h.1)
    all_atoms (exists s k f) scope n h = all_atoms f ((k, record { number = n; sort = s }) ∷ scope) (n + 1) h
    all_atoms (forall s k f) scope n h = all_atoms f ((k, record { number = n; sort = s }) ∷ scope) (n + 1) h

    all_atoms_of : (fs : Logics FormAtom) (scope : SlotScope) (n : ℕ) → AllInOf (Has X) scope n fs → AllAtomsOf X fs
    all_atoms_of none scope n h = tt
    all_atoms_of (also f fs) scope n h = (all_atoms f scope n h.0, all_atoms_of fs scope (n + quantifiers f) h.1)

-- a test that no atom passes
module _ (test : FormAtom → Bool) where
  mutual
    pub each_fails : (f : Form) → some_atom test f ≡ false → AllAtoms (λ a. test a ≡ false) f
    each_fails (atom a) h = h
    each_fails always h = tt
    each_fails never h = tt
    each_fails (negation f) h = each_fails f h
    each_fails (every_of fs) h = each_fails_of fs h
    each_fails (some_of fs) h = each_fails_of fs h
    each_fails (implies f g) h = (each_fails f (or_false_left _ _ h), each_fails g (or_false_right (some_atom test f) _ h))
    each_fails (minus f g) h = (each_fails f (or_false_left _ _ h), each_fails g (or_false_right (some_atom test f) _ h))
    each_fails (exists s k f) h = each_fails f h
    each_fails (forall s k f) h = each_fails f h

    each_fails_of : (fs : Logics FormAtom) → some_atom_of test fs ≡ false → AllAtomsOf (λ a. test a ≡ false) fs
    each_fails_of none h = tt
    each_fails_of (also f fs) h = (each_fails f (or_false_left _ _ h), each_fails_of fs (or_false_right (some_atom test f) _ h))

    pub none_fails : (f : Form) → AllAtoms (λ a. test a ≡ false) f → some_atom test f ≡ false
    none_fails (atom a) h = h
    none_fails always h = refl
    none_fails never h = refl
    none_fails (negation f) h = none_fails f h
    none_fails (every_of fs) h = none_fails_of fs h
    none_fails (some_of fs) h = none_fails_of fs h
    none_fails (implies f g) h = or_from _ _ (none_fails f h.0) (none_fails g h.1)
    none_fails (minus f g) h = or_from _ _ (none_fails f h.0) (none_fails g h.1)
    none_fails (exists s k f) h = none_fails f h
    none_fails (forall s k f) h = none_fails f h

    none_fails_of : (fs : Logics FormAtom) → AllAtomsOf (λ a. test a ≡ false) fs → some_atom_of test fs ≡ false
    none_fails_of none h = refl
    none_fails_of (also f fs) h = or_from _ _ (none_fails f h.0) (none_fails_of fs h.1)

-- two properties of each atom
module _ (X Y : FormAtom → Type 0) where
  mutual
    pub both_atoms : (f : Form) → AllAtoms X f → AllAtoms Y f → AllAtoms (λ a. X a × Y a) f
    both_atoms (atom a) h k = (h, k)
    both_atoms always h k = tt
    both_atoms never h k = tt
    both_atoms (negation f) h k = both_atoms f h k
    both_atoms (every_of fs) h k = both_atoms_of fs h k
    both_atoms (some_of fs) h k = both_atoms_of fs h k
    both_atoms (implies f g) h k = (both_atoms f h.0 k.0, both_atoms g h.1 k.1)
    both_atoms (minus f g) h k = (both_atoms f h.0 k.0, both_atoms g h.1 k.1)
    both_atoms (exists s k f) h l = both_atoms f h l
    both_atoms (forall s k f) h l = both_atoms f h l

    both_atoms_of : (fs : Logics FormAtom) → AllAtomsOf X fs → AllAtomsOf Y fs → AllAtomsOf (λ a. X a × Y a) fs
    both_atoms_of none h k = tt
    both_atoms_of (also f fs) h k = (both_atoms f h.0 k.0, both_atoms_of fs h.1 k.1)

-- ---- atoms of accepted formulas

-- in the scope each bound name is that of its slot, no two slots have one number, the atom's variables are bound, and no text stands
-- where a number has to
pub record IsFine (K : KnownNames) (names : Names) (X : FormAtom → Type 0) (scope : SlotScope) (a : FormAtom) : Type 0 where
  pub called : IsCalled scope names
  pub apart : AreApart scope
  pub bound : is_unbound_atom (sorts_of scope) a ≡ false
  pub sorted : is_missorted_atom K (sorts_of scope) a ≡ false
  pub more : X a

module _ (K : KnownNames) (names : Names) (X : FormAtom → Type 0) where
  rest_at : (f : Form) (vs : List Column) (n : ℕ) → HasAt names (n + length (variables f)) vs → HasAt names (n + quantifiers f) vs
  rest_at f vs n h = subst (λ m. HasAt names (n + m) vs) (variables_counted f) h

  mutual
    pub all_fine : (f : Form) (scope : SlotScope) (n : ℕ) → IsCalled scope names → IsNumbered scope n → HasAt names n (variables f) → some_below is_unbound_atom (sorts_of scope) f ≡ false
        → some_below (is_missorted_atom K) (sorts_of scope) f ≡ false → AllAtoms X f → AllIn (IsFine K names X) scope n f
    all_fine (atom a) scope n c i h b s x = record { called = c; apart = i.apart; bound = b; sorted = s; more = x }
    all_fine always scope n c i h b s x = tt
    all_fine never scope n c i h b s x = tt
    all_fine (negation f) scope n c i h b s x = all_fine f scope n c i h b s x
    all_fine (every_of fs) scope n c i h b s x = all_fine_of fs scope n c i h b s x
    all_fine (some_of fs) scope n c i h b s x = all_fine_of fs scope n c i h b s x
    all_fine (implies f g) scope n c i h b s x =
        let a = has-append names n (variables f) (variables g) h in (
          all_fine f scope n c i a.0 (or_false_left _ _ b) (or_false_left _ _ s) x.0,
          all_fine g scope (n + quantifiers f) c (numbered_more scope n (quantifiers f) i) (rest_at f (variables g) n a.1)
              (or_false_right (some_below is_unbound_atom (sorts_of scope) f) _ b) (or_false_right (some_below (is_missorted_atom K) (sorts_of scope) f) _ s) x.1,
        )
    all_fine (minus f g) scope n c i h b s x =
        let a = has-append names n (variables f) (variables g) h in (
          all_fine f scope n c i a.0 (or_false_left _ _ b) (or_false_left _ _ s) x.0,
          all_fine g scope (n + quantifiers f) c (numbered_more scope n (quantifiers f) i) (rest_at f (variables g) n a.1)
              (or_false_right (some_below is_unbound_atom (sorts_of scope) f) _ b) (or_false_right (some_below (is_missorted_atom K) (sorts_of scope) f) _ s) x.1,
        )
    all_fine (exists s k f) scope n c i h b d x = all_fine f ((k, record { number = n; sort = s }) ∷ scope) (n + 1) (called_next names scope n s k h.0 c) (numbered_next k s scope n i) h.1 b d x
    all_fine (forall s k f) scope n c i h b d x = all_fine f ((k, record { number = n; sort = s }) ∷ scope) (n + 1) (called_next names scope n s k h.0 c) (numbered_next k s scope n i) h.1 b d x

    all_fine_of : (fs : Logics FormAtom) (scope : SlotScope) (n : ℕ) → IsCalled scope names → IsNumbered scope n → HasAt names n (variables_of fs) → some_below_of is_unbound_atom (sorts_of scope) fs ≡ false
        → some_below_of (is_missorted_atom K) (sorts_of scope) fs ≡ false → AllAtomsOf X fs → AllInOf (IsFine K names X) scope n fs
    all_fine_of none scope n c i h b s x = tt
    all_fine_of (also f fs) scope n c i h b s x =
        let a = has-append names n (variables f) (variables_of fs) h in (
          all_fine f scope n c i a.0 (or_false_left _ _ b) (or_false_left _ _ s) x.0,
          all_fine_of fs scope (n + quantifiers f) c (numbered_more scope n (quantifiers f) i) (rest_at f (variables_of fs) n a.1)
              (or_false_right (some_below is_unbound_atom (sorts_of scope) f) _ b) (or_false_right (some_below (is_missorted_atom K) (sorts_of scope) f) _ s) x.1,
        )

-- of a formula over a heading
pub fine_over : (K : KnownNames) (X : FormAtom → Type 0) (h : List Column) (f : Form) → IsAccepted K h f → AllAtoms X f
    → AllIn (IsFine K (column_names (places h f)) X) (heading_scope 0 h) (length h) f
fine_over K X h f a x =
    let names = column_names (places h f) in
    let at = place_names h f in
    all_fine K names X f (heading_scope 0 h) (length h) (called_heading names 0 h at.0) (numbered_heading h) at.1
    (ap (λ s. some_below is_unbound_atom s f) (sorts_heading 0 h) ∙ a.bound)
    (ap (λ s. some_below (is_missorted_atom K) s f) (sorts_heading 0 h) ∙ a.sorted) x

-- ---- what is read back

module _ (names : Names) where
  -- what is read back of a formula below a scope
  abbrev pub again : SlotScope → ℕ → Form → Form
  again scope n f = restored_by names f (goal_below scope n f)

  abbrev pub all_again : SlotScope → ℕ → Logics FormAtom → Logics FormAtom
  all_again scope n fs = restored_each names fs (goals_below scope n fs)

  mutual
    pub quantifiers_again : (f : Form) (scope : SlotScope) (n : ℕ) → quantifiers (again scope n f) ≡ quantifiers f
    quantifiers_again (atom a) scope n = refl
    quantifiers_again always scope n = refl
    quantifiers_again never scope n = refl
    quantifiers_again (negation f) scope n = quantifiers_again f scope n
    quantifiers_again (every_of fs) scope n = quantifiers_all_again fs scope n
    quantifiers_again (some_of fs) scope n = quantifiers_all_again fs scope n
    quantifiers_again (implies f g) scope n = ap₂ (λ a b. a + b) (quantifiers_again f scope n) (quantifiers_again g scope (n + quantifiers f))
    quantifiers_again (minus f g) scope n = refl
    quantifiers_again (exists s k f) scope n = ap (λ m. m + 1) (quantifiers_again f ((k, record { number = n; sort = s }) ∷ scope) (n + 1))
    quantifiers_again (forall s k f) scope n = ap (λ m. m + 1) (quantifiers_again f ((k, record { number = n; sort = s }) ∷ scope) (n + 1))

    quantifiers_all_again : (fs : Logics FormAtom) (scope : SlotScope) (n : ℕ) → quantifiers_of (all_again scope n fs) ≡ quantifiers_of fs
    quantifiers_all_again none scope n = refl
    quantifiers_all_again (also f fs) scope n = ap₂ (λ a b. a + b) (quantifiers_again f scope n) (quantifiers_all_again fs scope (n + quantifiers f))

  module _ (P Y : SlotScope → FormAtom → Type 0) (each : (scope : SlotScope) (a : FormAtom) → P scope a → Y scope (restored_atom names a (atom_goal scope a)))
      (kept : (scope : SlotScope) (a : FormAtom) → P scope a → Y scope a) where
    mutual
      -- what each atom that is read back has
      pub all_restored : (f : Form) (scope : SlotScope) (n : ℕ) → AllIn P scope n f → AllIn Y scope n (again scope n f)
      all_restored (atom a) scope n h = each scope a h
      all_restored always scope n h = tt
      all_restored never scope n h = tt
      all_restored (negation f) scope n h = all_restored f scope n h
      all_restored (every_of fs) scope n h = all_restored_of fs scope n h
      all_restored (some_of fs) scope n h = all_restored_of fs scope n h
      all_restored (implies f g) scope n h =
          (all_restored f scope n h.0, subst (λ m. AllIn Y scope (n + m) (again scope (n + quantifiers f) g)) (sym (quantifiers_again f scope n)) (all_restored g scope (n + quantifiers f) h.1))
      all_restored (minus f g) scope n h = (all_map P Y kept f scope n h.0, all_map P Y kept g scope (n + quantifiers f) h.1)
      all_restored (exists s k f) scope n h = all_restored f ((k, record { number = n; sort = s }) ∷ scope) (n + 1) h
      all_restored (forall s k f) scope n h = all_restored f ((k, record { number = n; sort = s }) ∷ scope) (n + 1) h

      all_restored_of : (fs : Logics FormAtom) (scope : SlotScope) (n : ℕ) → AllInOf P scope n fs → AllInOf Y scope n (all_again scope n fs)
      all_restored_of none scope n h = tt
      all_restored_of (also f fs) scope n h =
          (all_restored f scope n h.0, subst (λ m. AllInOf Y scope (n + m) (all_again scope (n + quantifiers f) fs)) (sym (quantifiers_again f scope n)) (all_restored_of fs scope (n + quantifiers f) h.1))
