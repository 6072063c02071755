-- The laws of classical logic, for every logic whose atoms are definable. Nothing here is assumed: each law that
-- constructive reasoning lacks (a double negation, `forall` and `implies` by other connectives, the negation of `and`)
-- comes from the fact that a formula over definable atoms holds or fails at every point.
use Rattle.std.proofs.Common.{◌⊎◌, inl, inr, ⊎_elim}
use Rattle.std.specs.Prelude.{◌↔◌}
use Rattle.ded_model.specs.declared.slot.Sort.{Sort}
use Rattle.ded_model.specs.Form.{Form}
use Rattle.ded_model.specs.Goal.{GoalForm, GoalAtomHolds}
use Rattle.ded_model.specs.Logic.{Logic, negation, every_of, some_of, implies, minus, exists, forall, Logics, none, also, Sat, SatEvery, SatSome}
use Rattle.ded_model.specs.Point.{Key, Point}
use Rattle.ded_model.specs.Catalogue.{Catalogue, meaning, AtomHolds, Holds, GoalHolds}
use Rattle.ded_model.proofs.Definable.{Definable, decided, stable, solve, solve_some}
use Rattle.ded_laws.proofs.Decided.{form_atom_definable, goal_atom_definable, meaning_definable}

abbrev pub negations : {L : Type 0} → Logics L → Logics L
negations none = none
negations (also f fs) = also (negation f) (negations fs)

module _ {L : Type 0} (H : L → Point → Type 0) (S : (a : L) → Definable (H a)) where
  pub Sat_decided : (f : Logic L) (p : Point) → Sat H f p ⊎ (¬ Sat H f p)
  Sat_decided f p = decided (Sat H f) (solve H S f) p

  pub Sat_stable : (f : Logic L) (p : Point) → ¬ (¬ Sat H f p) → Sat H f p
  Sat_stable f p h = stable (Sat H f) (solve H S f) p h

  pub not_not : (f : Logic L) (p : Point) → Sat H (negation (negation f)) p ↔ Sat H f p
  not_not f p = (Sat_stable f p, λ h n. n h)

  pub forall_is : (s : Sort) (k : Key) (f : Logic L) (p : Point) → Sat H (forall s k f) p ↔ Sat H (negation (exists s k (negation f))) p
  forall_is s k f p = (λ every w. w.2 (every w.0 w.1), λ n q x. Sat_stable f q (λ fails. n (q, x, fails)))

  pub exists_is : (s : Sort) (k : Key) (f : Logic L) (p : Point) → Sat H (exists s k f) p ↔ Sat H (negation (forall s k (negation f))) p
  exists_is s k f p = (λ w every. every w.0 w.1 w.2, λ n. Sat_stable (exists s k f) p (λ nowhere. n (λ q x h. nowhere (q, x, h))))

  pub implies_is : (f g : Logic L) (p : Point) → Sat H (implies f g) p ↔ Sat H (some_of (also (negation f) (also g none))) p
  implies_is f g p = (
    λ i. ⊎_elim (λ (h : Sat H f p). inr (inl (i h))) (λ n. inl n) (Sat_decided f p),
    λ some h. ⊎_elim (λ (n : ¬ Sat H f p). absurd (n h)) (λ r. ⊎_elim (λ (g : Sat H g p). g) (λ e. absurd e) r) some,
  )

  pub minus_is : (f g : Logic L) (p : Point) → Sat H (minus f g) p ↔ Sat H (every_of (also f (also (negation g) none))) p
  minus_is f g p = (λ h. (h.0, (h.1, tt)), λ h. (h.0, h.1.0))

  none_fails : (fs : Logics L) (p : Point) → ¬ SatSome H (negations fs) p → SatEvery H fs p
  none_fails none p n = tt
  none_fails (also f fs) p n = (Sat_stable f p (λ h. n (inl h)), none_fails fs p (λ h. n (inr h)))

  every_and_fail : (fs : Logics L) (p : Point) → SatEvery H fs p → SatSome H (negations fs) p → ⊥
  every_and_fail none p h s = s
  every_and_fail (also f fs) p h (inl n) = n h.0
  every_and_fail (also f fs) p h (inr s) = every_and_fail fs p h.1 s

  -- not all hold where some fails
  pub not_every : (fs : Logics L) (p : Point) → Sat H (negation (every_of fs)) p ↔ Sat H (some_of (negations fs)) p
  not_every fs p = (
    λ n. stable (SatSome H (negations fs)) (solve_some H S (negations fs)) p (λ m. n (none_fails fs p m)),
    λ s h. every_and_fail fs p h s,
  )

-- ---- over a catalogue
pub formula_forall_is : (c : Catalogue) (s : Sort) (k : Key) (f : Form) (p : Point) → Holds c (forall s k f) p ↔ Holds c (negation (exists s k (negation f))) p
formula_forall_is c s k f p = forall_is (AtomHolds (meaning c)) (form_atom_definable (meaning c) (meaning_definable c)) s k f p

pub formula_exists_is : (c : Catalogue) (s : Sort) (k : Key) (f : Form) (p : Point) → Holds c (exists s k f) p ↔ Holds c (negation (forall s k (negation f))) p
formula_exists_is c s k f p = exists_is (AtomHolds (meaning c)) (form_atom_definable (meaning c) (meaning_definable c)) s k f p

pub formula_implies_is : (c : Catalogue) (f g : Form) (p : Point) → Holds c (implies f g) p ↔ Holds c (some_of (also (negation f) (also g none))) p
formula_implies_is c f g p = implies_is (AtomHolds (meaning c)) (form_atom_definable (meaning c) (meaning_definable c)) f g p

pub goal_forall_is : (c : Catalogue) (s : Sort) (k : Key) (g : GoalForm) (p : Point) → GoalHolds c (forall s k g) p ↔ GoalHolds c (negation (exists s k (negation g))) p
goal_forall_is c s k g p = forall_is (GoalAtomHolds (meaning c)) (goal_atom_definable (meaning c) (meaning_definable c)) s k g p

pub goal_exists_is : (c : Catalogue) (s : Sort) (k : Key) (g : GoalForm) (p : Point) → GoalHolds c (exists s k g) p ↔ GoalHolds c (negation (forall s k (negation g))) p
goal_exists_is c s k g p = exists_is (GoalAtomHolds (meaning c)) (goal_atom_definable (meaning c) (meaning_definable c)) s k g p

pub goal_implies_is : (c : Catalogue) (f g : GoalForm) (p : Point) → GoalHolds c (implies f g) p ↔ GoalHolds c (some_of (also (negation f) (also g none))) p
goal_implies_is c f g p = implies_is (GoalAtomHolds (meaning c)) (goal_atom_definable (meaning c) (meaning_definable c)) f g p
