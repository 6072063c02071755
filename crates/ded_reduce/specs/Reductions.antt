-- What reducing a conjunction gives.
use Rattle.std.specs.Prelude.{◌≡◌, ◌⊎◌, ℕ, suc, ◌<◌, Bool, true, false, not, ◌&&◌, IsTrue, List, ◌++◌, length, take, drop, get_or}
use Rattle.std.specs.List.{AllByRecursion}
use Rattle.ded_model.specs.declared.slot.Slot.{Slot}
use Rattle.ded_model.specs.Point.{Point, IsPoint}
use Rattle.ded_model.specs.Cell.{conj_holds, HoldsNowhere}
use Rattle.ded_model.specs.Lines.{Line}
use Rattle.ded_model.specs.Sublists.{IsSublist}
use Rattle.ded_theory.specs.Conjunctions.{IsWide}
use Rattle.ded_reduce.specs.declared.reduction.Reduced.{Reduced}
use Rattle.ded_reduce.specs.declared.reduction.Reduced.TheVariants.{Gone, Kept}

-- it is so where nothing was kept
abbrev pub IfGone : {A : Type 0} → Type 0 → Reduced A → Type 0
IfGone P Gone = P
IfGone P (Kept atoms) = Unit {0}

-- it is so of the atoms that were kept
abbrev pub IfKept : {A : Type 0} → (List A → Type 0) → Reduced A → Type 0
IfKept P Gone = Unit {0}
IfKept P (Kept atoms) = P atoms.items

-- whether something satisfies the atoms may be left open: the theory doesn't decide every conjunction, and they are wide
abbrev pub MayBeOpen : {A : Type 0} → Type 0 → (A → Slot → Bool) → (A → List Line) → List A → Type 0
MayBeOpen decides mentions lines atoms = (decides → ⊥) × IsWide mentions lines atoms

-- the others hold at some point at which the atom at the index doesn't
abbrev pub IsNeeded : {A : Type 0} → (A → Point → Bool) → List A → ℕ → Type 0
IsNeeded {A = A} h atoms k =
    (a : A) → a ≡ get_or atoms k a → (p : Point) × IsPoint p × IsTrue (conj_holds h (take k atoms ++ drop (suc k) atoms) p) × (h a p ≡ false)

-- the others imply the atom at the index
abbrev pub IsImplied : {A : Type 0} → (A → Point → Bool) → List A → ℕ → Type 0
IsImplied {A = A} h atoms k =
    (a : A) → a ≡ get_or atoms k a → HoldsNowhere (λ p. conj_holds h (take k atoms ++ drop (suc k) atoms) p && not (h a p))

-- atoms were removed from the old list that the others imply; where there is nothing to try again, and nothing may be left open of
-- the atoms, each of them is needed, and then the list is the old one, or nothing was open before
pub record IsSifted {A : Type 0} (decides : Type 0) (h : A → Point → Bool) (m : A → Slot → Bool) (l : A → List Line) (normal : A → Type 0) (before : Bool) (old new : List A) (again : Bool) : Type 0 where
  pub kept : IsSublist new old
  pub holds : (p : Point) → IsPoint p → conj_holds h new p ≡ conj_holds h old p
  pub all_normal : AllByRecursion normal new
  pub shorter : again ≡ true → length new < length old
  pub settled : again ≡ false → (new ≡ old) ⊎ (before ≡ false)
  pub needed : again ≡ false → (MayBeOpen decides m l new → ⊥) → (k : ℕ) → k < length new → IsNeeded h new k
