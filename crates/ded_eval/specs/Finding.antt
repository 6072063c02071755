-- Lists that hold only where a plan does, and what is found of a plan before it is evaluated.
use Rattle.std.specs.Prelude.{◌≡◌, ◌&&◌, Bool, true, List, ◌*ℤ◌, pos}
use Rattle.ded_model.specs.declared.slot.Slot.{Slot}
use Rattle.ded_model.specs.declared.slot.Sort.TheVariants.{Rat, Text}
use Rattle.ded_model.specs.Catalogue.{Catalogue, GivenHolds}
use Rattle.ded_model.specs.Cell.{conj_holds, HoldsSomewhere}
use Rattle.ded_model.specs.PlanForm.{PlanForm}
use Rattle.ded_model.specs.Point.{slot, Point, IsPoint, number_at, text_at, stands_in}
use Rattle.ded_theory.specs.declared.answers.Verdict.{Verdict}
use Rattle.ded_theory.specs.declared.answers.Verdict.TheVariants.{Empty, Inhabited, Unknown}
use Rattle.ded_genrel.specs.Lists.{conjs_hold}

-- inside, the list holds only where the plan does over the given relations
abbrev pub IsFoundIn : {A : Type 0} → (A → Point → Bool) → Catalogue → (Point → Bool) → PlanForm → List (List A) → Type 0
IsFoundIn h c inside f xs = (p : Point) → IsPoint p → inside p ≡ true → conjs_hold h xs p ≡ true → GivenHolds c f p

-- inside, the list holds wherever the plan does over the given relations
abbrev pub IsWholeIn : {A : Type 0} → (A → Point → Bool) → Catalogue → (Point → Bool) → PlanForm → List (List A) → Type 0
IsWholeIn h c inside f xs = (p : Point) → IsPoint p → inside p ≡ true → GivenHolds c f p → conjs_hold h xs p ≡ true

-- and only where the first list does
abbrev pub IsFoundWith : {A : Type 0} → (A → Point → Bool) → Catalogue → (Point → Bool) → PlanForm → List (List A) → List (List A) → Type 0
IsFoundWith h c inside f xs out = (p : Point) → IsPoint p → inside p ≡ true → conjs_hold h out p ≡ true → (conjs_hold h xs p ≡ true) × GivenHolds c f p

-- ---- points with the same values at some slots

-- the first point has the values of the second one at the slots of the list
pub record HasValues (ss : List Slot) (p q : Point) : Type 0 where
  pub numbers : (s : Slot) → s.sort ≡ Rat → stands_in ss s ≡ true → number_at p (slot s) *ℤ pos q.den ≡ number_at q (slot s) *ℤ pos p.den
  pub texts : (s : Slot) → s.sort ≡ Text → stands_in ss s ≡ true → text_at p (slot s) ≡ text_at q (slot s)

-- atoms hold alike at two points of which one has the values of the other there
abbrev pub AreAlike : {A : Type 0} → (A → Point → Bool) → List Slot → List A → Type 0
AreAlike h ss atoms = (p q : Point) → IsPoint p → IsPoint q → HasValues ss p q → conj_holds h atoms p ≡ conj_holds h atoms q

-- the list holds wherever a point has the values there of some point, at which the atoms hold
abbrev pub HoldsWithValues : {A : Type 0} → (A → Point → Bool) → List A → List Slot → List (List A) → Type 0
HoldsWithValues h atoms ss xs = (q : Point) × IsPoint q × (conj_holds h atoms q ≡ true) × ((p : Point) → IsPoint p → HasValues ss p q → conjs_hold h xs p ≡ true)

-- so does the plan over the given relations
abbrev pub IsAttained : {A : Type 0} → (A → Point → Bool) → List A → Catalogue → List Slot → PlanForm → Type 0
IsAttained h atoms c ss f = (q : Point) × IsPoint q × (conj_holds h atoms q ≡ true) × ((p : Point) → IsPoint p → HasValues ss p q → GivenHolds c f p)

-- ---- what is found

-- no conjunction of the list holds at a point at which the atoms do
abbrev pub AreRefuted : {A : Type 0} → (A → Point → Bool) → List A → List (List A) → Type 0
AreRefuted h atoms xs = (p : Point) → IsPoint p → conj_holds h atoms p ≡ true → conjs_hold h xs p ≡ true → ⊥

-- nor does the plan over the given relations
abbrev pub IsRefuted : {A : Type 0} → (A → Point → Bool) → List A → Catalogue → PlanForm → Type 0
IsRefuted h atoms c f = (p : Point) → IsPoint p → conj_holds h atoms p ≡ true → GivenHolds c f p → ⊥

-- of two conjunctions: `Empty` where they hold nowhere together, `Inhabited` where they do somewhere
abbrev pub IsMetVerdict : {A : Type 0} → (A → Point → Bool) → List A → List A → Verdict → Type 0
IsMetVerdict h xs ys Empty = (p : Point) → IsPoint p → conj_holds h xs p ≡ true → conj_holds h ys p ≡ true → ⊥
IsMetVerdict h xs ys Inhabited = HoldsSomewhere (λ p. conj_holds h xs p && conj_holds h ys p)
IsMetVerdict h xs ys Unknown = Unit {0}

-- of a conjunction together with the atoms: where they do somewhere, it also holds alike at points with the same values
abbrev pub IsConjVerdict : {A : Type 0} → (A → Point → Bool) → List A → List Slot → List A → Verdict → Type 0
IsConjVerdict h atoms ss xs Empty = IsMetVerdict h atoms xs Empty
IsConjVerdict h atoms ss xs Inhabited = AreAlike h ss xs × IsMetVerdict h atoms xs Inhabited
IsConjVerdict h atoms ss xs Unknown = Unit {0}

-- of a list
abbrev pub IsListVerdict : {A : Type 0} → (A → Point → Bool) → List A → List Slot → List (List A) → Verdict → Type 0
IsListVerdict h atoms ss xs Empty = AreRefuted h atoms xs
IsListVerdict h atoms ss xs Inhabited = HoldsWithValues h atoms ss xs
IsListVerdict h atoms ss xs Unknown = Unit {0}

-- of a plan over the given relations
abbrev pub IsPlanVerdict : {A : Type 0} → (A → Point → Bool) → List A → Catalogue → List Slot → PlanForm → Verdict → Type 0
IsPlanVerdict h atoms c ss f Empty = IsRefuted h atoms c f
IsPlanVerdict h atoms c ss f Inhabited = IsAttained h atoms c ss f
IsPlanVerdict h atoms c ss f Unknown = Unit {0}

-- of a closed plan: it holds nowhere, or everywhere
abbrev pub IsClosedVerdict : Catalogue → PlanForm → Verdict → Type 0
IsClosedVerdict c f Empty = (p : Point) → IsPoint p → GivenHolds c f p → ⊥
IsClosedVerdict c f Inhabited = (p : Point) → IsPoint p → GivenHolds c f p
IsClosedVerdict c f Unknown = Unit {0}
