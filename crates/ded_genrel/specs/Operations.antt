-- What operations on lists of conjunctions give.
use Rattle.std.specs.Prelude.{◌≡◌, ◌<◌, ◌↔◌, Bool, true, false, ◌&&◌, ◌||◌, IsTrue, List, ◌++◌}
use Rattle.std.specs.List.{AllByRecursion}
use Rattle.ded_model.specs.declared.slot.Slot.{Slot}
use Rattle.ded_model.specs.Point.{Point, IsPoint, same_slot}
use Rattle.ded_model.specs.Cell.{conj_holds, HoldsSomewhere, HoldsNowhere}
use Rattle.ded_model.specs.Lines.{Line, IsSubset, elim_at}
use Rattle.ded_model.specs.Renaming.{renamed, IsRenamedPoint, mapped_lines}
use Rattle.ded_theory.specs.declared.answers.Verdict.{Verdict}
use Rattle.ded_theory.specs.declared.answers.Verdict.TheVariants.{Empty, Inhabited, Unknown}
use Rattle.ded_theory.specs.Conjunctions.{conj_lines, IsWide}
use Rattle.ded_theory.specs.Eliminations.{SomeExtension}
use Rattle.ded_genrel.specs.Lists.{conjs_hold, conjs_mention, conjs_lines, conjs_elim, SomeConj}

-- the list holds at the points that pass the first test, mentions only slots that pass the second, and its lines are among those
-- given
pub record IsOperation {A : Type 0} (h : A → Point → Bool) (m : A → Slot → Bool) (l : A → List Line) (test : Point → Bool) (used : Slot → Bool) (given : List Line) (out : List (List A)) : Type 0 where
  pub holds : (p : Point) → IsPoint p → conjs_hold h out p ≡ test p
  pub slots : (s : Slot) → conjs_mention m out s ≡ true → used s ≡ true
  pub lines : IsSubset (conjs_lines l out) given

-- it holds where one of two lists does
abbrev pub IsUnion : {A : Type 0} → (A → Point → Bool) → (A → Slot → Bool) → (A → List Line) → List (List A) → List (List A) → List (List A) → Type 0
IsUnion h m l xs ys out =
    IsOperation h m l (λ p. conjs_hold h xs p || conjs_hold h ys p) (λ s. conjs_mention m xs s || conjs_mention m ys s) (conjs_lines l xs ++ conjs_lines l ys) out

-- it holds where two lists do
abbrev pub IsMeet : {A : Type 0} → (A → Point → Bool) → (A → Slot → Bool) → (A → List Line) → List (List A) → List (List A) → List (List A) → Type 0
IsMeet h m l xs ys out =
    IsOperation h m l (λ p. conjs_hold h xs p && conjs_hold h ys p) (λ s. conjs_mention m xs s || conjs_mention m ys s) (conjs_lines l xs ++ conjs_lines l ys) out

-- it holds at a point where the list holds at some extension at the slot, doesn't mention the slot and mentions no new one; the
-- lines of each of its conjunctions are among those that the elimination makes of one conjunction's
pub record IsProjection {A : Type 0} (h : A → Point → Bool) (m : A → Slot → Bool) (l : A → List Line) (conjs : List (List A)) (s : Slot) (out : List (List A)) : Type 0 where
  pub holds : (p : Point) → IsPoint p → IsTrue (conjs_hold h out p) ↔ SomeExtension s (conjs_hold h conjs) p
  pub slots : (t : Slot) → conjs_mention m out t ≡ true → (same_slot t s ≡ false) × (conjs_mention m conjs t ≡ true)
  pub lines : IsSubset (conjs_lines l out) (conjs_elim l s conjs)
  pub each : AllByRecursion (λ c. SomeConj (λ d. IsSubset (conj_lines l c) (elim_at s (conj_lines l d))) conjs) out

-- what holds at points, mentions slots and has lines goes over to what has them at the new slots
pub record IsRenaming (map : List (Slot × Slot)) (h h' : Point → Bool) (m m' : Slot → Bool) (l l' : List Line) : Type 0 where
  pub holds : (p q : Point) → 0 < p.den → IsRenamedPoint map m p q → h' q ≡ h p
  pub slots : (t : Slot) → m' t ≡ true → (s : Slot) × (m s ≡ true) × (renamed map s ≡ t)
  pub lines : l' ≡ mapped_lines map l

-- the list without conjunctions that no point satisfies: each that is kept is wide or holds somewhere
pub record IsInhabitedPart {A : Type 0} (h : A → Point → Bool) (m : A → Slot → Bool) (l : A → List Line) (conjs out : List (List A)) : Type 0 where
  pub is : IsOperation h m l (conjs_hold h conjs) (conjs_mention m conjs) (conjs_lines l conjs) out
  pub kept : AllByRecursion (λ c. (IsWide m l c → ⊥) → HoldsSomewhere (conj_holds h c)) out

-- `Empty` and `Inhabited` are so, and `Unknown` comes only of a wide conjunction
abbrev pub IsVerdictOn : {A : Type 0} → (A → Point → Bool) → (A → Slot → Bool) → (A → List Line) → List (List A) → Verdict → Type 0
IsVerdictOn h m l conjs Empty = HoldsNowhere (conjs_hold h conjs)
IsVerdictOn h m l conjs Inhabited = HoldsSomewhere (conjs_hold h conjs)
IsVerdictOn h m l conjs Unknown = SomeConj (IsWide m l) conjs
