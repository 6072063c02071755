-- Disjoint pieces, what they are made of, and how many they are.
use Rattle.std.specs.Prelude.{◌≡◌, ◌⊎◌, ℤ, Bool, true, false, ◌&&◌, List, [], ◌∷◌, ◌++◌}
use Rattle.std.specs.List.{AllByRecursion}
use Rattle.ded_model.specs.declared.slot.Slot.{Slot}
use Rattle.ded_model.specs.Point.{Point, IsPoint}
use Rattle.ded_model.specs.Cell.{cells, conj_holds, HoldsSomewhere}
use Rattle.ded_model.specs.Lines.{Line, IsSubset}
use Rattle.ded_theory.specs.Conjunctions.{conj_mentions, conj_lines, IsWide}
use Rattle.ded_genrel.specs.Lists.{conjs_hold}

-- the atoms of the conjunctions, one after another
abbrev pub all_atoms : {A : Type 0} → List (List A) → List A
all_atoms [] = []
all_atoms (c ∷ conjs) = c ++ all_atoms conjs

-- no point satisfies two of the conjunctions
abbrev pub AreDisjoint : {A : Type 0} → (A → Point → Bool) → List (List A) → Type 0
AreDisjoint holds [] = Unit {0}
AreDisjoint holds (c ∷ conjs) = ((p : Point) → IsPoint p → (conj_holds holds c p && conjs_hold holds conjs p) ≡ false) × AreDisjoint holds conjs

-- the list is one list for each conjunction, one after another, and it is so of each of them
abbrev pub IsListForEach : {A : Type 0} → (List (List A) → Type 0) → List (List A) → List (List A) → Type 0
IsListForEach {A = A} P [] out = out ≡ []
IsListForEach {A = A} P (c ∷ conjs) out = (pieces : List (List A)) × (rest : List (List A)) × (out ≡ pieces ++ rest) × P pieces × IsListForEach P conjs rest

-- ---- what is made of given atoms

-- the atom is one of the list
abbrev pub IsAmong : {A : Type 0} → List A → A → Type 0
IsAmong [] a = ⊥
IsAmong (x ∷ xs) a = (a ≡ x) ⊎ IsAmong xs a

-- each atom of the conjunction is one of the list
abbrev pub AreAmong : {A : Type 0} → List A → List A → Type 0
AreAmong atoms c = AllByRecursion (λ a. IsAmong atoms a) c

-- the conjunction tells apart no points of one cell of the atoms, mentions only slots that they mention, and its lines are among
-- theirs
pub record IsMadeOf {A : Type 0} (m : A → Slot → Bool) (l : A → List Line) (cell : A → Point → ℤ) (atoms c : List A) : Type 0 where
  pub cells : (p q : Point) → cells cell atoms p ≡ cells cell atoms q → cells cell c p ≡ cells cell c q
  pub slots : (s : Slot) → conj_mentions m c s ≡ true → conj_mentions m atoms s ≡ true
  pub lines : IsSubset (conj_lines l c) (conj_lines l atoms)

-- the second conjunction holds where the first one does, and its atoms are among the atoms of that
pub record IsAlike {A : Type 0} (h : A → Point → Bool) (c d : List A) : Type 0 where
  pub holds : (p : Point) → IsPoint p → conj_holds h d p ≡ conj_holds h c p
  pub among : AreAmong c d

-- disjoint conjunctions that are made of the atoms and together hold at the points that pass the test; where the atoms aren't
-- wide, each of them holds somewhere
pub record ArePieces {A : Type 0} (h : A → Point → Bool) (m : A → Slot → Bool) (l : A → List Line) (cell : A → Point → ℤ) (atoms : List A) (test : Point → Bool) (out : List (List A)) : Type 0 where
  pub holds : (p : Point) → IsPoint p → conjs_hold h out p ≡ test p
  pub disjoint : AreDisjoint h out
  pub made : AllByRecursion (IsMadeOf m l cell atoms) out
  pub inhabited : (IsWide m l atoms → ⊥) → AllByRecursion (λ c. HoldsSomewhere (conj_holds h c)) out

-- such pieces were set at the end of the old list, whichever atoms they are made of, where these are as given
pub record IsMore {A : Type 0} (h : A → Point → Bool) (m : A → Slot → Bool) (l : A → List Line) (cell : A → Point → ℤ) (Given : List A → Type 0) (test : Point → Bool) (old new : List (List A)) : Type 0 where
  pub pieces : List (List A)
  pub list : new ≡ old ++ pieces
  pub are : (atoms : List A) → Given atoms → ArePieces h m l cell atoms test pieces
