-- Lists of conjunctions of atoms of any kind: where one holds, what it mentions, and its lines.
use Rattle.std.specs.Prelude.{◌⊎◌, Bool, List, [], ◌∷◌, ◌++◌, map, Vec}
use Rattle.std.specs.Global.{Global}
use Rattle.std.specs.List.{list_any, AllByRecursion}
use Rattle.ded_model.specs.declared.slot.Slot.{Slot}
use Rattle.ded_model.specs.Point.{Point}
use Rattle.ded_model.specs.Cell.{conj_holds}
use Rattle.ded_model.specs.Lines.{Line, elim_at, clash_at}
use Rattle.ded_theory.specs.Conjunctions.{conj_mentions, conj_lines}

-- the lists of the atoms of the conjunctions
abbrev pub conjs_of : {A : Type 0} → List (Vec A Global) → List (List A)
conjs_of conjs = map (λ c. c.items) conjs

-- each atom is in normal form
abbrev pub AreNormal : {A : Type 0} → (A → Type 0) → List (List A) → Type 0
AreNormal normal conjs = AllByRecursion (λ c. AllByRecursion normal c) conjs

-- some conjunction holds
abbrev pub conjs_hold : {A : Type 0} → (A → Point → Bool) → List (List A) → Point → Bool
conjs_hold holds conjs p = list_any (λ c. conj_holds holds c p) conjs

-- some conjunction mentions the slot
abbrev pub conjs_mention : {A : Type 0} → (A → Slot → Bool) → List (List A) → Slot → Bool
conjs_mention mentions conjs s = list_any (λ c. conj_mentions mentions c s) conjs

-- the lines of the conjunctions, one after another
abbrev pub conjs_lines : {A : Type 0} → (A → List Line) → List (List A) → List Line
conjs_lines lines [] = []
conjs_lines lines (c ∷ conjs) = conj_lines lines c ++ conjs_lines lines conjs

-- what an elimination of the slot from each conjunction makes of its lines, one after another
abbrev pub conjs_elim : {A : Type 0} → (A → List Line) → Slot → List (List A) → List Line
conjs_elim lines s [] = []
conjs_elim lines s (c ∷ conjs) = elim_at s (conj_lines lines c) ++ conjs_elim lines s conjs

-- two lines of one conjunction clash at the slot
abbrev pub conjs_clash : {A : Type 0} → (A → List Line) → Slot → List (List A) → Bool
conjs_clash lines s conjs = list_any (λ c. clash_at s (conj_lines lines c)) conjs

-- it is so of some conjunction
abbrev pub SomeConj : {A : Type 0} → (List A → Type 0) → List (List A) → Type 0
SomeConj P [] = ⊥
SomeConj P (c ∷ conjs) = P c ⊎ SomeConj P conjs

-- the atoms of a conjunction together with those of each one of a list
abbrev pub pairs_with : {A : Type 0} → List A → List (List A) → List (List A)
pairs_with c [] = []
pairs_with c (d ∷ conjs) = (c ++ d) ∷ pairs_with c conjs

-- each conjunction of the first list with each of the second
abbrev pub pairs : {A : Type 0} → List (List A) → List (List A) → List (List A)
pairs [] others = []
pairs (c ∷ conjs) others = pairs_with c others ++ pairs conjs others
