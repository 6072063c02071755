-- Rules that give slots other sources, one after another, so that the sources of one class get one source.
use Rattle.std.specs.Prelude.{◌≡◌, ℕ, ◌≤◌, true, false, List, [], ◌∷◌, map, length}
use Rattle.std.specs.List.{AllByRecursion}
use Rattle.ded_model.specs.declared.slot.Slot.{Slot}
use Rattle.ded_model.specs.declared.tuple.ThemeAtom.{ThemeAtom}
use Rattle.ded_model.specs.Point.{AllBytes}
use Rattle.ded_theme.specs.declared.classes.Rule.{Rule}
use Rattle.ded_theme.specs.Sources.{Source, at, quoted, source, text_of, left, right, is_equality}
use Rattle.ded_theme.specs.Replacing.{replaced}

-- a rule gives its slot a source
abbrev pub rules_of : List Rule → List (Slot × Source)
rules_of = map (λ r. (r.slot, source r.word))

-- what the rules make of a source, the first one first
abbrev pub class_of : List (Slot × Source) → Source → Source
class_of [] w = w
class_of (r ∷ rs) w = class_of rs (replaced r.0 r.1 w)

-- the texts of the slots are as the rules say
abbrev pub Solves : (Slot → List ℕ) → List (Slot × Source) → Type 0
Solves f = AllByRecursion (λ r. f r.0 ≡ text_of r.1 f)

-- a quoted text has bytes, and at most n of them
abbrev pub IsShortSource : ℕ → Source → Type 0
IsShortSource n (at s) = Unit {0}
IsShortSource n (quoted t) = AllBytes t × (length t ≤ n)

-- so are the sources of the rules
abbrev pub AreShortSources : ℕ → List (Slot × Source) → Type 0
AreShortSources n = AllByRecursion (λ r. IsShortSource n r.1)

-- the new rules put v and w into one class, and all that was in one class; they ask no more than the old rules and that v
-- and w have one text
pub record AreUnited (old new : List (Slot × Source)) (v w : Source) : Type 0 where
  pub joined : class_of new v ≡ class_of new w
  pub kept : (x y : Source) → class_of old x ≡ class_of old y → class_of new x ≡ class_of new y
  pub solved : (f : Slot → List ℕ) → Solves f old → text_of v f ≡ text_of w f → Solves f new
  pub short : (n : ℕ) → AreShortSources n old → IsShortSource n v → IsShortSource n w → AreShortSources n new

-- the new rules give w to the class for which s stands; they ask no more than the old rules and that s has w's text
pub record IsBound (old new : List (Slot × Source)) (s : Slot) (w : Source) : Type 0 where
  pub added : (x : Source) → class_of new x ≡ replaced s w (class_of old x)
  pub solved : (f : Slot → List ℕ) → Solves f old → f s ≡ text_of w f → Solves f new
  pub short : (n : ℕ) → AreShortSources n old → IsShortSource n w → AreShortSources n new

-- no texts are as the rules say and give v and w one text
abbrev pub AreApart : List (Slot × Source) → Source → Source → Type 0
AreApart rs v w = (f : Slot → List ℕ) → Solves f rs → text_of v f ≡ text_of w f → ⊥

-- ---- the rules of a conjunction

-- the texts of the slots are as the equalities among the atoms say
abbrev pub MeetsEqualities : (Slot → List ℕ) → List ThemeAtom → Type 0
MeetsEqualities f = AllByRecursion (λ a. is_equality a ≡ true → text_of (left a) f ≡ text_of (right a) f)

-- the rules put both sides of each equality into one class, and ask no more than the equalities
pub record AreRulesOf (atoms : List ThemeAtom) (rs : List (Slot × Source)) : Type 0 where
  pub joined : AllByRecursion (λ a. is_equality a ≡ true → class_of rs (left a) ≡ class_of rs (right a)) atoms
  pub solved : (f : Slot → List ℕ) → MeetsEqualities f atoms → Solves f rs
  pub short : (n : ℕ) → AllByRecursion (λ a. IsShortSource n (left a) × IsShortSource n (right a)) atoms → AreShortSources n rs

-- both sides of each disequality are in two classes
abbrev pub AreSplit : List (Slot × Source) → List ThemeAtom → Type 0
AreSplit rs = AllByRecursion (λ a. is_equality a ≡ false → class_of rs (left a) ≡ class_of rs (right a) → ⊥)
