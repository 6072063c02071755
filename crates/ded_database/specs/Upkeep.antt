-- What becomes of the lists of kept views when a relation changes.
use Rattle.std.specs.Prelude.{◌≡◌, ℕ, true, false, is_some, Bool, Option, Some, List, ◌++◌, take}
use Rattle.std.specs.List.{AllByRecursion}
use Rattle.ded_model.specs.declared.name.Column.{Column}
use Rattle.ded_model.specs.Catalogue.{Catalogue, view}
use Rattle.ded_model.specs.Entries.{entry_of}
use Rattle.ded_model.specs.Form.{Form}
use Rattle.ded_model.specs.Measure.{IsTight}
use Rattle.ded_model.specs.Row.{Atom}
use Rattle.ded_algebra.specs.declared.given.GivenRelation.{GivenRelation}
use Rattle.ded_database.specs.declared.mark.Mark.{Mark}
use Rattle.ded_database.specs.Marks.{IsOnceIn}
use Rattle.ded_views.specs.Reaching.{reaches}
use Rattle.ded_database.specs.Held.{held_under, is_marked, IsHeld, IsUpheld}

-- the formula of the view is tight
abbrev pub IsTightView : Catalogue → List ℕ → Type 0
IsTightView c n = (own : List ℕ) (h : List Column) (f : Form) → entry_of c.entries n ≡ Some (view own h f) → IsTight c h f

-- what is held of views that don't reach the name is held as before
abbrev pub LeavesOthers : Catalogue → List ℕ → List GivenRelation → List GivenRelation → Type 0
LeavesOthers c n old new = (v : List ℕ) → reaches c v n ≡ false → held_under new v ≡ held_under old v

-- after an accepted change of the relation, from the catalogue c to d: of each kept view that reaches it and whose formula is tight a list
-- is held; and what is held of views that don't reach it is held as before
pub record KeepsUp (c d : Catalogue) (n : List ℕ) (marked : List ℕ → Bool) (old new : List GivenRelation) : Type 0 where
  pub tight : (v : List ℕ) → marked v ≡ true → reaches c v n ≡ true → IsTightView d v → is_some (held_under new v) ≡ true
  pub others : LeavesOthers c n old new

-- the list is the other with more behind it
pub record IsLonger (ts us : List (List Atom)) : Type 0 where
  pub more : List (List Atom)
  pub is : us ≡ ts ++ more

-- a list that is held before and after an insert of a view that only adds has what it had, in front
abbrev pub OnlyAdds : Catalogue → List ℕ → List GivenRelation → List GivenRelation → Type 0
OnlyAdds c n old new = (v : List ℕ) (ts us : List (List Atom)) → IsOnceIn c v n → held_under old v ≡ Some ts → held_under new v ≡ Some us → IsLonger ts us

-- the lists that a change concerns are made behind the others, of which there are so many: all are right over the catalogue after the
-- change, and those others over the catalogue before it too
pub record IsReady (c d : Catalogue) (n : List ℕ) (t : Option (List Atom)) (ms : List Mark) (old new : List GivenRelation) (count : ℕ) : Type 0 where
  pub marked : AllByRecursion (λ (r : GivenRelation). is_marked ms r.name ≡ true) new
  pub right : AllByRecursion (IsHeld d) new
  pub kept : KeepsUp c d n (is_marked ms) old new
  pub adds : is_some t ≡ true → OnlyAdds c n old new
  pub others : IsUpheld c ms (take count new)
  pub left : LeavesOthers c n old (take count new)
