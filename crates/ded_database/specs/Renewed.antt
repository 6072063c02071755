-- The lists of views that a change concerns, made anew one after another.
use Rattle.std.specs.Prelude.{◌≡◌, ℕ, true, false, is_some, Option, Some, None, List, [], ◌∷◌, ◌++◌}
use Rattle.std.specs.List.{AllByRecursion}
use Rattle.std.specs.Str.{bytes_eq}
use Rattle.ded_model.specs.Catalogue.{Catalogue}
use Rattle.ded_model.specs.Row.{Atom}
use Rattle.ded_algebra.specs.declared.given.GivenRelation.{GivenRelation}
use Rattle.ded_algebra.specs.Given.{has_name}
use Rattle.ded_database.specs.declared.mark.Mark.{Mark}
use Rattle.ded_database.specs.Marks.{IsOnceIn}
use Rattle.ded_query.specs.Gathering.{IsFront}
use Rattle.ded_views.specs.Reaching.{reaches}
use Rattle.ded_database.specs.Held.{IsHeld, held_under, is_marked}
use Rattle.ded_database.specs.Upkeep.{IsTightView, LeavesOthers, IsLonger}

-- with the list that was taken out, where there was one
abbrev pub with_taken : List GivenRelation → Option GivenRelation → List GivenRelation
with_taken rs None = rs
with_taken rs (Some r) = rs ++ r ∷ []

-- what is left where lists of views that reach the relation were taken out
pub record AreLeft (c : Catalogue) (n : List ℕ) (old held : List GivenRelation) : Type 0 where
  pub right : AllByRecursion (IsHeld c) held
  pub others : LeavesOthers c n old held
  pub fewer : (v : List ℕ) → has_name v held ≡ true → has_name v old ≡ true

-- of the marked views that reach the relation the lists are taken out, so that what is left is right also after the change
pub record AreTaken (c : Catalogue) (n : List ℕ) (done : List Mark) (old held stale : List GivenRelation) : Type 0 where
  pub left : AreLeft c n old held
  pub aside : AllByRecursion (IsHeld c) stale
  pub gone : (v : List ℕ) → is_marked done v ≡ true → reaches c v n ≡ true → held_under held v ≡ None
  pub taken : (v : List ℕ) → is_marked done v ≡ true → reaches c v n ≡ true → held_under stale v ≡ held_under old v
  pub rest : (v : List ℕ) → is_marked done v ≡ false → held_under held v ≡ held_under old v
  pub apart : (v : List ℕ) → is_marked done v ≡ false → held_under stale v ≡ None

-- the list of the view v is made, or is too wide, from the catalogue c to d: behind what was held
pub record IsRenewed (c d : Catalogue) (n v : List ℕ) (t : Option (List Atom)) (list : Option (List (List Atom))) (held now : List GivenRelation) : Type 0 where
  pub front : IsFront held now
  pub right : AllByRecursion (IsHeld d) now
  pub others : (w : List ℕ) → bytes_eq w v ≡ false → held_under now w ≡ held_under held w
  pub tight : IsTightView d v → is_some (held_under now v) ≡ true
  pub longer : (ts us : List (List Atom)) → is_some t ≡ true → IsOnceIn c v n → list ≡ Some ts → held_under now v ≡ Some us → IsLonger ts us

-- the lists of those of the marked views that reach the relation are made
pub record AreRenewed (c d : Catalogue) (n : List ℕ) (done : List Mark) (t : Option (List Atom)) (stale left held now : List GivenRelation) : Type 0 where
  pub front : IsFront held now
  pub right : AllByRecursion (IsHeld d) now
  pub aside : AllByRecursion (IsHeld c) left
  pub waiting : (v : List ℕ) → is_marked done v ≡ false → held_under left v ≡ held_under stale v
  pub rest : (v : List ℕ) → is_marked done v ≡ false → held_under now v ≡ held_under held v
  pub others : (v : List ℕ) → reaches c v n ≡ false → held_under now v ≡ held_under held v
  pub tight : (v : List ℕ) → is_marked done v ≡ true → reaches c v n ≡ true → IsTightView d v → is_some (held_under now v) ≡ true
  pub longer : (v : List ℕ) (ts us : List (List Atom)) → is_some t ≡ true → is_marked done v ≡ true → reaches c v n ≡ true → IsOnceIn c v n → held_under stale v ≡ Some ts → held_under now v ≡ Some us → IsLonger ts us
