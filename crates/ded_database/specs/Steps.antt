-- What becomes of marks and lists.
use Rattle.std.specs.Prelude.{◌≡◌, ℕ, not, ◌&&◌, List}
use Rattle.std.specs.Str.{bytes_eq}
use Rattle.ded_algebra.specs.Given.{without_name}
use Rattle.ded_database.specs.Keeping.{IsMarkedWith, IsListedWith}
use Rattle.ded_database.specs.State.{State, catalogue_at, is_kept}

-- the marks are the same
abbrev pub KeepsMarks : State → State → Type 0
KeepsMarks s t = (n : List ℕ) → is_kept t n ≡ is_kept s n

-- the marks and the lists are the same
pub record KeepsLists (s t : State) : Type 0 where
  pub marks : KeepsMarks s t
  pub held : t.held ≡ s.held

-- the view is marked, and its list is held where its formula is tight
pub record Marks (s t : State) (n : List ℕ) : Type 0 where
  pub marks : IsMarkedWith n s.marks t.marks
  pub listed : IsListedWith (catalogue_at s) n s.held t.held

-- the mark and the list of the name are gone, the others are as they were
pub record Unmarks (s t : State) (n : List ℕ) : Type 0 where
  pub marks : (m : List ℕ) → is_kept t m ≡ (not (bytes_eq m n) && is_kept s m)
  pub held : t.held ≡ without_name n s.held
