-- What a database stands for.
use Rattle.std.specs.Prelude.{ℕ, Bool, List}
use Rattle.ded_model.specs.Catalogue.{Catalogue}
use Rattle.ded_model.specs.Known.{IsWellFormed}
use Rattle.ded_catalog.specs.State.{Table, catalogue_of}
use Rattle.ded_algebra.specs.declared.given.GivenRelation.{GivenRelation}
use Rattle.ded_database.specs.declared.mark.Mark.{Mark}
use Rattle.ded_database.specs.Held.{is_marked, IsUpheld}

-- what stands under each name, the marks of kept views, the lists that are held of them, and how often a list was extended by one tuple alone
pub record State : Type 0 where
  pub table : Table
  pub marks : List Mark
  pub held : List GivenRelation
  pub added : ℕ

-- the present catalogue
abbrev pub catalogue_at : State → Catalogue
catalogue_at s = catalogue_of s.table

-- the view is kept
abbrev pub is_kept : State → List ℕ → Bool
is_kept s n = is_marked s.marks n

-- the catalogue is well formed, and marks and lists are right over it
pub record IsSound (s : State) : Type 0 where
  pub formed : IsWellFormed (catalogue_at s)
  pub upheld : IsUpheld (catalogue_at s) s.marks s.held
