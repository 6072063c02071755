-- What a session stands for.
use Rattle.std.specs.Prelude.{◌≡◌, ℕ, []}
use Rattle.ded_model.specs.declared.command.Language.{Language}
use Rattle.ded_model.specs.declared.command.Language.TheVariants.{Opening, One}
use Rattle.ded_model.specs.Catalogue.{Catalogue}
use Rattle.ded_relation.specs.declared.hashing.NameHashing.{NameHashing}
use Rattle.ded_database.specs.State.{State, catalogue_at}
use Rattle.ded_session.specs.declared.session.Session.{Session}
use Rattle.ded_session.specs.Runs.{empty_catalogue}

-- the present catalogue, the marks of kept views and the lists that are held of them
unfoldable pub state_in : Session → State
state_in s = s.database

-- the present catalogue
unfoldable pub catalogue_in : Session → Catalogue
catalogue_in s = catalogue_at s.database

-- how names are hashed
unfoldable pub hashing_in : Session → NameHashing
hashing_in s = s.database.table.hashing

-- the language in which the next statement is read
unfoldable pub language_in : Session → Language
language_in s = s.language

-- nothing is defined or kept yet, and no statement was read
pub record IsFreshSession (limit : ℕ) (s : Session) : Type 0 where
  pub catalogue : catalogue_in s ≡ empty_catalogue limit
  pub language : language_in s ≡ Opening
  pub marks : (state_in s).marks ≡ []
  pub held : (state_in s).held ≡ []

-- nothing is kept over the catalogue, and statements are read in the plain language
pub record IsResumed (c : Catalogue) (s : Session) : Type 0 where
  pub catalogue : catalogue_in s ≡ c
  pub language : language_in s ≡ One
  pub marks : (state_in s).marks ≡ []
  pub held : (state_in s).held ≡ []
