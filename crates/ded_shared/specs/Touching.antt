-- Which names a command touches, and which it changes where it is accepted.
use Rattle.std.specs.Prelude.{ℕ, Bool, true, false, ◌||◌, Option, Some, None, List, [], ◌∷◌}
use Rattle.std.specs.Str.{bytes_eq}
use Rattle.std.specs.List.{list_any}
use Rattle.ded_model.specs.declared.command.Refusal.TheVariants.{LongStatement, Unfinished, Syntax, LongName, LongNumber, Deep, Memory}
use Rattle.ded_model.specs.Catalogue.{Entry, Catalogue}
use Rattle.ded_model.specs.Command.{CommandForm, relation, insert, delete, drop, view, keep, show, box_of, disjoint, verify}
use Rattle.ded_model.specs.Entries.{entry_of, entry_uses}
use Rattle.ded_model.specs.Form.{speaks_of}
use Rattle.ded_model.specs.Logic.{some_atom}
use Rattle.ded_sorts.specs.Causes.{formula_in, passes_with}
use Rattle.ded_views.specs.Reaching.{atom_reaches, reaches}
use Rattle.ded_session.specs.Replies.{ReplyForm, done, number, refused}

-- ---- touched names

-- the names that a command has outside of its formula
abbrev pub names_beside : CommandForm → List (List ℕ)
names_beside (relation m h) = m ∷ []
names_beside (insert m fs) = m ∷ []
names_beside (delete m k) = m ∷ []
names_beside (drop m) = m ∷ []
names_beside (view m h f) = m ∷ []
names_beside (keep m) = m ∷ []
names_beside (show m) = m ∷ []
names_beside (box_of m) = m ∷ []
names_beside (disjoint m k) = m ∷ k ∷ []
names_beside (verify m k es) = m ∷ k ∷ []
names_beside _ = []

-- a name touches itself, and all names that it reaches
abbrev pub name_touches : Catalogue → List ℕ → List ℕ → Bool
name_touches c m n = bytes_eq m n || reaches c m n

-- a command touches what its names do, those that closures and interiors in its formula are made of included
abbrev pub touches : Catalogue → CommandForm → List ℕ → Bool
touches c x n = list_any (λ m. name_touches c m n) (names_beside x) || passes_with (formula_in x) (λ f. some_atom (atom_reaches (name_touches c) n) f)

-- the reply depends on names: it is no refusal that bytes alone decide, and isn't for want of memory
abbrev pub depends_on_names : ReplyForm → Bool
depends_on_names (refused LongStatement) = false
depends_on_names (refused Unfinished) = false
depends_on_names (refused Syntax) = false
depends_on_names (refused LongName) = false
depends_on_names (refused LongNumber) = false
depends_on_names (refused Deep) = false
depends_on_names (refused Memory) = false
depends_on_names _ = true

-- ---- changed names

-- the formula of the view speaks of the name, where there is a view
abbrev pub uses_name : Option Entry → List ℕ → Bool
uses_name None n = false
uses_name (Some e) n = entry_uses n e

-- what an accepted command changes: the relation; or the view, and the names that its formula speaks of
abbrev pub changes : Catalogue → CommandForm → ReplyForm → List ℕ → Bool
changes c (relation m h) done n = bytes_eq m n
changes c (insert m fs) (number k) n = bytes_eq m n
changes c (delete m k) done n = bytes_eq m n
changes c (view m h f) done n = bytes_eq m n || speaks_of n f
changes c (drop m) done n = bytes_eq m n || uses_name (entry_of c.entries m) n
changes c _ _ n = false
