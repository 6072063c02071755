-- A relation whose tuples are dealt out to parts: catalogues that are alike but for these tuples.
use Rattle.std.specs.Prelude.{◌≡◌, ◌↔◌, ℕ, true, false, None, List}
use Rattle.std.specs.List.{Contains}
use Rattle.std.specs.Str.{bytes_eq}
use Rattle.ded_model.proofs.Lists.{Every, Some}
use Rattle.ded_model.specs.declared.name.Column.{Column}
use Rattle.ded_model.specs.Catalogue.{relation, Catalogue, tuples_of}
use Rattle.ded_model.specs.Entries.{entry_of, view_in, tuples_in}
use Rattle.ded_model.specs.Known.{IsWellFormed}
use Rattle.ded_model.specs.Made.{base}
use Rattle.ded_model.specs.PlanForm.{PlanForm}
use Rattle.ded_model.specs.Row.{Atom}
use Rattle.ded_model.specs.Uses.{plan_uses}
use Rattle.ded_sorts.specs.Changes.{ChangesEntry}
use Rattle.ded_views.specs.Reaching.{reaches}

-- the catalogue c is well formed and is as d, but for the tuples of the relation n and how many inserts it has accepted
pub record IsPart (d : Catalogue) (n : List ℕ) (c : Catalogue) : Type 0 where
  pub formed : IsWellFormed c
  pub columns : List Column
  pub inserts : ℕ
  pub tuples : List (ℕ × List Atom)
  pub own_inserts : ℕ
  pub own_tuples : List (ℕ × List Atom)
  pub changes : ChangesEntry d c n (relation n columns inserts tuples) (relation n columns own_inserts own_tuples)

-- one of the parts has the property
abbrev pub OfSomePart : (Catalogue → Type 0) → List Catalogue → Type 0
OfSomePart P cs = Some P cs

-- each of the parts has the property
abbrev pub OfEachPart : (Catalogue → Type 0) → List Catalogue → Type 0
OfEachPart P cs = Every P cs

-- all of the catalogues are such parts, and the relation has a tuple in d exactly where it has it in one of them
pub record AreParts (d : Catalogue) (n : List ℕ) (cs : List Catalogue) : Type 0 where
  pub each : OfEachPart (IsPart d n) cs
  pub dealt : (t : List Atom) → Contains (tuples_of (tuples_in d n)) t ↔ OfSomePart (λ c. Contains (tuples_of (tuples_in c n)) t) cs

-- no name that the plan scans reaches the relation n
abbrev pub IsApartFrom : Catalogue → List ℕ → PlanForm → Type 0
IsApartFrom d n f = (m : List ℕ) → plan_uses m f ≡ true → reaches d (base m) n ≡ false

-- no name that the plan scans reaches the relation n, but for n itself and for its closure and interior
abbrev pub ReachesByName : Catalogue → List ℕ → PlanForm → Type 0
ReachesByName d n f = (m : List ℕ) → plan_uses m f ≡ true → bytes_eq n (base m) ≡ false → reaches d (base m) n ≡ false

-- the plan scans no view, and no closure or interior of one
abbrev pub ScansNoView : Catalogue → PlanForm → Type 0
ScansNoView d f = (m : List ℕ) → plan_uses m f ≡ true → view_in (entry_of d.entries (base m)) ≡ None
