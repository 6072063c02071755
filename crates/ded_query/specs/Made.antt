-- Closures and interiors of tuples, as names that are made of others give them.
use Rattle.std.specs.Prelude.{◌↔◌, ℕ, IsTrue, List}
use Rattle.std.specs.List.{AllByRecursion}
use Rattle.ded_model.specs.declared.name.Column.{Column}
use Rattle.ded_model.specs.Catalogue.{Catalogue}
use Rattle.ded_model.specs.Entries.{columns_in}
use Rattle.ded_model.specs.Known.{IsTupleOver}
use Rattle.ded_model.specs.Lines.{IsSubset, tuples_lines}
use Rattle.ded_model.specs.Made.{Reading, itself, closure_of, interior_of}
use Rattle.ded_model.specs.Measure.{stored_measures}
use Rattle.ded_model.specs.Near.{IsCloseAt, IsInsideAt}
use Rattle.ded_model.specs.Point.{Point, IsPoint}
use Rattle.ded_model.specs.Row.{Atom, tuples_hold}
use Rattle.ded_model.specs.Width.{IsNarrowList}
use Rattle.ded_complement.specs.Pieces.{all_atoms}
use Rattle.ded_genrel.specs.Lists.{SomeConj}
use Rattle.ded_topology.specs.Names.{StandsForName}

-- the tuples stand for the relation or view, with lines among its own
pub record IsStanding (c : Catalogue) (n : List ℕ) (ts : List (List Atom)) : Type 0 where
  pub stands : StandsForName c n (columns_in c n) ts
  pub lines : IsSubset (tuples_lines ts) (stored_measures c n).lines

-- the tuples hold at the points that are close to others, or inside of them, as a made name is read; a plain name makes none
abbrev pub HoldsNear : Reading → List (List Atom) → List (List Atom) → Type 0
HoldsNear itself ts us = ⊥
HoldsNear (closure_of n) ts us = (p : Point) → IsPoint p → IsCloseAt (tuples_hold ts) p ↔ IsTrue (tuples_hold us p)
HoldsNear (interior_of n) ts us = (p : Point) → IsPoint p → IsInsideAt (tuples_hold ts) p ↔ IsTrue (tuples_hold us p)

-- the second tuples are the closure or the interior of the first, over the same headings, with lines among theirs
pub record IsMadeBy (r : Reading) (ts us : List (List Atom)) : Type 0 where
  pub holds : HoldsNear r ts us
  pub over : (h : List Column) → AllByRecursion (IsTupleOver h) ts → AllByRecursion (IsTupleOver h) us
  pub lines : IsSubset (tuples_lines us) (tuples_lines ts)

-- what isn't narrow where a closure or an interior is too wide: one of the tuples, or all their atoms together
abbrev pub IsTooWide : Reading → List (List Atom) → Type 0
IsTooWide itself ts = ⊥
IsTooWide (closure_of n) ts = SomeConj (λ t. IsNarrowList t → ⊥) ts
IsTooWide (interior_of n) ts = IsNarrowList (all_atoms ts) → ⊥
