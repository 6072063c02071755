-- Lists of conjunctions of rows and text atoms, written as tuples.
use Rattle.std.specs.Prelude.{◌≡◌, true, List}
use Rattle.ded_model.specs.declared.slot.Slot.{Slot}
use Rattle.ded_model.specs.Point.{Point}
use Rattle.ded_model.specs.Row.{Atom, tuples_hold, tuples_mention}
use Rattle.ded_model.specs.Lines.{IsSubset, tuples_lines}

-- the tuples hold where the conjunctions of their atoms do, mention only slots that these mention, and have lines among theirs
pub record IsWrittenAs (cs ts : List (List Atom)) : Type 0 where
  pub holds : (p : Point) → tuples_hold ts p ≡ tuples_hold cs p
  pub slots : (s : Slot) → tuples_mention ts s ≡ true → tuples_mention cs s ≡ true
  pub lines : IsSubset (tuples_lines ts) (tuples_lines cs)
