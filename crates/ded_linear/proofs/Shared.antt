-- Lemmas that several crates cite.
use Rattle.ded_model.specs.declared.slot.Sort.TheVariants.{Rat}
use Rattle.ded_model.specs.Row.{row_holds, row_mentions}
use Rattle.ded_model.specs.Lines.{row_lines}
use Rattle.ded_model.proofs.Rows.{row_holds-same}
use Rattle.ded_theory.proofs.PartLaws.{IsOfSort}
use Rattle.ded_elimination.specs.LinearAtoms.{IsLinearAtom}
use Rattle.ded_linear.specs.Laws.{rational_slots, slots_of_lines}

pub row_laws : IsOfSort row_holds row_mentions row_lines IsLinearAtom Rat
row_laws = record { respects = row_holds-same; sort = rational_slots; line_slots = slots_of_lines }
