-- Questions about order rows alone, and what they are answered.
use Rattle.std.specs.Prelude.{List, []}
use Rattle.std.specs.List.{AllByRecursion}
use Rattle.ded_model.specs.Catalogue.{Catalogue, tuples_of}
use Rattle.ded_model.specs.Cell.{IsReduced}
use Rattle.ded_model.specs.Command.{CommandForm, ask, query, box_of}
use Rattle.ded_model.specs.Entries.{tuples_in}
use Rattle.ded_model.specs.Row.{Atom, atom_holds}
use Rattle.ded_width.specs.Orderly.{IsOrderly, AreOrdered, reached_points}
use Rattle.ded_atoms.specs.Orders.{AreOrderAtoms}

-- the formula of the question is orderly, or the relation stores order rows alone
abbrev pub IsOrderlyQuestion : CommandForm → Catalogue → Type 0
IsOrderlyQuestion (ask f) c = IsOrderly c [] f
IsOrderlyQuestion (query h f) c = IsOrderly c h f
IsOrderlyQuestion (box_of n) c = AllByRecursion AreOrderAtoms (tuples_of (tuples_in c n))
IsOrderlyQuestion _ c = ⊥

-- where the formula of the query is orderly, none of the tuples has anything superfluous, and their rows are order rows between
-- the points that the formula reaches
abbrev pub IsOrderlyAnswer : CommandForm → Catalogue → List (List Atom) → Type 0
IsOrderlyAnswer (query h f) c ts = IsOrderly c h f → AllByRecursion (λ t. IsReduced atom_holds t × AreOrdered (reached_points c h f) t) ts
IsOrderlyAnswer _ c ts = ⊥
