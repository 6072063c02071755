-- The nodes of plans.
use Rattle.std.specs.Prelude.{ℕ, suc, ◌+◌, List, [], ◌++◌, codes}
use Rattle.ded_model.specs.Logic.{atom, always, never, negation, every_of, some_of, implies, minus, exists, forall, Logics, none, also}
use Rattle.ded_model.specs.PlanForm.{PlanAtom, PlanForm}
use Rattle.ded_print.specs.Numbers.{number_text}
use Rattle.ded_print.specs.Plans.{plan_atom_text, parts, key_text, sort_text}

-- what is written of a node, without its parts
abbrev pub node_text : PlanForm → List ℕ
node_text (atom a) = plan_atom_text a
node_text always = []
node_text never = []
node_text (negation f) = codes "not"
node_text (every_of fs) = codes "join " ++ number_text (parts fs)
node_text (some_of fs) = codes "union " ++ number_text (parts fs)
node_text (implies f g) = []
node_text (minus f g) = codes "minus"
node_text (exists s k f) = codes "project " ++ (key_text k ++ sort_text s)
node_text (forall s k f) = []

-- how many nodes have a line
abbrev mutual
  pub nodes : PlanForm → ℕ
  nodes (atom a) = 1
  nodes always = 0
  nodes never = 0
  nodes (negation f) = suc (nodes f)
  nodes (every_of fs) = suc (nodes_of fs)
  nodes (some_of fs) = suc (nodes_of fs)
  nodes (implies f g) = 0
  nodes (minus f g) = suc (nodes f + nodes g)
  nodes (exists s k f) = suc (nodes f)
  nodes (forall s k f) = 0

  -- how many nodes of all the plans of a list have a line
  pub nodes_of : Logics PlanAtom → ℕ
  nodes_of none = 0
  nodes_of (also f fs) = nodes f + nodes_of fs
