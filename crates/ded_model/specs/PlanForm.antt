-- What a plan stands for: a formula over scans and lists of atoms.
use Rattle.std.specs.Prelude.{ℕ, Bool, IsTrue, List, map}
use Rattle.ded_model.specs.declared.slot.Slot.{Slot}
use Rattle.ded_model.specs.declared.plan.Plan.{Plan, fold-Plan}
use Rattle.ded_model.specs.declared.plan.Plan.TheOpen.{Plan-F}
use Rattle.ded_model.specs.Logic.{Logic, atom, negation, every_of, some_of, minus, exists, Logics, logics, mentions}
use Rattle.ded_model.specs.Point.{Key, slot, Point, stands_in}
use Rattle.ded_model.specs.Row.{Atom, tuple_holds, tuple_mentions, at_slot}
use Rattle.ded_model.specs.Value.{slot_value, Meaning, NameHolds}

-- what a plan is made of: a name whose columns are read into slots, or a list of atoms
pub data PlanAtom : Type 0 where
  scan : List ℕ → List Slot → PlanAtom
  rows : List Atom → PlanAtom

-- a formula over scans and lists of atoms
abbrev pub PlanForm : Type 0
PlanForm = Logic PlanAtom

-- one level, with each plan inside already seen as what it stands for: a Join is `and`, a Union `or`, a Project `exists`
abbrev pub plan_step : Plan-F PlanForm → PlanForm
plan_step (Plan-F.Scan n ss) = atom (scan n ss)
plan_step (Plan-F.Rows t) = atom (rows t)
plan_step (Plan-F.Join ps) = every_of (logics ps.items)
plan_step (Plan-F.Union ps) = some_of (logics ps.items)
plan_step (Plan-F.Minus p q) = minus p.value q.value
plan_step (Plan-F.Not p) = negation p.value
plan_step (Plan-F.Project s p) = exists s.sort (slot s) p.value

-- the formula that a plan stands for
abbrev pub plan_form : Plan → PlanForm
plan_form = fold-Plan PlanForm plan_step

-- the formulas that the plans stand for, in order
abbrev pub plan_forms : List Plan → Logics PlanAtom
plan_forms ps = logics (map plan_form ps)

-- whether a scan or a list of atoms holds at a point, where the names mean I
abbrev pub PlanAtomHolds : Meaning → PlanAtom → Point → Type 0
PlanAtomHolds I (scan n ss) p = NameHolds I n p.den (map (slot_value p) ss)
PlanAtomHolds I (rows t) p = IsTrue (tuple_holds t p)

-- whether a scan or a list of atoms mentions the slot
abbrev pub plan_atom_mentions : PlanAtom → Slot → Bool
plan_atom_mentions (scan n ss) u = stands_in ss u
plan_atom_mentions (rows t) u = tuple_mentions t u

-- whether a scan or a list of atoms mentions the key; it mentions no name
abbrev pub in_plan_atom : PlanAtom → Key → Bool
in_plan_atom a k = at_slot (plan_atom_mentions a) k

-- whether a plan mentions the key freely
abbrev pub plan_mentions : PlanForm → Key → Bool
plan_mentions f k = mentions in_plan_atom f k
