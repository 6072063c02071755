-- How plans are written.
use Rattle.std.specs.Prelude.{ℕ, zero, suc, ◌+◌, List, [], ◌∷◌, ◌++◌, length, codes}
use Rattle.ded_model.specs.declared.slot.Slot.{Slot}
use Rattle.ded_model.specs.declared.slot.Sort.{Sort}
use Rattle.ded_model.specs.declared.slot.Sort.TheVariants.{Rat, Text}
use Rattle.ded_model.specs.Logic.{atom, always, never, negation, every_of, some_of, implies, minus, exists, forall, Logics, none, also}
use Rattle.ded_model.specs.PlanForm.{PlanAtom, scan, rows, PlanForm}
use Rattle.ded_model.specs.Point.{Key, slot, name}
use Rattle.ded_print.specs.Lines.{counted_text}
use Rattle.ded_print.specs.Numbers.{number_text, count_text}
use Rattle.ded_print.specs.Tuples.{slot_names, tuple_text}

-- two blanks for each level of depth
abbrev pub indent : ℕ → List ℕ
indent zero = []
indent (suc depth) = codes "  " ++ indent depth

-- each slot after a comma and a blank
abbrev pub later_slots_text : List Slot → List ℕ
later_slots_text [] = []
later_slots_text (s ∷ ss) = codes ", " ++ (slot_names s ++ later_slots_text ss)

-- the slots between commas
abbrev pub slots_text : List Slot → List ℕ
slots_text [] = []
slots_text (s ∷ ss) = slot_names s ++ later_slots_text ss

-- `scan N(v0, v1)`, or `rows` and a tuple
abbrev pub plan_atom_text : PlanAtom → List ℕ
plan_atom_text (scan n ss) = codes "scan " ++ (n ++ (codes "(" ++ (slots_text ss ++ codes ")")))
plan_atom_text (rows t) = codes "rows " ++ tuple_text slot_names t

-- the name of a key: `v` and the number for a slot, and a name as such
abbrev pub key_text : Key → List ℕ
key_text (slot s) = slot_names s
key_text (name x) = x

-- ` text` where what is projected away is a text
abbrev pub sort_text : Sort → List ℕ
sort_text Rat = []
sort_text Text = codes " text"

-- how many parts a join or a union has
abbrev pub parts : Logics PlanAtom → ℕ
parts none = 0
parts (also f fs) = parts fs + 1

-- one line for each node, its parts after it in order and one level deeper. A plan has no connectives but those that
-- have lines here.
abbrev mutual
  pub node_lines : ℕ → PlanForm → List (List ℕ)
  node_lines depth (atom a) = (indent depth ++ plan_atom_text a) ∷ []
  node_lines depth always = []
  node_lines depth never = []
  node_lines depth (negation f) = (indent depth ++ codes "not") ∷ node_lines (depth + 1) f
  node_lines depth (every_of fs) = (indent depth ++ (codes "join " ++ number_text (parts fs))) ∷ part_lines (depth + 1) fs
  node_lines depth (some_of fs) = (indent depth ++ (codes "union " ++ number_text (parts fs))) ∷ part_lines (depth + 1) fs
  node_lines depth (implies f g) = []
  node_lines depth (minus f g) = (indent depth ++ codes "minus") ∷ (node_lines (depth + 1) f ++ node_lines (depth + 1) g)
  node_lines depth (exists s k f) = (indent depth ++ (codes "project " ++ (key_text k ++ sort_text s))) ∷ node_lines (depth + 1) f
  node_lines depth (forall s k f) = []

  -- the lines of the plans of a list, one plan after another, at this depth
  pub part_lines : ℕ → Logics PlanAtom → List (List ℕ)
  part_lines depth none = []
  part_lines depth (also f fs) = node_lines depth f ++ part_lines depth fs

-- `plan K`, K lines of one node each, `end`; of a K of more than 64 digits the last 64 are written
abbrev pub plan_text : PlanForm → List ℕ
plan_text f = counted_text (codes "plan") (count_text (length (node_lines 0 f))) (node_lines 0 f)
