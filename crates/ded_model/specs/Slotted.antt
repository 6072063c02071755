-- The goal of a formula: each variable replaced by its slot, each comparison by its normal row or text atom.
use Rattle.std.specs.Prelude.{ℕ, ◌+◌, nat_lt, ℤ, pos, ◌-ℤ◌, ◌*ℤ◌, Bool, true, false, ◌||◌, Option, Some, None, unwrap_or, List, [], ◌∷◌, ◌++◌, length, map, if◌then◌else◌}
use lib.IntN.{neg_ℤ}
use Rattle.std.specs.Str.{bytes_eq}
use Rattle.ded_model.specs.declared.slot.Sort.TheVariants.{Rat, Text}
use Rattle.ded_model.specs.declared.slot.Slot.{Slot}
use Rattle.ded_model.specs.declared.name.Column.{Column}
use Rattle.ded_model.specs.declared.formula.CompareOp.{CompareOp}
use Rattle.ded_model.specs.declared.formula.CompareOp.TheVariants.{Less, LessEq, Equal, NotEqual, GreaterEq, Greater}
use Rattle.ded_model.specs.declared.formula.Operand.{Operand}
use Rattle.ded_model.specs.declared.formula.Operand.TheVariants.{Single, Sum, Quoted}
use Rattle.ded_model.specs.declared.goal.Place.{Place}
use Rattle.ded_model.specs.declared.goal.Place.TheVariants as place
use Rattle.ded_model.specs.declared.row.RowOp.{RowOp}
use Rattle.ded_model.specs.declared.row.RowOp.TheVariants.{Zero, AtMost, Below}
use Rattle.ded_model.specs.declared.tuple.ThemeAtom.TheVariants.{EqText, NeText, EqSlot, NeSlot}
use Rattle.ded_model.specs.declared.tuple.BothAtom.TheVariants.{First, Second}
use Rattle.ded_model.specs.Constraint.{LinearConstraint}
use Rattle.ded_model.specs.Sum.{SlotSum, denominator}
use Rattle.ded_model.specs.Coefs.{put, mixed, nonzero}
use Rattle.ded_model.specs.Point.{Key, slot, name, same_key, same_slot, same_sort}
use Rattle.ded_model.specs.Row.{Atom}
use Rattle.ded_model.specs.Normal.{normal_row, constant_row, is_true_row, ordered_atoms}
use Rattle.ded_model.specs.Logic.{atom, always, never, negation, every_of, some_of, implies, minus, exists, forall, Logics, none, also, quantifiers}
use Rattle.ded_model.specs.Form.{Form, FormAtom, compare, member}
use Rattle.ded_model.specs.Goal.{GoalAtom, linear, theme, GoalForm}
use Rattle.ded_model.specs.Goal as goal

-- ---- what stands for a key

-- what the nearest of the key is, in a list with the nearest first
abbrev pub nearest : {V : Type 0} → List (Key × V) → Key → Option V
nearest [] k = None
nearest (v ∷ scope) k = if same_key v.0 k then Some v.1 else nearest scope k

-- the slots of the columns and quantifiers around a place, the nearest first
abbrev pub SlotScope : Type 0
SlotScope = List (Key × Slot)

-- an unbound variable has the slot 0, which no accepted formula makes use of
abbrev pub slot_of : SlotScope → List ℕ → Slot
slot_of scope x = unwrap_or (nearest scope (name x)) (record { number = 0; sort = Rat })

-- the columns of a heading at the slots from i on
abbrev pub heading_scope : ℕ → List Column → SlotScope
heading_scope i [] = []
heading_scope i (c ∷ cs) = (name c.name, record { number = i; sort = c.sort }) ∷ heading_scope (i + 1) cs

-- ---- sums by slots

-- the parts of a sum by the slots of their names, in ascending order; those of one slot are added up, and may come to 0
abbrev pub add_parts : SlotScope → List (List ℕ × ℤ) → List (Slot × ℤ)
add_parts scope [] = []
add_parts scope (c ∷ cs) = put (slot_of scope c.0) c.1 (add_parts scope cs)

-- an operand as a sum of slots: a variable as its slot alone, a sum by the slots of its names, and a quoted text as 0
abbrev pub slot_sum : SlotScope → Operand → SlotSum
slot_sum scope (Single x) = record { coefs = (slot_of scope x, pos 1) ∷ []; constant = pos 0; over = pos 1 }
slot_sum scope (Sum t) = record { coefs = nonzero (add_parts scope t.parts); constant = t.constant; over = t.over }
slot_sum scope (Quoted t) = record { coefs = []; constant = pos 0; over = pos 1 }

-- the row of `l - r` compared with 0, both over the product of their denominators
abbrev pub difference_row : SlotSum → SlotSum → RowOp → LinearConstraint
difference_row l r op =
    let a = pos (denominator r.over) in
    let b = pos (denominator l.over) in
    record { coefs = nonzero (mixed a l.coefs (neg_ℤ b) r.coefs); constant = a *ℤ l.constant -ℤ b *ℤ r.constant; op = op }

-- the row of a comparison of sums, that of `=` for `!=`
abbrev pub comparison_row : SlotSum → CompareOp → SlotSum → LinearConstraint
comparison_row l Less r = difference_row l r Below
comparison_row l LessEq r = difference_row l r AtMost
comparison_row l Equal r = difference_row l r Zero
comparison_row l NotEqual r = difference_row l r Zero
comparison_row l GreaterEq r = difference_row r l AtMost
comparison_row l Greater r = difference_row r l Below

-- the goal of a comparison of sums: its normal row, negated for `!=`
abbrev pub sums_goal : SlotSum → CompareOp → SlotSum → GoalForm
sums_goal l NotEqual r = negation (atom (linear (normal_row (comparison_row l NotEqual r))))
sums_goal l op r = atom (linear (normal_row (comparison_row l op r)))

-- ---- comparisons of texts

-- a side of a comparison of texts
pub data TextSide : Type 0 where
  at : Slot → TextSide
  word : List ℕ → TextSide

-- an operand as a side of a comparison of texts: the slot of a variable, or a quoted text; the empty text for a sum
abbrev pub text_side : SlotScope → Operand → TextSide
text_side scope (Single x) = at (slot_of scope x)
text_side scope (Sum t) = word []
text_side scope (Quoted t) = word t

-- the goal that always holds for true, and the one that never holds for false
abbrev pub truth_goal : Bool → GoalForm
truth_goal b = if b then always else never

-- two slots are the same text; the one of lesser number stands first
abbrev pub same_slots_goal : Slot → Slot → GoalForm
same_slots_goal s t = if same_slot s t then always else (if nat_lt s.number t.number then atom (theme (EqSlot s t)) else atom (theme (EqSlot t s)))

-- two slots are different texts; the one of lesser number stands first
abbrev pub other_slots_goal : Slot → Slot → GoalForm
other_slots_goal s t = if same_slot s t then never else (if nat_lt s.number t.number then atom (theme (NeSlot s t)) else atom (theme (NeSlot t s)))

-- the two sides are the same text
abbrev pub same_text_goal : TextSide → TextSide → GoalForm
same_text_goal (at s) (at t) = same_slots_goal s t
same_text_goal (at s) (word t) = atom (theme (EqText s t))
same_text_goal (word t) (at s) = atom (theme (EqText s t))
same_text_goal (word t) (word u) = if bytes_eq t u then always else never

-- the two sides are different texts
abbrev pub other_text_goal : TextSide → TextSide → GoalForm
other_text_goal (at s) (at t) = other_slots_goal s t
other_text_goal (at s) (word t) = atom (theme (NeText s t))
other_text_goal (word t) (at s) = atom (theme (NeText s t))
other_text_goal (word t) (word u) = if bytes_eq t u then never else always

-- texts have no order
abbrev pub texts_goal : TextSide → CompareOp → TextSide → GoalForm
texts_goal l Equal r = same_text_goal l r
texts_goal l NotEqual r = other_text_goal l r
texts_goal l op r = never

-- ---- atoms

-- whether an operand is a quoted text, or a variable whose slot is one of texts
abbrev pub is_text_operand : SlotScope → Operand → Bool
is_text_operand scope (Single x) = same_sort (slot_of scope x).sort Text
is_text_operand scope (Sum t) = false
is_text_operand scope (Quoted t) = true

-- the goal of a comparison: one of texts where one of the operands is a text, and else one of sums
abbrev pub compare_goal : SlotScope → Operand → CompareOp → Operand → GoalForm
compare_goal scope l op r =
    if is_text_operand scope l || is_text_operand scope r
    then texts_goal (text_side scope l) op (text_side scope r)
    else sums_goal (slot_sum scope l) op (slot_sum scope r)

-- an operand as an argument by slots: the slot of a variable, a sum of slots, or a quoted text
abbrev pub place_of : SlotScope → Operand → Place
place_of scope (Single x) = place.At (slot_of scope x)
place_of scope (Sum t) = place.Value (slot_sum scope (Sum t))
place_of scope (Quoted t) = place.Quoted t

-- the goal of an atom: that of a comparison, or the relation or view with its arguments by slots
abbrev pub atom_goal : SlotScope → FormAtom → GoalForm
atom_goal scope (compare l op r) = compare_goal scope l op r
atom_goal scope (member n ts) = atom (goal.member n (map (place_of scope) ts))

-- ---- formulas

-- the goal below the slots of its scope; its quantifiers have the slots from n on, in the order in which they stand
abbrev mutual
  pub goal_below : SlotScope → ℕ → Form → GoalForm
  goal_below scope n (atom a) = atom_goal scope a
  goal_below scope n always = always
  goal_below scope n never = never
  goal_below scope n (negation f) = negation (goal_below scope n f)
  goal_below scope n (every_of fs) = every_of (goals_below scope n fs)
  goal_below scope n (some_of fs) = some_of (goals_below scope n fs)
  goal_below scope n (implies f g) = implies (goal_below scope n f) (goal_below scope (n + quantifiers f) g)
  goal_below scope n (minus f g) = minus (goal_below scope n f) (goal_below scope (n + quantifiers f) g)
  goal_below scope n (exists s k f) = exists s (slot (record { number = n; sort = s })) (goal_below ((k, record { number = n; sort = s }) ∷ scope) (n + 1) f)
  goal_below scope n (forall s k f) = forall s (slot (record { number = n; sort = s })) (goal_below ((k, record { number = n; sort = s }) ∷ scope) (n + 1) f)

  -- the goals of the formulas below the slots of their scope; their quantifiers have the slots from n on, in the order
  -- in which they stand
  pub goals_below : SlotScope → ℕ → Logics FormAtom → Logics GoalAtom
  goals_below scope n none = none
  goals_below scope n (also f fs) = also (goal_below scope n f) (goals_below scope (n + quantifiers f) fs)

-- the goal of a formula over a heading, none for a closed one: the columns have the slots from 0 on
unfoldable pub goal_of : List Column → Form → GoalForm
goal_of h f = goal_below (heading_scope 0 h) (length h) f

-- ---- the tuple of comparisons

-- the atoms of a comparison's goal: none where it is true, the row `0 < 0` where it is false
abbrev pub goal_atoms : GoalForm → List Atom
goal_atoms (atom (linear r)) = if is_true_row r then [] else First r ∷ []
goal_atoms (atom (theme a)) = Second a ∷ []
goal_atoms never = First (constant_row false) ∷ []
goal_atoms _ = []

-- the atoms of the goals of the comparisons, one comparison after another
abbrev pub comparison_atoms : SlotScope → List Form → List Atom
comparison_atoms scope [] = []
comparison_atoms scope (f ∷ fs) = goal_atoms (goal_below scope 0 f) ++ comparison_atoms scope fs

-- the normal tuple of comparisons over a heading
unfoldable pub tuple_of : List Column → List Form → List Atom
tuple_of h fs = ordered_atoms (comparison_atoms (heading_scope 0 h) fs)
