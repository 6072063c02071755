-- The tuple of comparisons whose texts pass a test, as the empty one does, has such texts.
use Rattle.std.proofs.Common.{◌≡◌, nat_lt, Bool, true, false, ◌||◌, List, [], ◌∷◌, ◌++◌, refl, bytes_eq}
use Rattle.std.specs.Prelude.{if◌then◌else◌}
use Rattle.std.specs.declared.cmp.Ordering.{Ordering}
use Rattle.std.specs.declared.cmp.Ordering.TheVariants as order
use Rattle.ded_model.specs.declared.formula.CompareOp.{CompareOp}
use Rattle.ded_model.specs.declared.formula.CompareOp.TheVariants.{Less, LessEq, Equal, NotEqual, GreaterEq, Greater}
use Rattle.ded_model.specs.declared.formula.Operand.{Operand}
use Rattle.ded_model.specs.declared.formula.Operand.TheVariants.{Single, Sum, Quoted}
use Rattle.ded_model.specs.declared.name.Column.{Column}
use Rattle.ded_model.specs.declared.slot.Slot.{Slot}
use Rattle.ded_model.specs.declared.tuple.BothAtom.TheVariants.{First}
use Rattle.ded_model.specs.declared.tuple.ThemeAtom.TheVariants.{EqSlot, NeSlot}
use Rattle.ded_model.specs.Constraint.{LinearConstraint}
use Rattle.ded_model.specs.Form.{Form, FormAtom, compare, member}
use Rattle.ded_model.specs.Goal.{GoalForm, linear, theme}
use Rattle.ded_model.specs.Logic.{Logics, none, also, atom, always, never, negation, every_of, some_of, implies, minus, exists, forall, AllAtomsOf}
use Rattle.ded_model.specs.Logic as logic
use Rattle.ded_model.specs.Normal.{is_true_row, atom_order, place_atom, ordered_atoms}
use Rattle.ded_model.specs.Point.{same_slot}
use Rattle.ded_model.specs.Row.{Atom}
use Rattle.ded_model.specs.Slotted.{SlotScope, slot_sum, TextSide, at, word, text_side, is_text_operand, sums_goal, same_slots_goal, other_slots_goal, same_text_goal, other_text_goal, texts_goal, compare_goal, goal_below, goal_atoms, comparison_atoms, heading_scope, tuple_of}
use Rattle.ded_model.specs.Sum.{SlotSum}
use Rattle.ded_sorts.specs.Checks.{forms_of}
use Rattle.ded_reread.specs.Words.{Test, HasTexts, TupleHasTexts, AtomHasWords, HasWords}

module _ (N M T : Test) (empty : T []) where
  abbrev Written : List Atom → Type 0
  Written = TupleHasTexts T

  both : (xs ys : List Atom) → Written xs → Written ys → Written (xs ++ ys)
  both [] ys p q = q
  both (x ∷ xs) ys p q = (p.0, both xs ys p.1 q)

  placed : (a : Atom) (xs : List Atom) → HasTexts T a → Written xs → Written (place_atom a xs)
  placed a [] p q = (p, tt)
  placed a (b ∷ bs) p q = go (atom_order a b) refl (placed a bs p q.1)
    where
      go : (o : Ordering) → atom_order a b ≡ o → Written (place_atom a bs) → Written (place_atom a (b ∷ bs))
      go order.Less e later = rw e (p, q)
      go order.Equal e later = rw e q
      go order.Greater e later = rw e (q.0, later)

  ordered : (xs : List Atom) → Written xs → Written (ordered_atoms xs)
  ordered [] p = tt
  ordered (x ∷ xs) p = placed x (ordered_atoms xs) p.0 (ordered xs p.1)

  -- ---- goals of comparisons

  abbrev Says : GoalForm → Type 0
  Says g = Written (goal_atoms g)

  row_says : (r : LinearConstraint) → Says (atom (linear r))
  row_says r = by (is_true_row r)
    where
      by : (b : Bool) → Written (if b then [] else First r ∷ [])
      by true = tt
      by false = (tt, tt)

  sums_say : (l : SlotSum) (op : CompareOp) (r : SlotSum) → Says (sums_goal l op r)
  sums_say l Less r = row_says _
  sums_say l LessEq r = row_says _
  sums_say l Equal r = row_says _
  sums_say l NotEqual r = tt
  sums_say l GreaterEq r = row_says _
  sums_say l Greater r = row_says _

  abbrev SideHas : TextSide → Type 0
  SideHas (at s) = Unit {0}
  SideHas (word t) = T t

  side_has : (scope : SlotScope) (t : Operand) → HasWords N T t → SideHas (text_side scope t)
  side_has scope (Single x) h = tt
  side_has scope (Sum t) h = empty
  side_has scope (Quoted t) h = h

  chosen : (b : Bool) (f g : GoalForm) → Says f → Says g → Says (if b then f else g)
  chosen true f g p q = p
  chosen false f g p q = q

  same_slots : (s t : Slot) → Says (same_slots_goal s t)
  same_slots s t = chosen (same_slot s t) always _ tt (chosen (nat_lt s.number t.number) (atom (theme (EqSlot s t))) (atom (theme (EqSlot t s))) (tt, tt) (tt, tt))

  other_slots : (s t : Slot) → Says (other_slots_goal s t)
  other_slots s t = chosen (same_slot s t) never _ (tt, tt) (chosen (nat_lt s.number t.number) (atom (theme (NeSlot s t))) (atom (theme (NeSlot t s))) (tt, tt) (tt, tt))

  same_texts : (a b : TextSide) → SideHas a → SideHas b → Says (same_text_goal a b)
  same_texts (at s) (at t) p q = same_slots s t
  same_texts (at s) (word t) p q = (q, tt)
  same_texts (word t) (at s) p q = (p, tt)
  same_texts (word t) (word u) p q = chosen (bytes_eq t u) always never tt (tt, tt)

  other_texts : (a b : TextSide) → SideHas a → SideHas b → Says (other_text_goal a b)
  other_texts (at s) (at t) p q = other_slots s t
  other_texts (at s) (word t) p q = (q, tt)
  other_texts (word t) (at s) p q = (p, tt)
  other_texts (word t) (word u) p q = chosen (bytes_eq t u) never always (tt, tt) tt

  texts_say : (a : TextSide) (op : CompareOp) (b : TextSide) → SideHas a → SideHas b → Says (texts_goal a op b)
  texts_say a Less b p q = (tt, tt)
  texts_say a LessEq b p q = (tt, tt)
  texts_say a Equal b p q = same_texts a b p q
  texts_say a NotEqual b p q = other_texts a b p q
  texts_say a GreaterEq b p q = (tt, tt)
  texts_say a Greater b p q = (tt, tt)

  compare_says : (scope : SlotScope) (l : Operand) (op : CompareOp) (r : Operand) → HasWords N T l → HasWords N T r → Says (compare_goal scope l op r)
  compare_says scope l op r p q =
      chosen (is_text_operand scope l || is_text_operand scope r) (texts_goal (text_side scope l) op (text_side scope r)) (sums_goal (slot_sum scope l) op (slot_sum scope r))
      (texts_say (text_side scope l) op (text_side scope r) (side_has scope l p) (side_has scope r q)) (sums_say (slot_sum scope l) op (slot_sum scope r))

  form_says : (scope : SlotScope) (f : Form) → logic.AllAtoms (AtomHasWords N M T) f → Says (goal_below scope 0 f)
  form_says scope (atom (compare l op r)) h = compare_says scope l op r h.0 h.1
  form_says scope (atom (member n ts)) h = tt
  form_says scope always h = tt
  form_says scope never h = (tt, tt)
  form_says scope (negation f) h = tt
  form_says scope (every_of fs) h = tt
  form_says scope (some_of fs) h = tt
  form_says scope (implies f g) h = tt
  form_says scope (minus f g) h = tt
  form_says scope (exists s k f) h = tt
  form_says scope (forall s k f) h = tt

  all_say : (scope : SlotScope) (fs : Logics FormAtom) → AllAtomsOf (AtomHasWords N M T) fs → Written (comparison_atoms scope (forms_of fs))
  all_say scope none h = tt
  all_say scope (also f fs) h = both (goal_atoms (goal_below scope 0 f)) (comparison_atoms scope (forms_of fs)) (form_says scope f h.0) (all_say scope fs h.1)

  pub tuple_says : (h : List Column) (fs : Logics FormAtom) → AllAtomsOf (AtomHasWords N M T) fs → TupleHasTexts T (tuple_of h (forms_of fs))
  unfolding tuple_of
  tuple_says h fs p = ordered (comparison_atoms (heading_scope 0 h) (forms_of fs)) (all_say (heading_scope 0 h) fs p)
