-- The slots of the tuple of comparisons are those of the names in scope.
use Rattle.std.proofs.Common.{Ok, Err, ◌≡◌, ℕ, ◌+◌, nat_lt, Bool, true, false, cond, ◌||◌, is_none, Some, unwrap_or, List, [], ◌∷◌, ◌++◌, ◌⊎◌, inl, inr, refl, sym, ap, ◌∙◌, true≢false, bytes_eq}
use Rattle.std.specs.Prelude.{ℤ, pos, Result}
use lib.IntN.{neg_ℤ}
use Rattle.std.specs.List.{list_any}
use Rattle.std.specs.Result.{IfOk}
use Rattle.ded_num.proofs.Tests.{either_swapped}
use Rattle.ded_model.specs.declared.slot.Slot.{Slot}
use Rattle.ded_model.specs.declared.slot.Sort.TheVariants.{Rat}
use Rattle.ded_model.specs.declared.name.Column.{Column}
use Rattle.ded_model.specs.declared.formula.CompareOp.{CompareOp}
use Rattle.ded_model.specs.declared.formula.CompareOp.TheVariants as op
use Rattle.ded_model.specs.declared.formula.Operand.{Operand}
use Rattle.ded_model.specs.declared.formula.Operand.TheVariants.{Single, Sum, Quoted}
use Rattle.ded_model.specs.declared.row.RowOp.{RowOp}
use Rattle.ded_model.specs.declared.row.RowOp.TheVariants.{Zero, AtMost, Below}
use Rattle.ded_model.specs.declared.tuple.ThemeAtom.TheVariants.{EqSlot, NeSlot}
use Rattle.ded_model.specs.declared.tuple.BothAtom.TheVariants.{First}
use Rattle.ded_model.specs.Constraint.{LinearConstraint}
use Rattle.ded_model.specs.Sum.{SlotSum, denominator}
use Rattle.ded_model.specs.Coefs.{put_all, mixed}
use Rattle.ded_model.specs.Point.{name, same_key, same_slot, stands_in}
use Rattle.ded_model.specs.Row.{Atom, row_mentions, theme_mentions, atom_mentions, tuple_mentions}
use Rattle.ded_model.specs.Normal.{normal_row, is_true_row, ordered_atoms, IsNormalTuple}
use Rattle.ded_model.specs.Logic.{atom, always, never, negation, every_of, some_of, implies, minus, exists, forall, Scope, logics, some_below, some_below_of}
use Rattle.ded_model.specs.Form.{Form, compare, member}
use Rattle.ded_model.specs.Goal.{GoalForm, linear, theme}
use Rattle.ded_model.specs.Known.{is_unbound_name, is_unbound_operand, is_unbound_atom, heading_slots, has_unbound, scope_of, IsTupleOver}
use Rattle.ded_model.specs.Slotted.{SlotScope, nearest, slot_of, heading_scope, add_parts, slot_sum, difference_row, comparison_row, sums_goal, TextSide, at, word, text_side, same_text_goal, other_text_goal, texts_goal, is_text_operand, goal_atoms, goal_below, comparison_atoms}
use Rattle.ded_model.proofs.Points.{same_slot_is, same_slot_refl}
use Rattle.ded_model.proofs.Rows.{or_left, or_right}
use Rattle.ded_model.proofs.Members.{or_split}
use Rattle.ded_model.proofs.LineSlots.{has_slot, put_slots, put_all_slots, nonzero_slots}
use Rattle.ded_row.proofs.Forms.{row_mentions-normal}
use Rattle.ded_tuple.proofs.Ordered.{mentions-ordered}
use Rattle.ded_resolve.specs.Scope.{sorts_of}
use Rattle.ded_resolve.proofs.Reading.{sorts_heading}
use Rattle.ded_model.proofs.Bools.{or_false_left, or_false_right}

-- the slots of a scope
abbrev pub stands : SlotScope → Slot → Bool
stands scope s = list_any (λ v. same_slot v.1 s) scope

-- a bound name has one of them
slot_in : (scope : SlotScope) (x : List ℕ) → is_unbound_name (sorts_of scope) x ≡ false → stands scope (slot_of scope x) ≡ true
slot_in [] x h = absurd (true≢false h)
slot_in (v ∷ scope) x h = go (same_key v.0 (name x)) h (slot_in scope x)
  where
    go : (b : Bool) → is_none (cond b (Some v.1.sort) (nearest (sorts_of scope) (name x))) ≡ false → (is_unbound_name (sorts_of scope) x ≡ false → stands scope (slot_of scope x) ≡ true)
        → stands (v ∷ scope) (unwrap_or (cond b (Some v.1) (nearest scope (name x))) (record { number = 0; sort = Rat })) ≡ true
    go true e ih = or_left _ _ (same_slot_refl v.1)
    go false e ih = or_right (same_slot v.1 (slot_of scope x)) _ (ih e)

-- a slot that is the same
same_in : (scope : SlotScope) (s t : Slot) → same_slot s t ≡ true → stands scope s ≡ true → stands scope t ≡ true
same_in scope s t e h = ap (stands scope) (sym (same_slot_is s t e)) ∙ h

-- ---- sums

parts_in : (scope : SlotScope) (cs : List (List ℕ × ℤ)) (s : Slot) → list_any (λ c. is_unbound_name (sorts_of scope) c.0) cs ≡ false → has_slot (add_parts scope cs) s ≡ true → stands scope s ≡ true
parts_in scope [] s b h = absurd (true≢false (sym h))
parts_in scope (c ∷ cs) s b h = elim (put_slots (slot_of scope c.0) c.1 (add_parts scope cs) s h) [
  | inl e ↦ same_in scope (slot_of scope c.0) s e (slot_in scope c.0 (or_false_left _ _ b))
  | inr e ↦ parts_in scope cs s (or_false_right (is_unbound_name (sorts_of scope) c.0) _ b) e
]

sum_in : (scope : SlotScope) (t : Operand) (s : Slot) → is_unbound_operand (sorts_of scope) t ≡ false → has_slot (slot_sum scope t).coefs s ≡ true → stands scope s ≡ true
sum_in scope (Single x) s b h = elim (or_split (same_slot (slot_of scope x) s) false h) [ inl e ↦ same_in scope (slot_of scope x) s e (slot_in scope x b) | inr e ↦ absurd (true≢false (sym e)) ]
sum_in scope (Sum t) s b h = parts_in scope t.parts s b (nonzero_slots (add_parts scope t.parts) s h)
sum_in scope (Quoted t) s b h = absurd (true≢false (sym h))

difference_in : (l r : SlotSum) (o : RowOp) (s : Slot) → has_slot (difference_row l r o).coefs s ≡ true → (has_slot l.coefs s ≡ true) ⊎ (has_slot r.coefs s ≡ true)
difference_in l r o s h =
    let a = pos (denominator r.over) in
    let b = pos (denominator l.over) in
    elim (put_all_slots a l.coefs (put_all (neg_ℤ b) r.coefs []) s (nonzero_slots (mixed a l.coefs (neg_ℤ b) r.coefs) s h)) [
      | inl e ↦ inl e
      | inr e ↦ elim (put_all_slots (neg_ℤ b) r.coefs [] s e) [ inl f ↦ inr f | inr f ↦ absurd (true≢false (sym f)) ]
    ]

comparison_in : (l r : SlotSum) (o : CompareOp) (s : Slot) → has_slot (comparison_row l o r).coefs s ≡ true → (has_slot l.coefs s ≡ true) ⊎ (has_slot r.coefs s ≡ true)
comparison_in l r op.Less s h = difference_in l r Below s h
comparison_in l r op.LessEq s h = difference_in l r AtMost s h
comparison_in l r op.Equal s h = difference_in l r Zero s h
comparison_in l r op.NotEqual s h = difference_in l r Zero s h
comparison_in l r op.GreaterEq s h = either_swapped (difference_in r l AtMost s h)
comparison_in l r op.Greater s h = either_swapped (difference_in r l Below s h)

-- ---- goals

-- the atoms of a goal mention slots of the scope alone
abbrev IsIn : SlotScope → GoalForm → Type 0
IsIn scope g = (s : Slot) → tuple_mentions (goal_atoms g) s ≡ true → stands scope s ≡ true

-- no atoms mention no slot
no_atoms : (s : Slot) → tuple_mentions [] s ≡ true → ⊥
unfolding tuple_mentions
no_atoms s h = true≢false (sym h)

-- one atom mentions its own
one_atom : (a : Atom) (s : Slot) → tuple_mentions (a ∷ []) s ≡ true → atom_mentions a s ≡ true
unfolding tuple_mentions
one_atom a s h = elim (or_split (atom_mentions a s) false h) [ inl e ↦ e | inr e ↦ absurd (true≢false (sym e)) ]

either_in : (scope : SlotScope) (b : Bool) (g g' : GoalForm) → IsIn scope g → IsIn scope g' → IsIn scope (cond b g g')
either_in scope true g g' h k = h
either_in scope false g g' h k = k

none_in : (scope : SlotScope) (g : GoalForm) → goal_atoms g ≡ [] → IsIn scope g
none_in scope g e s h = absurd (no_atoms s (ap (λ l. tuple_mentions l s) (sym e) ∙ h))

never_in : (scope : SlotScope) → IsIn scope never
unfolding tuple_mentions atom_mentions row_mentions
never_in scope s h = absurd (true≢false (sym h))

-- rows
row_in : (scope : SlotScope) (r : LinearConstraint) → ((s : Slot) → has_slot r.coefs s ≡ true → stands scope s ≡ true) → IsIn scope (atom (linear (normal_row r)))
unfolding atom_mentions row_mentions
row_in scope r h s k = go (is_true_row (normal_row r)) k
  where
    go : (b : Bool) → tuple_mentions (cond b [] (First (normal_row r) ∷ [])) s ≡ true → stands scope s ≡ true
    go true e = absurd (no_atoms s e)
    go false e = h s (sym (row_mentions-normal r s) ∙ one_atom (First (normal_row r)) s e)

sums_in : (scope : SlotScope) (l r : SlotSum) (o : CompareOp) → ((s : Slot) → has_slot l.coefs s ≡ true → stands scope s ≡ true) → ((s : Slot) → has_slot r.coefs s ≡ true → stands scope s ≡ true) → IsIn scope (sums_goal l o r)
sums_in scope l r o h k = go o
  where
    each : (o : CompareOp) (s : Slot) → has_slot (comparison_row l o r).coefs s ≡ true → stands scope s ≡ true
    each o s e = elim (comparison_in l r o s e) [ inl f ↦ h s f | inr f ↦ k s f ]

    go : (o : CompareOp) → IsIn scope (sums_goal l o r)
    go op.Less = row_in scope (comparison_row l op.Less r) (each op.Less)
    go op.LessEq = row_in scope (comparison_row l op.LessEq r) (each op.LessEq)
    go op.Equal = row_in scope (comparison_row l op.Equal r) (each op.Equal)
    go op.NotEqual = λ s e. absurd (no_atoms s e)
    go op.GreaterEq = row_in scope (comparison_row l op.GreaterEq r) (each op.GreaterEq)
    go op.Greater = row_in scope (comparison_row l op.Greater r) (each op.Greater)

-- texts
abbrev IsSideIn : SlotScope → TextSide → Type 0
IsSideIn scope (at s) = stands scope s ≡ true
IsSideIn scope (word t) = Unit {0}

one_slot : (scope : SlotScope) (s u : Slot) → stands scope s ≡ true → same_slot s u ≡ true → stands scope u ≡ true
one_slot scope s u h e = same_in scope s u e h

two_slots : (scope : SlotScope) (s t u : Slot) → stands scope s ≡ true → stands scope t ≡ true → (same_slot s u || same_slot t u) ≡ true → stands scope u ≡ true
two_slots scope s t u h k e = elim (or_split (same_slot s u) _ e) [ inl f ↦ same_in scope s u f h | inr f ↦ same_in scope t u f k ]

same_in_text : (scope : SlotScope) (l r : TextSide) → IsSideIn scope l → IsSideIn scope r → IsIn scope (same_text_goal l r)
unfolding atom_mentions theme_mentions
same_in_text scope (at s) (at t) h k =
    either_in scope (same_slot s t) always (cond (nat_lt s.number t.number) (atom (theme (EqSlot s t))) (atom (theme (EqSlot t s)))) (none_in scope always refl)
    (either_in scope (nat_lt s.number t.number) (atom (theme (EqSlot s t))) (atom (theme (EqSlot t s))) (λ u e. two_slots scope s t u h k (one_atom _ u e)) (λ u e. two_slots scope t s u k h (one_atom _ u e)))
same_in_text scope (at s) (word t) h k = λ u e. one_slot scope s u h (one_atom _ u e)
same_in_text scope (word t) (at s) h k = λ u e. one_slot scope s u k (one_atom _ u e)
same_in_text scope (word t) (word u) h k = either_in scope (bytes_eq t u) always never (none_in scope always refl) (never_in scope)

other_in_text : (scope : SlotScope) (l r : TextSide) → IsSideIn scope l → IsSideIn scope r → IsIn scope (other_text_goal l r)
unfolding atom_mentions theme_mentions
other_in_text scope (at s) (at t) h k =
    either_in scope (same_slot s t) never (cond (nat_lt s.number t.number) (atom (theme (NeSlot s t))) (atom (theme (NeSlot t s)))) (never_in scope)
    (either_in scope (nat_lt s.number t.number) (atom (theme (NeSlot s t))) (atom (theme (NeSlot t s))) (λ u e. two_slots scope s t u h k (one_atom _ u e)) (λ u e. two_slots scope t s u k h (one_atom _ u e)))
other_in_text scope (at s) (word t) h k = λ u e. one_slot scope s u h (one_atom _ u e)
other_in_text scope (word t) (at s) h k = λ u e. one_slot scope s u k (one_atom _ u e)
other_in_text scope (word t) (word u) h k = either_in scope (bytes_eq t u) never always (never_in scope) (none_in scope always refl)

texts_in : (scope : SlotScope) (l r : TextSide) (o : CompareOp) → IsSideIn scope l → IsSideIn scope r → IsIn scope (texts_goal l o r)
texts_in scope l r op.Less h k = never_in scope
texts_in scope l r op.LessEq h k = never_in scope
texts_in scope l r op.Equal h k = same_in_text scope l r h k
texts_in scope l r op.NotEqual h k = other_in_text scope l r h k
texts_in scope l r op.GreaterEq h k = never_in scope
texts_in scope l r op.Greater h k = never_in scope

side_in : (scope : SlotScope) (t : Operand) → is_unbound_operand (sorts_of scope) t ≡ false → IsSideIn scope (text_side scope t)
side_in scope (Single x) b = slot_in scope x b
side_in scope (Sum t) b = tt
side_in scope (Quoted t) b = tt

goal_in : (scope : SlotScope) (f : Form) → some_below is_unbound_atom (sorts_of scope) f ≡ false → IsIn scope (goal_below scope 0 f)
goal_in scope (atom (compare l o r)) b =
    let bl = or_false_left _ _ b in
    let br = or_false_right (is_unbound_operand (sorts_of scope) l) _ b in
    either_in scope (is_text_operand scope l || is_text_operand scope r) (texts_goal (text_side scope l) o (text_side scope r)) (sums_goal (slot_sum scope l) o (slot_sum scope r)) (texts_in scope (text_side scope l) (text_side scope r) o (side_in scope l bl) (side_in scope r br)) (sums_in scope (slot_sum scope l) (slot_sum scope r) o (λ s. sum_in scope l s bl) (λ s. sum_in scope r s br))
goal_in scope (atom (member n ts)) b = λ s h. absurd (no_atoms s h)
goal_in scope always b = λ s h. absurd (no_atoms s h)
goal_in scope never b = never_in scope
goal_in scope (negation f) b = λ s h. absurd (no_atoms s h)
goal_in scope (every_of fs) b = λ s h. absurd (no_atoms s h)
goal_in scope (some_of fs) b = λ s h. absurd (no_atoms s h)
goal_in scope (implies f g) b = λ s h. absurd (no_atoms s h)
goal_in scope (minus f g) b = λ s h. absurd (no_atoms s h)
goal_in scope (exists s k f) b = λ u h. absurd (no_atoms u h)
goal_in scope (forall s k f) b = λ u h. absurd (no_atoms u h)

-- ---- tuples

-- atoms of two lists
mentions-append : (xs ys : List Atom) (s : Slot) → tuple_mentions (xs ++ ys) s ≡ true → (tuple_mentions xs s ≡ true) ⊎ (tuple_mentions ys s ≡ true)
unfolding tuple_mentions
mentions-append [] ys s h = inr h
mentions-append (x ∷ xs) ys s h = elim (or_split (atom_mentions x s) _ h) [
  | inl e ↦ inl (or_left _ _ e)
  | inr e ↦ elim (mentions-append xs ys s e) [ inl f ↦ inl (or_right (atom_mentions x s) _ f) | inr f ↦ inr f ]
]

-- the atoms of comparisons
comparisons_in : (scope : SlotScope) (fs : List Form) (s : Slot) → list_any (some_below is_unbound_atom (sorts_of scope)) fs ≡ false → tuple_mentions (comparison_atoms scope fs) s ≡ true → stands scope s ≡ true
comparisons_in scope [] s b h = absurd (no_atoms s h)
comparisons_in scope (f ∷ fs) s b h = elim (mentions-append (goal_atoms (goal_below scope 0 f)) (comparison_atoms scope fs) s h) [
  | inl e ↦ goal_in scope f (or_false_left _ _ b) s e
  | inr e ↦ comparisons_in scope fs s (or_false_right (some_below is_unbound_atom (sorts_of scope) f) _ b) e
]

-- the slots of a heading
heading_in : (i : ℕ) (h : List Column) (s : Slot) → stands (heading_scope i h) s ≡ stands_in (heading_slots i h) s
heading_in i [] s = refl
heading_in i (c ∷ h) s = ap (λ b. same_slot (record { number = i; sort = c.sort }) s || b) (heading_in (i + 1) h s)

-- the tuple is over its scope
pub tuple_in : (h : List Column) (fs : List Form) (s : Slot) → list_any (some_below is_unbound_atom (sorts_of (heading_scope 0 h))) fs ≡ false
    → tuple_mentions (ordered_atoms (comparison_atoms (heading_scope 0 h) fs)) s ≡ true → stands_in (heading_slots 0 h) s ≡ true
tuple_in h fs s b e = sym (heading_in 0 h s) ∙ comparisons_in (heading_scope 0 h) fs s b (mentions-ordered (comparison_atoms (heading_scope 0 h) fs) s e)

-- ---- as the code has it

-- a test of each formula of a list
some_of_list : (scope : Scope) (fs : List Form) → list_any (some_below is_unbound_atom scope) fs ≡ some_below_of is_unbound_atom scope (logics fs)
some_of_list scope [] = refl
some_of_list scope (f ∷ fs) = ap (λ b. some_below is_unbound_atom scope f || b) (some_of_list scope fs)

-- a normal tuple of comparisons over a heading
pub tuple_over : (h : List Column) (fs : List Form) (scope : SlotScope) (t : List Atom) → scope ≡ heading_scope 0 h → has_unbound h (every_of (logics fs)) ≡ false
    → t ≡ ordered_atoms (comparison_atoms scope fs) → IsNormalTuple t → IsTupleOver h t
tuple_over h fs scope t e b i n = record {
  normal = n;
  slots = λ s m. tuple_in h fs s (ap (λ c. list_any (some_below is_unbound_atom c) fs) (sorts_heading 0 h) ∙ some_of_list (scope_of h) fs ∙ b)
      (ap (λ l. tuple_mentions l s) (sym (i ∙ ap (λ c. ordered_atoms (comparison_atoms c fs)) e)) ∙ m);
}

-- two facts of the value, if there is one
pub both : {T E : Type 0} (r : Result T E) (P Q : T → Type 0) → IfOk r P → IfOk r Q → IfOk r (λ x. P x × Q x)
both (Ok x) P Q h k = (h, k)
both (Err e) P Q h k = tt
