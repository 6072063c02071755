-- A goal mentions freely only slots of its heading.
--
-- A variable that is bound has a slot in scope, so the goal of an atom mentions slots in scope alone. A quantifier's own
-- slot is not free above it, so what is left is in the scope round it.
use Rattle.std.proofs.Common.{◌≡◌, ℕ, ◌+◌, Bool, true, false, not, inl, inr, cond, is_none, Some, unwrap_or, List, [], ◌∷◌, map, refl, sym, ap, ◌∙◌, subst, true≢false}
use Rattle.std.specs.Prelude.{ℤ}
use Rattle.std.specs.List.{list_any}
use Rattle.ded_model.specs.declared.slot.Slot.{Slot}
use Rattle.ded_model.specs.declared.name.Column.{Column}
use Rattle.ded_model.specs.declared.formula.Operand.{Operand}
use Rattle.ded_model.specs.declared.formula.Operand.TheVariants.{Single, Sum, Quoted}
use Rattle.ded_model.specs.declared.goal.Place.{Place}
use Rattle.ded_model.specs.declared.goal.Place.TheVariants.{At, Value}
use Rattle.ded_model.specs.declared.goal.Place.TheVariants as place
use Rattle.ded_model.specs.declared.tuple.ThemeAtom.{ThemeAtom}
use Rattle.ded_model.specs.declared.tuple.ThemeAtom.TheVariants.{EqText, NeText, EqSlot, NeSlot}
use Rattle.ded_model.specs.Point.{Key, slot, name, same_key, same_slot, stands_in}
use Rattle.ded_model.specs.Row.{row_mentions, theme_mentions, at_slot}
use Rattle.ded_model.specs.Logic.{atom, always, never, negation, every_of, some_of, implies, minus, exists, forall, Logics, none, also, AllAtoms, AllAtomsOf, any_mentions, some_below, some_below_of, quantifiers}
use Rattle.ded_model.specs.Form.{Form, FormAtom, compare, member}
use Rattle.ded_model.specs.Goal.{GoalForm, GoalAtom, linear, theme, in_goal_atom, goal_mentions, place_mentions}
use Rattle.ded_model.specs.Goal as goal
use Rattle.ded_model.specs.Slotted.{SlotScope, nearest, slot_of, add_parts, slot_sum, text_side, place_of, atom_goal, goal_below, goals_below, goal_of, heading_scope}
use Rattle.ded_model.specs.Known.{heading_slots, has_unbound, is_unbound_name, is_unbound_operand, is_unbound_atom}
use Rattle.ded_model.proofs.Points.{same_slot_is, same_key_refl, and_left, and_right}
use Rattle.ded_model.proofs.Rows.{or_left, or_right}
use Rattle.ded_model.proofs.Members.{or_split}
use Rattle.ded_sorts.proofs.Scopes.{sorts_of, no_slot}
use Rattle.ded_sorts.proofs.Headings.{sorts_of-heading}
use Rattle.ded_sorts.proofs.Overs.{AreSlots, IsSideOver, IsThemeOver, ArePlacesOver, IsOver, put_slots, nonzero_slots, comparison_over}
use Rattle.ded_model.proofs.Bools.{or_false_left, or_false_right}

-- ---- what is mentioned

-- the key is a slot with the property
abbrev AtSlot : (Slot → Type 0) → Key → Type 0
AtSlot Q (slot u) = Q u
AtSlot Q (name x) = ⊥

module _ (Q : Slot → Type 0) where
  -- a slot that is the same
  same_has : (s u : Slot) → Q s → same_slot s u ≡ true → Q u
  same_has s u h e = subst Q (same_slot_is s u e) h

  -- a slot of coefficients
  coefs_mention : (cs : List (Slot × ℤ)) (u : Slot) → AreSlots Q cs → list_any (λ c. same_slot c.0 u) cs ≡ true → Q u
  coefs_mention [] u h m = absurd (true≢false (sym m))
  coefs_mention (c ∷ cs) u h m = elim (or_split (same_slot c.0 u) _ m) [ inl e ↦ same_has c.0 u h.0 e | inr e ↦ coefs_mention cs u h.1 e ]

  -- of a text atom
  theme_mention : (a : ThemeAtom) (u : Slot) → IsThemeOver Q a → theme_mentions a u ≡ true → Q u
  unfolding theme_mentions
  theme_mention (EqText s t) u h m = same_has s u h m
  theme_mention (NeText s t) u h m = same_has s u h m
  theme_mention (EqSlot s t) u h m = elim (or_split (same_slot s u) _ m) [ inl e ↦ same_has s u h.0 e | inr e ↦ same_has t u h.1 e ]
  theme_mention (NeSlot s t) u h m = elim (or_split (same_slot s u) _ m) [ inl e ↦ same_has s u h.0 e | inr e ↦ same_has t u h.1 e ]

  -- of places
  places_mention : (ts : List Place) (u : Slot) → ArePlacesOver Q Q ts → list_any (λ t. place_mentions t u) ts ≡ true → Q u
  places_mention [] u h m = absurd (true≢false (sym m))
  places_mention (At s ∷ ts) u h m = elim (or_split (same_slot s u) _ m) [ inl e ↦ same_has s u h.0 e | inr e ↦ places_mention ts u h.1 e ]
  places_mention (Value t ∷ ts) u h m = elim (or_split (list_any (λ c. same_slot c.0 u) t.coefs) _ m) [ inl e ↦ coefs_mention t.coefs u h.0 e | inr e ↦ places_mention ts u h.1 e ]
  places_mention (place.Quoted t ∷ ts) u h m = places_mention ts u h m

  -- of an atom
  atom_mention : (a : GoalAtom) (k : Key) → IsOver Q Q a → in_goal_atom a k ≡ true → AtSlot Q k
  unfolding row_mentions
  atom_mention a (name x) h m = absurd (true≢false (sym m))
  atom_mention (linear r) (slot u) h m = coefs_mention r.coefs u h m
  atom_mention (theme a) (slot u) h m = theme_mention a u h m
  atom_mention (goal.member n ts) (slot u) h m = places_mention ts u h m

  mutual
    -- of a goal
    goal_mention : (g : GoalForm) (k : Key) → AllAtoms (IsOver Q Q) g → goal_mentions g k ≡ true → AtSlot Q k
    goal_mention (atom a) k h m = atom_mention a k h m
    goal_mention always k h m = absurd (true≢false (sym m))
    goal_mention never k h m = absurd (true≢false (sym m))
    goal_mention (negation f) k h m = goal_mention f k h m
    goal_mention (every_of fs) k h m = goals_mention fs k h m
    goal_mention (some_of fs) k h m = goals_mention fs k h m
    goal_mention (implies f g) k h m = elim (or_split (goal_mentions f k) _ m) [ inl e ↦ goal_mention f k h.0 e | inr e ↦ goal_mention g k h.1 e ]
    goal_mention (minus f g) k h m = elim (or_split (goal_mentions f k) _ m) [ inl e ↦ goal_mention f k h.0 e | inr e ↦ goal_mention g k h.1 e ]
    goal_mention (exists s j f) k h m = goal_mention f k h (and_right (not (same_key k j)) _ m)
    goal_mention (forall s j f) k h m = goal_mention f k h (and_right (not (same_key k j)) _ m)

    -- of a list
    goals_mention : (fs : Logics GoalAtom) (k : Key) → AllAtomsOf (IsOver Q Q) fs → any_mentions in_goal_atom fs k ≡ true → AtSlot Q k
    goals_mention none k h m = absurd (true≢false (sym m))
    goals_mention (also f fs) k h m = elim (or_split (goal_mentions f k) _ m) [ inl e ↦ goal_mention f k h.0 e | inr e ↦ goals_mention fs k h.1 e ]

-- ---- slots in scope

-- the slots of a scope
abbrev slots_of : SlotScope → List Slot
slots_of [] = []
slots_of (v ∷ slots) = v.1 ∷ slots_of slots

-- a slot of the scope
abbrev IsIn : SlotScope → Slot → Type 0
IsIn slots u = stands_in (slots_of slots) u ≡ true

-- a variable that is bound has one
bound_in : (slots : SlotScope) (x : List ℕ) → is_unbound_name (sorts_of slots) x ≡ false → IsIn slots (slot_of slots x)
bound_in [] x h = absurd (true≢false h)
bound_in (v ∷ slots) x h = step (same_key v.0 (name x)) h (λ e. bound_in slots x e)
  where
    step : (b : Bool) → is_none (cond b (Some v.1.sort) (nearest (sorts_of slots) (name x))) ≡ false → (is_unbound_name (sorts_of slots) x ≡ false → IsIn slots (slot_of slots x))
        → IsIn (v ∷ slots) (unwrap_or (cond b (Some v.1) (nearest slots (name x))) no_slot)
    step true e rest = or_left _ _ (same_key_refl (slot v.1))
    step false e rest = or_right (same_slot v.1 (slot_of slots x)) _ (rest e)

-- the slots of a sum
parts_in : (slots : SlotScope) (cs : List (List ℕ × ℤ)) → list_any (λ c. is_unbound_name (sorts_of slots) c.0) cs ≡ false → AreSlots (IsIn slots) (add_parts slots cs)
parts_in slots [] h = tt
parts_in slots (c ∷ cs) h =
    put_slots (IsIn slots) (slot_of slots c.0) c.1 (add_parts slots cs) (bound_in slots c.0 (or_false_left _ _ h)) (parts_in slots cs (or_false_right (is_unbound_name (sorts_of slots) c.0) _ h))

-- of an operand that is a number
sum_in : (slots : SlotScope) (t : Operand) → is_unbound_operand (sorts_of slots) t ≡ false → AreSlots (IsIn slots) (slot_sum slots t).coefs
sum_in slots (Single x) h = (bound_in slots x h, tt)
sum_in slots (Sum t) h = nonzero_slots (IsIn slots) (add_parts slots t.parts) (parts_in slots t.parts h)
sum_in slots (Quoted t) h = tt

-- of one that is a text
side_in : (slots : SlotScope) (t : Operand) → is_unbound_operand (sorts_of slots) t ≡ false → IsSideOver (IsIn slots) (text_side slots t)
side_in slots (Single x) h = bound_in slots x h
side_in slots (Sum t) h = tt
side_in slots (Quoted t) h = tt

-- of arguments
places_in : (slots : SlotScope) (ts : List Operand) → list_any (is_unbound_operand (sorts_of slots)) ts ≡ false → ArePlacesOver (IsIn slots) (IsIn slots) (map (place_of slots) ts)
places_in slots [] h = tt
places_in slots (Single x ∷ ts) h = (bound_in slots x (or_false_left _ _ h), places_in slots ts (or_false_right (is_unbound_name (sorts_of slots) x) _ h))
places_in slots (Sum t ∷ ts) h = (sum_in slots (Sum t) (or_false_left _ _ h), places_in slots ts (or_false_right (is_unbound_operand (sorts_of slots) (Sum t)) _ h))
places_in slots (Quoted t ∷ ts) h = places_in slots ts h

-- of an atom
atom_in : (slots : SlotScope) (a : FormAtom) → is_unbound_atom (sorts_of slots) a ≡ false → AllAtoms (IsOver (IsIn slots) (IsIn slots)) (atom_goal slots a)
atom_in slots (compare l op r) h =
    let hl = or_false_left _ _ h in
    let hr = or_false_right (is_unbound_operand (sorts_of slots) l) _ h in
    comparison_over (IsIn slots) (IsIn slots) slots l op r (λ e. sum_in slots l hl) (λ e. sum_in slots r hr) (side_in slots l hl) (side_in slots r hr)
atom_in slots (member x ts) h = places_in slots ts h

-- ---- goals

-- what is free below a quantifier, and isn't its own slot, is in the scope round it
outside : (k : Key) (u : Slot) (slots : SlotScope) (j : Key) → not (same_key j (slot u)) ≡ true → AtSlot (IsIn ((k, u) ∷ slots)) j → AtSlot (IsIn slots) j
outside k u slots (name x) n h = absurd h
outside k u slots (slot v) n h = elim (or_split (same_slot u v) _ h) [ inl e ↦ absurd (itself e) | inr e ↦ e ]
  where
    itself : same_slot u v ≡ true → ⊥
    itself e = true≢false (sym n ∙ ap not (ap (λ w. same_slot v w) (same_slot_is u v e) ∙ same_key_refl (slot v)))

mutual
  -- the goal of a formula mentions freely only slots in scope
  free_below : (f : Form) (slots : SlotScope) (n : ℕ) → some_below is_unbound_atom (sorts_of slots) f ≡ false → (j : Key) → goal_mentions (goal_below slots n f) j ≡ true → AtSlot (IsIn slots) j
  free_below (atom a) slots n h j m = goal_mention (IsIn slots) (atom_goal slots a) j (atom_in slots a h) m
  free_below always slots n h j m = absurd (true≢false (sym m))
  free_below never slots n h j m = absurd (true≢false (sym m))
  free_below (negation f) slots n h j m = free_below f slots n h j m
  free_below (every_of fs) slots n h j m = free_below_all fs slots n h j m
  free_below (some_of fs) slots n h j m = free_below_all fs slots n h j m
  free_below (implies f g) slots n h j m = elim (or_split (goal_mentions (goal_below slots n f) j) _ m) [
    | inl e ↦ free_below f slots n (or_false_left _ _ h) j e
    | inr e ↦ free_below g slots (n + quantifiers f) (or_false_right (some_below is_unbound_atom (sorts_of slots) f) _ h) j e
  ]
  free_below (minus f g) slots n h j m = elim (or_split (goal_mentions (goal_below slots n f) j) _ m) [
    | inl e ↦ free_below f slots n (or_false_left _ _ h) j e
    | inr e ↦ free_below g slots (n + quantifiers f) (or_false_right (some_below is_unbound_atom (sorts_of slots) f) _ h) j e
  ]
  free_below (exists s k f) slots n h j m =
      let u : Slot = record { number = n; sort = s } in
      outside k u slots j (and_left (not (same_key j (slot u))) _ m) (free_below f ((k, u) ∷ slots) (n + 1) h j (and_right (not (same_key j (slot u))) _ m))
  free_below (forall s k f) slots n h j m =
      let u : Slot = record { number = n; sort = s } in
      outside k u slots j (and_left (not (same_key j (slot u))) _ m) (free_below f ((k, u) ∷ slots) (n + 1) h j (and_right (not (same_key j (slot u))) _ m))

  -- of a list
  free_below_all : (fs : Logics FormAtom) (slots : SlotScope) (n : ℕ) → some_below_of is_unbound_atom (sorts_of slots) fs ≡ false → (j : Key) → any_mentions in_goal_atom (goals_below slots n fs) j ≡ true → AtSlot (IsIn slots) j
  free_below_all none slots n h j m = absurd (true≢false (sym m))
  free_below_all (also f fs) slots n h j m = elim (or_split (goal_mentions (goal_below slots n f) j) _ m) [
    | inl e ↦ free_below f slots n (or_false_left _ _ h) j e
    | inr e ↦ free_below_all fs slots (n + quantifiers f) (or_false_right (some_below is_unbound_atom (sorts_of slots) f) _ h) j e
  ]

-- ---- headings

-- the scope of a heading has the heading's slots
slots_of-heading : (i : ℕ) (h : List Column) → slots_of (heading_scope i h) ≡ heading_slots i h
slots_of-heading i [] = refl
slots_of-heading i (c ∷ cs) = ap (λ ss. record { number = i; sort = c.sort } ∷ ss) (slots_of-heading (i + 1) cs)

-- the property as a test
as_test : (slots : SlotScope) (ss : List Slot) → slots_of slots ≡ ss → (j : Key) → AtSlot (IsIn slots) j → at_slot (stands_in ss) j ≡ true
as_test slots ss e (slot u) h = ap (λ ss. stands_in ss u) (sym e) ∙ h
as_test slots ss e (name x) h = absurd h

-- the goal of a formula whose variables are bound mentions freely only slots of the heading
pub goal_free : (h : List Column) (f : Form) → has_unbound h f ≡ false → (j : Key) → goal_mentions (goal_of h f) j ≡ true → at_slot (stands_in (heading_slots 0 h)) j ≡ true
unfolding goal_of
goal_free h f u j m =
    as_test (heading_scope 0 h) (heading_slots 0 h) (slots_of-heading 0 h) j
    (free_below f (heading_scope 0 h) _ (ap (λ s. some_below is_unbound_atom s f) (sorts_of-heading 0 h) ∙ u) j m)
