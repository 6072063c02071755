-- In the goal of a formula each number has one sort.
--
-- The columns have the numbers from 0 on and the quantifiers those after them, each one of its own. So the sorts of numbers are
-- read off the heading and the formula, one after another, and what is given to a number isn't changed by what comes later.
use Rattle.std.proofs.Common.{◌≡◌, ℕ, ◌+◌, ◌<◌, ◌≤◌, ◌==◌, Bool, true, false, cond, inl, inr, is_none, Some, unwrap_or, List, [], ◌∷◌, length, map, arith, refl, sym, ap, ◌∙◌, subst, true≢false}
use Rattle.std.specs.Prelude.{ℤ, if◌then◌else◌}
use Rattle.std.specs.List.{list_any}
use Rattle.std.proofs.lemmas.Bool.Decides.{nat_tests}
use Rattle.ded_model.specs.declared.slot.Slot.{Slot}
use Rattle.ded_model.specs.declared.slot.Sort.{Sort}
use Rattle.ded_model.specs.declared.slot.Sort.TheVariants.{Rat}
use Rattle.ded_model.specs.declared.name.Column.{Column}
use Rattle.ded_model.specs.declared.formula.Operand.{Operand}
use Rattle.ded_model.specs.declared.formula.Operand.TheVariants.{Single, Sum, Quoted}
use Rattle.ded_model.specs.declared.goal.Place.{Place}
use Rattle.ded_model.specs.declared.goal.Place.TheVariants.{At, Value}
use Rattle.ded_model.specs.declared.goal.Place.TheVariants as place
use Rattle.ded_model.specs.declared.tuple.ThemeAtom.{ThemeAtom}
use Rattle.ded_model.specs.declared.tuple.ThemeAtom.TheVariants.{EqText, NeText, EqSlot, NeSlot}
use Rattle.ded_model.specs.Point.{Key, name, same_key, same_slot}
use Rattle.ded_model.specs.Row.{row_mentions, theme_mentions}
use Rattle.ded_model.specs.Logic.{atom, always, never, negation, every_of, some_of, implies, minus, exists, forall, Logics, none, also, AllAtoms, AllAtomsOf, some_below, some_below_of, quantifiers, quantifiers_of}
use Rattle.ded_model.specs.Form.{Form, FormAtom, compare, member}
use Rattle.ded_model.specs.Goal.{GoalAtom, GoalForm, linear, theme, goal_atom_mentions, place_mentions}
use Rattle.ded_model.specs.Goal as goal
use Rattle.ded_model.specs.Slotted.{SlotScope, nearest, slot_of, add_parts, slot_sum, text_side, place_of, atom_goal, goal_below, goals_below, goal_of, heading_scope}
use Rattle.ded_model.specs.Known.{has_unbound, is_unbound_name, is_unbound_operand, is_unbound_atom}
use Rattle.ded_model.proofs.Points.{same_slot_is}
use Rattle.ded_model.proofs.Members.{or_split}
use Rattle.ded_model.proofs.Bools.{or_false_left, or_false_right}
use Rattle.ded_model.proofs.Made.{number_same}
use Rattle.ded_sorts.proofs.Scopes.{sorts_of, no_slot}
use Rattle.ded_sorts.proofs.Headings.{sorts_of-heading}
use Rattle.ded_sorts.proofs.Overs.{AreSlots, IsSideOver, IsThemeOver, ArePlacesOver, IsOver, put_slots, nonzero_slots, comparison_over}
use Rattle.ded_algebra.specs.Compiled.{HasSortsBy}
use Rattle.ded_plan.proofs.TidyPlans.{all_weaker}

-- ---- the sorts of numbers

-- the number has the sort, and the others what they had
abbrev pub with_sort : (ℕ → Sort) → ℕ → Sort → ℕ → Sort
with_sort o n s i = if i == n then s else o i

with_sort-here : (o : ℕ → Sort) (n : ℕ) (s : Sort) → with_sort o n s n ≡ s
with_sort-here o n s = ap (λ b. if b then s else o n) (number_same n)

with_sort-below : (o : ℕ → Sort) (n : ℕ) (s : Sort) (i : ℕ) → i < n → with_sort o n s i ≡ o i
with_sort-below o n s i h = let e : (i == n) ≡ false = grind (arith, nat_tests) in ap (λ b. if b then s else o i) e

-- the columns have the numbers from n on
abbrev pub with_columns : (ℕ → Sort) → ℕ → List Column → ℕ → Sort
with_columns o n [] = o
with_columns o n (c ∷ cs) = with_columns (with_sort o n c.sort) (n + 1) cs

abbrev mutual
  -- the quantifiers have the numbers from n on, in the order in which they stand
  pub with_quantifiers : (ℕ → Sort) → ℕ → Form → ℕ → Sort
  with_quantifiers o n (atom a) = o
  with_quantifiers o n always = o
  with_quantifiers o n never = o
  with_quantifiers o n (negation f) = with_quantifiers o n f
  with_quantifiers o n (every_of fs) = with_all_quantifiers o n fs
  with_quantifiers o n (some_of fs) = with_all_quantifiers o n fs
  with_quantifiers o n (implies f g) = with_quantifiers (with_quantifiers o n f) (n + quantifiers f) g
  with_quantifiers o n (minus f g) = with_quantifiers (with_quantifiers o n f) (n + quantifiers f) g
  with_quantifiers o n (exists s k f) = with_quantifiers (with_sort o n s) (n + 1) f
  with_quantifiers o n (forall s k f) = with_quantifiers (with_sort o n s) (n + 1) f

  pub with_all_quantifiers : (ℕ → Sort) → ℕ → Logics FormAtom → ℕ → Sort
  with_all_quantifiers o n none = o
  with_all_quantifiers o n (also f fs) = with_all_quantifiers (with_quantifiers o n f) (n + quantifiers f) fs

-- lesser numbers have what they had
columns_below : (o : ℕ → Sort) (n : ℕ) (cs : List Column) (i : ℕ) → i < n → with_columns o n cs i ≡ o i
columns_below o n [] i h = refl
columns_below o n (c ∷ cs) i h = columns_below (with_sort o n c.sort) (n + 1) cs i (omega (arith, h)) ∙ with_sort-below o n c.sort i h

mutual
  quantifiers_below : (f : Form) (o : ℕ → Sort) (n i : ℕ) → i < n → with_quantifiers o n f i ≡ o i
  quantifiers_below (atom a) o n i h = refl
  quantifiers_below always o n i h = refl
  quantifiers_below never o n i h = refl
  quantifiers_below (negation f) o n i h = quantifiers_below f o n i h
  quantifiers_below (every_of fs) o n i h = all_quantifiers_below fs o n i h
  quantifiers_below (some_of fs) o n i h = all_quantifiers_below fs o n i h
  quantifiers_below (implies f g) o n i h = quantifiers_below g (with_quantifiers o n f) (n + quantifiers f) i (omega (arith, h)) ∙ quantifiers_below f o n i h
  quantifiers_below (minus f g) o n i h = quantifiers_below g (with_quantifiers o n f) (n + quantifiers f) i (omega (arith, h)) ∙ quantifiers_below f o n i h
  quantifiers_below (exists s k f) o n i h = quantifiers_below f (with_sort o n s) (n + 1) i (omega (arith, h)) ∙ with_sort-below o n s i h
  quantifiers_below (forall s k f) o n i h = quantifiers_below f (with_sort o n s) (n + 1) i (omega (arith, h)) ∙ with_sort-below o n s i h

  all_quantifiers_below : (fs : Logics FormAtom) (o : ℕ → Sort) (n i : ℕ) → i < n → with_all_quantifiers o n fs i ≡ o i
  all_quantifiers_below none o n i h = refl
  all_quantifiers_below (also f fs) o n i h = all_quantifiers_below fs (with_quantifiers o n f) (n + quantifiers f) i (omega (arith, h)) ∙ quantifiers_below f o n i h

-- ---- slots of atoms

module _ (Q : Slot → Type 0) where
  -- each slot of the scope has the property
  abbrev IsScopeOver : SlotScope → Type 0
  IsScopeOver [] = Unit {0}
  IsScopeOver (v ∷ slots) = Q v.1 × IsScopeOver slots

  -- so has that of a variable that is bound
  bound_over : (slots : SlotScope) (x : List ℕ) → IsScopeOver slots → is_unbound_name (sorts_of slots) x ≡ false → Q (slot_of slots x)
  bound_over [] x q h = absurd (true≢false h)
  bound_over (v ∷ slots) x q h = step (same_key v.0 (name x)) h (λ e. bound_over slots x q.1 e)
    where
      step : (b : Bool) → is_none (cond b (Some v.1.sort) (nearest (sorts_of slots) (name x))) ≡ false → (is_unbound_name (sorts_of slots) x ≡ false → Q (slot_of slots x))
          → Q (unwrap_or (cond b (Some v.1) (nearest slots (name x))) no_slot)
      step true e rest = q.0
      step false e rest = rest e

  module _ (slots : SlotScope) (q : IsScopeOver slots) where
    parts_over : (cs : List (List ℕ × ℤ)) → list_any (λ c. is_unbound_name (sorts_of slots) c.0) cs ≡ false → AreSlots Q (add_parts slots cs)
    parts_over [] h = tt
    parts_over (c ∷ cs) h =
        put_slots Q (slot_of slots c.0) c.1 (add_parts slots cs) (bound_over slots c.0 q (or_false_left _ _ h)) (parts_over cs (or_false_right (is_unbound_name (sorts_of slots) c.0) _ h))

    sum_over : (t : Operand) → is_unbound_operand (sorts_of slots) t ≡ false → AreSlots Q (slot_sum slots t).coefs
    sum_over (Single x) h = (bound_over slots x q h, tt)
    sum_over (Sum t) h = nonzero_slots Q (add_parts slots t.parts) (parts_over t.parts h)
    sum_over (Quoted t) h = tt

    side_over : (t : Operand) → is_unbound_operand (sorts_of slots) t ≡ false → IsSideOver Q (text_side slots t)
    side_over (Single x) h = bound_over slots x q h
    side_over (Sum t) h = tt
    side_over (Quoted t) h = tt

    places_over : (ts : List Operand) → list_any (is_unbound_operand (sorts_of slots)) ts ≡ false → ArePlacesOver Q Q (map (place_of slots) ts)
    places_over [] h = tt
    places_over (Single x ∷ ts) h = (bound_over slots x q (or_false_left _ _ h), places_over ts (or_false_right (is_unbound_name (sorts_of slots) x) _ h))
    places_over (Sum t ∷ ts) h = (sum_over (Sum t) (or_false_left _ _ h), places_over ts (or_false_right (is_unbound_operand (sorts_of slots) (Sum t)) _ h))
    places_over (Quoted t ∷ ts) h = places_over ts h

    -- the goal of an atom whose variables are bound has slots of the scope
    atom_over : (a : FormAtom) → is_unbound_atom (sorts_of slots) a ≡ false → AllAtoms (IsOver Q Q) (atom_goal slots a)
    atom_over (compare l op r) h =
        let hl = or_false_left _ _ h in
        let hr = or_false_right (is_unbound_operand (sorts_of slots) l) _ h in
        comparison_over Q Q slots l op r (λ e. sum_over l hl) (λ e. sum_over r hr) (side_over l hl) (side_over r hr)
    atom_over (member x ts) h = places_over ts h

  -- ---- what an atom mentions

  same_over : (s u : Slot) → Q s → same_slot s u ≡ true → Q u
  same_over s u h e = subst Q (same_slot_is s u e) h

  coefs_over : (cs : List (Slot × ℤ)) (u : Slot) → AreSlots Q cs → list_any (λ c. same_slot c.0 u) cs ≡ true → Q u
  coefs_over [] u h m = absurd (true≢false (sym m))
  coefs_over (c ∷ cs) u h m = elim (or_split (same_slot c.0 u) _ m) [ inl e ↦ same_over c.0 u h.0 e | inr e ↦ coefs_over cs u h.1 e ]

  theme_over : (a : ThemeAtom) (u : Slot) → IsThemeOver Q a → theme_mentions a u ≡ true → Q u
  unfolding theme_mentions
  theme_over (EqText s t) u h m = same_over s u h m
  theme_over (NeText s t) u h m = same_over s u h m
  theme_over (EqSlot s t) u h m = elim (or_split (same_slot s u) _ m) [ inl e ↦ same_over s u h.0 e | inr e ↦ same_over t u h.1 e ]
  theme_over (NeSlot s t) u h m = elim (or_split (same_slot s u) _ m) [ inl e ↦ same_over s u h.0 e | inr e ↦ same_over t u h.1 e ]

  arguments_over : (ts : List Place) (u : Slot) → ArePlacesOver Q Q ts → list_any (λ t. place_mentions t u) ts ≡ true → Q u
  arguments_over [] u h m = absurd (true≢false (sym m))
  arguments_over (At s ∷ ts) u h m = elim (or_split (same_slot s u) _ m) [ inl e ↦ same_over s u h.0 e | inr e ↦ arguments_over ts u h.1 e ]
  arguments_over (Value t ∷ ts) u h m = elim (or_split (list_any (λ c. same_slot c.0 u) t.coefs) _ m) [ inl e ↦ coefs_over t.coefs u h.0 e | inr e ↦ arguments_over ts u h.1 e ]
  arguments_over (place.Quoted t ∷ ts) u h m = arguments_over ts u h m

  mention_over : (a : GoalAtom) → IsOver Q Q a → (u : Slot) → goal_atom_mentions a u ≡ true → Q u
  unfolding row_mentions
  mention_over (linear r) h u m = coefs_over r.coefs u h m
  mention_over (theme a) h u m = theme_over a u h m
  mention_over (goal.member n ts) h u m = arguments_over ts u h m

-- ---- goals

-- a slot of a lesser number, and of the sort of its number
abbrev IsOf : (ℕ → Sort) → ℕ → Slot → Type 0
IsOf o n s = (s.number < n) × (s.sort ≡ o s.number)

-- the slots that the atom mentions are
abbrev AreOf : (ℕ → Sort) → ℕ → GoalAtom → Type 0
AreOf o n a = (s : Slot) → goal_atom_mentions a s ≡ true → IsOf o n s

-- lesser numbers have the same sorts, and more are lesser
record IsWider (o o' : ℕ → Sort) (n m : ℕ) : Type 0 where
  pub same : (i : ℕ) → i < n → o' i ≡ o i
  pub more : n ≤ m

wider_slot : (o o' : ℕ → Sort) (n m : ℕ) → IsWider o o' n m → (s : Slot) → IsOf o n s → IsOf o' m s
wider_slot o o' n m w s h = let i = h.0 in let l = w.more in (omega (arith, i, l), h.1 ∙ sym (w.same s.number i))

wider_scope : (o o' : ℕ → Sort) (n m : ℕ) → IsWider o o' n m → (slots : SlotScope) → IsScopeOver (IsOf o n) slots → IsScopeOver (IsOf o' m) slots
wider_scope o o' n m w [] h = tt
wider_scope o o' n m w (v ∷ slots) h = (wider_slot o o' n m w v.1 h.0, wider_scope o o' n m w slots h.1)

wider_atom : (o o' : ℕ → Sort) (n m : ℕ) → IsWider o o' n m → (a : GoalAtom) → AreOf o n a → AreOf o' m a
wider_atom o o' n m w a h s e = wider_slot o o' n m w s (h s e)

wider_goal : (o o' : ℕ → Sort) (n m : ℕ) → IsWider o o' n m → (g : GoalForm) → AllAtoms (AreOf o n) g → AllAtoms (AreOf o' m) g
wider_goal o o' n m w g h = all_weaker (AreOf o n) (AreOf o' m) (wider_atom o o' n m w) g h

more_numbers : (o : ℕ → Sort) (n m : ℕ) → n ≤ m → IsWider o o n m
more_numbers o n m l = record { same = λ i h. refl; more = l }

-- the slots of a scope past the quantifiers of a formula
past_scope : (f : Form) (o : ℕ → Sort) (n : ℕ) (slots : SlotScope) → IsScopeOver (IsOf o n) slots → IsScopeOver (IsOf (with_quantifiers o n f) (n + quantifiers f)) slots
past_scope f o n slots q =
    wider_scope o (with_quantifiers o n f) n (n + quantifiers f) (record { same = λ i h. quantifiers_below f o n i h; more = omega arith }) slots q

-- a scope with a quantifier's slot
bound_scope : (o : ℕ → Sort) (n : ℕ) (s : Sort) (k : Key) (slots : SlotScope) → IsScopeOver (IsOf o n) slots → IsScopeOver (IsOf (with_sort o n s) (n + 1)) ((k, record { number = n; sort = s }) ∷ slots)
bound_scope o n s k slots q = (
  (omega arith, sym (with_sort-here o n s)),
  wider_scope o (with_sort o n s) n (n + 1) (record { same = λ i h. with_sort-below o n s i h; more = omega arith }) slots q,
)

-- the first of two parts, and the second, after a of the quantifiers
first_part : (g : GoalForm) (o o' : ℕ → Sort) (n a b : ℕ) → ((i : ℕ) → i < n + a → o' i ≡ o i) → AllAtoms (AreOf o (n + a)) g → AllAtoms (AreOf o' (n + (a + b))) g
first_part g o o' n a b same h = wider_goal o o' (n + a) (n + (a + b)) (record { same = same; more = omega arith }) g h

second_part : (g : GoalForm) (o : ℕ → Sort) (n a b : ℕ) → AllAtoms (AreOf o ((n + a) + b)) g → AllAtoms (AreOf o (n + (a + b))) g
second_part g o n a b h = wider_goal o o ((n + a) + b) (n + (a + b)) (more_numbers o ((n + a) + b) (n + (a + b)) (omega arith)) g h

-- the body of a quantifier
body : (g : GoalForm) (o : ℕ → Sort) (n a : ℕ) → AllAtoms (AreOf o ((n + 1) + a)) g → AllAtoms (AreOf o (n + (a + 1))) g
body g o n a h = wider_goal o o ((n + 1) + a) (n + (a + 1)) (more_numbers o ((n + 1) + a) (n + (a + 1)) (omega arith)) g h

mutual
  -- the slots of the goal of a formula whose variables are bound have the sorts of their numbers
  sorted_below : (f : Form) (o : ℕ → Sort) (n : ℕ) (slots : SlotScope) → some_below is_unbound_atom (sorts_of slots) f ≡ false → IsScopeOver (IsOf o n) slots
      → AllAtoms (AreOf (with_quantifiers o n f) (n + quantifiers f)) (goal_below slots n f)
  sorted_below (atom a) o n slots u q =
      wider_goal o o n (n + 0) (more_numbers o n (n + 0) (omega arith)) (atom_goal slots a)
      (all_weaker (IsOver (IsOf o n) (IsOf o n)) (AreOf o n) (mention_over (IsOf o n)) (atom_goal slots a) (atom_over (IsOf o n) slots q a u))
  sorted_below always o n slots u q = tt
  sorted_below never o n slots u q = tt
  sorted_below (negation f) o n slots u q = sorted_below f o n slots u q
  sorted_below (every_of fs) o n slots u q = all_sorted_below fs o n slots u q
  sorted_below (some_of fs) o n slots u q = all_sorted_below fs o n slots u q
  sorted_below (implies f g) o n slots u q =
      let v : some_below is_unbound_atom (sorts_of slots) g ≡ false = or_false_right (some_below is_unbound_atom (sorts_of slots) f) _ u in
      let here = with_quantifiers o n f in
      let m = n + quantifiers f in (
        first_part (goal_below slots n f) here (with_quantifiers here m g) n (quantifiers f) (quantifiers g) (quantifiers_below g here m) (sorted_below f o n slots (or_false_left _ _ u) q),
        second_part (goal_below slots m g) (with_quantifiers here m g) n (quantifiers f) (quantifiers g) (sorted_below g here m slots v (past_scope f o n slots q)),
      )
  sorted_below (minus f g) o n slots u q =
      let v : some_below is_unbound_atom (sorts_of slots) g ≡ false = or_false_right (some_below is_unbound_atom (sorts_of slots) f) _ u in
      let here = with_quantifiers o n f in
      let m = n + quantifiers f in (
        first_part (goal_below slots n f) here (with_quantifiers here m g) n (quantifiers f) (quantifiers g) (quantifiers_below g here m) (sorted_below f o n slots (or_false_left _ _ u) q),
        second_part (goal_below slots m g) (with_quantifiers here m g) n (quantifiers f) (quantifiers g) (sorted_below g here m slots v (past_scope f o n slots q)),
      )
  sorted_below (exists s k f) o n slots u q =
      let inner = (k, record { number = n; sort = s }) ∷ slots in
      body (goal_below inner (n + 1) f) (with_quantifiers (with_sort o n s) (n + 1) f) n (quantifiers f) (sorted_below f (with_sort o n s) (n + 1) inner u (bound_scope o n s k slots q))
  sorted_below (forall s k f) o n slots u q =
      let inner = (k, record { number = n; sort = s }) ∷ slots in
      body (goal_below inner (n + 1) f) (with_quantifiers (with_sort o n s) (n + 1) f) n (quantifiers f) (sorted_below f (with_sort o n s) (n + 1) inner u (bound_scope o n s k slots q))

  -- so have those of the goals of a list
  all_sorted_below : (fs : Logics FormAtom) (o : ℕ → Sort) (n : ℕ) (slots : SlotScope) → some_below_of is_unbound_atom (sorts_of slots) fs ≡ false → IsScopeOver (IsOf o n) slots
      → AllAtomsOf (AreOf (with_all_quantifiers o n fs) (n + quantifiers_of fs)) (goals_below slots n fs)
  all_sorted_below none o n slots u q = tt
  all_sorted_below (also f fs) o n slots u q =
      let v : some_below_of is_unbound_atom (sorts_of slots) fs ≡ false = or_false_right (some_below is_unbound_atom (sorts_of slots) f) _ u in
      let here = with_quantifiers o n f in
      let m = n + quantifiers f in (
        first_part (goal_below slots n f) here (with_all_quantifiers here m fs) n (quantifiers f) (quantifiers_of fs) (all_quantifiers_below fs here m) (sorted_below f o n slots (or_false_left _ _ u) q),
        second_part (every_of (goals_below slots m fs)) (with_all_quantifiers here m fs) n (quantifiers f) (quantifiers_of fs) (all_sorted_below fs here m slots v (past_scope f o n slots q)),
      )

-- ---- headings

-- the scope of a heading
heading_over : (o : ℕ → Sort) (n : ℕ) (h : List Column) → IsScopeOver (IsOf (with_columns o n h) (n + length h)) (heading_scope n h)
heading_over o n [] = tt
heading_over o n (c ∷ cs) =
    let here = with_sort o n c.sort in
    let all = with_columns here (n + 1) cs in (
      (omega arith, sym (columns_below here (n + 1) cs n (omega arith) ∙ with_sort-here o n c.sort)),
      wider_scope all all ((n + 1) + length cs) (n + length (c ∷ cs)) (more_numbers all ((n + 1) + length cs) (n + length (c ∷ cs)) (omega arith)) (heading_scope (n + 1) cs) (heading_over here (n + 1) cs),
    )

-- the sorts of the numbers of a formula's slots over a heading
abbrev pub goal_sort : List Column → Form → ℕ → Sort
goal_sort h f = with_quantifiers (with_columns (λ i. Rat) 0 h) (length h) f

-- the slots of the goal of a formula whose variables are bound have them
pub goal_sorts : (h : List Column) (f : Form) → has_unbound h f ≡ false → AllAtoms (HasSortsBy (goal_sort h f)) (goal_of h f)
unfolding goal_of
goal_sorts h f u =
    let o = with_columns (λ i. Rat) 0 h in
    let scope = wider_scope o o (0 + length h) (length h) (more_numbers o (0 + length h) (length h) (omega arith)) (heading_scope 0 h) (heading_over (λ i. Rat) 0 h) in
    all_weaker (AreOf (goal_sort h f) (length h + quantifiers f)) (HasSortsBy (goal_sort h f)) (λ a k s m. (k s m).1) (goal_below (heading_scope 0 h) (length h) f)
    (sorted_below f o (length h) (heading_scope 0 h) (ap (λ s. some_below is_unbound_atom s f) (sorts_of-heading 0 h) ∙ u) scope)
