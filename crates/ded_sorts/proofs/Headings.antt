-- The points that a list of values makes of a heading, at its names and at its slots, agree in its scope.
--
-- A column counts at its name where no other column has that name, and at its slot since the slots' numbers ascend. So each
-- name of the heading has at both points the value of its column, or none where the list is too short (`column_same`).
use Rattle.std.proofs.Common.{◌≡◌, ℕ, ◌+◌, ◌≤◌, ◌<◌, Bool, true, false, cond, is_none, Some, unwrap_or, List, [], ◌∷◌, length, arith, refl, sym, ap, ◌∙◌, true≢false, bytes_eq}
use Rattle.std.specs.Prelude.{◌↔◌}
use Rattle.std.specs.List.{list_any}
use Rattle.std.proofs.lemmas.Slice.Eq.{bytes_eq-Decides}
use Rattle.ded_num.proofs.Tests.{bytes_eq-swap}
use Rattle.ded_model.specs.declared.slot.Slot.{Slot}
use Rattle.ded_model.specs.declared.slot.Sort.{Sort}
use Rattle.ded_model.specs.declared.slot.Sort.TheVariants.{Rat, Text}
use Rattle.ded_model.specs.declared.name.Column.{Column}
use Rattle.ded_model.specs.Point.{slot, name, Value, absent, last_from, as_number, as_text, same_key, number_at, text_at}
use Rattle.ded_model.specs.Logic.{Sat, some_below}
use Rattle.ded_model.specs.Form.{Form}
use Rattle.ded_model.specs.Goal.{GoalAtomHolds}
use Rattle.ded_model.specs.Value.{Argument, Meaning}
use Rattle.ded_model.specs.Catalogue.{AtomHolds, argument_coordinate, at_slots, at_names}
use Rattle.ded_model.specs.Slotted.{nearest, slot_of, heading_scope, goal_of}
use Rattle.ded_model.specs.Known.{KnownNames, has_twice, has_unbound, has_missorted, scope_of, is_unbound_name, is_unbound_atom, is_missorted_atom}
use Rattle.ded_model.proofs.Points.{same_key_refl, cond_true, cond_false}
use Rattle.ded_sorts.proofs.Scopes.{sorts_of, no_slot, older_slot, newer_slot, IsOnlyOf, Agrees}
use Rattle.ded_sorts.proofs.Meanings.{goal_means}
use Rattle.ded_model.proofs.Bools.{or_false_left, or_false_right}

-- the scope of a heading has the heading's sorts
pub sorts_of-heading : (i : ℕ) (h : List Column) → sorts_of (heading_scope i h) ≡ scope_of h
sorts_of-heading i [] = refl
sorts_of-heading i (c ∷ cs) = ap (λ s. (name c.name, c.sort) ∷ s) (sorts_of-heading (i + 1) cs)

-- ---- coordinates of other keys

-- a name that no column has
other_names : (cs : List Column) (xs : List Argument) (v : Value) (x : List ℕ) → list_any (λ d. bytes_eq x d.name) cs ≡ false → last_from v (at_names cs xs) (name x) ≡ v
other_names [] xs v x h = refl
other_names (c ∷ cs) [] v x h = refl
other_names (c ∷ cs) (a ∷ xs) v x h =
    ap (λ w. last_from w (at_names cs xs) (name x)) (cond_false (bytes_eq x c.name) (argument_coordinate c.sort a) v (or_false_left _ _ h))
    ∙ other_names cs xs v x (or_false_right (bytes_eq x c.name) _ h)

-- a slot below those of all columns
other_slots : (i : ℕ) (cs : List Column) (xs : List Argument) (v : Value) (u : Slot) → u.number < i → last_from v (at_slots i cs xs) (slot u) ≡ v
other_slots i [] xs v u h = refl
other_slots i (c ∷ cs) [] v u h = refl
other_slots i (c ∷ cs) (a ∷ xs) v u h =
    ap (λ w. last_from w (at_slots (i + 1) cs xs) (slot u)) (cond_false (same_key (slot u) (slot (record { number = i; sort = c.sort }))) (argument_coordinate c.sort a) v (older_slot u i c.sort h))
    ∙ other_slots (i + 1) cs xs v u (omega (arith, h))

-- ---- columns

-- a value of the sort
abbrev IsValueOf : Sort → Value → Type 0
IsValueOf s v = IsOnlyOf s (as_number v) (as_text v)

-- an argument as a coordinate
argument_only : (s : Sort) (a : Argument) → IsValueOf s (argument_coordinate s a)
argument_only Rat a = refl
argument_only Text a = refl

-- an absent coordinate is of either sort
absent_only : (s : Sort) → IsValueOf s absent
absent_only Rat = refl
absent_only Text = refl

-- a name of a heading, of slots from i on, has one value in both lists of coordinates
record ColumnSame (i : ℕ) (h : List Column) (xs : List Argument) (x : List ℕ) (u : Slot) : Type 0 where
  from : i ≤ u.number
  below : u.number < i + length h
  value : last_from absent (at_names h xs) (name x) ≡ last_from absent (at_slots i h xs) (slot u)
  only : IsValueOf u.sort (last_from absent (at_slots i h xs) (slot u))

-- the value of the first column, where it is the name's own
first_names : (c : Column) (cs : List Column) (a : Argument) (xs : List Argument) (x : List ℕ) → bytes_eq c.name x ≡ true → list_any (λ d. bytes_eq c.name d.name) cs ≡ false
    → last_from absent (at_names (c ∷ cs) (a ∷ xs)) (name x) ≡ argument_coordinate c.sort a
first_names c cs a xs x e h =
    other_names cs xs _ x (ap (λ y. list_any (λ d. bytes_eq y d.name) cs) (sym ((bytes_eq-Decides c.name x).0 e)) ∙ h)
    ∙ cond_true (bytes_eq x c.name) (argument_coordinate c.sort a) absent (bytes_eq-swap x c.name ∙ e)

-- and at its slot
first_slots : (i : ℕ) (c : Column) (cs : List Column) (a : Argument) (xs : List Argument)
    → last_from absent (at_slots i (c ∷ cs) (a ∷ xs)) (slot (record { number = i; sort = c.sort })) ≡ argument_coordinate c.sort a
first_slots i c cs a xs =
    let u : Slot = record { number = i; sort = c.sort } in
    other_slots (i + 1) cs xs _ u (omega arith) ∙ cond_true (same_key (slot u) (slot u)) (argument_coordinate c.sort a) absent (same_key_refl (slot u))

-- the first column
first_same : (i : ℕ) (c : Column) (cs : List Column) (xs : List Argument) (x : List ℕ) → bytes_eq c.name x ≡ true → list_any (λ d. bytes_eq c.name d.name) cs ≡ false
    → ColumnSame i (c ∷ cs) xs x (record { number = i; sort = c.sort })
first_same i c cs [] x e h = record { from = omega arith; below = omega arith; value = refl; only = absent_only c.sort }
first_same i c cs (a ∷ xs) x e h = record {
  from = omega arith;
  below = omega arith;
  value = first_names c cs a xs x e h ∙ sym (first_slots i c cs a xs);
  only = rw (first_slots i c cs a xs) (argument_only c.sort a);
}

-- a later column
later_same : (i : ℕ) (c : Column) (cs : List Column) (xs : List Argument) (x : List ℕ) (u : Slot) → bytes_eq c.name x ≡ false
    → ((ys : List Argument) → ColumnSame (i + 1) cs ys x u) → ColumnSame i (c ∷ cs) xs x u
later_same i c cs [] x u e s =
    let r = s [] in record { from = omega (arith, r.from); below = omega (arith, r.below); value = refl; only = absent_only u.sort }
later_same i c cs (a ∷ xs) x u e s =
    let r = s xs in
    let names : last_from absent (at_names (c ∷ cs) (a ∷ xs)) (name x) ≡ last_from absent (at_names cs xs) (name x) =
    ap (λ w. last_from w (at_names cs xs) (name x)) (cond_false (bytes_eq x c.name) (argument_coordinate c.sort a) absent (bytes_eq-swap x c.name ∙ e)) in
    let slots : last_from absent (at_slots i (c ∷ cs) (a ∷ xs)) (slot u) ≡ last_from absent (at_slots (i + 1) cs xs) (slot u) =
    ap (λ w. last_from w (at_slots (i + 1) cs xs) (slot u)) (cond_false (same_key (slot u) (slot (record { number = i; sort = c.sort }))) (argument_coordinate c.sort a) absent (newer_slot u i c.sort (omega (arith, r.from)))) in
    record { from = omega (arith, r.from); below = omega (arith, r.below); value = names ∙ r.value ∙ sym slots; only = rw slots r.only }

-- each name that the heading has
column_same : (h : List Column) (i : ℕ) (x : List ℕ) → has_twice h ≡ false → is_unbound_name (scope_of h) x ≡ false → (xs : List Argument) → ColumnSame i h xs x (slot_of (heading_scope i h) x)
column_same [] i x t b xs = absurd (true≢false b)
column_same (c ∷ cs) i x t b xs = step (bytes_eq c.name x) refl b (λ k ys. column_same cs (i + 1) x (or_false_right (list_any (λ d. bytes_eq c.name d.name) cs) _ t) k ys)
  where
    step : (e : Bool) → bytes_eq c.name x ≡ e → is_none (cond e (Some c.sort) (nearest (scope_of cs) (name x))) ≡ false
        → (is_unbound_name (scope_of cs) x ≡ false → (ys : List Argument) → ColumnSame (i + 1) cs ys x (slot_of (heading_scope (i + 1) cs) x))
        → ColumnSame i (c ∷ cs) xs x (unwrap_or (cond e (Some (record { number = i; sort = c.sort })) (nearest (heading_scope (i + 1) cs) (name x))) no_slot)
    step true e h rest = first_same i c cs xs x e (or_false_left _ _ t)
    step false e h rest = later_same i c cs xs x _ e (rest h)

-- ---- points

-- the two points agree
pub headings_agree : (h : List Column) (xs : List Argument) (d : ℕ) → 0 < d → has_twice h ≡ false
    → Agrees (heading_scope 0 h) (length h) (record { den = d; coords = at_names h xs }) (record { den = d; coords = at_slots 0 h xs })
unfolding number_at text_at
headings_agree h xs d i t = record {
  positive = i;
  den = refl;
  each = λ x b.
      let r = column_same h 0 x t (ap (λ s. is_none (nearest s (name x))) (sym (sorts_of-heading 0 h)) ∙ b) xs in
      record { below = omega (arith, r.below); number = ap as_number r.value; text = ap as_text r.value; only = r.only };
}

-- so a goal holds of the values at its slots where the formula does of them at its names, whatever the names of relations mean
pub goals_mean : (I : Meaning) (K : KnownNames) (h : List Column) (f : Form) → has_twice h ≡ false → has_unbound h f ≡ false → has_missorted K h f ≡ false
    → (d : ℕ) (xs : List Argument) → 0 < d
    → Sat (AtomHolds I) f (record { den = d; coords = at_names h xs }) ↔ Sat (GoalAtomHolds I) (goal_of h f) (record { den = d; coords = at_slots 0 h xs })
unfolding goal_of
goals_mean I K h f t u m d xs i =
    goal_means I K f (heading_scope 0 h) (length h) _ _ (headings_agree h xs d i t)
    (ap (λ s. some_below is_unbound_atom s f) (sorts_of-heading 0 h) ∙ u) (ap (λ s. some_below (is_missorted_atom K) s f) (sorts_of-heading 0 h) ∙ m)
