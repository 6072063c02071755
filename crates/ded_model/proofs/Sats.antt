-- A formula, a goal and a plan hold alike at points that have the same values at the keys that they mention freely.
--
-- What the names mean respects values (`Respects`): over another denominator the same arguments mean the same. This goes
-- from each entry to the next. A relation reads its arguments as coordinates of a point, which is the same point for the
-- same arguments, and its tuples hold alike there. So does a view's formula, over names that respect values, since with
-- them its atoms do. Then the atoms of any formula, goal and plan over the catalogue do.
use Rattle.std.proofs.Common.{◌≡◌, ℕ, ◌+◌, ◌*◌, ◌<◌, Bool, true, false, cond, List, [], ◌∷◌, refl, sym, ◌∙◌, subst, bytes_eq, mul-pos}
use Rattle.std.specs.Prelude.{pos, ◌*ℤ◌, IsTrue, MatchBool}
use Rattle.std.proofs.Math.IntN.{zero-*ℤ}
use Rattle.ded_model.specs.declared.slot.Slot.{Slot}
use Rattle.ded_model.specs.declared.slot.Sort.{Sort}
use Rattle.ded_model.specs.declared.slot.Sort.TheVariants.{Rat, Text}
use Rattle.ded_model.specs.declared.name.Column.{Column}
use Rattle.ded_model.specs.Form.{Form, FormAtom, compare, member}
use Rattle.ded_model.specs.Goal.{GoalForm, GoalAtom, linear, theme, GoalAtomHolds, goal_atom_mentions, in_goal_atom, goal_mentions, place_mentions}
use Rattle.ded_model.specs.Goal as goal
use Rattle.ded_model.specs.PlanForm.{PlanForm, PlanAtom, scan, rows, PlanAtomHolds, plan_atom_mentions, in_plan_atom, plan_mentions}
use Rattle.ded_model.specs.Point.{Key, slot, name, Value, Point, IsSameAt, absent, last_from, as_number, as_text, number_at, text_at, same_key, same_slot}
use Rattle.ded_model.specs.Value.{OperandValue, operand_value, slot_value, place_value, Argument, overs, arguments, Meaning, NameHolds}
use Rattle.ded_model.specs.Catalogue.{Entry, relation, view, Catalogue, entry_name, tuples_of, argument_coordinate, at_slots, at_names, AtomHolds, read, entry_meaning, with_entry, meaning_from, stored, meaning, Holds, GoalHolds, PlanHolds, GivenHolds, in_operand, in_atom, form_mentions}
use Rattle.ded_model.proofs.Points.{same_slot_refl}
use Rattle.ded_model.proofs.Logics.{RespectsValues, Sat-same}
use Rattle.ded_model.specs.Made.{reading}
use Rattle.ded_model.proofs.Nearness.{read_as-same}
use Rattle.ded_model.proofs.Rows.{row_holds-same, theme_holds-same, tuple_holds-same, tuples_hold-same}
use Rattle.ded_model.proofs.Values.{compare_holds-same, operand_value-same, slot_value-same, place_value-same, AreSameValues, AreSameArguments, overs-same, arguments-same, map-same, overs-positive, operand_value-positive, slot_value-positive, place_value-positive}

-- ---- meanings that respect the same values

-- the same arguments mean the same over any denominators
pub record Respects (I : Meaning) : Type 0 where
  pub keeps : (n : List ℕ) (d d' : ℕ) (xs ys : List Argument) → 0 < d → 0 < d' → AreSameArguments d d' xs ys → I n d xs → I n d' ys

-- a name holds alike of the same values
pub NameHolds-same : (I : Meaning) → Respects I → (n : List ℕ) (d d' : ℕ) (vs ws : List OperandValue) → 0 < d → 0 < d' → 0 < overs vs → AreSameValues d d' vs ws
    → NameHolds I n d vs → NameHolds I n d' ws
NameHolds-same I R n d d' vs ws i j o h s =
    R.keeps n (d * overs vs) (d' * overs ws) (arguments vs) (arguments ws) (mul-pos i o) (mul-pos j (subst (λ m. 0 < m) (overs-same d d' vs ws h) o)) (arguments-same d d' vs ws h) s

-- ---- atoms

-- an atom of a formula holds alike
pub AtomHolds-respects : (I : Meaning) → Respects I → RespectsValues (AtomHolds I) in_atom
AtomHolds-respects I R = record { keeps = λ a p q i j h s. kept a p q i j h s }
  where
    kept : (a : FormAtom) (p q : Point) → 0 < p.den → 0 < q.den → ((k : Key) → in_atom a k ≡ true → IsSameAt p q k) → AtomHolds I a p → AtomHolds I a q
    kept (compare l op r) p q i j h s = subst IsTrue (compare_holds-same l op r p q i j h) s
    kept (member n ts) p q i j h s =
        NameHolds-same I R n p.den q.den _ _ i j (overs-positive (λ t. operand_value t p) (operand_value-positive p) ts)
        (map-same operand_value (λ k. k) in_operand p q (λ t e. operand_value-same t p q e) ts h) s

-- an atom of a goal holds alike
pub GoalAtomHolds-respects : (I : Meaning) → Respects I → RespectsValues (GoalAtomHolds I) in_goal_atom
GoalAtomHolds-respects I R = record { keeps = λ a p q i j h s. kept a p q i j (λ u e. h (slot u) e) s }
  where
    kept : (a : GoalAtom) (p q : Point) → 0 < p.den → 0 < q.den → ((u : Slot) → goal_atom_mentions a u ≡ true → IsSameAt p q (slot u)) → GoalAtomHolds I a p → GoalAtomHolds I a q
    kept (linear r) p q i j h s = subst IsTrue (row_holds-same r p q i j h) s
    kept (theme a) p q i j h s = subst IsTrue (theme_holds-same a p q h) s
    kept (goal.member n ts) p q i j h s =
        NameHolds-same I R n p.den q.den _ _ i j (overs-positive (λ t. place_value t p) (place_value-positive p) ts)
        (map-same place_value slot place_mentions p q (λ t e. place_value-same t p q e) ts h) s

-- a scan and a list of atoms hold alike
pub PlanAtomHolds-respects : (I : Meaning) → Respects I → RespectsValues (PlanAtomHolds I) in_plan_atom
PlanAtomHolds-respects I R = record { keeps = λ a p q i j h s. kept a p q i j (λ u e. h (slot u) e) s }
  where
    kept : (a : PlanAtom) (p q : Point) → 0 < p.den → 0 < q.den → ((u : Slot) → plan_atom_mentions a u ≡ true → IsSameAt p q (slot u)) → PlanAtomHolds I a p → PlanAtomHolds I a q
    kept (scan n ss) p q i j h s =
        NameHolds-same I R n p.den q.den _ _ i j (overs-positive (slot_value p) (slot_value-positive p) ss)
        (map-same (λ t r. slot_value r t) slot same_slot p q (λ t e. slot_value-same t p q (e t (same_slot_refl t))) ss h) s
    kept (rows t) p q i j h s = subst IsTrue (tuple_holds-same t p q i j h) s

-- ---- made names

-- closures and interiors of what respects values respect them
pub read-respects : (I : Meaning) → Respects I → Respects (read I)
read-respects I R = record { keeps = λ n d d' xs ys i j same. read_as-same I n (reading n) d d' xs ys i j same (R.keeps n d d' xs ys i j same) }

-- ---- entries

-- a coordinate of the same value over the denominators d and d'
SameCoordinate : ℕ → ℕ → Value → Value → Type 0
SameCoordinate d d' v w = (as_number v *ℤ pos d' ≡ as_number w *ℤ pos d) × (as_text v ≡ as_text w)

-- an argument as a coordinate
same_coordinate : (s : Sort) (d d' : ℕ) (a b : Argument) → a.0 *ℤ pos d' ≡ b.0 *ℤ pos d → a.1 ≡ b.1 → SameCoordinate d d' (argument_coordinate s a) (argument_coordinate s b)
unfolding SameCoordinate
same_coordinate Rat d d' a b e t = (e, refl)
same_coordinate Text d d' a b e t = (zero-*ℤ (pos d') ∙ sym (zero-*ℤ (pos d)), t)

-- an absent coordinate
same_absent : (d d' : ℕ) → SameCoordinate d d' absent absent
unfolding SameCoordinate
same_absent d d' = (zero-*ℤ (pos d') ∙ sym (zero-*ℤ (pos d)), refl)

-- a choice
either_coordinate : (d d' : ℕ) (b : Bool) (v w x y : Value) → SameCoordinate d d' v x → SameCoordinate d d' w y → SameCoordinate d d' (cond b v w) (cond b x y)
either_coordinate d d' true v w x y e f = e
either_coordinate d d' false v w x y e f = f

-- the arguments at slots
at_slots-same : (i : ℕ) (h : List Column) (d d' : ℕ) (xs ys : List Argument) → AreSameArguments d d' xs ys → (v w : Value) → SameCoordinate d d' v w → (k : Key)
    → SameCoordinate d d' (last_from v (at_slots i h xs) k) (last_from w (at_slots i h ys) k)
at_slots-same i [] d d' xs ys e v w s k = s
at_slots-same i (c ∷ cs) d d' [] [] e v w s k = s
at_slots-same i (c ∷ cs) d d' [] (y ∷ ys) e v w s k = absurd e
at_slots-same i (c ∷ cs) d d' (x ∷ xs) [] e v w s k = absurd e
at_slots-same i (c ∷ cs) d d' (x ∷ xs) (y ∷ ys) e v w s k =
    at_slots-same (i + 1) cs d d' xs ys e.2 _ _ (either_coordinate d d' (same_key k (slot (record { number = i; sort = c.sort }))) _ _ _ _ (same_coordinate c.sort d d' x y e.0 e.1) s) k

-- the arguments at names
at_names-same : (h : List Column) (d d' : ℕ) (xs ys : List Argument) → AreSameArguments d d' xs ys → (v w : Value) → SameCoordinate d d' v w → (k : Key)
    → SameCoordinate d d' (last_from v (at_names h xs) k) (last_from w (at_names h ys) k)
at_names-same [] d d' xs ys e v w s k = s
at_names-same (c ∷ cs) d d' [] [] e v w s k = s
at_names-same (c ∷ cs) d d' [] (y ∷ ys) e v w s k = absurd e
at_names-same (c ∷ cs) d d' (x ∷ xs) [] e v w s k = absurd e
at_names-same (c ∷ cs) d d' (x ∷ xs) (y ∷ ys) e v w s k =
    at_names-same cs d d' xs ys e.2 _ _ (either_coordinate d d' (same_key k (name c.name)) _ _ _ _ (same_coordinate c.sort d d' x y e.0 e.1) s) k

-- so the points that they make are the same
same_at : (p q : Point) (k : Key) → SameCoordinate p.den q.den (last_from absent p.coords k) (last_from absent q.coords k) → IsSameAt p q k
unfolding SameCoordinate number_at text_at
same_at p q k e = record { number = e.0; text = e.1 }

-- an entry over names that respect values respects them
entry-respects : (I : Meaning) → Respects I → (e : Entry) (d d' : ℕ) (xs ys : List Argument) → 0 < d → 0 < d' → AreSameArguments d d' xs ys → entry_meaning I e d xs → entry_meaning I e d' ys
entry-respects I R (relation n h m ts) d d' xs ys i j e s =
    let p : Point = record { den = d; coords = at_slots 0 h xs } in
    let q : Point = record { den = d'; coords = at_slots 0 h ys } in
    subst IsTrue (tuples_hold-same (tuples_of ts) p q i j (λ u _. same_at p q (slot u) (at_slots-same 0 h d d' xs ys e absent absent (same_absent d d') (slot u)))) s
entry-respects I R (view n h f) d d' xs ys i j e s =
    let p : Point = record { den = d; coords = at_names h xs } in
    let q : Point = record { den = d'; coords = at_names h ys } in
    Sat-same (AtomHolds (read I)) in_atom (AtomHolds-respects (read I) (read-respects I R)) f p q i j (λ k _. same_at p q k (at_names-same h d d' xs ys e absent absent (same_absent d d') k)) s

-- ---- catalogues

-- a choice of two facts
choose : (b : Bool) (A B A' B' : Type 0) → (A → A') → (B → B') → MatchBool b A B → MatchBool b A' B'
choose true A B A' B' f g h = f h
choose false A B A' B' f g h = g h

-- one entry more
pub with_entry-respects : (I : Meaning) → Respects I → (e : Entry) → Respects (with_entry I e)
with_entry-respects I R e = record {
  keeps = λ n d d' xs ys i j same. choose (bytes_eq n (entry_name e)) _ _ _ _ (entry-respects I R e d d' xs ys i j same) (R.keeps n d d' xs ys i j same);
}

-- all entries
meaning_from-respects : (es : List Entry) (I : Meaning) → Respects I → Respects (meaning_from I es)
meaning_from-respects [] I R = R
meaning_from-respects (e ∷ es) I R = meaning_from-respects es (with_entry I e) (with_entry-respects I R e)

-- so the entries of a catalogue respect values
pub stored-respects : (c : Catalogue) → Respects (stored c)
unfolding stored
stored-respects c = meaning_from-respects c.entries (λ n d xs. ⊥) (record { keeps = λ n d d' xs ys i j same h. h })

-- and all names
pub meaning-respects : (c : Catalogue) → Respects (meaning c)
unfolding meaning
meaning-respects c = read-respects (stored c) (stored-respects c)

-- ---- the laws

-- over any catalogue, what the atoms of each kind owe
pub form_respects : (c : Catalogue) → RespectsValues (AtomHolds (meaning c)) in_atom
form_respects c = AtomHolds-respects (meaning c) (meaning-respects c)

pub goal_respects : (c : Catalogue) → RespectsValues (GoalAtomHolds (meaning c)) in_goal_atom
goal_respects c = GoalAtomHolds-respects (meaning c) (meaning-respects c)

pub plan_respects : (c : Catalogue) → RespectsValues (PlanAtomHolds (meaning c)) in_plan_atom
plan_respects c = PlanAtomHolds-respects (meaning c) (meaning-respects c)

-- and over given relations
pub given_respects : (c : Catalogue) → RespectsValues (PlanAtomHolds (stored c)) in_plan_atom
given_respects c = PlanAtomHolds-respects (stored c) (stored-respects c)

-- formulas
pub Holds-same : (c : Catalogue) (f : Form) (p q : Point) → 0 < p.den → 0 < q.den → ((k : Key) → form_mentions f k ≡ true → IsSameAt p q k) → Holds c f p → Holds c f q
Holds-same c f p q i j h s = Sat-same (AtomHolds (meaning c)) in_atom (form_respects c) f p q i j h s

-- goals
pub GoalHolds-same : (c : Catalogue) (g : GoalForm) (p q : Point) → 0 < p.den → 0 < q.den → ((k : Key) → goal_mentions g k ≡ true → IsSameAt p q k) → GoalHolds c g p → GoalHolds c g q
GoalHolds-same c g p q i j h s = Sat-same (GoalAtomHolds (meaning c)) in_goal_atom (goal_respects c) g p q i j h s

-- plans
pub PlanHolds-same : (c : Catalogue) (f : PlanForm) (p q : Point) → 0 < p.den → 0 < q.den → ((k : Key) → plan_mentions f k ≡ true → IsSameAt p q k) → PlanHolds c f p → PlanHolds c f q
PlanHolds-same c f p q i j h s = Sat-same (PlanAtomHolds (meaning c)) in_plan_atom (plan_respects c) f p q i j h s

-- plans over given relations
pub GivenHolds-same : (c : Catalogue) (f : PlanForm) (p q : Point) → 0 < p.den → 0 < q.den → ((k : Key) → plan_mentions f k ≡ true → IsSameAt p q k) → GivenHolds c f p → GivenHolds c f q
GivenHolds-same c f p q i j h s = Sat-same (PlanAtomHolds (stored c)) in_plan_atom (given_respects c) f p q i j h s
