-- The lines of goals and plans mention only rational slots that the goals and plans mention freely.
--
-- Of an atom of a name: renaming reads columns at rational slots of its arguments alone, and the rows of the counting
-- arguments are over new slots and the slots of the arguments (`IsTied`). The new slots are eliminated, so those that the
-- arguments mention are left. The law on formulas does the rest.
use Rattle.std.proofs.Common.{◌≡◌, ℕ, zero, suc, Bool, true, false, not, ◌&&◌, ◌||◌, cond, List, [], ◌∷◌, ◌++◌, ◌⊎◌, inl, inr, refl, sym, ◌∙◌, ap, subst, true≢false}
use Rattle.std.specs.Prelude.{ℤ, pos}
use lib.IntN.{neg_ℤ}
use Rattle.std.specs.List.{list_any}
use Rattle.ded_model.specs.declared.slot.Slot.{Slot}
use Rattle.ded_model.specs.declared.slot.Sort.{Sort}
use Rattle.ded_model.specs.declared.slot.Sort.TheVariants.{Rat, Text}
use Rattle.ded_model.specs.declared.goal.Place.{Place}
use Rattle.ded_model.specs.declared.goal.Place.TheVariants.{At, Value, Quoted}
use Rattle.ded_model.specs.declared.row.RowOp.TheVariants.{Zero}
use Rattle.ded_model.specs.declared.tuple.BothAtom.TheVariants.{First, Second}
use Rattle.ded_model.specs.Constraint.{LinearConstraint}
use Rattle.ded_model.specs.Point.{Key, slot, same_key, same_slot, same_sort, stands_in}
use Rattle.ded_model.specs.Row.{Atom, row_mentions, atom_mentions, tuple_mentions, at_slot}
use Rattle.ded_model.specs.Sum.{SlotSum, denominator}
use Rattle.ded_model.specs.Coefs.{AreCoefs, put, put_all}
use Rattle.ded_model.specs.Normal.{divisor_of, normal_row, normal_with}
use Rattle.ded_model.specs.Logic.{IsSorted}
use Rattle.ded_model.specs.Goal.{GoalAtom, linear, theme, member, GoalForm, place_mentions, in_goal_atom, goal_mentions}
use Rattle.ded_model.specs.PlanForm.{PlanAtom, scan, rows, PlanForm, in_plan_atom, plan_mentions}
use Rattle.ded_model.specs.Scanned.{Scanned, kept, fresh, argument_row, of_slot, same_atom, scanned_after, scanned, first_free, scanned_slots, tied_atoms, fresh_slots}
use Rattle.ded_model.specs.Lines.{Line, In, row_lines, atoms_lines, put_at, renamed_coefs, renamed_lines, elim_past_all}
use Rattle.ded_model.specs.Measure.{Measures, scanned_lines, goal_atom_lines, goal_lines, plan_atom_lines, plan_lines}
use Rattle.ded_model.specs.Rational.{AreRationalCoefs, AreRationalPlaces, AreRationalAtoms, IsRationalGoalAtom, IsRationalPlanAtom, IsRationalGoal, IsRationalPlan}
use Rattle.ded_model.proofs.Points.{same_slot_is, same_slot_refl, and_left, and_right}
use Rattle.ded_model.proofs.Rows.{or_left, or_right}
use Rattle.ded_model.proofs.Members.{In-split, or_split}
use Rattle.ded_model.proofs.Growth.{renamed-In}
use Rattle.ded_model.proofs.LineSlots.{has_slot, over_slots, put_slots, put_all_slots, line_slots, AreOver}
use Rattle.ded_laws.proofs.LineFree.{is_rat, free_in, over_past, lines_over}
use Rattle.std.proofs.lemmas.Bool.{and_from}

-- ---- rational slots

-- a slot of the sort Rat is rational, and back
rational : (s : Slot) → s.sort ≡ Rat → is_rat s ≡ true
rational s e = ap (λ x. same_sort x Rat) e

-- and back
rational_is : (s : Slot) → is_rat s ≡ true → s.sort ≡ Rat
rational_is s h = go s.sort h
  where
    go : (x : Sort) → same_sort x Rat ≡ true → x ≡ Rat
    go Rat h = refl
    go Text h = absurd (true≢false (sym h))

-- a slot that is the same as a rational one
same_rational : (s t : Slot) → s.sort ≡ Rat → same_slot s t ≡ true → is_rat t ≡ true
same_rational s t e h = rational t (subst (λ (u : Slot). u.sort ≡ Rat) (same_slot_is s t h) e)

-- a slot of rational coefficients
coefs_rational : (cs : List (Slot × ℤ)) (t : Slot) → AreRationalCoefs cs → has_slot cs t ≡ true → is_rat t ≡ true
coefs_rational [] t r h = absurd (true≢false (sym h))
coefs_rational (c ∷ cs) t r h = elim (or_split (same_slot c.0 t) _ h) [ inl x ↦ same_rational c.0 t r.0 x | inr x ↦ coefs_rational cs t r.1 x ]

-- what the coefficients of a value keep says that they are rational
pub AreCoefs-rational : (cs : List (Slot × ℤ)) → AreCoefs cs → AreRationalCoefs cs
AreCoefs-rational [] h = tt
AreCoefs-rational (c ∷ cs) h = (h.0, AreCoefs-rational cs h.4)

-- ---- rows

-- the line of a row mentions its slots
row_slots : (r : LinearConstraint) (l : Line) (t : Slot) → In l (row_lines r) → row_mentions l t ≡ true → has_slot r.coefs t ≡ true
row_slots r l t i m = line_slots r.coefs r.constant l t i m

-- the normal row mentions slots of the row
normal_slots : (r : LinearConstraint) (t : Slot) → has_slot (normal_row r).coefs t ≡ true → has_slot r.coefs t ≡ true
unfolding normal_row
normal_slots r t h = go r.coefs refl h
  where
    go : (cs : List (Slot × ℤ)) → r.coefs ≡ cs → has_slot (normal_with r cs).coefs t ≡ true → has_slot r.coefs t ≡ true
    go [] e h = absurd (true≢false (sym h))
    go (c ∷ cs) e h = sym (over_slots (divisor_of r.op r.constant (c ∷ cs)) r.coefs t) ∙ h

-- the row of an argument mentions the new slot and those of the sum
argument_slots : (u : Slot) (s : SlotSum) (l : Line) (t : Slot) → In l (row_lines (argument_row u s)) → row_mentions l t ≡ true → (same_slot u t ≡ true) ⊎ (has_slot s.coefs t ≡ true)
argument_slots u s l t i m =
    let cs = put_all (neg_ℤ (pos 1)) s.coefs [] in
    let r : LinearConstraint = record { coefs = put u (pos (denominator s.over)) cs; constant = neg_ℤ s.constant; op = Zero } in
    elim (put_slots u (pos (denominator s.over)) cs t (normal_slots r t (row_slots (normal_row r) l t i m))) [
      | inl x ↦ inl x
      | inr x ↦ elim (put_all_slots (neg_ℤ (pos 1)) s.coefs [] t x) [ inl y ↦ inr y | inr y ↦ absurd (true≢false (sym y)) ]
    ]

-- ---- renamed lines

-- a coefficient at the i-th slot
put_at_slots : (ss : List Slot) (i : ℕ) (a : ℤ) (cs : List (Slot × ℤ)) (t : Slot) → has_slot (put_at ss i a cs) t ≡ true → ((stands_in ss t ≡ true) × (is_rat t ≡ true)) ⊎ (has_slot cs t ≡ true)
put_at_slots [] i a cs t h = inr h
put_at_slots (s ∷ ss) zero a cs t h = go (same_sort s.sort Rat) refl h
  where
    go : (b : Bool) → same_sort s.sort Rat ≡ b → has_slot (cond b (put s a cs) cs) t ≡ true → ((stands_in (s ∷ ss) t ≡ true) × (is_rat t ≡ true)) ⊎ (has_slot cs t ≡ true)
    go true e h = elim (put_slots s a cs t h) [ inl x ↦ inl (or_left _ _ x, same_rational s t (rational_is s e) x) | inr x ↦ inr x ]
    go false e h = inr h
put_at_slots (s ∷ ss) (suc i) a cs t h = elim (put_at_slots ss i a cs t h) [ inl x ↦ inl (or_right (same_slot s t) _ x.0, x.1) | inr x ↦ inr x ]

-- all coefficients
renamed_coefs_slots : (ss : List Slot) (cs : List (Slot × ℤ)) (t : Slot) → has_slot (renamed_coefs ss cs) t ≡ true → (stands_in ss t ≡ true) × (is_rat t ≡ true)
renamed_coefs_slots ss [] t h = absurd (true≢false (sym h))
renamed_coefs_slots ss (c ∷ cs) t h = elim (put_at_slots ss c.0.number c.1 (renamed_coefs ss cs) t h) [ inl x ↦ x | inr x ↦ renamed_coefs_slots ss cs t x ]

-- renamed lines mention rational slots of the list
renamed_slots : (ss : List Slot) (ls : List Line) (l : Line) (t : Slot) → In l (renamed_lines ss ls) → row_mentions l t ≡ true → (stands_in ss t ≡ true) × (is_rat t ≡ true)
renamed_slots ss ls l t i m = let r = renamed-In ss ls l i in renamed_coefs_slots ss r.0.coefs t (line_slots (renamed_coefs ss r.0.coefs) r.0.constant l t r.2 m)

-- ---- the arguments of an atom

-- whether some place mentions the slot
abbrev mention : List Place → Slot → Bool
mention ts t = list_any (λ p. place_mentions p t) ts

-- the slots of the scanned arguments, and those of the rows that tie them, are new ones or mentioned by the places
record IsTied (ts : List Place) (gs : List Scanned) : Type 0 where
  slots : (t : Slot) → stands_in (scanned_slots gs) t ≡ true → (mention ts t ≡ true) ⊎ (stands_in (fresh_slots gs) t ≡ true)
  rows : (l : Line) → In l (atoms_lines (tied_atoms gs)) → (t : Slot) → row_mentions l t ≡ true → (is_rat t ≡ true) × ((mention ts t ≡ true) ⊎ (stands_in (fresh_slots gs) t ≡ true))

-- of one argument at a new slot
OfArgument : Place → Slot → Atom → Type 0
OfArgument p u a = (l : Line) → In l (atoms_lines (a ∷ [])) → (t : Slot) → row_mentions l t ≡ true → (is_rat t ≡ true) × ((place_mentions p t ≡ true) ⊎ (same_slot u t ≡ true))

-- the lines of one atom and those of the others
first_line : (a : Atom) (atoms : List Atom) (l : Line) → In l (atoms_lines (a ∷ atoms)) → In l (atoms_lines (a ∷ [])) ⊎ In l (atoms_lines atoms)
first_line (First r) atoms l i = elim (In-split l (row_lines r) (atoms_lines atoms) i) [ inl x ↦ inl (append_none l (row_lines r) x) | inr x ↦ inr x ]
  where
    append_none : (l : Line) (ls : List Line) → In l ls → In l (ls ++ [])
    append_none l [] i = absurd i
    append_none l (m ∷ ms) (inl e) = inl e
    append_none l (m ∷ ms) (inr i) = inr (append_none l ms i)
first_line (Second a) atoms l i = inr i

-- an alternative for a place and a new slot more
more_left : (a b c d : Bool) → (a ≡ true) ⊎ (b ≡ true) → ((a || c) ≡ true) ⊎ ((b || d) ≡ true)
more_left a b c d h = elim h [ inl x ↦ inl (or_left a c x) | inr x ↦ inr (or_left b d x) ]

-- the same of the others
more_right : (a b c d : Bool) → (c ≡ true) ⊎ (d ≡ true) → ((a || c) ≡ true) ⊎ ((b || d) ≡ true)
more_right a b c d h = elim h [ inl x ↦ inl (or_right a c x) | inr x ↦ inr (or_right b d x) ]

-- one argument more, at a new slot
tied_fresh : (p : Place) (u : Slot) (a : Atom) (ts : List Place) (gs : List Scanned) → OfArgument p u a → IsTied ts gs → IsTied (p ∷ ts) (fresh u a ∷ gs)
unfolding OfArgument
tied_fresh p u a ts gs own h = record {
  slots = λ t e. elim (or_split (same_slot u t) _ e) [
    | inl x ↦ inr (or_left _ _ x)
    | inr x ↦ more_right (place_mentions p t) (same_slot u t) _ _ (h.slots t x)
  ];
  rows = λ l i t m. elim (first_line a (tied_atoms gs) l i) [
    | inl x ↦ (let r = own l x t m in (r.0, more_left (place_mentions p t) (same_slot u t) _ _ r.1))
    | inr x ↦ (let r = h.rows l x t m in (r.0, more_right (place_mentions p t) (same_slot u t) _ _ r.1))
  ];
}

-- or at its own slot
tied_kept : (s : Slot) (ts : List Place) (gs : List Scanned) → IsTied ts gs → IsTied (At s ∷ ts) (kept s ∷ gs)
tied_kept s ts gs h = record {
  slots = λ t e. elim (or_split (same_slot s t) _ e) [
    | inl x ↦ inl (or_left _ _ x)
    | inr x ↦ elim (h.slots t x) [ inl y ↦ inl (or_right (same_slot s t) _ y) | inr y ↦ inr y ]
  ];
  rows = λ l i t m. let r = h.rows l i t m in (r.0, elim r.1 [ inl y ↦ inl (or_right (same_slot s t) _ y) | inr y ↦ inr y ]);
}

-- the row of an argument over rational slots
own_row : (p : Place) (n : ℕ) (s : SlotSum) → ((t : Slot) → has_slot s.coefs t ≡ true → (is_rat t ≡ true) × (place_mentions p t ≡ true))
    → OfArgument p (record { number = n; sort = Rat }) (First (argument_row (record { number = n; sort = Rat }) s))
unfolding OfArgument
own_row p n s h l i t m =
    let u : Slot = record { number = n; sort = Rat } in
    elim (In-split l (row_lines (argument_row u s)) [] i) [
      | inl x ↦ elim (argument_slots u s l t x m) [ inl y ↦ (same_rational u t refl y, inr y) | inr y ↦ (let r = h t y in (r.0, inl r.1)) ]
      | inr x ↦ absurd x
    ]

-- an atom of texts has no line
own_text : (p : Place) (n : ℕ) (a : Atom) → atoms_lines (a ∷ []) ≡ [] → OfArgument p (record { number = n; sort = Text }) a
unfolding OfArgument
own_text p n a e l i t m = absurd (subst (λ ls. In l ls) e i)

-- a slot that stands already
own_same : (n : ℕ) (x : Sort) (s : Slot) → s.sort ≡ x → OfArgument (At s) (record { number = n; sort = x }) (same_atom n x s)
own_same n Rat s e = own_row (At s) n (of_slot s) (λ t h. elim (or_split (same_slot s t) false h) [ inl y ↦ (same_rational s t e y, y) | inr y ↦ absurd (true≢false (sym y)) ])
own_same n Text s e = own_text (At s) n (same_atom n Text s) refl

-- a choice of two
tied_choice : (b : Bool) (ts : List Place) (xs ys : List Scanned) → IsTied ts xs → IsTied ts ys → IsTied ts (cond b xs ys)
tied_choice true ts xs ys h k = h
tied_choice false ts xs ys h k = k

-- all arguments
tied : (done : List Slot) (n : ℕ) (ts : List Place) → AreRationalPlaces ts → IsTied ts (scanned_after done n ts)
tied done n [] r = record { slots = λ t h. inl h; rows = λ l i. absurd i }
tied done n (At s ∷ ts) r =
    tied_choice (stands_in done s) (At s ∷ ts) _ _
    (tied_fresh (At s) (record { number = n; sort = s.sort }) (same_atom n s.sort s) ts _ (own_same n s.sort s refl) (tied (done ++ record { number = n; sort = s.sort } ∷ []) (suc n) ts r))
    (tied_kept s ts _ (tied (done ++ s ∷ []) n ts r))
tied done n (Value t ∷ ts) r =
    tied_fresh (Value t) (record { number = n; sort = Rat }) _ ts _ (own_row (Value t) n t (λ u h. (coefs_rational t.coefs u r.0 h, h))) (tied (done ++ record { number = n; sort = Rat } ∷ []) (suc n) ts r.1)
tied done n (Quoted x ∷ ts) r =
    tied_fresh (Quoted x) (record { number = n; sort = Text }) _ ts _ (own_text (Quoted x) n _ refl) (tied (done ++ record { number = n; sort = Text } ∷ []) (suc n) ts r)

-- ---- past the new slots

-- the keys that pass a test and are none of the slots
abbrev past_test : List Slot → (Key → Bool) → Key → Bool
past_test [] f j = f j
past_test (s ∷ ss) f j = past_test ss (λ i. not (same_key i (slot s)) && f i) j

-- past all the slots
over_past_all : (ss : List Slot) (f : Key → Bool) (ls : List Line) → AreOver (free_in f) ls → AreOver (free_in (past_test ss f)) (elim_past_all ss ls)
over_past_all [] f ls h = h
over_past_all (s ∷ ss) f ls h = over_past_all ss (λ i. not (same_key i (slot s)) && f i) _ (over_past s.sort (slot s) f ls refl h)

-- what passes passes the first test
past_test_is : (ss : List Slot) (f : Key → Bool) (j : Key) → past_test ss f j ≡ true → f j ≡ true
past_test_is [] f j h = h
past_test_is (s ∷ ss) f j h = and_right (not (same_key j (slot s))) _ (past_test_is ss (λ i. not (same_key i (slot s)) && f i) j h)

-- and is none of the slots
past_test_not : (ss : List Slot) (f : Key → Bool) (t : Slot) → stands_in ss t ≡ true → past_test ss f (slot t) ≡ true → ⊥
past_test_not [] f t e h = true≢false (sym e)
past_test_not (s ∷ ss) f t e h = elim (or_split (same_slot s t) _ e) [
  | inl x ↦ refuted s t x (and_left (not (same_slot t s)) _ (past_test_is ss (λ i. not (same_key i (slot s)) && f i) (slot t) h))
  | inr x ↦ past_test_not ss (λ i. not (same_key i (slot s)) && f i) t x h
]
  where
    refuted : (s t : Slot) → same_slot s t ≡ true → not (same_slot t s) ≡ true → ⊥
    refuted s t e n = true≢false (sym n ∙ ap not (ap (same_slot t) (same_slot_is s t e) ∙ same_slot_refl t))

-- ---- atoms

-- the slots of a row are those of its coefficients
mentions_row : (r : LinearConstraint) (t : Slot) → has_slot r.coefs t ≡ true → row_mentions r t ≡ true
unfolding row_mentions
mentions_row r t h = h

-- the lines of a name and of the rows of its arguments
scanned_over : (M : Measures) (n : List ℕ) (ts : List Place) (gs : List Scanned) → IsTied ts gs → AreOver (free_in (at_slot (λ u. mention ts u || stands_in (fresh_slots gs) u))) (scanned_lines M n gs)
scanned_over M n ts gs h l i t m = elim (In-split l (renamed_lines (scanned_slots gs) (M n).lines) (atoms_lines (tied_atoms gs)) i) [
  | inl x ↦ (let r = renamed_slots (scanned_slots gs) (M n).lines l t x m in and_from (mention ts t || stands_in (fresh_slots gs) t) (is_rat t) (one (h.slots t r.0)) r.1)
  | inr x ↦ (let r = h.rows l x t m in and_from (mention ts t || stands_in (fresh_slots gs) t) (is_rat t) (one r.1) r.0)
]
  where
    one : (mention ts t ≡ true) ⊎ (stands_in (fresh_slots gs) t ≡ true) → (mention ts t || stands_in (fresh_slots gs) t) ≡ true
    one e = elim e [ inl y ↦ or_left _ _ y | inr y ↦ or_right (mention ts t) _ y ]

-- an atom of a goal
goal_atom_over : (M : Measures) (a : GoalAtom) → IsRationalGoalAtom a → AreOver (free_in (in_goal_atom a)) (goal_atom_lines M a)
goal_atom_over M (linear r) h l i t m = let e = row_slots r l t i m in and_from (row_mentions r t) (is_rat t) (mentions_row r t e) (coefs_rational r.coefs t h e)
goal_atom_over M (theme a) h l i t m = absurd i
goal_atom_over M (member n ts) h l i t m =
    let gs = scanned ts in
    let f : Key → Bool = at_slot (λ u. mention ts u || stands_in (fresh_slots gs) u) in
    let r = over_past_all (fresh_slots gs) f (scanned_lines M n gs) (scanned_over M n ts gs (tied [] (first_free ts) ts h)) l i t m in
    let p = and_left (past_test (fresh_slots gs) f (slot t)) (is_rat t) r in
    and_from (mention ts t) (is_rat t) (elim (or_split (mention ts t) _ (past_test_is (fresh_slots gs) f (slot t) p)) [ inl y ↦ y | inr y ↦ absurd (past_test_not (fresh_slots gs) f t y p) ])
    (and_right (past_test (fresh_slots gs) f (slot t)) (is_rat t) r)

-- the rows of a list of atoms
atoms_over : (atoms : List Atom) → AreRationalAtoms atoms → (l : Line) → In l (atoms_lines atoms) → (t : Slot) → row_mentions l t ≡ true → (tuple_mentions atoms t ≡ true) × (is_rat t ≡ true)
unfolding tuple_mentions atom_mentions
atoms_over [] h l i t m = absurd i
atoms_over (First r ∷ atoms) h l i t m = elim (In-split l (row_lines r) (atoms_lines atoms) i) [
  | inl x ↦ (let e = row_slots r l t x m in (or_left _ _ (mentions_row r t e), coefs_rational r.coefs t h.0 e))
  | inr x ↦ (let e = atoms_over atoms h.1 l x t m in (or_right (row_mentions r t) _ e.0, e.1))
]
atoms_over (Second a ∷ atoms) h l i t m = let e = atoms_over atoms h l i t m in (or_right (atom_mentions (Second a) t) _ e.0, e.1)

-- an atom of a plan
plan_atom_over : (M : Measures) (a : PlanAtom) → IsRationalPlanAtom a → AreOver (free_in (in_plan_atom a)) (plan_atom_lines M a)
plan_atom_over M (scan n ss) h l i t m = let r = renamed_slots ss (M n).lines l t i m in and_from (stands_in ss t) (is_rat t) r.0 r.1
plan_atom_over M (rows atoms) h l i t m = let r = atoms_over atoms h l i t m in and_from (tuple_mentions atoms t) (is_rat t) r.0 r.1

-- ---- the laws

-- goals
pub goal_lines-over : (M : Measures) (g : GoalForm) → IsSorted g → IsRationalGoal g → (l : Line) (t : Slot) → In l (goal_lines M g) → row_mentions l t ≡ true → (goal_mentions g (slot t) ≡ true) × (t.sort ≡ Rat)
goal_lines-over M g s h l t i m =
    let r = lines_over (goal_atom_lines M) in_goal_atom IsRationalGoalAtom (goal_atom_over M) g s h l i t m in
    (and_left (goal_mentions g (slot t)) (is_rat t) r, rational_is t (and_right (goal_mentions g (slot t)) (is_rat t) r))

-- plans
pub plan_lines-over : (M : Measures) (f : PlanForm) → IsSorted f → IsRationalPlan f → (l : Line) (t : Slot) → In l (plan_lines M f) → row_mentions l t ≡ true → (plan_mentions f (slot t) ≡ true) × (t.sort ≡ Rat)
plan_lines-over M f s h l t i m =
    let r = lines_over (plan_atom_lines M) in_plan_atom IsRationalPlanAtom (plan_atom_over M) f s h l i t m in
    (and_left (plan_mentions f (slot t)) (is_rat t) r, rational_is t (and_right (plan_mentions f (slot t)) (is_rat t) r))
