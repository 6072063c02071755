-- The plan of a goal mentions freely only what the goal does, scans only what the goal's atoms name, and is conjunctive where the
-- goal is.
use Rattle.std.proofs.Common.{◌≡◌, ℕ, ◌+◌, Bool, true, false, not, ◌||◌, cond, List, [], ◌∷◌, arith, inl, inr, refl, sym, ap, subst, ◌∙◌, ⊎_elim, true≢false, map}
use Rattle.std.specs.Prelude.{◌⊎◌, pos, ◌&&◌}
use lib.IntN.{neg_ℤ}
use Rattle.std.specs.Str.{bytes_eq}
use Rattle.std.specs.List.{list_any}
use Rattle.std.proofs.lemmas.Slice.Eq.{bytes_eq-Decides}
use Rattle.ded_model.specs.declared.slot.Slot.{Slot}
use Rattle.ded_model.specs.declared.slot.Sort.{Sort}
use Rattle.ded_model.specs.declared.slot.Sort.TheVariants.{Rat, Text}
use Rattle.ded_model.specs.declared.goal.Place.{Place}
use Rattle.ded_model.specs.declared.goal.Place.TheVariants.{At, Value, Quoted}
use Rattle.ded_model.specs.declared.row.RowOp.TheVariants.{Zero}
use Rattle.ded_model.specs.declared.tuple.ThemeAtom.{ThemeAtom}
use Rattle.ded_model.specs.declared.tuple.BothAtom.TheVariants.{First, Second}
use Rattle.ded_model.specs.Constraint.{LinearConstraint}
use Rattle.ded_model.specs.Sum.{SlotSum, denominator}
use Rattle.ded_model.specs.Coefs.{put, put_all}
use Rattle.ded_model.specs.Point.{Key, slot, name, same_key, same_sort, same_slot, stands_in}
use Rattle.ded_model.specs.Row.{Atom, row_mentions, theme_mentions, atom_mentions, tuple_mentions, at_slot}
use Rattle.ded_model.specs.Normal.{is_true_row}
use Rattle.ded_model.specs.Logic.{atom, always, never, negation, every_of, some_of, implies, minus, exists, forall, Logics, none, also, logics, any_mentions, some_atom, some_atom_of, AllAtoms, AllAtomsOf, count_atoms, count_atoms_of, as_count, conjunctive, all_conjunctive}
use Rattle.ded_model.specs.Goal.{GoalAtom, linear, theme, member, GoalForm, place_mentions, in_goal_atom, goal_mentions}
use Rattle.ded_model.specs.PlanForm.{PlanAtom, scan, rows, PlanForm, in_plan_atom, plan_mentions}
use Rattle.ded_model.specs.Slotted.{goal_atoms}
use Rattle.ded_model.specs.Scanned.{Scanned, kept, fresh, argument_row, of_slot, same_atom, scanned, scanned_slots, tied_atoms, fresh_slots, first_free}
use Rattle.ded_model.proofs.Points.{and_left, and_right, same_sort_refl}
use Rattle.ded_model.proofs.Rows.{or_left, or_right}
use Rattle.ded_model.proofs.Members.{or_split}
use Rattle.ded_model.proofs.Monotone.{or-grows}
use Rattle.ded_model.proofs.LineSlots.{has_slot, put_slots, put_all_slots}
use Rattle.ded_row.proofs.Forms.{row_mentions-normal}
use Rattle.ded_algebra.specs.Compile.{row_plan, joined, projected, plan_of, plans_of, atom_plan}
use Rattle.ded_algebra.specs.Compiled.{place_sort, same_sorts, same_rows, comes_from, ComesFrom, is_member_of, is_scan_of, IsConjunctivePlan}
use Rattle.ded_algebra.proofs.Ties.{tie}
use Rattle.ded_algebra.proofs.SameRows.{same_rows_refl}
use Rattle.ded_algebra.proofs.Scans.{IsScannedAs, AreScannedAs, scanned-are}
use Rattle.std.proofs.lemmas.Bool.{and_from}
use Rattle.ded_model.proofs.Bools.{or_false_left, or_false_right}
use Rattle.ded_model.proofs.SlotLists.{same_slot-turned}

-- ---- what is mentioned

-- the row of an argument mentions its slot and those of the sum
argument_slots : (u : Slot) (t : SlotSum) (s : Slot) → row_mentions (argument_row u t) s ≡ true → (same_slot u s ≡ true) ⊎ (has_slot t.coefs s ≡ true)
unfolding row_mentions
argument_slots u t s h =
    let r : LinearConstraint = record { coefs = put u (pos (denominator t.over)) (put_all (neg_ℤ (pos 1)) t.coefs []); constant = neg_ℤ t.constant; op = Zero } in
    elim (put_slots u (pos (denominator t.over)) (put_all (neg_ℤ (pos 1)) t.coefs []) s (sym (row_mentions-normal r s) ∙ h)) [
      | inl e ↦ inl e
      | inr e ↦ elim (put_all_slots (neg_ℤ (pos 1)) t.coefs [] s e) [ inl x ↦ inr x | inr x ↦ absurd (true≢false (sym x)) ]
    ]

same_slots : (n : ℕ) (x : Sort) (s t : Slot) → atom_mentions (same_atom n x s) t ≡ true → (same_slot (record { number = n; sort = x }) t ≡ true) ⊎ (same_slot s t ≡ true)
unfolding atom_mentions theme_mentions
same_slots n Rat s t h = elim (argument_slots (record { number = n; sort = Rat }) (of_slot s) t h) [ inl e ↦ inl e | inr e ↦ elim (or_split (same_slot s t) false e) [ inl x ↦ inr x | inr x ↦ absurd (true≢false (sym x)) ] ]
same_slots n Text s t h = elim (or_split (same_slot s t) _ h) [ inl e ↦ inr e | inr e ↦ inl e ]

-- the atom that ties a slot to an argument mentions these alone
tie_slots : (u : Slot) (t : Place) (s : Slot) → u.sort ≡ place_sort t → atom_mentions (tie u t) s ≡ true → (same_slot u s ≡ true) ⊎ (place_mentions t s ≡ true)
unfolding atom_mentions theme_mentions
tie_slots u (At v) s e h = subst (λ (x : Sort). (same_slot (record { number = u.number; sort = x }) s ≡ true) ⊎ (same_slot v s ≡ true)) (sym e) (same_slots u.number v.sort v s h)
tie_slots u (Value t) s e h = argument_slots u t s h
tie_slots u (Quoted x) s e h = inl h

-- it is a new slot, or one of the places
abbrev pub IsOld : List Place → List Scanned → Slot → Type 0
IsOld ts gs s = (stands_in (fresh_slots gs) s ≡ true) ⊎ (list_any (λ t. place_mentions t s) ts ≡ true)

old_fresh : (t : Place) (ts : List Place) (u : Slot) (a : Atom) (gs : List Scanned) (s : Slot) → IsOld ts gs s → IsOld (t ∷ ts) (fresh u a ∷ gs) s
old_fresh t ts u a gs s h = elim h [ inl e ↦ inl (or_right (same_slot u s) _ e) | inr e ↦ inr (or_right (place_mentions t s) _ e) ]

old_kept : (t : Place) (ts : List Place) (u : Slot) (gs : List Scanned) (s : Slot) → IsOld ts gs s → IsOld (t ∷ ts) (kept u ∷ gs) s
old_kept t ts u gs s h = elim h [ inl e ↦ inl e | inr e ↦ inr (or_right (place_mentions t s) _ e) ]

kept_mention : (t : Place) (u s : Slot) → IsScannedAs t (kept u) → same_slot u s ≡ true → place_mentions t s ≡ true
kept_mention (At v) u s e h = ap (λ (x : Slot). same_slot x s) (sym e) ∙ h
kept_mention (Value t) u s e h = absurd e
kept_mention (Quoted x) u s e h = absurd e

scanned_old : (ts : List Place) (gs : List Scanned) → AreScannedAs ts gs → (s : Slot) → stands_in (scanned_slots gs) s ≡ true → IsOld ts gs s
scanned_old [] [] a s h = inl h
scanned_old [] (g ∷ gs) a s h = absurd a
scanned_old (t ∷ ts) [] a s h = absurd a
scanned_old (t ∷ ts) (kept u ∷ gs) a s h = elim (or_split (same_slot u s) _ h) [
  | inl e ↦ inr (or_left _ _ (kept_mention t u s a.0 e))
  | inr e ↦ old_kept t ts u gs s (scanned_old ts gs a.1 s e)
]
scanned_old (t ∷ ts) (fresh u b ∷ gs) a s h = elim (or_split (same_slot u s) _ h) [
  | inl e ↦ inl (or_left _ _ e)
  | inr e ↦ old_fresh t ts u b gs s (scanned_old ts gs a.1 s e)
]

tied_old : (ts : List Place) (gs : List Scanned) → AreScannedAs ts gs → (s : Slot) → list_any (λ a. atom_mentions a s) (tied_atoms gs) ≡ true → IsOld ts gs s
tied_old [] [] a s h = absurd (true≢false (sym h))
tied_old [] (g ∷ gs) a s h = absurd a
tied_old (t ∷ ts) [] a s h = absurd a
tied_old (t ∷ ts) (kept u ∷ gs) a s h = old_kept t ts u gs s (tied_old ts gs a.1 s h)
tied_old (t ∷ ts) (fresh u b ∷ gs) a s h = elim (or_split (atom_mentions b s) _ h) [
  | inl e ↦ elim (tie_slots u t s a.0.0 (ap (λ (c : Atom). atom_mentions c s) (sym a.0.1) ∙ e)) [ inl x ↦ inl (or_left _ _ x) | inr x ↦ inr (or_left _ _ x) ]
  | inr e ↦ old_fresh t ts u b gs s (tied_old ts gs a.1 s e)
]

-- ---- plans of atoms

row_slots : (a : Atom) (k : Key) → plan_mentions (row_plan a) k ≡ true → at_slot (atom_mentions a) k ≡ true
unfolding tuple_mentions
row_slots a (slot s) h = elim (or_split (atom_mentions a s) false h) [ inl e ↦ e | inr e ↦ absurd (true≢false (sym e)) ]
row_slots a (name x) h = absurd (true≢false (sym h))

rows_slots : (atoms : List Atom) (s : Slot) → any_mentions in_plan_atom (logics (map row_plan atoms)) (slot s) ≡ true → list_any (λ a. atom_mentions a s) atoms ≡ true
rows_slots [] s h = absurd (true≢false (sym h))
rows_slots (a ∷ atoms) s h = or-grows _ _ _ _ (row_slots a (slot s)) (rows_slots atoms s) h

no_names : (atoms : List Atom) (x : List ℕ) → any_mentions in_plan_atom (logics (map row_plan atoms)) (name x) ≡ true → false ≡ true
no_names [] x h = h
no_names (a ∷ atoms) x h = elim (or_split _ _ h) [ inl e ↦ row_slots a (name x) e | inr e ↦ no_names atoms x e ]

base_slots : (n : List ℕ) (ss : List Slot) (atoms : List Atom) (s : Slot) → plan_mentions (joined (atom (scan n ss)) (map row_plan atoms)) (slot s) ≡ true
    → (stands_in ss s ≡ true) ⊎ (list_any (λ a. atom_mentions a s) atoms ≡ true)
base_slots n ss [] s h = inl h
base_slots n ss (a ∷ atoms) s h = elim (or_split (stands_in ss s) _ h) [ inl e ↦ inl e | inr e ↦ inr (rows_slots (a ∷ atoms) s e) ]

base_names : (n : List ℕ) (ss : List Slot) (atoms : List Atom) (x : List ℕ) → plan_mentions (joined (atom (scan n ss)) (map row_plan atoms)) (name x) ≡ true → false ≡ true
base_names n ss [] x h = h
base_names n ss (a ∷ atoms) x h = no_names (a ∷ atoms) x h

-- what a projection mentions is mentioned before, and is none of the slots
projected_slots : (ss : List Slot) (f : PlanForm) (k : Key) → plan_mentions (projected ss f) k ≡ true → (plan_mentions f k ≡ true) × (list_any (λ s. same_key k (slot s)) ss ≡ false)
projected_slots [] f k h = (h, refl)
projected_slots (s ∷ ss) f k h =
    let r = projected_slots ss (exists s.sort (slot s) f) k h in
    (and_right (not (same_key k (slot s))) _ r.0, both (same_key k (slot s)) _ (and_left _ _ r.0) r.1)
  where
    both : (a b : Bool) → not a ≡ true → b ≡ false → (a || b) ≡ false
    both true b h k = absurd (true≢false (sym h))
    both false b h k = k

turned_slots : (ss : List Slot) (s : Slot) → list_any (λ t. same_key (slot s) (slot t)) ss ≡ false → stands_in ss s ≡ true → false ≡ true
turned_slots [] s h k = k
turned_slots (t ∷ ss) s h k = elim (or_split (same_slot t s) _ k) [
  | inl e ↦ sym (same_slot-turned s t (or_false_left _ _ h)) ∙ e
  | inr e ↦ turned_slots ss s (or_false_right (same_slot s t) _ h) e
]

-- what the scan and its ties mention
pub base_old : (n : List ℕ) (ts : List Place) (s : Slot) → plan_mentions (joined (atom (scan n (scanned_slots (scanned ts)))) (map row_plan (tied_atoms (scanned ts)))) (slot s) ≡ true → IsOld ts (scanned ts) s
base_old n ts s h =
    let gs = scanned ts in
    let are = scanned-are [] (first_free ts) ts in
    ⊎_elim (λ (e : stands_in (scanned_slots gs) s ≡ true). scanned_old ts gs are s e) (λ e. tied_old ts gs are s e) (base_slots n (scanned_slots gs) (tied_atoms gs) s h)

member_slots : (n : List ℕ) (ts : List Place) (k : Key) → plan_mentions (atom_plan (member n ts)) k ≡ true → in_goal_atom (member n ts) k ≡ true
member_slots n ts (name x) h =
    let gs = scanned ts in
    base_names n (scanned_slots gs) (tied_atoms gs) x (projected_slots (fresh_slots gs) (joined (atom (scan n (scanned_slots gs))) (map row_plan (tied_atoms gs))) (name x) h).0
member_slots n ts (slot s) h =
    let gs = scanned ts in
    let r = projected_slots (fresh_slots gs) (joined (atom (scan n (scanned_slots gs))) (map row_plan (tied_atoms gs))) (slot s) h in
    elim (base_old n ts s r.0) [ inl e ↦ absurd (true≢false (sym (turned_slots (fresh_slots gs) s r.1 e))) | inr e ↦ e ]

linear_slots : (r : LinearConstraint) (b : Bool) (s : Slot) → tuple_mentions (cond b [] (First r ∷ [])) s ≡ true → row_mentions r s ≡ true
unfolding tuple_mentions atom_mentions
linear_slots r true s h = absurd (true≢false (sym h))
linear_slots r false s h = elim (or_split (row_mentions r s) false h) [ inl e ↦ e | inr e ↦ absurd (true≢false (sym e)) ]

theme_slots : (a : ThemeAtom) (s : Slot) → tuple_mentions (Second a ∷ []) s ≡ true → theme_mentions a s ≡ true
unfolding tuple_mentions atom_mentions
theme_slots a s h = elim (or_split (theme_mentions a s) false h) [ inl e ↦ e | inr e ↦ absurd (true≢false (sym e)) ]

atom_slots : (a : GoalAtom) (k : Key) → plan_mentions (atom_plan a) k ≡ true → in_goal_atom a k ≡ true
atom_slots (linear r) (slot s) h = linear_slots r (is_true_row r) s h
atom_slots (linear r) (name x) h = h
atom_slots (theme a) (slot s) h = theme_slots a s h
atom_slots (theme a) (name x) h = h
atom_slots (member n ts) k h = member_slots n ts k h

-- ---- goals

pub and_grows : (a b c : Bool) → (b ≡ true → c ≡ true) → (a && b) ≡ true → (a && c) ≡ true
and_grows true b c f h = f h
and_grows false b c f h = h

pub or_one : (b : Bool) → (b || false) ≡ true → b ≡ true
or_one true h = refl
or_one false h = h

mutual
  pub plan_slots : (f : GoalForm) (k : Key) → plan_mentions (plan_of f) k ≡ true → goal_mentions f k ≡ true
  plan_slots (atom a) k h = atom_slots a k h
  plan_slots always k h = h
  plan_slots never k h = h
  plan_slots (negation f) k h = plan_slots f k h
  plan_slots (every_of fs) k h = plans_slots fs k h
  plan_slots (some_of fs) k h = plans_slots fs k h
  plan_slots (implies f g) k h = or-grows _ _ _ _ (plan_slots f k) (λ e. plan_slots g k (or_one _ e)) h
  plan_slots (minus f g) k h = or-grows _ _ _ _ (plan_slots f k) (plan_slots g k) h
  plan_slots (exists s j f) k h = and_grows (not (same_key k j)) _ _ (plan_slots f k) h
  plan_slots (forall s j f) k h = and_grows (not (same_key k j)) _ _ (plan_slots f k) h

  plans_slots : (fs : Logics GoalAtom) (k : Key) → any_mentions in_plan_atom (plans_of fs) k ≡ true → any_mentions in_goal_atom fs k ≡ true
  plans_slots none k h = h
  plans_slots (also f fs) k h = or-grows _ _ _ _ (plan_slots f k) (plans_slots fs k) h

-- ---- scans

one_sort : (t : Place) (g : Scanned) (s : Slot) → (g ≡ kept s) ⊎ ((a : Atom) × (g ≡ fresh s a)) → IsScannedAs t g → same_sort (place_sort t) s.sort ≡ true
one_sort t g s (inl e) h = kept_sort t (subst (IsScannedAs t) e h)
  where
    kept_sort : (t : Place) → IsScannedAs t (kept s) → same_sort (place_sort t) s.sort ≡ true
    kept_sort (At v) f = ap (λ (u : Slot). same_sort v.sort u.sort) f ∙ same_sort_refl v.sort
    kept_sort (Value t) f = absurd f
    kept_sort (Quoted x) f = absurd f
one_sort t g s (inr e) h = let k : IsScannedAs t (fresh s e.0) = subst (IsScannedAs t) e.1 h in ap (λ x. same_sort (place_sort t) x) k.0 ∙ same_sort_refl (place_sort t)

scanned_sorts : (ts : List Place) (gs : List Scanned) → AreScannedAs ts gs → same_sorts (map place_sort ts) (map (λ s. s.sort) (scanned_slots gs)) ≡ true
scanned_sorts [] [] h = refl
scanned_sorts [] (g ∷ gs) h = absurd h
scanned_sorts (t ∷ ts) [] h = absurd h
scanned_sorts (t ∷ ts) (kept u ∷ gs) h = and_from _ _ (one_sort t (kept u) u (inl refl) h.0) (scanned_sorts ts gs h.1)
scanned_sorts (t ∷ ts) (fresh u a ∷ gs) h = and_from _ _ (one_sort t (fresh u a) u (inr (a, refl)) h.0) (scanned_sorts ts gs h.1)

-- each scan and each list of rows comes from an atom of the whole goal
module _ (whole : GoalForm) where
  -- what comes from a part comes from the whole
  abbrev IsPart : GoalForm → Type 0
  IsPart f = (a : PlanAtom) → ComesFrom f a → ComesFrom whole a

  abbrev ArePart : Logics GoalAtom → Type 0
  ArePart fs = (a : PlanAtom) → some_atom_of (comes_from a) fs ≡ true → ComesFrom whole a

  projected_atoms : (ss : List Slot) (f : PlanForm) → AllAtoms (ComesFrom whole) f → AllAtoms (ComesFrom whole) (projected ss f)
  projected_atoms [] f h = h
  projected_atoms (s ∷ ss) f h = projected_atoms ss (exists s.sort (slot s) f) h

  -- where a list of rows with one of the atoms comes from the whole
  ties_atoms : (atoms : List Atom) → ((t : List Atom) → list_any (λ a. same_rows t (a ∷ [])) atoms ≡ true → ComesFrom whole (rows t)) → AllAtomsOf (ComesFrom whole) (logics (map row_plan atoms))
  ties_atoms [] k = tt
  ties_atoms (a ∷ atoms) k = (k (a ∷ []) (or_left _ _ (same_rows_refl (a ∷ []))), ties_atoms atoms (λ t e. k t (or_right (same_rows t (a ∷ [])) _ e)))

  base_atoms : (n : List ℕ) (ss : List Slot) (atoms : List Atom) → ComesFrom whole (scan n ss) → AllAtomsOf (ComesFrom whole) (logics (map row_plan atoms)) → AllAtoms (ComesFrom whole) (joined (atom (scan n ss)) (map row_plan atoms))
  base_atoms n ss [] h k = h
  base_atoms n ss (a ∷ atoms) h k = (h, k)

  atom_atoms : (a : GoalAtom) → IsPart (atom a) → AllAtoms (ComesFrom whole) (atom_plan a)
  atom_atoms (linear r) p = p (rows (goal_atoms (atom (linear r)))) (same_rows_refl (goal_atoms (atom (linear r))))
  atom_atoms (theme a) p = p (rows (Second a ∷ [])) (same_rows_refl (Second a ∷ []))
  atom_atoms (member n ts) p =
      let gs = scanned ts in
      projected_atoms (fresh_slots gs) _ (base_atoms n (scanned_slots gs) (tied_atoms gs)
      (p (scan n (scanned_slots gs)) (and_from _ _ ((bytes_eq-Decides n n).1 refl) (scanned_sorts ts gs (scanned-are [] (first_free ts) ts))))
      (ties_atoms (tied_atoms gs) (λ t e. p (rows t) e)))

  mutual
    pub plan_atoms : (f : GoalForm) → IsPart f → AllAtoms (ComesFrom whole) (plan_of f)
    plan_atoms (atom a) p = atom_atoms a p
    plan_atoms always p = tt
    plan_atoms never p = tt
    plan_atoms (negation f) p = plan_atoms f p
    plan_atoms (every_of fs) p = plans_atoms fs p
    plan_atoms (some_of fs) p = plans_atoms fs p
    plan_atoms (implies f g) p = (plan_atoms f (λ a e. p a (or_left _ _ e)), (plan_atoms g (λ a e. p a (or_right (some_atom (comes_from a) f) _ e)), tt))
    plan_atoms (minus f g) p = (plan_atoms f (λ a e. p a (or_left _ _ e)), plan_atoms g (λ a e. p a (or_right (some_atom (comes_from a) f) _ e)))
    plan_atoms (exists s k f) p = plan_atoms f p
    plan_atoms (forall s k f) p = plan_atoms f p

    plans_atoms : (fs : Logics GoalAtom) → ArePart fs → AllAtomsOf (ComesFrom whole) (plans_of fs)
    plans_atoms none p = tt
    plans_atoms (also f fs) p = (plan_atoms f (λ a e. p a (or_left _ _ e)), plans_atoms fs (λ a e. p a (or_right (some_atom (comes_from a) f) _ e)))

-- ---- conjunctive goals

projected_conjunctive : (ss : List Slot) (f : PlanForm) → conjunctive f ≡ true → conjunctive (projected ss f) ≡ true
projected_conjunctive [] f h = h
projected_conjunctive (s ∷ ss) f h = projected_conjunctive ss (exists s.sort (slot s) f) h

rows_conjunctive : (atoms : List Atom) → all_conjunctive (logics (map row_plan atoms)) ≡ true
rows_conjunctive [] = refl
rows_conjunctive (a ∷ atoms) = rows_conjunctive atoms

base_conjunctive : (n : List ℕ) (ss : List Slot) (atoms : List Atom) → conjunctive (joined (atom (scan n ss)) (map row_plan atoms)) ≡ true
base_conjunctive n ss [] = refl
base_conjunctive n ss (a ∷ atoms) = rows_conjunctive (a ∷ atoms)

atom_conjunctive : (a : GoalAtom) → conjunctive (atom_plan a) ≡ true
atom_conjunctive (linear r) = refl
atom_conjunctive (theme a) = refl
atom_conjunctive (member n ts) =
    let gs = scanned ts in
    projected_conjunctive (fresh_slots gs) _ (base_conjunctive n (scanned_slots gs) (tied_atoms gs))

mutual
  pub plan_conjunctive : (f : GoalForm) → conjunctive f ≡ true → conjunctive (plan_of f) ≡ true
  plan_conjunctive (atom a) h = atom_conjunctive a
  plan_conjunctive always h = refl
  plan_conjunctive never h = absurd (true≢false (sym h))
  plan_conjunctive (negation f) h = absurd (true≢false (sym h))
  plan_conjunctive (every_of fs) h = plans_conjunctive fs h
  plan_conjunctive (some_of fs) h = absurd (true≢false (sym h))
  plan_conjunctive (implies f g) h = absurd (true≢false (sym h))
  plan_conjunctive (minus f g) h = absurd (true≢false (sym h))
  plan_conjunctive (exists s k f) h = plan_conjunctive f h
  plan_conjunctive (forall s k f) h = absurd (true≢false (sym h))

  plans_conjunctive : (fs : Logics GoalAtom) → all_conjunctive fs ≡ true → all_conjunctive (plans_of fs) ≡ true
  plans_conjunctive none h = refl
  plans_conjunctive (also f fs) h = and_from _ _ (plan_conjunctive f (and_left _ _ h)) (plans_conjunctive fs (and_right (conjunctive f) _ h))

-- each name is scanned as often as the goal has it
module _ (m : List ℕ) where
  projected_count : (ss : List Slot) (f : PlanForm) → count_atoms (is_scan_of m) (projected ss f) ≡ count_atoms (is_scan_of m) f
  projected_count [] f = refl
  projected_count (s ∷ ss) f = projected_count ss (exists s.sort (slot s) f)

  rows_count : (atoms : List Atom) → count_atoms_of (is_scan_of m) (logics (map row_plan atoms)) ≡ 0
  rows_count [] = refl
  rows_count (a ∷ atoms) = let h = rows_count atoms in omega (arith, h)

  base_count : (n : List ℕ) (ss : List Slot) (atoms : List Atom) → count_atoms (is_scan_of m) (joined (atom (scan n ss)) (map row_plan atoms)) ≡ as_count (bytes_eq m n)
  base_count n ss [] = refl
  base_count n ss (a ∷ atoms) = let h = rows_count (a ∷ atoms) in omega (arith, h)

  atom_count : (a : GoalAtom) → count_atoms (is_scan_of m) (atom_plan a) ≡ as_count (is_member_of m a)
  atom_count (linear r) = refl
  atom_count (theme a) = refl
  atom_count (member n ts) =
      let gs = scanned ts in
      projected_count (fresh_slots gs) _ ∙ base_count n (scanned_slots gs) (tied_atoms gs)

  sum_same : (a b c d : ℕ) → a ≡ c → b ≡ d → a + b ≡ c + d
  sum_same a b c d h k = omega (arith, h, k)

  mutual
    pub plan_count : (f : GoalForm) → count_atoms (is_scan_of m) (plan_of f) ≡ count_atoms (is_member_of m) f
    plan_count (atom a) = atom_count a
    plan_count always = refl
    plan_count never = refl
    plan_count (negation f) = plan_count f
    plan_count (every_of fs) = plans_count fs
    plan_count (some_of fs) = plans_count fs
    plan_count (implies f g) = sum_same _ _ _ _ (plan_count f) (let h = plan_count g in omega (arith, h))
    plan_count (minus f g) = sum_same _ _ _ _ (plan_count f) (plan_count g)
    plan_count (exists s k f) = plan_count f
    plan_count (forall s k f) = plan_count f

    plans_count : (fs : Logics GoalAtom) → count_atoms_of (is_scan_of m) (plans_of fs) ≡ count_atoms_of (is_member_of m) fs
    plans_count none = refl
    plans_count (also f fs) = sum_same _ _ _ _ (plan_count f) (plans_count fs)

-- ---- all of it

pub conjunctive_plan : (g : GoalForm) → conjunctive g ≡ true → IsConjunctivePlan g (plan_of g)
conjunctive_plan g h = record { conjunctive = plan_conjunctive g h; scans = λ m. plan_count m g }
