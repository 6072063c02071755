-- No line has a number of more than 127 digits, but where a row that is reached has one that is as long.
--
-- An elimination combines two lines only where they don't clash. Then each number of the combination is a difference of products that has
-- at most 127 digits, or 0, and dividing by the greatest common divisor makes no number longer.
use Rattle.std.proofs.Common.{◌≡◌, ℕ, ◌^◌, ◌≤◌, ◌+◌, ◌*◌, ◌-◌, nat_lt, Bool, true, false, not, ◌&&◌, ◌||◌, cond, None, List, [], ◌∷◌, ◌++◌, bytes_eq, inl, inr, arith, refl, sym, ◌∙◌, ap₂, subst, true≢false}
use Rattle.std.specs.Prelude.{max, ℤ, pos, ◌-ℤ◌, ◌*ℤ◌, unsigned_abs}
use lib.IntN.{neg_ℤ}
use Rattle.std.proofs.Math.IntN.{*ℤ-zero}
use Rattle.std.proofs.lemmas.Bool.{not-false}
use Rattle.ded_num.specs.Length.{IsWithin}
use Rattle.ded_model.specs.declared.name.Column.{Column}
use Rattle.ded_model.specs.declared.slot.Slot.{Slot}
use Rattle.ded_model.specs.declared.slot.Sort.{Sort}
use Rattle.ded_model.specs.declared.slot.Sort.TheVariants.{Rat, Text}
use Rattle.ded_model.specs.Point.{Key, slot, name, same_slot}
use Rattle.ded_model.specs.Coefs.{coef_at, mixed, nonzero, cut}
use Rattle.ded_model.specs.Logic.{Logic, atom, always, never, negation, every_of, some_of, implies, minus, exists, forall, Logics, none, also, AllAtoms, AllAtomsOf, greatest, greatest_of}
use Rattle.ded_model.specs.Form.{Form}
use Rattle.ded_model.specs.Goal.{GoalAtom, linear, theme, member, GoalForm}
use Rattle.ded_model.specs.Catalogue.{Entry, relation, view, Catalogue, entry_name, tuples_of}
use Rattle.ded_model.specs.Entries.{known}
use Rattle.ded_model.specs.Known.{KnownNames, IsEntryOver, AreEntriesOver, IsAccepted, IsWellFormed, with_known}
use Rattle.ded_model.specs.Slotted.{goal_of}
use Rattle.ded_model.specs.Scanned.{scanned, scanned_slots, tied_atoms, fresh_slots}
use Rattle.ded_model.specs.Lines.{Line, In, combination, both_mention, is_long, products_clash, slots_clash, lines_clash, elim_at, elim_past, elim_past_all, renamed_lines, atoms_lines, tuples_lines, lines, all_lines, AreWithin}
use Rattle.ded_model.specs.Made.{Reading, itself, closure_of, interior_of, reading}
use Rattle.ded_model.specs.Measure.{Measures, measure_as, read_measure, scanned_lines, goal_atom_b, goal_atom_lines, goal_b, goal_lines, entry_measure, with_measure, measures_from, stored_measures, measures}
use Rattle.ded_model.specs.Width.{row_length, tuple_length, tuples_length}
use Rattle.ded_model.proofs.Bools.{or_false_left, or_false_right}
use Rattle.ded_model.proofs.CoefLemmas.{is_lesser}
use Rattle.ded_model.proofs.LineCoefs.{coef_at-mixed, coef_at-cut, coef_at-cut_here, coef_at-nonzero}
use Rattle.ded_model.proofs.LineLengths.{zero_within, line_with-within, sum_is_difference, within_more}
use Rattle.ded_model.proofs.LineSlots.{has_slot}
use Rattle.ded_model.proofs.Members.{In-split, elim-In, or_split}
use Rattle.ded_model.proofs.Points.{same_slot_is, same_slot_refl}
use Rattle.ded_row.proofs.Targets.{coef_at-absent}
use Rattle.ded_width.specs.Reach.{AreInReach, IsAscendingGoalAtom, IsAscendingGoal}
use Rattle.ded_width.proofs.Reaches.{reach}
use Rattle.ded_width.proofs.ArgumentSlots.{arguments_distinct, arguments_ascending}
use Rattle.ded_width.proofs.AscendingGoals.{accepted_ascending}
use Rattle.ded_width.proofs.LineReaches.{row_in_reach, atoms_in_reach}
use Rattle.ded_width.proofs.RenamedReaches.{renamed_within}
use Rattle.ded_width.proofs.NameReaches.{tuples_in_reach, read_in_reach, with_in_reach, nothing_in_reach, names_in_reach}

-- ---- numbers of combinations

-- what is not long has at most 127 digits
not_long_within : (z : ℤ) → is_long z ≡ false → IsWithin 127 z
not_long_within z h = is_lesser (unsigned_abs z) (2 ^ 127) (not-false (nat_lt (unsigned_abs z) (2 ^ 127)) h)

-- the difference of products that don't clash
difference_short : (k x m y : ℤ) → products_clash k x m y ≡ false → IsWithin 127 (k *ℤ x -ℤ m *ℤ y)
difference_short k x m y h = not_long_within (k *ℤ x -ℤ m *ℤ y) (or_false_right _ (is_long (k *ℤ x -ℤ m *ℤ y)) h)

-- of zeros
no_difference : (k x m y : ℤ) → x ≡ pos 0 → y ≡ pos 0 → IsWithin 127 (k *ℤ x -ℤ m *ℤ y)
no_difference k x m y e f = subst (IsWithin 127) (sym (ap₂ (λ a b. k *ℤ a -ℤ m *ℤ b) e f ∙ ap₂ (λ a b. a -ℤ b) (*ℤ-zero k) (*ℤ-zero m))) (zero_within 127)

-- the products of a combination at a slot
abbrev at_clash : Slot → Line → Line → Slot → Bool
at_clash s l m t = products_clash (coef_at m.coefs s) (coef_at l.coefs t) (coef_at l.coefs s) (coef_at m.coefs t)

second_false : (a b : Bool) → a ≡ false → (not a && b) ≡ false → b ≡ false
second_false true b e h = absurd (true≢false e)
second_false false b e h = h

-- they don't clash at any slot of a list in which none do
slot_fits : (s : Slot) (l m : Line) (cs : List (Slot × ℤ)) (t : Slot) → same_slot t s ≡ false → slots_clash s l m cs ≡ false → has_slot cs t ≡ true → at_clash s l m t ≡ false
slot_fits s l m [] t n h i = absurd (true≢false (sym i))
slot_fits s l m (c ∷ cs) t n h i = elim (or_split (same_slot c.0 t) (has_slot cs t) i) [
  | inl e ↦ second_false (same_slot t s) (at_clash s l m t) n
      (subst (λ u. (not (same_slot u s) && at_clash s l m u) ≡ false) (same_slot_is c.0 t e) (or_false_left (not (same_slot c.0 s) && at_clash s l m c.0) (slots_clash s l m cs) h))
  | inr j ↦ slot_fits s l m cs t n (or_false_right (not (same_slot c.0 s) && at_clash s l m c.0) (slots_clash s l m cs) h) j
]

-- of two lines that don't clash at a slot
record Fit (s : Slot) (l m : Line) : Type 0 where
  first : slots_clash s l m l.coefs ≡ false
  second : slots_clash s l m m.coefs ≡ false
  constants : products_clash (coef_at m.coefs s) l.constant (coef_at l.coefs s) m.constant ≡ false

fit : (s : Slot) (l m : Line) → lines_clash s l m ≡ false → Fit s l m
unfolding lines_clash
fit s l m h =
    let slots = or_false_left (slots_clash s l m l.coefs || slots_clash s l m m.coefs) _ h in
    record {
      first = or_false_left (slots_clash s l m l.coefs) (slots_clash s l m m.coefs) slots;
      second = or_false_right (slots_clash s l m l.coefs) (slots_clash s l m m.coefs) slots;
      constants = or_false_right (slots_clash s l m l.coefs || slots_clash s l m m.coefs) _ h;
    }

-- the number at another slot
number_short : (s : Slot) (l m : Line) (t : Slot) → Fit s l m → same_slot t s ≡ false → IsWithin 127 (coef_at m.coefs s *ℤ coef_at l.coefs t -ℤ coef_at l.coefs s *ℤ coef_at m.coefs t)
number_short s l m t h n = go (has_slot l.coefs t) refl (has_slot m.coefs t) refl
  where
    go : (a : Bool) → has_slot l.coefs t ≡ a → (b : Bool) → has_slot m.coefs t ≡ b → IsWithin 127 (coef_at m.coefs s *ℤ coef_at l.coefs t -ℤ coef_at l.coefs s *ℤ coef_at m.coefs t)
    go true e b f = difference_short (coef_at m.coefs s) (coef_at l.coefs t) (coef_at l.coefs s) (coef_at m.coefs t) (slot_fits s l m l.coefs t n h.first e)
    go false e true f = difference_short (coef_at m.coefs s) (coef_at l.coefs t) (coef_at l.coefs s) (coef_at m.coefs t) (slot_fits s l m m.coefs t n h.second f)
    go false e false f = no_difference (coef_at m.coefs s) (coef_at l.coefs t) (coef_at l.coefs s) (coef_at m.coefs t) (coef_at-absent l.coefs t e) (coef_at-absent m.coefs t f)

turned : (s t : Slot) → same_slot s t ≡ false → same_slot t s ≡ false
turned s t n = go (same_slot t s) refl
  where
    go : (b : Bool) → same_slot t s ≡ b → b ≡ false
    go true e = absurd (true≢false (sym (subst (λ u. same_slot u t ≡ true) (same_slot_is t s e) (same_slot_refl t)) ∙ n))
    go false e = refl

-- the slot itself is cut
cut_short : (s : Slot) (cs : List (Slot × ℤ)) (t : Slot) (b : Bool) → same_slot s t ≡ b → (same_slot s t ≡ false → IsWithin 127 (coef_at cs t)) → IsWithin 127 (coef_at (nonzero (cut s cs)) t)
cut_short s cs t true e h = subst (IsWithin 127) (sym (coef_at-nonzero (cut s cs) t ∙ coef_at-cut_here s cs t e)) (zero_within 127)
cut_short s cs t false e h = subst (IsWithin 127) (sym (coef_at-nonzero (cut s cs) t ∙ coef_at-cut s cs t e)) (h e)

-- so the combination of two lines that don't clash
combination_short : (s : Slot) (l m : Line) → Fit s l m → AreWithin 127 (combination s l m)
combination_short s l m h =
    let x = coef_at l.coefs s in
    let y = coef_at m.coefs s in
    let cs = mixed y l.coefs (neg_ℤ x) m.coefs in
    line_with-within (nonzero (cut s cs)) (y *ℤ l.constant -ℤ x *ℤ m.constant) 127
    (λ t. cut_short s cs t (same_slot s t) refl
    (λ n. subst (IsWithin 127) (sym (coef_at-mixed y l.coefs (neg_ℤ x) m.coefs t ∙ sum_is_difference y (coef_at l.coefs t) x (coef_at m.coefs t))) (number_short s l m t h (turned s t n))))
    (difference_short y l.constant x m.constant h.constants)

-- ---- lines past eliminations

chosen : (a b : Bool) (ls : List Line) (l : Line) → In l (cond (a && not b) ls []) → (b ≡ false) × In l ls
chosen true true ls l h = absurd h
chosen true false ls l h = (refl, h)
chosen false b ls l h = absurd h

wider : (k m : ℕ) (ls : List Line) → k ≤ m → AreWithin k ls → AreWithin m ls
wider k m ls h w l i = within_more k m l h (w l i)

elim_within : (s : Slot) (ls : List Line) (k : ℕ) → 127 ≤ k → AreWithin k ls → AreWithin k (elim_at s ls)
elim_within s ls k b h l i = elim (elim-In s ls l i) [
  | inl a ↦ h l a.0
  | inr p ↦ (let c = chosen (both_mention s p.first p.second) (lines_clash s p.first p.second) (combination s p.first p.second) l p.combined in
      within_more 127 k l b (combination_short s p.first p.second (fit s p.first p.second c.0) l c.1))
]

past_within : (s : Sort) (key : Key) (ls : List Line) (k : ℕ) → 127 ≤ k → AreWithin k ls → AreWithin k (elim_past s key ls)
past_within Rat (slot s) ls k b h = elim_within s ls k b h
past_within Rat (name x) ls k b h = h
past_within Text key ls k b h = h

past_all_within : (ss : List Slot) (ls : List Line) (k : ℕ) → 127 ≤ k → AreWithin k ls → AreWithin k (elim_past_all ss ls)
past_all_within [] ls k b h = h
past_all_within (s ∷ ss) ls k b h = past_all_within ss (elim_past s.sort (slot s) ls) k b (past_within s.sort (slot s) ls k b h)

-- ---- at most 127 digits, or as many as the rows

-- where the greatest length of the rows is b
abbrev Within : ℕ → List Line → Type 0
Within b ls = AreWithin (max 127 b) ls

enough : (b : ℕ) → 127 ≤ max 127 b
enough b = omega arith

two_within : (b d : ℕ) (xs ys : List Line) → Within b xs → Within d ys → Within (max b d) (xs ++ ys)
two_within b d xs ys h k l i = elim (In-split l xs ys i) [
  | inl j ↦ within_more (max 127 b) (max 127 (max b d)) l (first b d) (h l j)
  | inr j ↦ within_more (max 127 d) (max 127 (max b d)) l (second b d) (k l j)
]
  where
    first : (b d : ℕ) → max 127 b ≤ max 127 (max b d)
    first b d = omega arith

    second : (b d : ℕ) → max 127 d ≤ max 127 (max b d)
    second b d = omega arith

-- before any elimination
from_reach : (b : ℕ) (ls : List Line) → AreWithin (reach b 0) ls → Within b ls
from_reach b ls h = wider (reach b 0) (max 127 b) ls (same b) h
  where
    same : (b : ℕ) → (b + 1) * 2 ^ 0 - 1 ≤ max 127 b
    same b = omega arith

-- ---- formulas

module _ {L : Type 0} (of : L → List Line) (of_b : L → ℕ) (P : L → Type 0) (atoms : (a : L) → P a → Within (of_b a) (of a)) where
  mutual
    formula_within : (f : Logic L) → AllAtoms P f → Within (greatest of_b f) (lines of f)
    formula_within (atom a) h = atoms a h
    formula_within always h = λ l i. absurd i
    formula_within never h = λ l i. absurd i
    formula_within (negation f) h = formula_within f h
    formula_within (every_of fs) h = all_within fs h
    formula_within (some_of fs) h = all_within fs h
    formula_within (implies f g) h = two_within (greatest of_b f) (greatest of_b g) (lines of f) (lines of g) (formula_within f h.0) (formula_within g h.1)
    formula_within (minus f g) h = two_within (greatest of_b f) (greatest of_b g) (lines of f) (lines of g) (formula_within f h.0) (formula_within g h.1)
    formula_within (exists s k f) h = past_within s k (lines of f) (max 127 (greatest of_b f)) (enough (greatest of_b f)) (formula_within f h)
    formula_within (forall s k f) h = past_within s k (lines of f) (max 127 (greatest of_b f)) (enough (greatest of_b f)) (formula_within f h)

    -- of a list
    all_within : (fs : Logics L) → AllAtomsOf P fs → Within (greatest_of of_b fs) (all_lines of fs)
    all_within none h = λ l i. absurd i
    all_within (also f fs) h = two_within (greatest of_b f) (greatest_of of_b fs) (lines of f) (all_lines of fs) (formula_within f h.0) (all_within fs h.1)

-- ---- goals

-- the lines of each name
abbrev AreNamesWithin : Measures → Type 0
AreNamesWithin M = (n : List ℕ) → Within (M n).b (M n).lines

module _ (M : Measures) (i : AreInReach M) (names : AreNamesWithin M) where
  goal_atom_within : (a : GoalAtom) → IsAscendingGoalAtom a → Within (goal_atom_b M a) (goal_atom_lines M a)
  goal_atom_within (linear r) a = from_reach (row_length r) _ (row_in_reach r a).lines
  goal_atom_within (theme t) a = λ l i. absurd i
  goal_atom_within (member n ts) a =
      let ss = scanned_slots (scanned ts) in
      let tied = tied_atoms (scanned ts) in
      let named : Within (M n).b (renamed_lines ss (M n).lines) = renamed_within ss (M n).lines (max 127 (M n).b) (arguments_distinct ts) (i.rational n) (names n) in
      let rows : Within (tuple_length tied) (atoms_lines tied) = from_reach (tuple_length tied) (atoms_lines tied) (atoms_in_reach tied (arguments_ascending ts a)).lines in
      past_all_within (fresh_slots (scanned ts)) (scanned_lines M n (scanned ts)) (max 127 (max (M n).b (tuple_length tied))) (enough (max (M n).b (tuple_length tied)))
      (two_within (M n).b (tuple_length tied) (renamed_lines ss (M n).lines) (atoms_lines tied) named rows)

  goal_within : (g : GoalForm) → IsAscendingGoal g → Within (goal_b M g) (goal_lines M g)
  goal_within g a = formula_within (goal_atom_lines M) (goal_atom_b M) IsAscendingGoalAtom goal_atom_within g a

-- ---- names

read_within : (M : Measures) → AreNamesWithin M → AreNamesWithin (read_measure M)
read_within M h n = by (reading n)
  where
    by : (r : Reading) → Within (measure_as M n r).b (measure_as M n r).lines
    by itself = h n
    by (closure_of m) = h m
    by (interior_of m) = h m

entry_within : (limit : ℕ) (K : KnownNames) (M : Measures) (e : Entry) → AreInReach M → AreNamesWithin M → IsEntryOver limit K e → Within (entry_measure M e).b (entry_measure M e).lines
entry_within limit K M (relation n h m ts) i names w = from_reach (tuples_length (tuples_of ts)) (tuples_lines (tuples_of ts)) (tuples_in_reach h m 0 ts w.0).lines
entry_within limit K M (view n h f) i names w = goal_within (read_measure M) (read_in_reach M i) (read_within M names) (goal_of h f) (accepted_ascending K h f w.0.sorted)

entries_within : (limit : ℕ) (K : KnownNames) (M : Measures) (es : List Entry) → AreInReach M → AreNamesWithin M → AreEntriesOver limit K es → AreNamesWithin (measures_from M es)
entries_within limit K M [] i names w = names
entries_within limit K M (e ∷ es) i names w =
    entries_within limit (with_known K e) (with_measure M e) es (with_in_reach limit K M e i w.1) (λ n. by n (bytes_eq n (entry_name e))) w.2
  where
    by : (n : List ℕ) (b : Bool) → Within (cond b (entry_measure M e) (M n)).b (cond b (entry_measure M e) (M n)).lines
    by n true = entry_within limit K M e i names w.1
    by n false = names n

stored_within : (c : Catalogue) → IsWellFormed c → AreNamesWithin (stored_measures c)
unfolding stored_measures
stored_within c w = entries_within c.limit (λ n. None) (λ n. record { b = 0; rank = 0; lines = []; clash = false; columns = 0 }) c.entries nothing_in_reach (λ n l i. absurd i) w

names_within : (c : Catalogue) → IsWellFormed c → AreNamesWithin (measures c)
unfolding measures
names_within c w = read_within (stored_measures c) (stored_within c w)

-- the law
pub longest : (c : Catalogue) → IsWellFormed c → (h : List Column) (f : Form) → IsAccepted (known c) h f
    → AreWithin (max 127 (goal_b (measures c) (goal_of h f))) (goal_lines (measures c) (goal_of h f))
longest c w h f a = goal_within (measures c) (names_in_reach c w) (names_within c w) (goal_of h f) (accepted_ascending (known c) h f a.sorted)
