-- Lines of rows, and which of them an elimination makes or can't make.
use Rattle.std.specs.Prelude.{◌≡◌, ◌⊎◌, ℕ, suc, nat_lt, ◌^◌, ℤ, ◌-ℤ◌, ◌*ℤ◌, unsigned_abs, Bool, false, not, ◌&&◌, ◌||◌, List, [], ◌∷◌, ◌++◌, if◌then◌else◌}
use Rattle.std.proofs.Common.{zero}
use lib.IntN.{neg_ℤ}
use Rattle.ded_num.specs.Length.{IsWithin}
use Rattle.ded_model.specs.declared.slot.Slot.{Slot}
use Rattle.ded_model.specs.declared.slot.Sort.{Sort}
use Rattle.ded_model.specs.declared.slot.Sort.TheVariants.{Rat, Text}
use Rattle.ded_model.specs.declared.row.RowOp.TheVariants.{Zero}
use Rattle.ded_model.specs.declared.tuple.BothAtom.TheVariants.{First, Second}
use Rattle.ded_model.specs.Constraint.{LinearConstraint}
use Rattle.ded_model.specs.Coefs.{coef_at, put, mixed, nonzero, cut}
use Rattle.ded_model.specs.Point.{Key, slot, name, same_slot, same_sort}
use Rattle.ded_model.specs.Row.{Atom, row_mentions}
use Rattle.ded_model.specs.Normal.{normal_row}
use Rattle.ded_model.specs.Logic.{Logic, atom, always, never, negation, every_of, some_of, implies, minus, exists, forall, Logics, none, also}

-- ---- lines

-- a line is a normal row with the op Zero: so rows that differ in sign or op alone have one line
abbrev pub Line : Type 0
Line = LinearConstraint

-- the line of these numbers; none where there is no coefficient
abbrev pub line_with : List (Slot × ℤ) → ℤ → List Line
line_with [] constant = []
line_with (c ∷ cs) constant = normal_row (record { coefs = c ∷ cs; constant = constant; op = Zero }) ∷ []

-- the line of a row; none where it has no coefficient
abbrev pub row_lines : LinearConstraint → List Line
row_lines r = line_with r.coefs r.constant

-- the lines of the rows among the atoms; text atoms have no line
abbrev pub atoms_lines : List Atom → List Line
atoms_lines [] = []
atoms_lines (First r ∷ atoms) = row_lines r ++ atoms_lines atoms
atoms_lines (Second a ∷ atoms) = atoms_lines atoms

-- the lines of the atoms of all the tuples
abbrev pub tuples_lines : List (List Atom) → List Line
tuples_lines [] = []
tuples_lines (t ∷ ts) = atoms_lines t ++ tuples_lines ts

-- ---- sets of lines are lists that are read by membership

-- the line stands in the list
abbrev pub In : Line → List Line → Type 0
In l [] = ⊥
In l (m ∷ ms) = (l ≡ m) ⊎ In l ms

-- each line of the first list stands in the second
abbrev pub IsSubset : List Line → List Line → Type 0
IsSubset xs ys = (l : Line) → In l xs → In l ys

-- ---- combinations

-- both lines mention the slot
abbrev pub both_mention : Slot → Line → Line → Bool
both_mention s l m = row_mentions l s && row_mentions m s

-- of two lines with the coefficients a and a' at the slot: a' times the first less a times the second, without the slot;
-- none where no coefficient is left
abbrev pub combination : Slot → Line → Line → List Line
combination s l m =
    let a = coef_at l.coefs s in
    let b = coef_at m.coefs s in
    line_with (nonzero (cut s (mixed b l.coefs (neg_ℤ a) m.coefs))) (b *ℤ l.constant -ℤ a *ℤ m.constant)

-- ---- clashes

-- more than 127 digits
abbrev pub is_long : ℤ → Bool
is_long z = not (nat_lt (unsigned_abs z) (2 ^ 127))

-- one of the products of the numbers, or their difference, is too long
abbrev pub products_clash : ℤ → ℤ → ℤ → ℤ → Bool
products_clash k c m d = is_long (k *ℤ c) || is_long (m *ℤ d) || is_long (k *ℤ c -ℤ m *ℤ d)

-- a number of the combination of the lines at s, or a product on the way to it, is too long at some slot of the list
-- other than s
abbrev pub slots_clash : Slot → Line → Line → List (Slot × ℤ) → Bool
slots_clash s l m [] = false
slots_clash s l m (c ∷ cs) =
    (not (same_slot c.0 s) && products_clash (coef_at m.coefs s) (coef_at l.coefs c.0) (coef_at l.coefs s) (coef_at m.coefs c.0)) || slots_clash s l m cs

-- a number of their combination at s, or a product on the way to it, is too long
unfoldable pub lines_clash : Slot → Line → Line → Bool
lines_clash s l m =
    slots_clash s l m l.coefs || slots_clash s l m m.coefs || products_clash (coef_at m.coefs s) l.constant (coef_at l.coefs s) m.constant

-- the line and some line of the list both mention the slot, and clash at it
abbrev pub clash_with : Slot → Line → List Line → Bool
clash_with s l [] = false
clash_with s l (m ∷ ms) = (both_mention s l m && lines_clash s l m) || clash_with s l ms

-- some line of the first list and some line of the second both mention the slot, and clash at it
abbrev pub clash_of : Slot → List Line → List Line → Bool
clash_of s [] ms = false
clash_of s (l ∷ ls) ms = clash_with s l ms || clash_of s ls ms

-- some two lines of the set, or one with itself, both mention the slot, and clash at it
unfoldable pub clash_at : Slot → List Line → Bool
clash_at s ls = clash_of s ls ls

-- ---- eliminations

-- the lines that don't mention the slot
abbrev pub without : Slot → List Line → List Line
without s [] = []
without s (l ∷ ls) = if row_mentions l s then without s ls else l ∷ without s ls

-- the combination of the lines at the slot; none where one of them doesn't mention it, or they clash at it
abbrev pub combined : Slot → Line → Line → List Line
combined s l m = if both_mention s l m && not (lines_clash s l m) then combination s l m else []

-- the combinations of the line with those of the list, where both mention the slot and don't clash at it
abbrev pub pairs_with : Slot → Line → List Line → List Line
pairs_with s l [] = []
pairs_with s l (m ∷ ms) = combined s l m ++ pairs_with s l ms

-- the combinations of the lines of the first list with those of the second, where both mention the slot and don't clash
-- at it
abbrev pub pairs : Slot → List Line → List Line → List Line
pairs s [] ms = []
pairs s (l ∷ ls) ms = pairs_with s l ms ++ pairs s ls ms

-- the lines that don't mention the slot, and the combinations of all pairs that do and don't clash, a line with itself
-- included
unfoldable pub elim_at : Slot → List Line → List Line
elim_at s ls = without s ls ++ pairs s ls ls

-- the lines past a quantifier: past a rational one over a slot those that an elimination of the slot makes, and past
-- any other one the same lines
abbrev pub elim_past : Sort → Key → List Line → List Line
elim_past Rat (slot s) ls = elim_at s ls
elim_past Rat (name x) ls = ls
elim_past Text k ls = ls

-- two lines clash at a quantifier, a rational one over a slot; at any other one none do
abbrev pub clash_past : Sort → Key → List Line → Bool
clash_past Rat (slot s) ls = clash_at s ls
clash_past Rat (name x) ls = false
clash_past Text k ls = false

-- the lines past quantifiers of the slots, the first one innermost
abbrev pub elim_past_all : List Slot → List Line → List Line
elim_past_all [] ls = ls
elim_past_all (s ∷ ss) ls = elim_past_all ss (elim_past s.sort (slot s) ls)

-- two lines clash at one of the quantifiers of the slots, the first one innermost, among the lines past those before it
abbrev pub clash_past_all : List Slot → List Line → Bool
clash_past_all [] ls = false
clash_past_all (s ∷ ss) ls = clash_past s.sort (slot s) ls || clash_past_all ss (elim_past s.sort (slot s) ls)

-- ---- renaming

-- the coefficients with a more at the i-th slot of the list, counted from 0; unchanged where there is no such rational
-- slot
abbrev pub put_at : List Slot → ℕ → ℤ → List (Slot × ℤ) → List (Slot × ℤ)
put_at [] i a cs = cs
put_at (s ∷ ss) zero a cs = if same_sort s.sort Rat then put s a cs else cs
put_at (s ∷ ss) (suc i) a cs = put_at ss i a cs

-- the coefficients with slot i read as the i-th of the list; those without such a rational slot fall away
abbrev pub renamed_coefs : List Slot → List (Slot × ℤ) → List (Slot × ℤ)
renamed_coefs ss [] = []
renamed_coefs ss (c ∷ cs) = put_at ss c.0.number c.1 (renamed_coefs ss cs)

-- the lines with slot i read as the i-th of the list; one that is left without coefficients falls away
abbrev pub renamed_lines : List Slot → List Line → List Line
renamed_lines ss [] = []
renamed_lines ss (l ∷ ls) = line_with (renamed_coefs ss l.coefs) l.constant ++ renamed_lines ss ls

-- ---- lengths

-- all numbers of the line have at most k digits
pub record IsLineWithin (k : ℕ) (l : Line) : Type 0 where
  pub coefs : (t : Slot) → IsWithin k (coef_at l.coefs t)
  pub constant : IsWithin k l.constant

-- all numbers of all the lines have at most k digits
abbrev pub AreWithin : ℕ → List Line → Type 0
AreWithin k ls = (l : Line) → In l ls → IsLineWithin k l

-- ---- lines of formulas

-- the lines of a formula, from those of its atoms
abbrev mutual
  pub lines : {L : Type 0} → (L → List Line) → Logic L → List Line
  lines of_atom (atom a) = of_atom a
  lines of_atom always = []
  lines of_atom never = []
  lines of_atom (negation f) = lines of_atom f
  lines of_atom (every_of fs) = all_lines of_atom fs
  lines of_atom (some_of fs) = all_lines of_atom fs
  lines of_atom (implies f g) = lines of_atom f ++ lines of_atom g
  lines of_atom (minus f g) = lines of_atom f ++ lines of_atom g
  lines of_atom (exists s k f) = elim_past s k (lines of_atom f)
  lines of_atom (forall s k f) = elim_past s k (lines of_atom f)

  -- the lines of all the formulas of a list
  pub all_lines : {L : Type 0} → (L → List Line) → Logics L → List Line
  all_lines of_atom none = []
  all_lines of_atom (also f fs) = lines of_atom f ++ all_lines of_atom fs

-- whether some atom clashes, or lines do at a quantifier
abbrev mutual
  pub clashes : {L : Type 0} → (L → List Line) → (L → Bool) → Logic L → Bool
  clashes of_atom in_atom (atom a) = in_atom a
  clashes of_atom in_atom always = false
  clashes of_atom in_atom never = false
  clashes of_atom in_atom (negation f) = clashes of_atom in_atom f
  clashes of_atom in_atom (every_of fs) = any_clashes of_atom in_atom fs
  clashes of_atom in_atom (some_of fs) = any_clashes of_atom in_atom fs
  clashes of_atom in_atom (implies f g) = clashes of_atom in_atom f || clashes of_atom in_atom g
  clashes of_atom in_atom (minus f g) = clashes of_atom in_atom f || clashes of_atom in_atom g
  clashes of_atom in_atom (exists s k f) = clashes of_atom in_atom f || clash_past s k (lines of_atom f)
  clashes of_atom in_atom (forall s k f) = clashes of_atom in_atom f || clash_past s k (lines of_atom f)

  -- whether some formula of a list clashes
  pub any_clashes : {L : Type 0} → (L → List Line) → (L → Bool) → Logics L → Bool
  any_clashes of_atom in_atom none = false
  any_clashes of_atom in_atom (also f fs) = clashes of_atom in_atom f || any_clashes of_atom in_atom fs
