-- Where tuples over the columns of a name, with lines among its own, aren't narrow, a name that is made of it clashes.
--
-- The lines of the name have less than (b + 1) * 2 ^ q digits, and its columns are the heading's: so were (b + 1) * 2 ^ (q + k) at most
-- 128 for the k rational columns, each list of atoms of the tuples would be narrow.
use Rattle.std.proofs.Common.{◌≡◌, ◌⊎◌, ℕ, ◌+◌, ◌*◌, ◌^◌, ◌≤◌, nat_lt, Bool, true, false, ◌||◌, cond, bytes_eq, Some, None, List, [], ◌∷◌, ◌++◌, inl, inr, arith, refl, sym, ap, ◌∙◌, subst}
use Rattle.std.specs.List.{AllByRecursion}
use Rattle.std.proofs.lemmas.Bool.Decides.{nat_tests}
use Rattle.std.proofs.lemmas.List.Folds.{list_any-append}
use Rattle.ded_model.specs.declared.name.Column.{Column}
use Rattle.ded_model.specs.declared.slot.Slot.{Slot}
use Rattle.ded_model.specs.Catalogue.{Entry, relation, view, Catalogue, entry_name}
use Rattle.ded_model.specs.Entries.{columns_in}
use Rattle.ded_model.specs.Known.{KnownNames, IsTupleOver, IsWellFormed, entry_known, with_known, known_from, known_of, columns_with}
use Rattle.ded_model.specs.Lines.{Line, IsSubset, AreWithin, atoms_lines, tuples_lines}
use Rattle.ded_model.specs.Made.{reading, closure_of, interior_of}
use Rattle.ded_model.specs.Measure.{Measure, Measures, is_wide_with, near_measure, measure_as, entry_measure, with_measure, measures_from, stored_measures, measures}
use Rattle.ded_model.specs.Normal.{IsNormalAtom}
use Rattle.ded_model.specs.Row.{Atom, atom_mentions, tuple_mentions, tuples_mention}
use Rattle.ded_model.specs.Width.{IsNarrowWith, IsNarrowList, rational_columns}
use Rattle.ded_model.proofs.Rows.{or_right}
use Rattle.ded_laws.proofs.TupleLengths.{normal_atoms}
use Rattle.ded_width.proofs.NameReaches.{stored_in_reach}
use Rattle.ded_width.proofs.Reaches.{reach, some_power, from_within}
use Rattle.ded_genrel.specs.Lists.{AreNormal, SomeConj}
use Rattle.ded_complement.specs.Pieces.{all_atoms}
use Rattle.ded_complement.proofs.NarrowLists.{all_of_each}
use Rattle.ded_atoms.proofs.TuplesRead.{atoms_lines-append}
use Rattle.ded_topology.proofs.Normals.{over_slots}
use Rattle.ded_width.proofs.AnswerReaches.{atoms_narrow, narrow_after, tuples_narrow}

-- ---- each tuple

none_other : (ts : List (List Atom)) → AllByRecursion IsNarrowList ts → SomeConj (λ t. IsNarrowList t → ⊥) ts → ⊥
none_other [] a w = w
none_other (t ∷ ts) a (inl w) = w a.0
none_other (t ∷ ts) a (inr w) = none_other ts a.1 w

-- ---- all atoms

all_normal : (h : List Column) (ts : List (List Atom)) → AllByRecursion (IsTupleOver h) ts → AreNormal IsNormalAtom ts
all_normal h [] o = tt
all_normal h (t ∷ ts) o = (normal_atoms t o.0.normal, all_normal h ts o.1)

all_mention : (ts : List (List Atom)) (s : Slot) → tuple_mentions (all_atoms ts) s ≡ tuples_mention ts s
unfolding tuple_mentions tuples_mention
all_mention [] s = refl
all_mention (t ∷ ts) s = list_any-append (λ a. atom_mentions a s) t (all_atoms ts) ∙ ap (λ b. tuple_mentions t s || b) (all_mention ts s)

all_lines : (ts : List (List Atom)) → atoms_lines (all_atoms ts) ≡ tuples_lines ts
all_lines [] = refl
all_lines (t ∷ ts) = atoms_lines-append t (all_atoms ts) ∙ ap (λ ls. atoms_lines t ++ ls) (all_lines ts)

all_narrow : (h : List Column) (k : ℕ) (ls : List Line) → IsNarrowWith k (rational_columns h) → AreWithin k ls → (ts : List (List Atom)) → AllByRecursion (IsTupleOver h) ts → IsSubset (tuples_lines ts) ls
    → IsNarrowList (all_atoms ts)
all_narrow h k ls n w ts o s =
    atoms_narrow h k ls n w (all_atoms ts) (all_of_each IsNormalAtom ts (all_normal h ts o)) (λ u e. over_slots h ts o u (sym (all_mention ts u) ∙ e))
    (subst (λ xs. IsSubset xs ls) (sym (all_lines ts)) s)

-- ---- names

-- a name has the rational columns of its entry
columns_from : (es : List Entry) (M : Measures) (K : KnownNames) → ((n : List ℕ) → (M n).columns ≡ rational_columns (columns_with (K n))) → (n : List ℕ)
    → (measures_from M es n).columns ≡ rational_columns (columns_with (known_from K es n))
columns_from [] M K h n = h n
columns_from (e ∷ es) M K h n = columns_from es (with_measure M e) (with_known K e) (λ m. by (bytes_eq m (entry_name e)) m) n
  where
    of : (e : Entry) → (entry_measure M e).columns ≡ rational_columns (columns_with (Some (entry_known K e)))
    of (relation n h m ts) = refl
    of (view n h f) = refl

    by : (b : Bool) (m : List ℕ) → (cond b (entry_measure M e) (M m)).columns ≡ rational_columns (columns_with (cond b (Some (entry_known K e)) (K m)))
    by true m = of e
    by false m = h m

stored_columns : (c : Catalogue) (n : List ℕ) → (stored_measures c n).columns ≡ rational_columns (columns_in c n)
unfolding stored_measures known_of
stored_columns c n = columns_from c.entries (λ m. record { b = 0; rank = 0; lines = []; clash = false; columns = 0 }) (λ m. None) (λ m. refl) n

-- a made name
near_of : (c : Catalogue) (m n : List ℕ) → (reading m ≡ closure_of n) ⊎ (reading m ≡ interior_of n) → measures c m ≡ near_measure (stored_measures c n)
unfolding measures
near_of c m n (inl e) = ap (measure_as (stored_measures c) m) e
near_of c m n (inr e) = ap (measure_as (stored_measures c) m) e

wide_of : (x : ℕ) → (x ≤ 128 → ⊥) → nat_lt 128 x ≡ true
wide_of x f = go (nat_lt 128 x) refl
  where
    at_most : (y : ℕ) → nat_lt 128 y ≡ false → y ≤ 128
    at_most y e = grind (arith, nat_tests)

    go : (b : Bool) → nat_lt 128 x ≡ b → nat_lt 128 x ≡ true
    go true e = e
    go false e = absurd (f (at_most x e))

-- what isn't narrow with the rank and the columns clashes
clash_from : (c : Catalogue) (m n : List ℕ) → (reading m ≡ closure_of n) ⊎ (reading m ≡ interior_of n)
    → (IsNarrowWith (stored_measures c n).b ((stored_measures c n).rank + rational_columns (columns_in c n)) → ⊥) → (measures c m).clash ≡ true
clash_from c m n r f =
    let M : Measure = stored_measures c n in
    ap (λ (x : Measure). x.clash) (near_of c m n r)
    ∙ or_right M.clash (is_wide_with M.b (M.rank + M.columns)) (wide_of ((M.b + 1) * 2 ^ (M.rank + M.columns)) (λ k. f (subst (λ z. IsNarrowWith M.b (M.rank + z)) (stored_columns c n) k)))

module _ (c : Catalogue) (w : IsWellFormed c) (n : List ℕ) (ts : List (List Atom)) (o : AllByRecursion (IsTupleOver (columns_in c n)) ts) (s : IsSubset (tuples_lines ts) (stored_measures c n).lines) where
  whole : (b q : ℕ) → reach b q + 1 ≡ (b + 1) * 2 ^ q
  whole b q = omega (arith, some_power b q)

  lines_within : AreWithin (reach (stored_measures c n).b (stored_measures c n).rank) (stored_measures c n).lines
  lines_within = from_within (stored_measures c n).b (stored_measures c n).rank (stored_measures c n).lines ((stored_in_reach c w).within n)

  left : IsNarrowWith (stored_measures c n).b ((stored_measures c n).rank + rational_columns (columns_in c n)) → IsNarrowWith (reach (stored_measures c n).b (stored_measures c n).rank) (rational_columns (columns_in c n))
  left k = narrow_after (reach (stored_measures c n).b (stored_measures c n).rank) (stored_measures c n).b (stored_measures c n).rank (rational_columns (columns_in c n)) (whole (stored_measures c n).b (stored_measures c n).rank) k

  pub wide_tuple : (m : List ℕ) → (reading m ≡ closure_of n) ⊎ (reading m ≡ interior_of n) → SomeConj (λ t. IsNarrowList t → ⊥) ts → (measures c m).clash ≡ true
  wide_tuple m r x =
      clash_from c m n r (λ k. none_other ts (tuples_narrow (columns_in c n) (reach (stored_measures c n).b (stored_measures c n).rank) (stored_measures c n).lines (left k) lines_within ts o s) x)

  pub wide_together : (m : List ℕ) → (reading m ≡ closure_of n) ⊎ (reading m ≡ interior_of n) → (IsNarrowList (all_atoms ts) → ⊥) → (measures c m).clash ≡ true
  wide_together m r x =
      clash_from c m n r (λ k. x (all_narrow (columns_in c n) (reach (stored_measures c n).b (stored_measures c n).rank) (stored_measures c n).lines (left k) lines_within ts o s))
