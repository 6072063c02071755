-- Of a formula whose names are known before its entry, the names after it change nothing: neither where it holds, nor what is measured of
-- its goal, nor whether it is accepted, nor its level, nor what it reaches.
use Rattle.std.proofs.Common.{◌≡◌, ℕ, suc, ◌*◌, Bool, true, false, ◌||◌, List, [], map, Option, Some, None, is_none, is_some, refl, sym, ap, ◌∙◌, subst, true≢false}
use Rattle.std.specs.Prelude.{◌↔◌}
use Rattle.std.specs.List.{list_any}
use Rattle.std.proofs.lemmas.Slice.Eq.{bytes_eq-Decides}
use Rattle.ded_model.specs.declared.name.Column.{Column}
use Rattle.ded_model.specs.Point.{Point}
use Rattle.ded_model.specs.Logic.{some_atom}
use Rattle.ded_model.specs.Form.{Form, FormAtom, compare, member, atom_speaks_of, speaks_of}
use Rattle.ded_model.specs.Value.{Argument, Meaning, operand_value, overs, arguments}
use Rattle.ded_model.specs.Catalogue.{AtomHolds, read}
use Rattle.ded_model.specs.Made.{reading, base}
use Rattle.ded_model.proofs.Nearness.{read_as-alike}
use Rattle.ded_model.specs.Logic.{Sat}
use Rattle.ded_model.specs.Known.{Known, KnownNames, IsAccepted, is_unknown_atom, uses_unknown, other_arity, is_arity_atom, is_missorted_atom, scope_of, is_text_sum, arguments_differ, columns_with, atom_level, level_with, level_of}
use Rattle.ded_model.specs.Measure.{Measure}
use Rattle.ded_model.proofs.Alike.{IsAlike, Sat-alike, all_atoms}
use Rattle.ded_views.specs.Reaching.{atom_reaches}
use Rattle.ded_views.proofs.Atoms.{all_where_none, some_with, SameTests, some_below-same, some_atom-same}
use Rattle.ded_views.proofs.Measuring.{measured-same}

-- what isn't unknown is known
pub is_known : (o : Option Known) → is_none o ≡ false → is_some o ≡ true
is_known None h = absurd (true≢false h)
is_known (Some k) h = refl

-- a name that the formula uses is known, where none is unknown
pub used_known : (K : KnownNames) (f : Form) (n : List ℕ) → uses_unknown K f ≡ false → speaks_of n f ≡ true → is_some (K n) ≡ true
used_known K f n k u =
    some_with (atom_speaks_of n) (λ a. is_unknown_atom K a ≡ false) (is_some (K n) ≡ true) step f (all_where_none (is_unknown_atom K) (λ a. is_unknown_atom K a ≡ false) (λ a e. e) f k) u
  where
    step : (a : FormAtom) → is_unknown_atom K a ≡ false → atom_speaks_of n a ≡ true → is_some (K n) ≡ true
    step (compare l op r) h e = absurd (true≢false (sym e))
    step (member m ts) h e = subst (λ x. is_some (K x) ≡ true) (sym ((bytes_eq-Decides n (base m)).0 e)) (is_known (K (base m)) h)

-- ---- where it holds

module _ (K : KnownNames) (I J : Meaning) (kept : (m : List ℕ) → is_some (K m) ≡ true → J m ≡ I m) where
  atom_alike : (a : FormAtom) → is_unknown_atom K a ≡ false → IsAlike (AtomHolds (read J)) (AtomHolds (read I)) a
  atom_alike (compare l op r) h p = (λ s. s, λ s. s)
  atom_alike (member m ts) h p =
      let values = map (λ t. operand_value t p) ts in
      read_as-alike J I m (reading m) (p.den * overs values) (arguments values)
      (λ e ys. subst (λ (f : ℕ → List Argument → Type 0). f e ys ↔ I (base m) e ys) (sym (kept (base m) (is_known (K (base m)) h))) (λ s. s, λ s. s))

  pub holds_alike : (f : Form) → uses_unknown K f ≡ false → (p : Point) → Sat (AtomHolds (read J)) f p ↔ Sat (AtomHolds (read I)) f p
  holds_alike f h p = Sat-alike (AtomHolds (read J)) (AtomHolds (read I)) f (all_where_none (is_unknown_atom K) (IsAlike (AtomHolds (read J)) (AtomHolds (read I))) atom_alike f h) p

-- ---- what is known

-- the level of an atom, as a measure
abbrev level_measure : KnownNames → FormAtom → Measure
level_measure K a = record { b = atom_level K a; rank = 0; lines = []; clash = false; columns = 0 }

module _ (K J : KnownNames) (kept : (m : List ℕ) → is_some (K m) ≡ true → J m ≡ K m) where
  unknown_same : (a : FormAtom) → is_unknown_atom K a ≡ false → SameTests (λ s. is_unknown_atom J) (λ s. is_unknown_atom K) a
  unknown_same (compare l op r) h scope = refl
  unknown_same (member m ts) h scope = ap is_none (kept (base m) (is_known (K (base m)) h))

  arity_same : (a : FormAtom) → is_unknown_atom K a ≡ false → SameTests (λ s. is_arity_atom J) (λ s. is_arity_atom K) a
  arity_same (compare l op r) h scope = refl
  arity_same (member m ts) h scope = ap (λ o. other_arity o ts) (kept (base m) (is_known (K (base m)) h))

  missorted_same : (a : FormAtom) → is_unknown_atom K a ≡ false → SameTests (is_missorted_atom J) (is_missorted_atom K) a
  missorted_same (compare l op r) h scope = refl
  missorted_same (member m ts) h scope = ap (λ o. list_any (is_text_sum scope) ts || arguments_differ scope (columns_with o) ts) (kept (base m) (is_known (K (base m)) h))

  pub accepted : (h : List Column) (f : Form) → IsAccepted K h f → IsAccepted J h f
  accepted h f a = record {
    few = a.few;
    once = a.once;
    known = some_atom-same (is_unknown_atom J) (is_unknown_atom K) f (all_where_none (is_unknown_atom K) (SameTests (λ s. is_unknown_atom J) (λ s. is_unknown_atom K)) unknown_same f a.known) ∙ a.known;
    arity = some_atom-same (is_arity_atom J) (is_arity_atom K) f (all_where_none (is_unknown_atom K) (SameTests (λ s. is_arity_atom J) (λ s. is_arity_atom K)) arity_same f a.known) ∙ a.arity;
    bound = a.bound;
    sorted =
        some_below-same (is_missorted_atom J) (is_missorted_atom K) f (all_where_none (is_unknown_atom K) (SameTests (is_missorted_atom J) (is_missorted_atom K)) missorted_same f a.known) (scope_of h)
        ∙ a.sorted;
  }

-- ---- its level

module _ (K J : KnownNames) where
  level_step : (a : FormAtom) → ((n : List ℕ) → atom_speaks_of n a ≡ true → J n ≡ K n) → level_measure J a ≡ level_measure K a
  level_step (compare l op r) h = refl
  level_step (member m ts) h = ap (λ o. record { b = level_with o; rank = 0; lines = []; clash = false; columns = 0 }) (h (base m) ((bytes_eq-Decides (base m) (base m)).1 refl))

  -- the level is that of the names that it uses
  pub level_of_used : (f : Form) → ((n : List ℕ) → speaks_of n f ≡ true → J n ≡ K n) → level_of J f ≡ level_of K f
  level_of_used f same =
      ap (λ x. suc x.b)
      (measured-same (level_measure J) (level_measure K) f (all_atoms atom_speaks_of (λ n. J n ≡ K n) (λ a. level_measure J a ≡ level_measure K a) level_step f same))

  pub level_same : ((m : List ℕ) → is_some (K m) ≡ true → J m ≡ K m) → (f : Form) → uses_unknown K f ≡ false → level_of J f ≡ level_of K f
  level_same kept f h = level_of_used f (λ n e. kept n (used_known K f n h e))

-- ---- what it reaches

module _ (R S : List ℕ → List ℕ → Bool) (r : List ℕ) where
  reach_step : (a : FormAtom) → ((n : List ℕ) → atom_speaks_of n a ≡ true → S n r ≡ R n r) → SameTests (λ s. atom_reaches S r) (λ s. atom_reaches R r) a
  reach_step (compare l op r') h scope = refl
  reach_step (member m ts) h scope = h (base m) ((bytes_eq-Decides (base m) (base m)).1 refl)

  -- a formula reaches what the names that it uses do
  pub reach_of_used : (f : Form) → ((n : List ℕ) → speaks_of n f ≡ true → S n r ≡ R n r) → some_atom (atom_reaches S r) f ≡ some_atom (atom_reaches R r) f
  reach_of_used f same =
      some_atom-same (atom_reaches S r) (atom_reaches R r) f
      (all_atoms atom_speaks_of (λ n. S n r ≡ R n r) (SameTests (λ s. atom_reaches S r) (λ s. atom_reaches R r)) reach_step f same)
