-- No cause applies to the commands of a dump over the catalogue that those before them made.
use Rattle.std.proofs.Common.{◌≡◌, ◌≤◌, ℕ, ℤ, nat_lt, false, ◌||◌, List, [], ◌∷◌, length, arith, refl, sym, ap, ◌∙◌, subst}
use Rattle.std.specs.Prelude.{Some, None, is_some, is_none}
use Rattle.std.proofs.lemmas.Bool.Decides.{nat_tests}
use Rattle.ded_model.specs.declared.command.Refusal.TheVariants.{LongStatement, Unfinished, Syntax, LongName, LongNumber, Deep, Many, Twice, Unknown, Taken, Kind, Arity, Unbound, WrongSort, Used, NoTuple, Full, Spent, Level, Wide, Memory}
use Rattle.ded_model.specs.declared.name.Column.{Column}
use Rattle.ded_model.specs.declared.slot.Slot.{Slot}
use Rattle.ded_model.specs.declared.tuple.BothAtom.TheVariants.{First, Second}
use Rattle.ded_model.specs.declared.tuple.ThemeAtom.{ThemeAtom}
use Rattle.ded_model.specs.declared.tuple.ThemeAtom.TheVariants.{EqText, NeText, EqSlot, NeSlot}
use Rattle.ded_model.specs.Constraint.{LinearConstraint}
use Rattle.ded_model.specs.Catalogue.{Catalogue}
use Rattle.ded_model.specs.Command.{relation, insert, view}
use Rattle.ded_model.specs.Entries.{known, columns_in}
use Rattle.ded_model.specs.Form.{Form, FormAtom}
use Rattle.ded_model.specs.Known.{KnownNames, IsAccepted, level_of, is_arity_atom, has_other_arity, has_unbound, has_missorted, has_twice, scope_of, columns_with}
use Rattle.ded_model.specs.Logic.{Logics, every_of, some_atom_of, some_below}
use Rattle.ded_model.specs.Row.{Atom}
use Rattle.ded_print.specs.Tuples.{Names, column_names}
use Rattle.ded_sorts.specs.Causes.{is_view_with, is_full, is_spent, is_rational_inequality}
use Rattle.ded_session.specs.Carrying.{NoCause}
use Rattle.ded_reread.specs.Formulas.{row_in_tuple, theme_compare, tuple_compare, tuple_compares, restored_tuple}

-- ---- comparisons have no arity

module _ (K : KnownNames) (names : Names) where
  row_arity : (r : LinearConstraint) (cs : List (Slot × ℤ)) → is_arity_atom K (row_in_tuple names r cs) ≡ false
  row_arity r [] = refl
  row_arity r (c ∷ cs) = refl

  theme_arity : (a : ThemeAtom) → is_arity_atom K (theme_compare names a) ≡ false
  theme_arity (EqText s t) = refl
  theme_arity (NeText s t) = refl
  theme_arity (EqSlot s t) = refl
  theme_arity (NeSlot s t) = refl

  atom_arity : (a : Atom) → is_arity_atom K (tuple_compare names a) ≡ false
  atom_arity (First r) = row_arity r r.coefs
  atom_arity (Second a) = theme_arity a

  compares_arity : (atoms : List Atom) → some_atom_of (is_arity_atom K) (tuple_compares names atoms) ≡ false
  compares_arity [] = refl
  compares_arity (a ∷ atoms) = ap (λ b. b || some_atom_of (is_arity_atom K) (tuple_compares names atoms)) (atom_arity a) ∙ compares_arity atoms

-- ---- commands

module _ (c : Catalogue) where
  pub relation_causes : (n : List ℕ) (h : List Column) → nat_lt 16 (length h) ≡ false → has_twice h ≡ false → known c n ≡ None → NoCause c (relation n h)
  relation_causes n h few once new LongStatement = refl
  relation_causes n h few once new Unfinished = refl
  relation_causes n h few once new Syntax = refl
  relation_causes n h few once new LongName = refl
  relation_causes n h few once new LongNumber = refl
  relation_causes n h few once new Deep = refl
  relation_causes n h few once new Many = few
  relation_causes n h few once new Twice = once
  relation_causes n h few once new Unknown = refl
  relation_causes n h few once new Taken = ap is_some new
  relation_causes n h few once new Kind = refl
  relation_causes n h few once new Arity = refl
  relation_causes n h few once new Unbound = refl
  relation_causes n h few once new WrongSort = refl
  relation_causes n h few once new Used = refl
  relation_causes n h few once new NoTuple = refl
  relation_causes n h few once new Full = refl
  relation_causes n h few once new Spent = refl
  relation_causes n h few once new Level = refl
  relation_causes n h few once new Wide = refl
  relation_causes n h few once new Memory = refl

  pub view_causes : (n : List ℕ) (h : List Column) (f : Form) → IsAccepted (known c) h f → level_of (known c) f ≤ 16 → known c n ≡ None → NoCause c (view n h f)
  view_causes n h f a low new LongStatement = refl
  view_causes n h f a low new Unfinished = refl
  view_causes n h f a low new Syntax = refl
  view_causes n h f a low new LongName = refl
  view_causes n h f a low new LongNumber = refl
  view_causes n h f a low new Deep = refl
  view_causes n h f a low new Many = a.few
  view_causes n h f a low new Twice = a.once
  view_causes n h f a low new Unknown = a.known
  view_causes n h f a low new Taken = ap is_some new
  view_causes n h f a low new Kind = refl
  view_causes n h f a low new Arity = a.arity
  view_causes n h f a low new Unbound = a.bound
  view_causes n h f a low new WrongSort = ap (λ b. b || false) a.sorted
  view_causes n h f a low new Used = refl
  view_causes n h f a low new NoTuple = refl
  view_causes n h f a low new Full = refl
  view_causes n h f a low new Spent = refl
  view_causes n h f a low new Level = grind (arith, nat_tests, low)
  view_causes n h f a low new Wide = refl
  view_causes n h f a low new Memory = refl

  -- a relation that is there, with room for one tuple more
  pub record IsOpenRelation (n : List ℕ) (h : List Column) : Type 0 where
    pub known : known c n ≡ Some (record { is_view = false; columns = h; level = 0 })
    pub room : is_full c n ≡ false
    pub unspent : is_spent c n ≡ false

  -- comparisons that are accepted over the heading
  pub record AreComparisons (h : List Column) (fs : Logics FormAtom) : Type 0 where
    pub arity : has_other_arity (known c) (every_of fs) ≡ false
    pub bound : has_unbound h (every_of fs) ≡ false
    pub sorted : has_missorted (known c) h (every_of fs) ≡ false
    pub equalities : some_below is_rational_inequality (scope_of h) (every_of fs) ≡ false

  module _ (n : List ℕ) (h : List Column) (fs : Logics FormAtom) (o : IsOpenRelation n h) (a : AreComparisons h fs) where
    columns : columns_in c n ≡ h
    columns = ap columns_with o.known

    sorts : (has_missorted (known c) (columns_in c n) (every_of fs) || some_below is_rational_inequality (scope_of (columns_in c n)) (every_of fs)) ≡ false
    sorts = subst (λ k. (has_missorted (known c) k (every_of fs) || some_below is_rational_inequality (scope_of k) (every_of fs)) ≡ false) (sym columns)
        (ap (λ b. b || some_below is_rational_inequality (scope_of h) (every_of fs)) a.sorted ∙ a.equalities)

    pub insert_causes : NoCause c (insert n fs)
    insert_causes LongStatement = refl
    insert_causes Unfinished = refl
    insert_causes Syntax = refl
    insert_causes LongName = refl
    insert_causes LongNumber = refl
    insert_causes Deep = refl
    insert_causes Many = refl
    insert_causes Twice = refl
    insert_causes Unknown = ap is_none o.known
    insert_causes Taken = refl
    insert_causes Kind = ap is_view_with o.known
    insert_causes Arity = a.arity
    insert_causes Unbound = subst (λ k. has_unbound k (every_of fs) ≡ false) (sym columns) a.bound
    insert_causes WrongSort = sorts
    insert_causes Used = refl
    insert_causes NoTuple = refl
    insert_causes Full = o.room
    insert_causes Spent = o.unspent
    insert_causes Level = refl
    insert_causes Wide = refl
    insert_causes Memory = refl

  pub tuple_arity : (h : List Column) (t : List Atom) → has_other_arity (known c) (every_of (restored_tuple h t)) ≡ false
  tuple_arity h t = compares_arity (known c) (column_names h) t
