-- What is known of a name that a formula doesn't speak of doesn't matter to it.
use Rattle.std.proofs.Common.{◌≡◌, ℕ, suc, max, Bool, false, ◌||◌, List, ◌∷◌, refl, sym, ap, ◌∙◌, bytes_eq, is_none}
use Rattle.ded_model.specs.declared.name.Column.{Column}
use Rattle.ded_model.specs.Form.{Form, FormAtom, compare, member, speaks_of, atom_speaks_of}
use Rattle.ded_model.specs.Made.{base}
use Rattle.ded_model.specs.Known.{KnownNames, IsAccepted, is_unknown_atom, other_arity, is_arity_atom, is_missorted_atom, scope_of, is_text_sum, arguments_differ, columns_with, atom_level, level_with, level_of}
use Rattle.ded_model.specs.Logic.{Logic, atom, always, never, negation, every_of, some_of, implies, minus, exists, forall, Logics, none, also, Scope, some_atom, some_atom_of, some_below, some_below_of, greatest, greatest_of}
use Rattle.std.specs.List.{list_any}
use Rattle.ded_model.proofs.Bools.{or_false_left, or_false_right}

-- tests that agree on each atom of which u fails agree on each formula of whose atoms u fails
module _ {L : Type 0} (u : L → Bool) (t t' : L → Bool) (agree : (a : L) → u a ≡ false → t a ≡ t' a) where
  mutual
    pub some_atom-agree : (f : Logic L) → some_atom u f ≡ false → some_atom t f ≡ some_atom t' f
    some_atom-agree (atom a) h = agree a h
    some_atom-agree always h = refl
    some_atom-agree never h = refl
    some_atom-agree (negation f) h = some_atom-agree f h
    some_atom-agree (every_of fs) h = some_atom_of-agree fs h
    some_atom-agree (some_of fs) h = some_atom_of-agree fs h
    some_atom-agree (implies f g) h = λ i. some_atom-agree f (or_false_left _ _ h) i || some_atom-agree g (or_false_right _ _ h) i
    some_atom-agree (minus f g) h = λ i. some_atom-agree f (or_false_left _ _ h) i || some_atom-agree g (or_false_right _ _ h) i
    some_atom-agree (exists s k f) h = some_atom-agree f h
    some_atom-agree (forall s k f) h = some_atom-agree f h

    pub some_atom_of-agree : (fs : Logics L) → some_atom_of u fs ≡ false → some_atom_of t fs ≡ some_atom_of t' fs
    some_atom_of-agree none h = refl
    some_atom_of-agree (also f fs) h = λ i. some_atom-agree f (or_false_left _ _ h) i || some_atom_of-agree fs (or_false_right _ _ h) i

-- the same below a scope
module _ {L : Type 0} (u : L → Bool) (t t' : Scope → L → Bool) (agree : (scope : Scope) (a : L) → u a ≡ false → t scope a ≡ t' scope a) where
  mutual
    pub some_below-agree : (scope : Scope) (f : Logic L) → some_atom u f ≡ false → some_below t scope f ≡ some_below t' scope f
    some_below-agree scope (atom a) h = agree scope a h
    some_below-agree scope always h = refl
    some_below-agree scope never h = refl
    some_below-agree scope (negation f) h = some_below-agree scope f h
    some_below-agree scope (every_of fs) h = some_below_of-agree scope fs h
    some_below-agree scope (some_of fs) h = some_below_of-agree scope fs h
    some_below-agree scope (implies f g) h = λ i. some_below-agree scope f (or_false_left _ _ h) i || some_below-agree scope g (or_false_right _ _ h) i
    some_below-agree scope (minus f g) h = λ i. some_below-agree scope f (or_false_left _ _ h) i || some_below-agree scope g (or_false_right _ _ h) i
    some_below-agree scope (exists s k f) h = some_below-agree ((k, s) ∷ scope) f h
    some_below-agree scope (forall s k f) h = some_below-agree ((k, s) ∷ scope) f h

    pub some_below_of-agree : (scope : Scope) (fs : Logics L) → some_atom_of u fs ≡ false → some_below_of t scope fs ≡ some_below_of t' scope fs
    some_below_of-agree scope none h = refl
    some_below_of-agree scope (also f fs) h = λ i. some_below-agree scope f (or_false_left _ _ h) i || some_below_of-agree scope fs (or_false_right _ _ h) i

-- the same of measures
module _ {L : Type 0} (u : L → Bool) (t t' : L → ℕ) (agree : (a : L) → u a ≡ false → t a ≡ t' a) where
  mutual
    pub greatest-agree : (f : Logic L) → some_atom u f ≡ false → greatest t f ≡ greatest t' f
    greatest-agree (atom a) h = agree a h
    greatest-agree always h = refl
    greatest-agree never h = refl
    greatest-agree (negation f) h = greatest-agree f h
    greatest-agree (every_of fs) h = greatest_of-agree fs h
    greatest-agree (some_of fs) h = greatest_of-agree fs h
    greatest-agree (implies f g) h = λ i. max (greatest-agree f (or_false_left _ _ h) i) (greatest-agree g (or_false_right _ _ h) i)
    greatest-agree (minus f g) h = λ i. max (greatest-agree f (or_false_left _ _ h) i) (greatest-agree g (or_false_right _ _ h) i)
    greatest-agree (exists s k f) h = greatest-agree f h
    greatest-agree (forall s k f) h = greatest-agree f h

    pub greatest_of-agree : (fs : Logics L) → some_atom_of u fs ≡ false → greatest_of t fs ≡ greatest_of t' fs
    greatest_of-agree none h = refl
    greatest_of-agree (also f fs) h = λ i. max (greatest-agree f (or_false_left _ _ h) i) (greatest_of-agree fs (or_false_right _ _ h) i)

-- the same is known of all names but n
pub record Agrees (n : List ℕ) (K J : KnownNames) : Type 0 where
  pub same : (m : List ℕ) → bytes_eq n m ≡ false → K m ≡ J m

unknown_agree : (n : List ℕ) (K J : KnownNames) → Agrees n K J → (a : FormAtom) → atom_speaks_of n a ≡ false → is_unknown_atom K a ≡ is_unknown_atom J a
unknown_agree n K J g (compare l op r) h = refl
unknown_agree n K J g (member m ts) h = ap is_none (g.same (base m) h)

arity_agree : (n : List ℕ) (K J : KnownNames) → Agrees n K J → (a : FormAtom) → atom_speaks_of n a ≡ false → is_arity_atom K a ≡ is_arity_atom J a
arity_agree n K J g (compare l op r) h = refl
arity_agree n K J g (member m ts) h = ap (λ o. other_arity o ts) (g.same (base m) h)

missorted_agree : (n : List ℕ) (K J : KnownNames) → Agrees n K J → (scope : Scope) (a : FormAtom) → atom_speaks_of n a ≡ false → is_missorted_atom K scope a ≡ is_missorted_atom J scope a
missorted_agree n K J g scope (compare l op r) h = refl
missorted_agree n K J g scope (member m ts) h = ap (λ o. list_any (is_text_sum scope) ts || arguments_differ scope (columns_with o) ts) (g.same (base m) h)

atom_level_agree : (n : List ℕ) (K J : KnownNames) → Agrees n K J → (a : FormAtom) → atom_speaks_of n a ≡ false → atom_level K a ≡ atom_level J a
atom_level_agree n K J g (compare l op r) h = refl
atom_level_agree n K J g (member m ts) h = ap level_with (g.same (base m) h)

-- a formula that doesn't speak of the name has the same level
pub level-agree : (n : List ℕ) (K J : KnownNames) → Agrees n K J → (f : Form) → speaks_of n f ≡ false → level_of K f ≡ level_of J f
level-agree n K J g f h = ap suc (greatest-agree (atom_speaks_of n) (atom_level K) (atom_level J) (atom_level_agree n K J g) f h)

-- and is accepted alike
pub accepted-agree : (n : List ℕ) (K J : KnownNames) → Agrees n K J → (h : List Column) (f : Form) → speaks_of n f ≡ false → IsAccepted K h f → IsAccepted J h f
accepted-agree n K J g h f u a = record {
  few = a.few;
  once = a.once;
  known = sym (some_atom-agree (atom_speaks_of n) (is_unknown_atom K) (is_unknown_atom J) (unknown_agree n K J g) f u) ∙ a.known;
  arity = sym (some_atom-agree (atom_speaks_of n) (is_arity_atom K) (is_arity_atom J) (arity_agree n K J g) f u) ∙ a.arity;
  bound = a.bound;
  sorted = sym (some_below-agree (atom_speaks_of n) (is_missorted_atom K) (is_missorted_atom J) (missorted_agree n K J g) (scope_of h) f u) ∙ a.sorted;
}
