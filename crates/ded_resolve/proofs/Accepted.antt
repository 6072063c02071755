-- Formulas that are accepted meet what the making of goals asks for.
use Rattle.std.proofs.Common.{◌≡◌, ℕ, ◌+◌, ◌^◌, ◌<◌, nat_lt, ◌||◌, Bool, false, length, List, arith, refl}
use Rattle.std.specs.List.{list_any}
use Rattle.std.proofs.lemmas.Bool.Decides.{nat_tests}
use Rattle.ded_model.specs.declared.name.Column.{Column}
use Rattle.ded_model.specs.Logic.{atom, always, never, negation, every_of, some_of, implies, minus, exists, forall, Logics, none, also, Scope, some_below, some_below_of, quantifiers}
use Rattle.ded_model.specs.Form.{Form, FormAtom, compare, member}
use Rattle.ded_model.specs.Known.{KnownNames, is_many, is_missorted_atom, has_missorted, is_text_sum, scope_of}
use Rattle.ded_resolve.specs.TextSums.{has_text_sum}
use Rattle.ded_resolve.specs.Tuples.{is_missorted_comparison}
use Rattle.std.proofs.lemmas.Bool.{or_from}
use Rattle.ded_model.proofs.Bools.{or_false_left, or_false_right}

module _ (strong weak : Scope → FormAtom → Bool) (atoms : (scope : Scope) (a : FormAtom) → strong scope a ≡ false → weak scope a ≡ false) where
  mutual
    -- where no atom passes a test, none passes one that implies it
    weaker : (f : Form) (scope : Scope) → some_below strong scope f ≡ false → some_below weak scope f ≡ false
    weaker (atom a) scope h = atoms scope a h
    weaker always scope h = refl
    weaker never scope h = refl
    weaker (negation f) scope h = weaker f scope h
    weaker (every_of fs) scope h = weaker_of fs scope h
    weaker (some_of fs) scope h = weaker_of fs scope h
    weaker (implies f g) scope h = or_from _ _ (weaker f scope (or_false_left _ _ h)) (weaker g scope (or_false_right (some_below strong scope f) _ h))
    weaker (minus f g) scope h = or_from _ _ (weaker f scope (or_false_left _ _ h)) (weaker g scope (or_false_right (some_below strong scope f) _ h))
    weaker (exists s k f) scope h = weaker f _ h
    weaker (forall s k f) scope h = weaker f _ h

    -- of a list
    weaker_of : (fs : Logics FormAtom) (scope : Scope) → some_below_of strong scope fs ≡ false → some_below_of weak scope fs ≡ false
    weaker_of none scope h = refl
    weaker_of (also f fs) scope h = or_from _ _ (weaker f scope (or_false_left _ _ h)) (weaker_of fs scope (or_false_right (some_below strong scope f) _ h))

sums_atom : (known : KnownNames) (scope : Scope) (a : FormAtom) → is_missorted_atom known scope a ≡ false → has_text_sum scope a ≡ false
sums_atom known scope (compare l op r) h = or_false_left (is_text_sum scope l || is_text_sum scope r) _ h
sums_atom known scope (member n ts) h = or_false_left (list_any (is_text_sum scope) ts) _ h

comparisons_atom : (known : KnownNames) (scope : Scope) (a : FormAtom) → is_missorted_atom known scope a ≡ false → is_missorted_comparison scope a ≡ false
comparisons_atom known scope (compare l op r) h = h
comparisons_atom known scope (member n ts) h = refl

pub sums_of-accepted : (known : KnownNames) (h : List Column) (f : Form) → has_missorted known h f ≡ false → some_below has_text_sum (scope_of h) f ≡ false
sums_of-accepted known h f e = weaker (is_missorted_atom known) has_text_sum (sums_atom known) f (scope_of h) e

pub comparisons_of-accepted : (known : KnownNames) (h : List Column) (f : Form) → has_missorted known h f ≡ false → some_below is_missorted_comparison (scope_of h) f ≡ false
comparisons_of-accepted known h f e = weaker (is_missorted_atom known) is_missorted_comparison (comparisons_atom known) f (scope_of h) e

pub few-accepted : (h : List Column) (f : Form) → is_many h f ≡ false → length h + quantifiers f < 2 ^ 32
few-accepted h f e = below (length h + quantifiers f) (or_false_right (nat_lt 16 (length h)) _ e)
  where
    most : (n : ℕ) → nat_lt 64 n ≡ false → n < 65
    most n e = grind (arith, nat_tests)

    below : (n : ℕ) → nat_lt 64 n ≡ false → n < 2 ^ 32
    below n e = let k : n < 65 = most n e in omega (arith, k)
