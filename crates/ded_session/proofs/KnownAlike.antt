-- Of a formula whose names are known alike the same is refused, and it has the same level.
use Rattle.std.proofs.Common.{◌≡◌, ℕ, true, ◌||◌, List, is_none, refl, ap, ◌∙◌}
use Rattle.std.specs.List.{list_any}
use Rattle.ded_model.specs.declared.name.Column.{Column}
use Rattle.ded_model.specs.Form.{Form, FormAtom, compare, member, atom_speaks_of, speaks_of}
use Rattle.ded_model.specs.Known.{KnownNames, IsAccepted, is_unknown_atom, uses_unknown, other_arity, is_arity_atom, has_other_arity, is_missorted_atom, has_missorted, scope_of, is_text_sum, arguments_differ, columns_with, level_of}
use Rattle.ded_model.specs.Made.{base}
use Rattle.ded_model.proofs.Alike.{all_atoms}
use Rattle.ded_model.proofs.Bools.{bytes_eq-refl}
use Rattle.ded_views.proofs.Atoms.{SameTests, some_below-same, some_atom-same}
use Rattle.ded_views.proofs.ViewNames.{level_of_used}

module _ (K J : KnownNames) where
  unknown_step : (a : FormAtom) → ((n : List ℕ) → atom_speaks_of n a ≡ true → J n ≡ K n) → SameTests (λ s. is_unknown_atom J) (λ s. is_unknown_atom K) a
  unknown_step (compare l op r) h scope = refl
  unknown_step (member m ts) h scope = ap is_none (h (base m) (bytes_eq-refl (base m)))

  arity_step : (a : FormAtom) → ((n : List ℕ) → atom_speaks_of n a ≡ true → J n ≡ K n) → SameTests (λ s. is_arity_atom J) (λ s. is_arity_atom K) a
  arity_step (compare l op r) h scope = refl
  arity_step (member m ts) h scope = ap (λ o. other_arity o ts) (h (base m) (bytes_eq-refl (base m)))

  missorted_step : (a : FormAtom) → ((n : List ℕ) → atom_speaks_of n a ≡ true → J n ≡ K n) → SameTests (is_missorted_atom J) (is_missorted_atom K) a
  missorted_step (compare l op r) h scope = refl
  missorted_step (member m ts) h scope = ap (λ o. list_any (is_text_sum scope) ts || arguments_differ scope (columns_with o) ts) (h (base m) (bytes_eq-refl (base m)))

  module _ (f : Form) (same : (n : List ℕ) → speaks_of n f ≡ true → J n ≡ K n) where
    pub unknown_alike : uses_unknown J f ≡ uses_unknown K f
    unknown_alike =
        some_atom-same (is_unknown_atom J) (is_unknown_atom K) f
        (all_atoms atom_speaks_of (λ n. J n ≡ K n) (SameTests (λ s. is_unknown_atom J) (λ s. is_unknown_atom K)) unknown_step f same)

    pub arity_alike : has_other_arity J f ≡ has_other_arity K f
    arity_alike =
        some_atom-same (is_arity_atom J) (is_arity_atom K) f
        (all_atoms atom_speaks_of (λ n. J n ≡ K n) (SameTests (λ s. is_arity_atom J) (λ s. is_arity_atom K)) arity_step f same)

    pub sorts_alike : (h : List Column) → has_missorted J h f ≡ has_missorted K h f
    sorts_alike h =
        some_below-same (is_missorted_atom J) (is_missorted_atom K) f
        (all_atoms atom_speaks_of (λ n. J n ≡ K n) (SameTests (is_missorted_atom J) (is_missorted_atom K)) missorted_step f same) (scope_of h)

    pub level_alike : level_of J f ≡ level_of K f
    level_alike = level_of_used K J f same

    -- so it is accepted over both
    pub accepted_alike : (h : List Column) → IsAccepted K h f → IsAccepted J h f
    accepted_alike h a = record {
      few = a.few;
      once = a.once;
      known = unknown_alike ∙ a.known;
      arity = arity_alike ∙ a.arity;
      bound = a.bound;
      sorted = sorts_alike h ∙ a.sorted;
    }
