-- The rows and the text atoms of two tuples in normal form.
use Rattle.std.proofs.Common.{◌≡◌, List, [], ◌∷◌, ◌++◌, refl, ap}
use Rattle.std.specs.List.{AllByRecursion}
use Rattle.ded_model.specs.declared.tuple.BothAtom.TheVariants.{First, Second}
use Rattle.ded_model.specs.Coefs.{AreCoefs}
use Rattle.ded_model.specs.Normal.{IsNormalTheme, IsNormalTuple}
use Rattle.ded_model.specs.Row.{Atom}
use Rattle.ded_theory.specs.Both.{firsts, seconds}
use Rattle.ded_elimination.specs.LinearAtoms.{IsLinearAtom}

pub seconds_append : (t u : List Atom) → seconds (t ++ u) ≡ seconds t ++ seconds u
seconds_append [] u = refl
seconds_append (First r ∷ t) u = seconds_append t u
seconds_append (Second a ∷ t) u = ap (λ xs. a ∷ xs) (seconds_append t u)

pub firsts_append : (t u : List Atom) → firsts (t ++ u) ≡ firsts t ++ firsts u
firsts_append [] u = refl
firsts_append (First r ∷ t) u = ap (λ xs. r ∷ xs) (firsts_append t u)
firsts_append (Second a ∷ t) u = firsts_append t u

pub normal_texts : (t u : List Atom) → IsNormalTuple t → IsNormalTuple u → AllByRecursion IsNormalTheme (seconds (t ++ u))
normal_texts [] [] h k = tt
normal_texts [] (First r ∷ u) h k = normal_texts [] u h k.2
normal_texts [] (Second a ∷ u) h k = (k.0, normal_texts [] u h k.2)
normal_texts (First r ∷ t) u h k = normal_texts t u h.2 k
normal_texts (Second a ∷ t) u h k = (h.0, normal_texts t u h.2 k)

pub rows_with_coefs : (t u : List Atom) → IsNormalTuple t → IsNormalTuple u → AllByRecursion (λ r. AreCoefs r.coefs) (firsts (t ++ u))
rows_with_coefs [] [] h k = tt
rows_with_coefs [] (First r ∷ u) h k = (k.0.0, rows_with_coefs [] u h k.2)
rows_with_coefs [] (Second a ∷ u) h k = rows_with_coefs [] u h k.2
rows_with_coefs (First r ∷ t) u h k = (h.0.0, rows_with_coefs t u h.2 k)
rows_with_coefs (Second a ∷ t) u h k = rows_with_coefs t u h.2 k

pub linear_rows : (t u : List Atom) → IsNormalTuple t → IsNormalTuple u → AllByRecursion IsLinearAtom (firsts (t ++ u))
linear_rows [] [] h k = tt
linear_rows [] (First r ∷ u) h k = (record { coefs = k.0.0; row = k.0.1 }, linear_rows [] u h k.2)
linear_rows [] (Second a ∷ u) h k = linear_rows [] u h k.2
linear_rows (First r ∷ t) u h k = (record { coefs = h.0.0; row = h.0.1 }, linear_rows t u h.2 k)
linear_rows (Second a ∷ t) u h k = linear_rows t u h.2 k
