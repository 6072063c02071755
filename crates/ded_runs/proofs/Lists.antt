-- Lists of tuples and of entries, numbered and put behind others.
use Rattle.std.proofs.Common.{◌≡◌, ℕ, suc, List, [], ◌∷◌, ◌++◌, map, refl, ap}
use Rattle.ded_model.specs.Row.{Atom}
use Rattle.ded_model.specs.Catalogue.{Entry, relation, view, entry_name, entry_columns, tuples_of}
use Rattle.ded_runs.specs.Remade.{numbered, remade_entry}

pub numbered_tuples : (n : ℕ) (ts : List (ℕ × List Atom)) → tuples_of (numbered n ts) ≡ tuples_of ts
numbered_tuples n [] = refl
numbered_tuples n (t ∷ ts) = ap (λ us. t.1 ∷ us) (numbered_tuples (suc n) ts)

pub remade_name : (e : Entry) → entry_name (remade_entry e) ≡ entry_name e
remade_name (relation n h m ts) = refl
remade_name (view n h f) = refl

pub remade_columns : (e : Entry) → entry_columns (remade_entry e) ≡ entry_columns e
remade_columns (relation n h m ts) = refl
remade_columns (view n h f) = refl

-- one more behind a list, and then the rest
pub one_behind : (es : List Entry) (e : Entry) (rest : List Entry) → (es ++ e ∷ []) ++ rest ≡ es ++ e ∷ rest
one_behind [] e rest = refl
one_behind (d ∷ es) e rest = ap (λ fs. d ∷ fs) (one_behind es e rest)

pub remade_behind : (es : List Entry) (e : Entry) → map remade_entry (es ++ e ∷ []) ≡ map remade_entry es ++ remade_entry e ∷ []
remade_behind [] e = refl
remade_behind (d ∷ es) e = ap (λ fs. remade_entry d ∷ fs) (remade_behind es e)

pub nothing_behind : (es : List Entry) → es ++ [] ≡ es
nothing_behind [] = refl
nothing_behind (e ∷ es) = ap (λ fs. e ∷ fs) (nothing_behind es)
