-- Which names a name reaches: itself, and where it is a view, what the names that its formula speaks of reach.
use Rattle.std.specs.Prelude.{ℕ, Bool, false, ◌||◌, List, [], ◌∷◌, if◌then◌else◌}
use Rattle.std.specs.Str.{bytes_eq}
use Rattle.ded_model.specs.Logic.{some_atom}
use Rattle.ded_model.specs.Made.{base}
use Rattle.ded_model.specs.Form.{FormAtom, compare, member}
use Rattle.ded_model.specs.Catalogue.{Entry, relation, view, Catalogue, entry_name}

-- an atom reaches what its name does, or the name that it is made of, where R says which names a name reaches
abbrev pub atom_reaches : (List ℕ → List ℕ → Bool) → List ℕ → FormAtom → Bool
atom_reaches R m (compare l op r) = false
atom_reaches R m (member k ts) = R (base k) m

-- a relation reaches itself; a view itself, and what a name that its formula speaks of reaches
abbrev pub entry_reaches : (List ℕ → List ℕ → Bool) → Entry → List ℕ → Bool
entry_reaches R (relation n h i ts) m = bytes_eq n m
entry_reaches R (view n h f) m = bytes_eq n m || some_atom (atom_reaches R m) f

-- which names a name reaches with the entry defined: the entry's name what the entry does, any other name what R says
abbrev pub with_reach : (List ℕ → List ℕ → Bool) → Entry → List ℕ → List ℕ → Bool
with_reach R e n m = if bytes_eq n (entry_name e) then entry_reaches R e m else R n m

-- each entry is read over those before it
abbrev pub reach_from : (List ℕ → List ℕ → Bool) → List Entry → List ℕ → List ℕ → Bool
reach_from R [] = R
reach_from R (e ∷ es) = reach_from (with_reach R e) es

-- over the catalogue the first name reaches the second; a name that isn't defined reaches none
unfoldable pub reaches : Catalogue → List ℕ → List ℕ → Bool
reaches c = reach_from (λ n m. false) c.entries
