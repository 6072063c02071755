-- What a change makes of a catalogue.
use Rattle.std.specs.Prelude.{◌≡◌, ◌+◌, ◌≤◌, ◌==◌, ℕ, Bool, true, false, Option, Some, None, List, [], ◌∷◌, ◌++◌, if◌then◌else◌}
use Rattle.std.specs.List.{list_any}
use Rattle.std.specs.Str.{bytes_eq}
use Rattle.ded_model.specs.Catalogue.{Entry, relation, view, Catalogue, entry_name}
use Rattle.ded_model.specs.Entries.{known, columns_in, tuples_in}
use Rattle.ded_model.specs.Known.{IsTupleOver}
use Rattle.ded_model.specs.Row.{Atom}
use Rattle.ded_model.specs.Width.{tuple_length}
use Rattle.ded_sorts.specs.Causes.{insert_refusal, is_relation_with}

-- no change, a tuple more in the relation of the name, or the tuple of the number less
pub data PendingChange : Type 0 where
  none : PendingChange
  insertion : List ℕ → List Atom → PendingChange
  deletion : List ℕ → ℕ → PendingChange

-- another entry in the place of the first one of the name
abbrev pub changed_under : List ℕ → (Entry → Entry) → List Entry → List Entry
changed_under n f [] = []
changed_under n f (e ∷ es) = if bytes_eq n (entry_name e) then f e ∷ es else e ∷ changed_under n f es

-- a relation with one insert more, whose tuple stands at the end
abbrev pub entry_with : List Atom → Entry → Entry
entry_with t (relation n h m ts) = relation n h (m + 1) (ts ++ (m + 1, t) ∷ [])
entry_with t (view n h f) = view n h f

-- whether the number is that of the tuple that is left out
abbrev pub is_left_out : Option ℕ → ℕ → Bool
is_left_out None k = false
is_left_out (Some j) k = k == j

-- the tuples but those of the number
abbrev pub without_number : Option ℕ → List (ℕ × List Atom) → List (ℕ × List Atom)
without_number o [] = []
without_number o (t ∷ ts) = if is_left_out o t.0 then without_number o ts else t ∷ without_number o ts

-- a relation without the tuple of the number
abbrev pub entry_without : ℕ → Entry → Entry
entry_without k (relation n h m ts) = relation n h m (without_number (Some k) ts)
entry_without k (view n h f) = view n h f

-- the catalogue with one tuple more in the relation of the name
abbrev pub with_tuple : Catalogue → List ℕ → List Atom → Catalogue
with_tuple c n t = record { limit = c.limit; entries = changed_under n (entry_with t) c.entries }

-- the catalogue without the tuple of the number in the relation of the name
abbrev pub without_tuple : Catalogue → List ℕ → ℕ → Catalogue
without_tuple c n k = record { limit = c.limit; entries = changed_under n (entry_without k) c.entries }

-- the catalogue that the change makes
abbrev pub changed : Catalogue → PendingChange → Catalogue
changed c none = c
changed c (insertion n t) = with_tuple c n t
changed c (deletion n k) = without_tuple c n k

-- an insert of the tuple isn't refused
pub record MayInsert (c : Catalogue) (n : List ℕ) (t : List Atom) : Type 0 where
  pub relation : is_relation_with (known c n) ≡ true
  pub over : IsTupleOver (columns_in c n) t
  pub short : tuple_length t ≤ 63
  pub room : insert_refusal c n ≡ None

-- the change isn't refused
abbrev pub MayChange : Catalogue → PendingChange → Type 0
MayChange c none = Unit {0}
MayChange c (insertion n t) = MayInsert c n t
MayChange c (deletion n k) = list_any (λ t. t.0 == k) (tuples_in c n) ≡ true

-- ---- of a name

-- the tuple that is inserted into the relation of the name
abbrev pub inserted_in : PendingChange → List ℕ → Option (List Atom)
inserted_in none n = None
inserted_in (insertion m t) n = if bytes_eq m n then Some t else None
inserted_in (deletion m k) n = None

-- the number of the tuple that is deleted from the relation of the name
abbrev pub deleted_in : PendingChange → List ℕ → Option ℕ
deleted_in none n = None
deleted_in (insertion m t) n = None
deleted_in (deletion m k) n = if bytes_eq m n then Some k else None

-- the tuples, and the last one where there is one
abbrev pub with_last : List (List Atom) → Option (List Atom) → List (List Atom)
with_last ts None = ts
with_last ts (Some t) = ts ++ t ∷ []
