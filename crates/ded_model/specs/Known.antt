-- What is known of names before anything is evaluated, which formulas are accepted over them, and well formed catalogues.
use Rattle.std.specs.Prelude.{◌≡◌, ℕ, suc, ◌+◌, ◌≤◌, ◌<◌, nat_lt, ◌==◌, Bool, true, false, not, ◌||◌, Option, Some, None, is_none, List, [], ◌∷◌, length, map, if◌then◌else◌}
use Rattle.std.specs.Str.{bytes_eq}
use Rattle.std.specs.List.{list_any}
use Rattle.ded_model.specs.declared.slot.Sort.{Sort}
use Rattle.ded_model.specs.declared.slot.Sort.TheVariants.{Rat, Text}
use Rattle.ded_model.specs.declared.slot.Slot.{Slot}
use Rattle.ded_model.specs.declared.name.Column.{Column}
use Rattle.ded_model.specs.declared.formula.CompareOp.{CompareOp}
use Rattle.ded_model.specs.declared.formula.CompareOp.TheVariants.{Less, LessEq, Equal, NotEqual, GreaterEq, Greater}
use Rattle.ded_model.specs.declared.formula.Operand.{Operand}
use Rattle.ded_model.specs.declared.formula.Operand.TheVariants.{Single, Sum, Quoted}
use Rattle.ded_model.specs.Point.{name, same_sort, stands_in}
use Rattle.ded_model.specs.Row.{Atom, tuple_mentions}
use Rattle.ded_model.specs.Normal.{IsNormalTuple}
use Rattle.ded_model.specs.Logic.{Scope, some_atom, some_below, quantifiers, greatest}
use Rattle.ded_model.specs.Form.{Form, FormAtom, compare, member}
use Rattle.ded_model.specs.Slotted.{nearest}
use Rattle.ded_model.specs.Made.{base, is_made}
use Rattle.ded_model.specs.Catalogue.{Entry, relation, view, Catalogue, entry_name}
use Rattle.ded_model.specs.Width.{tuple_length}

-- ---- what is known of a name

-- whether it is a view, its columns, and its level: 0 for a relation
pub record Known : Type 0 where
  pub is_view : Bool
  pub columns : List Column
  pub level : ℕ

-- what is known of each name; nothing of one that isn't defined
abbrev pub KnownNames : Type 0
KnownNames = List ℕ → Option Known

-- the level, and 0 where nothing is known
abbrev pub level_with : Option Known → ℕ
level_with (Some k) = k.level
level_with None = 0

-- the level of the relation or view that an atom speaks of; 0 for a comparison, or where the name isn't defined
abbrev pub atom_level : KnownNames → FormAtom → ℕ
atom_level K (compare l op r) = 0
atom_level K (member n ts) = level_with (K (base n))

-- the level of a view: one more than the greatest level of the relations and views that its formula speaks of, 1 where it has no
-- atom of one
abbrev pub level_of : KnownNames → Form → ℕ
level_of K f = suc (greatest (atom_level K) f)

-- what is known of an entry, where K is known of the names before it
abbrev pub entry_known : KnownNames → Entry → Known
entry_known K (relation n h m ts) = record { is_view = false; columns = h; level = 0 }
entry_known K (view n h f) = record { is_view = true; columns = h; level = level_of K f }

-- the knowledge K, with what is known of the entry under the name of the entry
abbrev pub with_known : KnownNames → Entry → KnownNames
with_known K e n = if bytes_eq n (entry_name e) then Some (entry_known K e) else K n

-- what is known of names after these entries, each read over those before it, where K is known before the first
abbrev pub known_from : KnownNames → List Entry → KnownNames
known_from K [] = K
known_from K (e ∷ es) = known_from (with_known K e) es

-- what is known of the names of these entries
unfoldable pub known_of : List Entry → KnownNames
known_of es = known_from (λ n. None) es

-- ---- what is refused of a formula and a heading

-- a heading of more than 16 columns, or columns and quantifiers that are together more than 64
abbrev pub is_many : List Column → Form → Bool
is_many h f = nat_lt 16 (length h) || nat_lt 64 (length h + quantifiers f)

-- a heading has one column name twice
abbrev pub has_twice : List Column → Bool
has_twice [] = false
has_twice (c ∷ cs) = list_any (λ d. bytes_eq c.name d.name) cs || has_twice cs

-- the atom speaks of a name that isn't defined
abbrev pub is_unknown_atom : KnownNames → FormAtom → Bool
is_unknown_atom K (compare l op r) = false
is_unknown_atom K (member n ts) = is_none (K (base n))

-- some atom speaks of a name that isn't defined
abbrev pub uses_unknown : KnownNames → Form → Bool
uses_unknown K f = some_atom (is_unknown_atom K) f

-- there are more or fewer arguments than the relation or view has columns; false where nothing is known
abbrev pub other_arity : Option Known → List Operand → Bool
other_arity (Some k) ts = not (length ts == length k.columns)
other_arity None ts = false

-- the atom has another number of arguments than its relation or view has columns; false where the name isn't defined
abbrev pub is_arity_atom : KnownNames → FormAtom → Bool
is_arity_atom K (compare l op r) = false
is_arity_atom K (member n ts) = other_arity (K (base n)) ts

-- some atom has another number of arguments than its relation or view has columns
abbrev pub has_other_arity : KnownNames → Form → Bool
has_other_arity K f = some_atom (is_arity_atom K) f

-- ---- scopes

-- the scope of a formula over a heading: the names of the columns with their sorts
abbrev pub scope_of : List Column → Scope
scope_of h = map (λ c. (name c.name, c.sort)) h

-- the scope doesn't have the variable
abbrev pub is_unbound_name : Scope → List ℕ → Bool
is_unbound_name scope x = is_none (nearest scope (name x))

-- the operand has a variable that the scope doesn't have
abbrev pub is_unbound_operand : Scope → Operand → Bool
is_unbound_operand scope (Single x) = is_unbound_name scope x
is_unbound_operand scope (Sum t) = list_any (λ c. is_unbound_name scope c.0) t.parts
is_unbound_operand scope (Quoted t) = false

-- the atom has a variable that the scope doesn't have
abbrev pub is_unbound_atom : Scope → FormAtom → Bool
is_unbound_atom scope (compare l op r) = is_unbound_operand scope l || is_unbound_operand scope r
is_unbound_atom scope (member n ts) = list_any (is_unbound_operand scope) ts

-- a variable is in no quantifier round it and not in the heading
abbrev pub has_unbound : List Column → Form → Bool
has_unbound h f = some_below is_unbound_atom (scope_of h) f

-- ---- sorts

-- the sort, or the rational one where there is none
abbrev pub sort_with : Option Sort → Sort
sort_with (Some s) = s
sort_with None = Rat

-- the sort of a variable in a scope, or the rational one where the scope doesn't have it
abbrev pub sort_in : Scope → List ℕ → Sort
sort_in scope x = sort_with (nearest scope (name x))

-- the sort of an operand in a scope: that of a variable, rational for a sum, and text for a quoted text
abbrev pub operand_sort : Scope → Operand → Sort
operand_sort scope (Single x) = sort_in scope x
operand_sort scope (Sum t) = Rat
operand_sort scope (Quoted t) = Text

-- a sum or a product with a text variable in it
abbrev pub is_text_sum : Scope → Operand → Bool
is_text_sum scope (Single x) = false
is_text_sum scope (Sum t) = list_any (λ c. same_sort (sort_in scope c.0) Text) t.parts
is_text_sum scope (Quoted t) = false

-- a comparison that is `=` or `!=`
abbrev pub is_equality : CompareOp → Bool
is_equality Less = false
is_equality LessEq = false
is_equality Equal = true
is_equality NotEqual = true
is_equality GreaterEq = false
is_equality Greater = false

-- `<`, `<=`, `>=` or `>` with a text, or `=` or `!=` between a text and a number
abbrev pub sorts_differ : CompareOp → Sort → Sort → Bool
sorts_differ op s t = if is_equality op then not (same_sort s t) else same_sort s Text || same_sort t Text

-- some argument is of another sort than its column; arguments without a column and columns without an argument don't
-- count
abbrev pub arguments_differ : Scope → List Column → List Operand → Bool
arguments_differ scope [] ts = false
arguments_differ scope (c ∷ cs) [] = false
arguments_differ scope (c ∷ cs) (t ∷ ts) = not (same_sort c.sort (operand_sort scope t)) || arguments_differ scope cs ts

-- the columns, and none where nothing is known
abbrev pub columns_with : Option Known → List Column
columns_with (Some k) = k.columns
columns_with None = []

-- the atom has a text variable in a sum, is a comparison that the sorts of its operands don't allow, or has an argument
-- of another sort than its column
abbrev pub is_missorted_atom : KnownNames → Scope → FormAtom → Bool
is_missorted_atom K scope (compare l op r) = is_text_sum scope l || is_text_sum scope r || sorts_differ op (operand_sort scope l) (operand_sort scope r)
is_missorted_atom K scope (member n ts) = list_any (is_text_sum scope) ts || arguments_differ scope (columns_with (K (base n))) ts

-- a text stands where a number has to, or a number where a text has to
abbrev pub has_missorted : KnownNames → List Column → Form → Bool
has_missorted K h f = some_below (is_missorted_atom K) (scope_of h) f

-- a formula over a heading, none for a closed one, that is refused for none of these
pub record IsAccepted (K : KnownNames) (h : List Column) (f : Form) : Type 0 where
  pub few : is_many h f ≡ false
  pub once : has_twice h ≡ false
  pub known : uses_unknown K f ≡ false
  pub arity : has_other_arity K f ≡ false
  pub bound : has_unbound h f ≡ false
  pub sorted : has_missorted K h f ≡ false

-- ---- well formed catalogues

-- the slots of a heading's columns, from i on
abbrev pub heading_slots : ℕ → List Column → List Slot
heading_slots i [] = []
heading_slots i (c ∷ cs) = record { number = i; sort = c.sort } ∷ heading_slots (i + 1) cs

-- a tuple in normal form that mentions only the heading's slots
pub record IsTupleOver (h : List Column) (t : List Atom) : Type 0 where
  pub normal : IsNormalTuple t
  pub slots : (s : Slot) → tuple_mentions t s ≡ true → stands_in (heading_slots 0 h) s ≡ true

-- the numbers of the tuples ascend from above m, and are at most `inserts`; each tuple is over the heading, with numbers
-- of at most 63 digits
abbrev pub AreStored : List Column → ℕ → ℕ → List (ℕ × List Atom) → Type 0
AreStored h inserts m [] = Unit {0}
AreStored h inserts m (t ∷ ts) = (m < t.0) × (t.0 ≤ inserts) × IsTupleOver h t.1 × (tuple_length t.1 ≤ 63) × AreStored h inserts t.0 ts

-- a relation's tuples are stored ones and no more than the limit; a view is accepted over the entries before it, and has
-- a level of at most 16
abbrev pub IsEntryOver : ℕ → KnownNames → Entry → Type 0
IsEntryOver limit K (relation n h m ts) = AreStored h m 0 ts × (length ts ≤ limit)
IsEntryOver limit K (view n h f) = IsAccepted K h f × (level_of K f ≤ 16)

-- no entry has the name, and it is not made of another one
abbrev pub IsNewName : KnownNames → List ℕ → Type 0
IsNewName K n = (K n ≡ None) × (is_made n ≡ false)

-- each entry has a new name, and is well formed over those before it
abbrev pub AreEntriesOver : ℕ → KnownNames → List Entry → Type 0
AreEntriesOver limit K [] = Unit {0}
AreEntriesOver limit K (e ∷ es) = IsNewName K (entry_name e) × IsEntryOver limit K e × AreEntriesOver limit (with_known K e) es

-- a well formed catalogue: each entry has a new name, and is well formed over those before it
abbrev pub IsWellFormed : Catalogue → Type 0
IsWellFormed c = AreEntriesOver c.limit (λ n. None) c.entries
