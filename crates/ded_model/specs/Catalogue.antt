-- Catalogues, what their names mean, and when a formula, a goal and a plan hold at a point over one.
use Rattle.std.specs.Prelude.{ℕ, ◌+◌, ◌↔◌, IsTrue, MatchBool, Bool, false, ◌||◌, List, [], ◌∷◌, map}
use Rattle.std.specs.Str.{bytes_eq}
use Rattle.std.specs.List.{list_any}
use Rattle.ded_model.specs.declared.slot.Sort.{Sort}
use Rattle.ded_model.specs.declared.slot.Sort.TheVariants.{Rat, Text}
use Rattle.ded_model.specs.declared.name.Column.{Column}
use Rattle.ded_model.specs.declared.formula.Operand.{Operand}
use Rattle.ded_model.specs.declared.formula.Operand.TheVariants.{Single, Sum, Quoted}
use Rattle.ded_model.specs.Point.{Key, slot, name, Value, number, text, Point, same_key}
use Rattle.ded_model.specs.Row.{Atom, tuples_hold}
use Rattle.ded_model.specs.Logic.{Sat, mentions}
use Rattle.ded_model.specs.Form.{Form, FormAtom, compare, member}
use Rattle.ded_model.specs.Goal.{GoalForm, GoalAtomHolds}
use Rattle.ded_model.specs.PlanForm.{PlanForm, PlanAtomHolds}
use Rattle.ded_model.specs.Value.{operand_value, compare_holds, Argument, Meaning, NameHolds}
use Rattle.ded_model.specs.Made.{Reading, itself, closure_of, interior_of, reading}
use Rattle.ded_model.specs.Near.{IsClose, IsInside}

-- ---- entries

-- a relation: its name, its heading, how many inserts were accepted, and its tuples with their numbers;
-- or a view: its name, its heading and its formula as written
pub data Entry : Type 0 where
  relation : List ℕ → List Column → ℕ → List (ℕ × List Atom) → Entry
  view : List ℕ → List Column → Form → Entry

-- how many tuples a relation may have, and the entries in order of definition
pub record Catalogue : Type 0 where
  pub limit : ℕ
  pub entries : List Entry

-- the name of a relation or a view
abbrev pub entry_name : Entry → List ℕ
entry_name (relation n h m ts) = n
entry_name (view n h f) = n

-- the heading of a relation or a view
abbrev pub entry_columns : Entry → List Column
entry_columns (relation n h m ts) = h
entry_columns (view n h f) = h

-- the tuples without their numbers
abbrev pub tuples_of : List (ℕ × List Atom) → List (List Atom)
tuples_of ts = map (λ t. t.1) ts

-- ---- what a name means

-- an argument as a coordinate: its number for a rational column, its text for a text column
abbrev pub argument_coordinate : Sort → Argument → Value
argument_coordinate Rat a = number a.0
argument_coordinate Text a = text a.1

-- the arguments as coordinates of a heading's columns, at the slots from i on; none for a column without an argument,
-- or for an argument without a column
abbrev pub at_slots : ℕ → List Column → List Argument → List (Key × Value)
at_slots i [] xs = []
at_slots i (c ∷ cs) [] = []
at_slots i (c ∷ cs) (a ∷ xs) = (slot (record { number = i; sort = c.sort }), argument_coordinate c.sort a) ∷ at_slots (i + 1) cs xs

-- the arguments as coordinates of a heading's columns, at their names; none for a column without an argument, or for an
-- argument without a column
abbrev pub at_names : List Column → List Argument → List (Key × Value)
at_names [] xs = []
at_names (c ∷ cs) [] = []
at_names (c ∷ cs) (a ∷ xs) = (name c.name, argument_coordinate c.sort a) ∷ at_names cs xs

-- whether an atom holds at a point by names, where the names of relations and views mean I
abbrev pub AtomHolds : Meaning → FormAtom → Point → Type 0
AtomHolds I (compare l op r) p = IsTrue (compare_holds l op r p)
AtomHolds I (member n ts) p = NameHolds I n p.den (map (λ t. operand_value t p) ts)

-- what a name means, where the relations and views mean I: one of them, the closure of one, or its interior
abbrev pub read_as : Meaning → List ℕ → Reading → ℕ → List Argument → Type 0
read_as I n itself d xs = I n d xs
read_as I n (closure_of m) d xs = IsClose (I m) d xs
read_as I n (interior_of m) d xs = IsInside (I m) d xs

-- what all names mean, those of closures and interiors included, where the relations and views mean I
abbrev pub read : Meaning → Meaning
read I n d xs = read_as I n (reading n) d xs

-- what an entry means, where the entries before it mean I: a relation holds where one of its tuples does, its columns at
-- the slots from 0 on; a view holds where its formula does, its columns at their names
abbrev pub entry_meaning : Meaning → Entry → ℕ → List Argument → Type 0
entry_meaning I (relation n h m ts) d xs = IsTrue (tuples_hold (tuples_of ts) (record { den = d; coords = at_slots 0 h xs }))
entry_meaning I (view n h f) d xs = Sat (AtomHolds (read I)) f (record { den = d; coords = at_names h xs })

-- the meaning I, except that the name of the entry means what the entry does where the entries before it mean I
abbrev pub with_entry : Meaning → Entry → Meaning
with_entry I e n d xs = MatchBool (bytes_eq n (entry_name e)) (entry_meaning I e d xs) (I n d xs)

-- what names mean after these entries, each read over those before it, where I is what they mean before the first
abbrev pub meaning_from : Meaning → List Entry → Meaning
meaning_from I [] = I
meaning_from I (e ∷ es) = meaning_from (with_entry I e) es

-- what the entries of a catalogue mean under their own names; a name that no entry has holds nowhere
unfoldable pub stored : Catalogue → Meaning
stored c = meaning_from (λ n d xs. ⊥) c.entries

-- what all names mean
unfoldable pub meaning : Catalogue → Meaning
meaning c = read (stored c)

-- ---- what holds over a catalogue

-- the formula holds at the point by names
abbrev pub Holds : Catalogue → Form → Point → Type 0
Holds c f p = Sat (AtomHolds (meaning c)) f p

-- the goal holds at the point by slots
abbrev pub GoalHolds : Catalogue → GoalForm → Point → Type 0
GoalHolds c g p = Sat (GoalAtomHolds (meaning c)) g p

-- the plan holds at the point by slots
abbrev pub PlanHolds : Catalogue → PlanForm → Point → Type 0
PlanHolds c f p = Sat (PlanAtomHolds (meaning c)) f p

-- the plan holds at the point by slots over relations that are given under names of any kind: each name has its own tuples
abbrev pub GivenHolds : Catalogue → PlanForm → Point → Type 0
GivenHolds c f p = Sat (PlanAtomHolds (stored c)) f p

-- the point without coordinates
abbrev pub origin : Point
origin = record { den = 1; coords = [] }

-- the closed formula is true
abbrev pub IsTruth : Catalogue → Form → Type 0
IsTruth c f = Holds c f origin

-- ---- what a formula mentions

-- whether an operand mentions the key; a quoted text mentions none
abbrev pub in_operand : Operand → Key → Bool
in_operand (Single x) k = same_key (name x) k
in_operand (Sum t) k = list_any (λ c. same_key (name c.0) k) t.parts
in_operand (Quoted t) k = false

-- whether an atom mentions the key in one of its operands
abbrev pub in_atom : FormAtom → Key → Bool
in_atom (compare l op r) k = in_operand l k || in_operand r k
in_atom (member n ts) k = list_any (λ t. in_operand t k) ts

-- whether a formula mentions the key freely
abbrev pub form_mentions : Form → Key → Bool
form_mentions f k = mentions in_atom f k

-- two catalogues whose names mean the same of all values
abbrev pub AreAlike : Catalogue → Catalogue → Type 0
AreAlike c d = (n : List ℕ) (den : ℕ) (xs : List Argument) → meaning c n den xs ↔ meaning d n den xs
