-- When a command is refused over a catalogue, and with which number.
use Rattle.std.specs.Prelude.{◌==◌, ℕ, nat_lt, nat_le, Bool, false, not, ◌||◌, ◌&&◌, is_some, is_none, Option, Some, None, List, [], ◌∷◌, length, if◌then◌else◌}
use Rattle.std.specs.List.{list_any}
use Rattle.ded_model.specs.declared.command.Refusal.{Refusal}
use Rattle.ded_model.specs.declared.command.Refusal.TheVariants.{Many, Twice, Unknown, Taken, Kind, Arity, Unbound, WrongSort, Used, NoTuple, Full, Spent, Level}
use Rattle.ded_model.specs.declared.formula.CompareOp.TheVariants.{NotEqual}
use Rattle.ded_model.specs.declared.name.Column.{Column}
use Rattle.ded_model.specs.declared.slot.Sort.TheVariants.{Rat}
use Rattle.ded_model.specs.Catalogue.{Catalogue}
use Rattle.ded_model.specs.Command.{CommandForm, header, relation, insert, delete, drop, view, keep, ask, query, show, box_of, explain, dump, disjoint, verify}
use Rattle.ded_model.specs.Form.{Form, FormAtom, compare}
use Rattle.ded_model.specs.Known.{Known, level_of, is_many, has_twice, uses_unknown, has_other_arity, has_unbound, has_missorted, scope_of, operand_sort}
use Rattle.ded_model.specs.Logic.{Scope, every_of, some_below}
use Rattle.ded_model.specs.Point.{same_sort}
use Rattle.ded_model.specs.Entries.{entry_of, inserts_in, tuples_in, known, columns_in, entry_uses}

-- ---- causes of the refusals that a command has over a catalogue

-- a heading with a formula, or a heading alone, has too many columns and quantifiers
abbrev pub has_many : CommandForm → Bool
has_many (relation n h) = nat_lt 16 (length h)
has_many (view n h f) = is_many h f
has_many (ask f) = is_many [] f
has_many (query h f) = is_many h f
has_many (explain h f) = is_many h f
has_many _ = false

-- a heading has one column name twice
abbrev pub names_twice : CommandForm → Bool
names_twice (relation n h) = has_twice h
names_twice (view n h f) = has_twice h
names_twice (query h f) = has_twice h
names_twice (explain h f) = has_twice h
names_twice _ = false

-- the command, or an atom in its formula, uses a name that isn't defined
abbrev pub names_unknown : Catalogue → CommandForm → Bool
names_unknown c header = false
names_unknown c (relation n h) = false
names_unknown c (insert n fs) = is_none (known c n)
names_unknown c (delete n k) = is_none (known c n)
names_unknown c (drop n) = is_none (known c n)
names_unknown c (view n h f) = uses_unknown (known c) f
names_unknown c (keep n) = is_none (known c n)
names_unknown c (ask f) = uses_unknown (known c) f
names_unknown c (query h f) = uses_unknown (known c) f
names_unknown c (show n) = is_none (known c n)
names_unknown c (box_of n) = is_none (known c n)
names_unknown c (explain h f) = uses_unknown (known c) f
names_unknown c dump = false
names_unknown c (disjoint n m) = is_none (known c n) || is_none (known c m)
names_unknown c (verify n m es) = is_none (known c n) || is_none (known c m)

-- a relation or a view is given a name that is defined
abbrev pub takes_name : Catalogue → CommandForm → Bool
takes_name c (relation n h) = is_some (known c n)
takes_name c (view n h f) = is_some (known c n)
takes_name c _ = false

-- what is known of a name is that it is a view's; false where nothing is known
abbrev pub is_view_with : Option Known → Bool
is_view_with None = false
is_view_with (Some k) = k.is_view

-- what is known of a name is that it is a relation's; false where nothing is known
abbrev pub is_relation_with : Option Known → Bool
is_relation_with None = false
is_relation_with (Some k) = not k.is_view

-- a view is named where a relation has to be, or a relation where a view has to be
abbrev pub names_other_kind : Catalogue → CommandForm → Bool
names_other_kind c (insert n fs) = is_view_with (known c n)
names_other_kind c (delete n k) = is_view_with (known c n)
names_other_kind c (show n) = is_view_with (known c n)
names_other_kind c (box_of n) = is_view_with (known c n)
names_other_kind c (keep n) = is_relation_with (known c n)
names_other_kind c (disjoint n m) = is_view_with (known c n) || is_view_with (known c m)
names_other_kind c (verify n m es) = is_view_with (known c n) || is_view_with (known c m)
names_other_kind c _ = false

-- the formula of a command; that of an insert is all its comparisons
abbrev pub formula_in : CommandForm → Option Form
formula_in (insert n fs) = Some (every_of fs)
formula_in (view n h f) = Some f
formula_in (ask f) = Some f
formula_in (query h f) = Some f
formula_in (explain h f) = Some f
formula_in _ = None

-- the columns whose names the formula of a command may mention
abbrev pub heading_in : Catalogue → CommandForm → List Column
heading_in c (insert n fs) = columns_in c n
heading_in c (view n h f) = h
heading_in c (query h f) = h
heading_in c (explain h f) = h
heading_in c _ = []

-- there is a formula, and it passes the test
abbrev pub passes_with : Option Form → (Form → Bool) → Bool
passes_with None test = false
passes_with (Some f) test = test f

-- two headings are of different lengths
abbrev pub lengths_differ : List Column → List Column → Bool
lengths_differ h k = not (length h == length k)

-- two headings have different sorts at one place
abbrev pub headings_differ : List Column → List Column → Bool
headings_differ [] k = false
headings_differ (x ∷ h) [] = false
headings_differ (x ∷ h) (y ∷ k) = not (same_sort x.sort y.sort) || headings_differ h k

-- an atom has another number of arguments than its relation or view has columns; or two relations that are set side by side
-- have different numbers of columns
abbrev pub has_wrong_arity : Catalogue → CommandForm → Bool
has_wrong_arity c (disjoint n m) = lengths_differ (columns_in c n) (columns_in c m)
has_wrong_arity c (verify n m es) = lengths_differ (columns_in c n) (columns_in c m)
has_wrong_arity c command = passes_with (formula_in command) (has_other_arity (known c))

-- a variable is in no quantifier round it, not in the heading, and in an insert isn't a column
abbrev pub has_unbound_name : Catalogue → CommandForm → Bool
has_unbound_name c command = passes_with (formula_in command) (has_unbound (heading_in c command))

-- `!=` between numbers
abbrev pub is_rational_inequality : Scope → FormAtom → Bool
is_rational_inequality scope (compare l NotEqual r) = same_sort (operand_sort scope l) Rat && same_sort (operand_sort scope r) Rat
is_rational_inequality scope _ = false

-- an insert has `!=` between numbers
abbrev pub has_inequality : Catalogue → CommandForm → Bool
has_inequality c (insert n fs) = some_below is_rational_inequality (scope_of (columns_in c n)) (every_of fs)
has_inequality c _ = false

-- a text stands where a number has to, or a number where a text has to; or `!=` between numbers in an insert; or two relations
-- that are set side by side have different sorts at one place
abbrev pub has_wrong_sort : Catalogue → CommandForm → Bool
has_wrong_sort c (disjoint n m) = headings_differ (columns_in c n) (columns_in c m)
has_wrong_sort c (verify n m es) = headings_differ (columns_in c n) (columns_in c m)
has_wrong_sort c command = passes_with (formula_in command) (has_missorted (known c) (heading_in c command)) || has_inequality c command

-- the name to be dropped is in the formula of a view
abbrev pub drops_used : Catalogue → CommandForm → Bool
drops_used c (drop n) = list_any (entry_uses n) c.entries
drops_used c _ = false

-- no present tuple of the relation has the number
abbrev pub deletes_none : Catalogue → CommandForm → Bool
deletes_none c (delete n k) = not (list_any (λ t. t.0 == k) (tuples_in c n))
deletes_none c _ = false

-- the relation holds as many tuples as the limit allows
abbrev pub is_full : Catalogue → List ℕ → Bool
is_full c n = nat_le c.limit (length (tuples_in c n))

-- an insert is into a relation that holds as many tuples as the limit allows
abbrev pub inserts_into_full : Catalogue → CommandForm → Bool
inserts_into_full c (insert n fs) = is_full c n
inserts_into_full c _ = false

-- the relation has accepted 2^32 - 1 inserts
abbrev pub is_spent : Catalogue → List ℕ → Bool
is_spent c n = nat_le 4294967295 (inserts_in (entry_of c.entries n))

-- an insert is into a relation that has accepted 2^32 - 1 inserts
abbrev pub inserts_into_spent : Catalogue → CommandForm → Bool
inserts_into_spent c (insert n fs) = is_spent c n
inserts_into_spent c _ = false

-- why an insert into a relation is refused: it is full, or else it is spent
abbrev pub insert_refusal : Catalogue → List ℕ → Option Refusal
insert_refusal c n = if is_full c n then Some Full else if is_spent c n then Some Spent else None

-- the view would have a level above 16
abbrev pub is_too_high : Catalogue → CommandForm → Bool
is_too_high c (view n h f) = nat_lt 16 (level_of (known c) f)
is_too_high c _ = false

-- the cause of each refusal that is one of a command
abbrev pub has_cause : Refusal → Catalogue → CommandForm → Bool
has_cause Many c command = has_many command
has_cause Twice c command = names_twice command
has_cause Unknown c command = names_unknown c command
has_cause Taken c command = takes_name c command
has_cause Kind c command = names_other_kind c command
has_cause Arity c command = has_wrong_arity c command
has_cause Unbound c command = has_unbound_name c command
has_cause WrongSort c command = has_wrong_sort c command
has_cause Used c command = drops_used c command
has_cause NoTuple c command = deletes_none c command
has_cause Full c command = inserts_into_full c command
has_cause Spent c command = inserts_into_spent c command
has_cause Level c command = is_too_high c command
has_cause _ c command = false
