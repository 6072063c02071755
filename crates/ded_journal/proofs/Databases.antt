-- A journal's trees are a database: its table is what its text defines, and each row obeys it.
use Rattle.std.proofs.Common.{◌≡◌, ℕ, ◌+◌, true, false, List, [], ◌∷◌, map, take, pos, negsuc, codes, Some, Ok, refl, sym, ap, ◌∙◌, subst, arith}
use Rattle.std.specs.List.{AllByRecursion}
use Rattle.sqlite_value.specs.declared.value.Value.{Value}
use Rattle.sqlite_value.specs.declared.value.Value.TheVariants.{Null, Int, Real, Text, Blob}
use Rattle.sqlite_value.specs.declared.keys.Collation.TheVariants.{Binary}
use Rattle.sqlite_value.specs.Order.{Row, value_cmp, column}
use Rattle.sqlite_trees.specs.declared.store.Shape.{Shape}
use Rattle.sqlite_trees.specs.declared.store.Shape.TheVariants.{Table as TableShape}
use Rattle.sqlite_trees.specs.Sound.{is_sound_list, fits_kind, is_free_name, begins, same_name, may_follow}
use Rattle.sqlite_trees.specs.Tree.{Trees}
use Rattle.sqlite_trees.specs.Objects.{catalog_tree, number_in, row_for, shape_code, IsListed}
use Rattle.sqlite_schema.specs.declared.schema.Kind.TheVariants as kind
use Rattle.sqlite_schema.specs.declared.schema.Column.{Column}
use Rattle.sqlite_schema.specs.declared.schema.Table.{Table}
use Rattle.sqlite_schema.specs.declared.schema.Schema.{Schema}
use Rattle.sqlite_schema.specs.declared.schema.Constraint.{Constraint}
use Rattle.sqlite_schema.specs.declared.schema.Constraint.TheVariants.{Datatype, NotNull, Check, PrimaryKey, Unique, ForeignKey}
use Rattle.sqlite_schema.specs.Rules.{passes, Obeys}
use Rattle.sqlite_catalog.specs.Listing.{IsTableRow, Lists, IsSound}
use Rattle.sqlite_tied.specs.Text.{table_defined_by, everything}
use Rattle.ded_journal.specs.Statements.{table_text, table_listing, statement_row, statement_rows, HoldsStatements}

abbrev typed : List ℕ → Column
typed name = record { name = name; kind = kind.Text; is_strict = true; not_null = true; default = Null; collation = Binary }

-- the table that the text defines
abbrev pub statement_table : Table
statement_table = record {
  name = codes "statement";
  tree = 0;
  columns = record (typed (codes "number")) { kind = kind.Integer; not_null = false } ∷ typed (codes "text") ∷ [];
  key = Some 0;
  primary = 0 ∷ [];
  uniques = [];
  orders = [];
  checks = [];
  references = [];
  computed = [];
  stamps = record { places = []; terms = []; formats = [] };
  is_counted = false;
}

text_defines : table_defined_by table_text ≡ Ok statement_table
unfolding everything
text_defines = refl

abbrev pub schema : Schema
schema = record { tables = statement_table ∷ []; indexes = []; views = [] }

passes_each : (rule : Constraint) (db : Trees) (number : ℕ) (text : List ℕ) → passes rule schema db statement_table (statement_row number text) ≡ true
passes_each Datatype db number text = refl
passes_each NotNull db number text = refl
passes_each Check db number text = refl
passes_each PrimaryKey db number text = refl
passes_each Unique db number text = refl
passes_each ForeignKey db number text = refl

pass_all : (rule : Constraint) (db : Trees) (number : ℕ) (list : List (List ℕ))
    → AllByRecursion (λ row. passes rule schema db statement_table row ≡ true) (statement_rows number list)
pass_all rule db number [] = tt
pass_all rule db number (text ∷ list) = (passes_each rule db number text, pass_all rule db (number + 1) list)

obeys : (db : Trees) (list : List (List ℕ)) → db 0 ≡ statement_rows 1 list → Obeys schema db
obeys db list is = record {
  rules = λ rule. (subst (AllByRecursion (λ row. passes rule schema db statement_table row ≡ true)) (sym is) (pass_all rule db 1 list), tt);
  indexed = tt;
}

-- a row that begins as that of the table
abbrev begun_row : Row → Row
begun_row more = Int (pos 1) ∷ Text (codes "table") ∷ Text (codes "statement") ∷ Text (codes "statement") ∷ Text table_text ∷ more

begins_so : (row : Row) → take 5 row ≡ table_listing → (more : Row) × (row ≡ begun_row more)
begins_so [] is = absurd (cc)
begins_so (a ∷ []) is = absurd (cc)
begins_so (a ∷ b ∷ []) is = absurd (cc)
begins_so (a ∷ b ∷ c ∷ []) is = absurd (cc)
begins_so (a ∷ b ∷ c ∷ d ∷ []) is = absurd (cc)
begins_so (a ∷ b ∷ c ∷ d ∷ e ∷ more) is = (more, cc)

one_is : (v : Value) → number_in v ≡ 1 → v ≡ Int (pos 1)
one_is Null is = absurd (cc)
one_is (Int (pos n)) is = ap (λ m. Int (pos m)) is
one_is (Int (negsuc n)) is = absurd (cc)
one_is (Real x) is = absurd (cc)
one_is (Text t) is = absurd (cc)
one_is (Blob b) is = absurd (cc)

loads : (more : Row) → is_sound_list (begun_row (Int (pos 1) ∷ more) ∷ []) ≡ true
unfolding is_sound_list fits_kind is_free_name begins same_name may_follow value_cmp lib.Ieee.is_nan lib.Ieee.lt
loads more = refl

is_row : (more : Row) → number_in (column (begun_row (Int (pos 1) ∷ more)) 6) ≡ 0 → IsTableRow (begun_row (Int (pos 1) ∷ more)) statement_table
unfolding lib.Utf8.encode
is_row more reals = record {
  described = record { low = omega arith; id = refl; kind_is = refl; name_is = refl; owner_is = refl; shape_is = refl; reals_are = reals; fits = omega arith };
  sql = table_text;
  sql_is = refl;
  defined = (statement_table, text_defines, refl);
  formed = refl;
  utf8 = (codes "statement", (refl, refl));
}

lists : (more : Row) → number_in (column (begun_row (Int (pos 1) ∷ more)) 6) ≡ 0 → Lists (begun_row (Int (pos 1) ∷ more) ∷ []) schema
unfolding value_cmp lib.Ieee.is_nan lib.Ieee.lt
lists more reals = record {
  listed = record { tables = (is_row more reals, tt); indexes = tt; views = tt; owned = tt; named = (tt, tt); loads = loads more };
  guarded = (λ at key found. absurd (cc), tt);
}

row_found : (more : Row) → row_for (begun_row more ∷ []) 0 ≡ begun_row more
unfolding value_cmp lib.Ieee.is_nan lib.Ieee.lt
row_found more = refl

lists_row : (more : Row) → number_in (column (begun_row more) 5) ≡ 1 → number_in (column (begun_row more) 6) ≡ 0 → Lists (begun_row more ∷ []) schema
lists_row [] code reals = absurd (cc)
lists_row (v ∷ more) code reals = subst (λ w. Lists (begun_row (w ∷ more) ∷ []) schema) (sym (one_is v code)) (lists more reals)

lists_all : (rows : List Row) → map (take 5) rows ≡ table_listing ∷ [] → number_in (column (row_for rows 0) 5) ≡ 1 → number_in (column (row_for rows 0) 6) ≡ 0 → Lists rows schema
lists_all [] is code reals = absurd (cc)
lists_all (row ∷ []) is code reals =
    let begun = begins_so row (cc) in
    let found = ap (λ r. row_for (r ∷ []) 0) begun.1 ∙ row_found begun.0 in
    subst (λ r. Lists (r ∷ []) schema) (sym begun.1) (lists_row begun.0 (rw found at code) (rw found at reals))
lists_all (row ∷ other ∷ rows) is code reals = absurd (cc)

-- the trees of a journal list the schema, and obey it
pub sound_of : (db : Trees) (list : List (List ℕ)) (shape : ℕ → Shape) (reals : ℕ → ℕ) → HoldsStatements db list → IsListed (db catalog_tree) shape reals → shape 0 ≡ TableShape → reals 0 ≡ 0 → IsSound schema db
sound_of db list shape reals held listed table none = record {
  lists = lists_all (db catalog_tree) held.listed (sym (listed.shapes 0 (λ h. omega (arith, h)) (λ h. omega (arith, h))) ∙ ap shape_code table) (sym (listed.columns 0 (λ h. omega (arith, h)) (λ h. omega (arith, h))) ∙ none);
  obeys = obeys db list held.rows;
}
