-- The rows of statements: what they spell, what an append does to them, and what is found under a number.
use Rattle.std.proofs.Common.{◌≡◌, ℕ, zero, suc, ◌+◌, ◌<◌, Bool, true, false, List, [], ◌∷◌, ◌++◌, map, length, pos, filter, slice_get, Option, None, Some, if◌then◌else◌, refl, sym, ap, ◌∙◌, subst, arith, lt-ltb, le-ltb}
use Rattle.std.specs.Ordering.{is_eq}
use Rattle.std.specs.List.{AllByRecursion}
use Rattle.std.specs.declared.cmp.Ordering.TheVariants.{Less, Equal, Greater}
use Rattle.sqlite_value.specs.declared.value.Value.TheVariants.{Int}
use Rattle.sqlite_value.specs.Order.{Row, value_cmp}
use Rattle.sqlite_value.proofs.OrderLemmas.{value_cmp-Int}
use Rattle.sqlite_trees.specs.Tree.{Trees, has_rowid, put_row}
use Rattle.sqlite_trees.proofs.ListLemmas.{filter_none}
use Rattle.ded_journal.specs.Statements.{statement_row, statement_rows, text_in, statements_in, HoldsStatements, FindsText}

pub texts_of : (number : ℕ) (list : List (List ℕ)) → map text_in (statement_rows number list) ≡ list
texts_of number [] = refl
texts_of number (text ∷ list) = ap (λ more. text ∷ more) (texts_of (number + 1) list)

pub rows_spelled : (rows : List Row) (list : List (List ℕ)) → rows ≡ statement_rows 1 list → map text_in rows ≡ list
rows_spelled rows list is = ap (map text_in) is ∙ texts_of 1 list

pub statements_are : (db : Trees) (list : List (List ℕ)) → HoldsStatements db list → statements_in db ≡ list
statements_are db list held = rows_spelled _ _ held.rows

pub holds_own : (db : Trees) (list : List (List ℕ)) → HoldsStatements db list → HoldsStatements db (statements_in db)
holds_own db list held = subst (HoldsStatements db) (sym (statements_are db list held)) held

below : (a b : ℕ) → a < b → value_cmp (Int (pos a)) (Int (pos b)) ≡ Less
below a b low = rw (value_cmp-Int (pos a) (pos b), lt-ltb a b low) refl

above : (a b : ℕ) → b < a → value_cmp (Int (pos a)) (Int (pos b)) ≡ Greater
above a b low = rw (value_cmp-Int (pos a) (pos b), le-ltb a b (omega arith), lt-ltb b a low) refl

level : (a b : ℕ) → a ≡ b → value_cmp (Int (pos a)) (Int (pos b)) ≡ Equal
level a b same = rw (value_cmp-Int (pos a) (pos b), le-ltb a b (omega arith), le-ltb b a (omega arith)) refl

-- a row with the next number goes behind the others
pub put_last : (number next : ℕ) (list : List (List ℕ)) (text : List ℕ) → next ≡ number + length list
    → put_row (statement_row next text) (statement_rows number list) ≡ statement_rows number (list ++ text ∷ [])
put_last number next [] text is = ap (λ n. statement_row n text ∷ []) (omega arith)
put_last number next (first ∷ list) text is =
    rw (below number next (omega arith)) (ap (λ rows. statement_row number first ∷ rows) (put_last (number + 1) next list text (omega arith)))

none_earlier : (number wanted : ℕ) (list : List (List ℕ)) → wanted < number → AllByRecursion (λ row. has_rowid (pos wanted) row ≡ false) (statement_rows number list)
none_earlier number wanted [] low = tt
none_earlier number wanted (first ∷ list) low = (ap is_eq (above number wanted low), none_earlier (number + 1) wanted list (omega arith))

abbrev row_for : ℕ → Option (List ℕ) → List Row
row_for number None = []
row_for number (Some text) = statement_row number text ∷ []

found_at : (number wanted at : ℕ) (list : List (List ℕ)) → wanted ≡ number + at → filter (has_rowid (pos wanted)) (statement_rows number list) ≡ row_for wanted (slice_get list at)
found_at number wanted at [] is = refl
found_at number wanted zero (first ∷ list) is =
    rw (level number wanted (omega arith), filter_none (has_rowid (pos wanted)) (statement_rows (number + 1) list) (none_earlier (number + 1) wanted list (omega arith)))
    (ap (λ n. statement_row n first ∷ []) (omega arith))
found_at number wanted (suc at) (first ∷ list) is = rw (below number wanted (omega arith)) (found_at (number + 1) wanted at list (omega arith))

abbrev first_text : List Row → List ℕ
first_text [] = []
first_text (row ∷ rows) = text_in row

-- what is found under a number is the statement at the place before it
pub read_at : (rows : List Row) (list : List (List ℕ)) (at : ℕ) (text : List ℕ) (found : Bool) → rows ≡ statement_rows 1 list → FindsText rows (at + 1) text found
    → slice_get list at ≡ (if found then Some text else None)
read_at rows list at text found is h = go (slice_get list at) found (ap (filter (has_rowid (pos (at + 1)))) is ∙ found_at 1 (at + 1) at list (omega arith)) h
  where
    go : (here : Option (List ℕ)) (b : Bool) → filter (has_rowid (pos (at + 1))) rows ≡ row_for (at + 1) here → FindsText rows (at + 1) text b → here ≡ (if b then Some text else None)
    go None true e k = absurd (let no : [] ≡ k.0 ∷ [] = sym e ∙ k.1 in cc)
    go None false e k = refl
    go (Some own) true e k = ap Some (ap first_text (sym e ∙ k.1) ∙ k.2)
    go (Some own) false e k = absurd (let no : statement_row (at + 1) own ∷ [] ≡ [] = sym e ∙ k in cc)

same_head : (row other : Row) (rows others : List Row) → row ∷ rows ≡ other ∷ others → row ≡ other
same_head row other rows others e = cc

same_tail : (row other : Row) (rows others : List Row) → row ∷ rows ≡ other ∷ others → rows ≡ others
same_tail row other rows others e = cc

-- the row behind so many is that of a statement, in each list of rows of statements
pub row_there : (number : ℕ) (done list : List (List ℕ)) (row : Row) (left : List Row) → statement_rows number done ++ row ∷ left ≡ statement_rows number list
    → row ≡ statement_row (number + length done) (text_in row)
row_there number [] [] row left is = absurd (cc)
row_there number [] (text ∷ list) row left is =
    let here : row ≡ statement_row number text = same_head row _ left _ is in
    here ∙ ap (statement_row number) (sym (ap text_in here)) ∙ ap (λ n. statement_row n (text_in row)) (omega arith)
row_there number (first ∷ done) [] row left is = absurd (cc)
row_there number (first ∷ done) (text ∷ list) row left is =
    row_there (number + 1) done list row left (same_tail _ _ _ _ is) ∙ ap (λ n. statement_row n (text_in row)) (omega arith)

-- one more row of a statement behind the others
pub rows_longer : (number next : ℕ) (done : List (List ℕ)) (row : Row) (left : List Row) → next ≡ number + length done → row ≡ statement_row next (text_in row)
    → statement_rows number done ++ row ∷ left ≡ statement_rows number (done ++ text_in row ∷ []) ++ left
rows_longer number next [] row left is spelled = ap (λ r. r ∷ left) (spelled ∙ ap (λ n. statement_row n (text_in row)) (omega arith))
rows_longer number next (first ∷ done) row left is spelled = ap (λ rows. statement_row number first ∷ rows) (rows_longer (number + 1) next done row left (omega arith) spelled)
