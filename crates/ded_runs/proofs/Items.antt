-- The lines of a catalogue, each with the command that is read of it.
use Rattle.std.proofs.Common.{◌≡◌, ◌≤◌, ℕ, ◌+◌, List, [], ◌∷◌, ◌++◌, map, length, length-append, append_assoc, arith, refl, sym, ap, ◌∙◌, subst}
use Rattle.std.specs.Prelude.{codes}
use Rattle.std.specs.List.{AllByRecursion}
use Rattle.ded_model.specs.declared.name.Column.{Column}
use Rattle.ded_model.specs.Catalogue.{Entry, Catalogue}
use Rattle.ded_model.specs.Catalogue as entry
use Rattle.ded_model.specs.Command.{CommandForm, relation, insert, view}
use Rattle.ded_model.specs.Form.{Form}
use Rattle.ded_model.specs.Row.{Atom}
use Rattle.ded_print.specs.Tuples.{column_names, tuple_text}
use Rattle.ded_dump.specs.Entries.{header_line, relation_line, insert_line, view_line, insert_lines, entry_lines, entries_lines, dump_lines}
use Rattle.ded_dump.specs.Formulas.{formula_text}
use Rattle.ded_dump.specs.Headings.{heading_text}
use Rattle.ded_reread.specs.Formulas.{restored, restored_tuple}
use Rattle.ded_reread.specs.Lines.{header_text, relation_text, insert_text, view_text}
use Rattle.ded_runs.specs.Remade.{script_of_lines, joined_lines}

-- a line without its semicolon, and the command
pub record Item : Type 0 where
  pub text : List ℕ
  pub command : CommandForm

abbrev pub insert_items : List ℕ → List Column → List (ℕ × List Atom) → List Item
insert_items n h [] = []
insert_items n h (t ∷ ts) = record { text = insert_text n h t.1; command = insert n (restored_tuple h t.1) } ∷ insert_items n h ts

abbrev pub entry_items : Entry → List Item
entry_items (entry.relation n h m ts) = record { text = relation_text n h; command = relation n h } ∷ insert_items n h ts
entry_items (entry.view n h f) = record { text = view_text n h f; command = view n h (restored h f) } ∷ []

abbrev pub items : List Entry → List Item
items [] = []
items (e ∷ es) = entry_items e ++ items es

abbrev pub line : Item → List ℕ
line i = i.text ++ 59 ∷ []

-- ---- they are the lines

relation_is : (n : List ℕ) (h : List Column) → relation_line n h ≡ relation_text n h ++ 59 ∷ []
relation_is n h = sym (append_assoc (codes "relation ") (n ++ heading_text h) (59 ∷ []) ∙ ap (λ l. codes "relation " ++ l) (append_assoc n (heading_text h) (59 ∷ [])))

insert_is : (n : List ℕ) (h : List Column) (t : List Atom) → insert_line n h t ≡ insert_text n h t ++ 59 ∷ []
insert_is n h t =
    let text = tuple_text (column_names h) t in
    sym (append_assoc (codes "insert ") (n ++ (codes " " ++ text)) (59 ∷ []) ∙ ap (λ l. codes "insert " ++ l) (append_assoc n (codes " " ++ text) (59 ∷ [])))

view_is : (n : List ℕ) (h : List Column) (f : Form) → view_line n h f ≡ view_text n h f ++ 59 ∷ []
view_is n h f =
    let text = formula_text h f in
    sym (append_assoc (codes "view ") (n ++ (heading_text h ++ (codes " := " ++ text))) (59 ∷ [])
    ∙ ap (λ l. codes "view " ++ l) (append_assoc n (heading_text h ++ (codes " := " ++ text)) (59 ∷ [])
    ∙ ap (λ l. n ++ l) (append_assoc (heading_text h) (codes " := " ++ text) (59 ∷ []))))

inserts_are : (n : List ℕ) (h : List Column) (ts : List (ℕ × List Atom)) → insert_lines n h ts ≡ map line (insert_items n h ts)
inserts_are n h [] = refl
inserts_are n h (t ∷ ts) = ap (λ l. l ∷ insert_lines n h ts) (insert_is n h t.1) ∙ ap (λ ls. (insert_text n h t.1 ++ 59 ∷ []) ∷ ls) (inserts_are n h ts)

entry_is : (e : Entry) → entry_lines e ≡ map line (entry_items e)
entry_is (entry.relation n h m ts) = ap (λ l. l ∷ insert_lines n h ts) (relation_is n h) ∙ ap (λ ls. (relation_text n h ++ 59 ∷ []) ∷ ls) (inserts_are n h ts)
entry_is (entry.view n h f) = ap (λ l. l ∷ []) (view_is n h f)

lines_behind : (is js : List Item) → map line (is ++ js) ≡ map line is ++ map line js
lines_behind [] js = refl
lines_behind (i ∷ is) js = ap (λ ls. line i ∷ ls) (lines_behind is js)

pub entries_are : (es : List Entry) → entries_lines es ≡ map line (items es)
entries_are [] = refl
entries_are (e ∷ es) =
    ap (λ ls. ls ++ entries_lines es) (entry_is e) ∙ ap (λ ls. map line (entry_items e) ++ ls) (entries_are es) ∙ sym (lines_behind (entry_items e) (items es))

-- ---- the scripts

-- the piece that a line is behind the bytes that stand before each
abbrev pub piece : List ℕ → Item → List ℕ
piece front i = front ++ i.text

-- what stands behind the header's semicolon, where these bytes stand before each line and at the end
abbrev pub tail_of : List ℕ → List Item → List ℕ
tail_of front [] = front
tail_of front (i ∷ is) = piece front i ++ 59 ∷ tail_of front is

fed_tail : (is : List Item) → 10 ∷ script_of_lines (map line is) ≡ tail_of (10 ∷ []) is
fed_tail [] = refl
fed_tail (i ∷ is) =
    ap (λ l. 10 ∷ l) (append_assoc i.text (59 ∷ []) (10 ∷ script_of_lines (map line is)) ∙ ap (λ l. i.text ++ 59 ∷ l) (fed_tail is))

joined_tail : (is : List Item) → joined_lines (map line is) ≡ tail_of [] is
joined_tail [] = refl
joined_tail (i ∷ is) = append_assoc i.text (59 ∷ []) (joined_lines (map line is)) ∙ ap (λ l. i.text ++ 59 ∷ l) (joined_tail is)

pub fed_script : (c : Catalogue) → script_of_lines (dump_lines c) ≡ header_text ++ 59 ∷ tail_of (10 ∷ []) (items c.entries)
fed_script c = ap (λ ls. header_line ++ 10 ∷ script_of_lines ls) (entries_are c.entries) ∙ ap (λ l. header_text ++ 59 ∷ l) (fed_tail (items c.entries))

pub joined_script : (c : Catalogue) → joined_lines (dump_lines c) ≡ header_text ++ 59 ∷ tail_of [] (items c.entries)
joined_script c = ap (λ ls. header_line ++ joined_lines ls) (entries_are c.entries) ∙ ap (λ l. header_text ++ 59 ∷ l) (joined_tail (items c.entries))

-- ---- their lengths

abbrev pub AreShort : List ℕ → List Item → Type 0
AreShort front = AllByRecursion (λ (i : Item). length (piece front i) ≤ 65536)

module _ (front : List ℕ) (most : ℕ) (room : length front + most ≤ 65537) where
  short_items : (is : List Item) → AllByRecursion (λ (l : List ℕ). length l ≤ most) (map line is) → AreShort front is
  short_items [] h = tt
  short_items (i ∷ is) h = (omega (arith, h.0, room, length-append i.text (59 ∷ []), length-append front i.text), short_items is h.1)

  pub short_lines : (c : Catalogue) → AllByRecursion (λ (l : List ℕ). length l ≤ most) (dump_lines c) → AreShort front (items c.entries)
  short_lines c h = short_items (items c.entries) (subst (AllByRecursion (λ (l : List ℕ). length l ≤ most)) (entries_are c.entries) h.1)
