-- Reading commands up to the tree of their formula, as functions on symbols.
use Rattle.std.specs.Prelude.{ℕ, ◌==◌, if◌then◌else◌, Bool, true, List, [], ◌∷◌, length, Option, Some, None}
use Rattle.ded_model.specs.declared.certificate.Entry.{Entry}
use Rattle.ded_model.specs.declared.name.Column.{Column}
use Rattle.ded_model.specs.Command.{CommandForm, header, relation, insert, delete, drop, view, keep, ask, query, show, box_of, explain, dump, disjoint, verify}
use Rattle.ded_model.specs.Form.{Form}
use Rattle.ded_model.specs.Logic.{logics}
use Rattle.ded_grammar.specs.declared.scan.Spot.TheVariants.{Start}
use Rattle.ded_grammar.specs.Trees.{TerminalForm}
use Rattle.ded_grammar.specs.Scanning.{scan}
use Rattle.ded_grammar.specs.Building.{◌>>=◌}
use Rattle.ded_terminals.specs.declared.item.Keyword.{Keyword}
use Rattle.ded_terminals.specs.declared.item.Keyword.TheVariants as words
use Rattle.ded_terminals.specs.Symbols.{Symbol, number_of, Open, CloseBrace, OpenBrace, Colon, Define}
use Rattle.ded_terminals.specs.Literals.{Reader}
use Rattle.ded_terminals.specs.OperandReading.{name_at, number_at}
use Rattle.ded_terminals.specs.AtomReading.{comma_at, brace_at, list_at, compare_at, column_at, keyword_at, terminals_at}
use Rattle.ded_syntax.specs.CertificateReading.{entries_at}

-- what stands before a formula
pub data Head : Type 0 where
  view_head : List ℕ → List Column → Head
  ask_head : Head
  query_head : List Column → Head
  explain_head : List Column → Head

-- the command of a head and its formula
abbrev pub head_form : Head → Form → CommandForm
head_form (view_head n h) f = view n h f
head_form ask_head f = ask f
head_form (query_head h) f = query h f
head_form (explain_head h) f = explain h f

-- a command without a formula, or with the terminals of one
pub data Draft : Type 0 where
  plain : CommandForm → Draft
  formed : Head → List TerminalForm → Draft

-- the symbols behind an opening parenthesis, or none where they don't begin with one
abbrev pub open_at : List Symbol → Option (List Symbol)
open_at (Open ∷ ts) = Some ts
open_at ts = None

-- reads the columns of a heading, of which there is one at least, and the closing parenthesis
abbrev pub columns_at : List Symbol → Option (List Column × List Symbol)
columns_at ts = list_at column_at comma_at (length ts) ts

-- reads a heading: columns in parentheses
abbrev pub heading_at : List Symbol → Option (List Column × List Symbol)
heading_at ts = open_at ts >>= columns_at

-- the symbols behind two braces with nothing in them, or none where they don't begin with these
abbrev pub empty_at : List Symbol → Option (List Symbol)
empty_at (OpenBrace ∷ CloseBrace ∷ ts) = Some ts
empty_at ts = None

-- the symbols behind an opening brace, or none where they don't begin with one
abbrev pub open_brace_at : List Symbol → Option (List Symbol)
open_brace_at (OpenBrace ∷ ts) = Some ts
open_brace_at ts = None

-- reads the comparisons of an insert, of which there is one at least, and the closing brace
abbrev pub forms_at : Reader → List Symbol → Option (List Form × List Symbol)
forms_at value ts = list_at (compare_at value) brace_at (length ts) ts

-- a list in braces: the empty one, where two braces with nothing in them were read, else what is read behind the
-- opening one
abbrev pub braces_by_empty : {A : Type 0} → (List Symbol → Option (List A × List Symbol)) → List Symbol → Option (List Symbol) → Option (List A × List Symbol)
braces_by_empty read ts None = open_brace_at ts >>= read
braces_by_empty read ts (Some us) = Some ([], us)

-- what stands in the braces of an insert
abbrev pub braces_at : Reader → List Symbol → Option (List Form × List Symbol)
braces_at value ts = braces_by_empty (forms_at value) ts (empty_at ts)

-- the entries of a certificate in their braces
abbrev pub certificate_at : Reader → List Symbol → Option (List Entry × List Symbol)
certificate_at value ts = braces_by_empty (entries_at value) ts (empty_at ts)

-- what was read, where no symbols are left, or none
abbrev pub ended : {A : Type 0} → A → List Symbol → Option A
ended x [] = Some x
ended x (t ∷ ts) = None

-- the symbols behind a colon, or none where they don't begin with one
abbrev pub colon_at : List Symbol → Option (List Symbol)
colon_at (Colon ∷ ts) = Some ts
colon_at ts = None

-- the symbols behind the sign :=, or none where they don't begin with it
abbrev pub define_at : List Symbol → Option (List Symbol)
define_at (Define ∷ ts) = Some ts
define_at ts = None

-- the terminals of a formula behind a head
abbrev pub formed_at : Reader → Head → List Symbol → Option Draft
formed_at value h ts = terminals_at value ts >>= λ ps. Some (formed h ps)

-- a name with nothing behind it
abbrev pub last_name : List Symbol → Option (List ℕ)
last_name ts = name_at ts >>= λ n. ended n.0 n.1

-- a command that is a name
abbrev pub named_draft : (List ℕ → CommandForm) → List Symbol → Option Draft
named_draft make ts = last_name ts >>= λ n. Some (plain (make n))

-- the header, where the digits stand for 2
abbrev pub header_by : List ℕ × List Symbol → Option Draft
header_by x = if number_of x.0 == 2 then ended (plain header) x.1 else None

-- reads what stands behind `dedale`: the number 2
abbrev pub header_draft : List Symbol → Option Draft
header_draft ts = number_at ts >>= header_by

-- reads what stands behind `relation`: a name and a heading
abbrev pub relation_draft : List Symbol → Option Draft
relation_draft ts = name_at ts >>= λ n. heading_at n.1 >>= λ h. ended (plain (relation n.0 h.0)) h.1

-- reads what stands behind `insert`: a name, and comparisons in braces
abbrev pub insert_draft : Reader → List Symbol → Option Draft
insert_draft value ts = name_at ts >>= λ n. braces_at value n.1 >>= λ fs. ended (plain (insert n.0 (logics fs.0))) fs.1

-- reads what stands behind `delete`: a name and a number
abbrev pub delete_draft : Reader → List Symbol → Option Draft
delete_draft value ts = name_at ts >>= λ n. number_at n.1 >>= λ d. ended (plain (delete n.0 (value.number (number_of d.0)))) d.1

-- reads what stands behind `view`: a name, a heading, the sign := and the terminals of a formula
abbrev pub view_draft : Reader → List Symbol → Option Draft
view_draft value ts = name_at ts >>= λ n. heading_at n.1 >>= λ h. define_at h.1 >>= formed_at value (view_head n.0 h.0)

-- reads what stands behind `disjoint`: two names
abbrev pub disjoint_draft : List Symbol → Option Draft
disjoint_draft ts = name_at ts >>= λ n. name_at n.1 >>= λ m. ended (plain (disjoint n.0 m.0)) m.1

-- reads what stands behind `verify`: two names, and the entries of a certificate in braces
abbrev pub verify_draft : Reader → List Symbol → Option Draft
verify_draft value ts = name_at ts >>= λ n. name_at n.1 >>= λ m. certificate_at value m.1 >>= λ es. ended (plain (verify n.0 m.0 es.0)) es.1

-- a heading, a colon and a formula
abbrev pub over_draft : Reader → (List Column → Head) → List Symbol → Option Draft
over_draft value make ts = heading_at ts >>= λ h. colon_at h.1 >>= formed_at value (make h.0)

-- reads the command that begins with the word, from all symbols behind it; none where no command begins with it
abbrev pub draft_behind : Reader → Keyword → List Symbol → Option Draft
draft_behind value words.Dedale ts = header_draft ts
draft_behind value words.Relation ts = relation_draft ts
draft_behind value words.Insert ts = insert_draft value ts
draft_behind value words.Delete ts = delete_draft value ts
draft_behind value words.Drop ts = named_draft drop ts
draft_behind value words.Keep ts = named_draft keep ts
draft_behind value words.Show ts = named_draft show ts
draft_behind value words.BoxOf ts = named_draft box_of ts
draft_behind value words.Dump ts = ended (plain dump) ts
draft_behind value words.View ts = view_draft value ts
draft_behind value words.Ask ts = formed_at value ask_head ts
draft_behind value words.Query ts = over_draft value query_head ts
draft_behind value words.Explain ts = over_draft value explain_head ts
draft_behind value words.Disjoint ts = disjoint_draft ts
draft_behind value words.Verify ts = verify_draft value ts
draft_behind value w ts = None

-- reads all symbols as a command without a formula, or with the terminals of one
abbrev pub draft_at : Reader → List Symbol → Option Draft
draft_at value ts = keyword_at ts >>= λ w. draft_behind value w.0 w.1

-- whether the terminals of a draft spell a formula
abbrev pub scans : Draft → Bool
scans (plain c) = true
scans (formed h ps) = scan Start 0 ps
