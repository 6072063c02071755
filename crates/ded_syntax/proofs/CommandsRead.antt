-- Commands: what is spelled is read.
use Rattle.std.proofs.Common.{◌≡◌, inl, inr, ℕ, Bool, true, false, List, [], ◌∷◌, ◌++◌, length, map, refl, sym, ap, ◌∙◌, append_assoc}
use Rattle.std.specs.Prelude.{Option, Some, None, if◌then◌else◌}
use Rattle.std.proofs.lemmas.List.{append-nil}
use Rattle.ded_model.specs.declared.certificate.Entry.{Entry}
use Rattle.ded_model.specs.declared.name.Column.{Column}
use Rattle.ded_model.specs.Command.{CommandForm, header, relation, insert, verify}
use Rattle.ded_model.specs.Form.{Form}
use Rattle.ded_model.specs.Logic.{logics}
use Rattle.ded_grammar.specs.Trees.{TerminalForm}
use Rattle.ded_grammar.specs.Building.{◌>>=◌}
use Rattle.ded_terminals.specs.Symbols.{Symbol, Open, Close, OpenBrace, CloseBrace, Colon, Define, Relation}
use Rattle.ded_terminals.specs.Literals.{whole, quotient, decimal, Reader}
use Rattle.ded_terminals.specs.Operands.{scaled, constant, lone, ParsedSide, text, sum, spell_side}
use Rattle.ded_terminals.specs.Atoms.{spell_rest, Comparison, spell_comparison, comparison_form, spell_column}
use Rattle.ded_syntax.specs.Commands.{Columns, spell_heading, heading, Plain, opens, defines, inserts_none, inserts, deletes, drops, keeps, shows, boxes, dumps, certifies, verifies_none, verifies, spell_plain, plain_form, Prefix, views, asks, queries, explains, spell_prefix, prefix_form, SpellsCommand}
use Rattle.ded_terminals.specs.AtomReading.{comma_at, brace_at, list_at, compare_at, column_at, terminals_at}
use Rattle.ded_syntax.specs.CommandReading.{Head, view_head, ask_head, query_head, explain_head, head_form, Draft, plain, formed, heading_at, braces_at, ended, colon_at, define_at, formed_at, draft_at}
use Rattle.ded_syntax.specs.Meaning.{Means}
use Rattle.ded_terminals.proofs.ListsRead.{list_read, few_items, list_tail}
use Rattle.ded_terminals.proofs.AtomsRead.{comparisons_listed, columns_listed}
use Rattle.ded_syntax.proofs.EntriesRead.{certificate_read}
use Rattle.ded_terminals.proofs.TerminalsRead.{terminals_read, spelled_scans}

pub same_list : {A : Type 0} (xs : List A) → map (λ (x : A). x) xs ≡ xs
same_list [] = refl
same_list (x ∷ xs) = ap (λ l. x ∷ l) (same_list xs)

heading_read : (h : Columns) (rest : List Symbol) → heading_at (spell_heading h ++ rest) ≡ Some (heading h, rest)
heading_read h rest =
    ap (λ (l : List Symbol). heading_at (Open ∷ l)) (list_tail spell_column h.first h.rest Close rest)
    ∙ list_read spell_column (λ (c : Column). c) column_at comma_at Close columns_listed h.rest h.first rest
    (length (spell_column h.first ++ (spell_rest spell_column h.rest ++ (Close ∷ rest))))
    (few_items spell_column (λ (c : Column). c) column_at comma_at Close h.first h.rest rest)
    ∙ ap (λ (l : List Column). Some (h.first ∷ l, rest)) (same_list h.rest)

whole_heading_read : (h : Columns) → heading_at (spell_heading h) ≡ Some (heading h, [])
whole_heading_read h = ap heading_at (sym (append-nil (spell_heading h))) ∙ heading_read h []

-- a comparison doesn't begin with a brace
sides_begin : (value : Reader) (l : ParsedSide) (us ts : List Symbol) → braces_at value (OpenBrace ∷ (spell_side l ++ us) ++ ts) ≡ list_at (compare_at value) brace_at (length ((spell_side l ++ us) ++ ts)) ((spell_side l ++ us) ++ ts)
sides_begin value (text s) us ts = refl
sides_begin value (sum true p ps) us ts = refl
sides_begin value (sum false (scaled (whole d) n) ps) us ts = refl
sides_begin value (sum false (scaled (quotient d e z) n) ps) us ts = refl
sides_begin value (sum false (scaled (decimal t) n) ps) us ts = refl
sides_begin value (sum false (constant (whole d)) ps) us ts = refl
sides_begin value (sum false (constant (quotient d e z)) ps) us ts = refl
sides_begin value (sum false (constant (decimal t)) ps) us ts = refl
sides_begin value (sum false (lone n) ps) us ts = refl

braces_read : (value : Reader) (c : Comparison) (cs : List Comparison) → braces_at value (OpenBrace ∷ spell_comparison c ++ (spell_rest spell_comparison cs ++ CloseBrace ∷ [])) ≡ Some (comparison_form value c ∷ map (comparison_form value) cs, [])
braces_read value c cs =
    sides_begin value c.left (Relation c.op ∷ spell_side c.right) (spell_rest spell_comparison cs ++ CloseBrace ∷ [])
    ∙ list_read spell_comparison (comparison_form value) (compare_at value) brace_at CloseBrace (comparisons_listed value) cs c []
    (length (spell_comparison c ++ (spell_rest spell_comparison cs ++ CloseBrace ∷ [])))
    (few_items spell_comparison (comparison_form value) (compare_at value) brace_at CloseBrace c cs [])

pub plain_read : (value : Reader) (p : Plain) → draft_at value (spell_plain p) ≡ Some (plain (plain_form value p))
plain_read value (opens d two) = ap (λ (b : Bool). if b then ended (plain header) [] else None) two
plain_read value (defines n h) = ap (λ (o : Option (List Column × List Symbol)). o >>= λ h. ended (plain (relation n h.0)) h.1) (whole_heading_read h)
plain_read value (inserts_none n) = refl
plain_read value (inserts n c cs) = ap (λ (o : Option (List Form × List Symbol)). o >>= λ fs. ended (plain (insert n (logics fs.0))) fs.1) (braces_read value c cs)
plain_read value (deletes n d) = refl
plain_read value (drops n) = refl
plain_read value (keeps n) = refl
plain_read value (shows n) = refl
plain_read value (boxes n) = refl
plain_read value dumps = refl
plain_read value (certifies n m) = refl
plain_read value (verifies_none n m) = refl
plain_read value (verifies n m e es) = ap (λ (o : Option (List Entry × List Symbol)). o >>= λ es. ended (plain (verify n m es.0)) es.1) (certificate_read value e es)

abbrev pub head_of : Prefix → Head
head_of (views n h) = view_head n (heading h)
head_of asks = ask_head
head_of (queries h) = query_head (heading h)
head_of (explains h) = explain_head (heading h)

pub prefix_is_head : (p : Prefix) (f : Form) → prefix_form p f ≡ head_form (head_of p) f
prefix_is_head (views n h) f = refl
prefix_is_head asks f = refl
prefix_is_head (queries h) f = refl
prefix_is_head (explains h) f = refl

formed_read : (value : Reader) (h : Head) (rest : List Symbol) (ps : List TerminalForm) → terminals_at value rest ≡ Some ps → formed_at value h rest ≡ Some (formed h ps)
formed_read value h rest ps e = ap (λ (o : Option (List TerminalForm)). o >>= λ ps. Some (formed h ps)) e

over_read : (value : Reader) (make : List Column → Head) (h : Columns) (rest : List Symbol) (ps : List TerminalForm) → terminals_at value rest ≡ Some ps → (heading_at ((spell_heading h ++ Colon ∷ []) ++ rest) >>= λ h. colon_at h.1 >>= formed_at value (make h.0)) ≡ Some (formed (make (heading h)) ps)
over_read value make h rest ps e =
    ap (λ (l : List Symbol). heading_at l >>= λ h. colon_at h.1 >>= formed_at value (make h.0)) (append_assoc (spell_heading h) (Colon ∷ []) rest)
    ∙ ap (λ (o : Option (List Column × List Symbol)). o >>= λ h. colon_at h.1 >>= formed_at value (make h.0)) (heading_read h (Colon ∷ rest))
    ∙ formed_read value (make (heading h)) rest ps e

pub prefix_read : (value : Reader) (p : Prefix) (rest : List Symbol) (ps : List TerminalForm) → terminals_at value rest ≡ Some ps → draft_at value (spell_prefix p ++ rest) ≡ Some (formed (head_of p) ps)
prefix_read value (views n h) rest ps e =
    ap (λ (l : List Symbol). heading_at l >>= λ h. define_at h.1 >>= formed_at value (view_head n h.0)) (append_assoc (spell_heading h) (Define ∷ []) rest)
    ∙ ap (λ (o : Option (List Column × List Symbol)). o >>= λ h. define_at h.1 >>= formed_at value (view_head n h.0)) (heading_read h (Define ∷ rest))
    ∙ formed_read value (view_head n (heading h)) rest ps e
prefix_read value asks rest ps e = formed_read value ask_head rest ps e
prefix_read value (queries h) rest ps e = over_read value query_head h rest ps e
prefix_read value (explains h) rest ps e = over_read value explain_head h rest ps e

-- the symbols are read as a draft that stands for the command
abbrev pub IsDrafted : Reader → List Symbol → CommandForm → ℕ → Type 0
IsDrafted value ts c depth = (d : Draft) × (draft_at value ts ≡ Some d) × Means d c depth

pub command_read : (value : Reader) (ts : List Symbol) (c : CommandForm) (depth : ℕ) → SpellsCommand value ts c depth → IsDrafted value ts c depth
command_read value ts c depth (inl s) = (plain (plain_form value s.plain), ap (draft_at value) s.spelled ∙ plain_read value s.plain, (s.means, s.flat))
command_read value ts c depth (inr s) =
    let ps = s.spells.terminals in (
      formed (head_of s.before) ps,
      ap (draft_at value) s.spelled ∙ prefix_read value s.before s.rest ps (terminals_read value s.rest ps (spelled_scans ps s.formula depth s.spells.spells) s.spells.are),
      (s.formula, s.spells.spells, s.means ∙ prefix_is_head s.before s.formula),
    )
