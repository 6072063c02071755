-- Commands: what is read is spelled.
use Rattle.std.proofs.Common.{◌≡◌, inl, inr, ℕ, Bool, true, false, List, [], ◌∷◌, ◌++◌, length, refl, sym, ap, subst, ◌∙◌, append_assoc}
use Rattle.std.specs.Prelude.{◌==◌, Some, None, if◌then◌else◌}
use Rattle.std.proofs.lemmas.List.{append-nil}
use Rattle.ded_model.specs.declared.certificate.Entry.{Entry}
use Rattle.ded_model.specs.declared.name.Column.{Column}
use Rattle.ded_model.specs.Command.{CommandForm, header, relation, insert, delete, drop, keep, show, box_of, dump, disjoint, verify}
use Rattle.ded_model.specs.Form.{Form}
use Rattle.ded_model.specs.Logic.{logics}
use Rattle.ded_grammar.specs.Building.{◌>>=◌}
use Rattle.ded_terminals.specs.declared.item.Keyword.{Keyword}
use Rattle.ded_terminals.specs.declared.item.Keyword.TheVariants as words
use Rattle.ded_terminals.specs.Symbols.{Symbol, number_of, Word, Name, Number, Open, Close, OpenBrace, CloseBrace, Colon, Define}
use Rattle.ded_terminals.specs.Literals.{Reader}
use Rattle.ded_terminals.specs.Atoms.{spell_comparison, comparison_form, spell_column, AreTerminals}
use Rattle.ded_syntax.specs.Certificates.{spell_entry, entry_of}
use Rattle.ded_syntax.specs.CertificateReading.{entry_at, entries_at}
use Rattle.ded_syntax.specs.Commands.{Columns, spell_heading, heading, Plain, opens, defines, inserts_none, inserts, deletes, drops, keeps, shows, boxes, dumps, certifies, verifies_none, verifies, spell_plain, plain_form, Prefix, views, asks, queries, explains, spell_prefix, SpellsCommand}
use Rattle.ded_terminals.specs.OperandReading.{name_at, number_at}
use Rattle.ded_terminals.specs.AtomReading.{comma_at, brace_at, list_at, compare_at, column_at, terminals_at}
use Rattle.ded_syntax.specs.CommandReading.{Head, view_head, ask_head, query_head, explain_head, head_form, Draft, plain, formed, heading_at, braces_at, certificate_at, ended, colon_at, define_at, formed_at, last_name, named_draft, header_by, header_draft, relation_draft, insert_draft, delete_draft, disjoint_draft, verify_draft, view_draft, over_draft, draft_behind, draft_at}
use Rattle.ded_syntax.specs.Meaning.{Means}
use Rattle.ded_terminals.proofs.Binds.{bind_some, some_same}
use Rattle.ded_terminals.proofs.ListsRead.{list_sound, list_tail}
use Rattle.ded_syntax.proofs.EntriesSound.{number_sound, entries_sound}
use Rattle.ded_terminals.proofs.TerminalsSound.{comparisons_sound, columns_sound, terminals_sound}
use Rattle.ded_syntax.proofs.CommandsRead.{same_list, head_of, prefix_is_head, IsDrafted}

name_sound : (ts : List Symbol) (x : List ℕ × List Symbol) → name_at ts ≡ Some x → ts ≡ Name x.0 ∷ x.1
name_sound (Name n ∷ ts) x e = ap (λ (y : List ℕ × List Symbol). Name y.0 ∷ y.1) (some_same _ x e)
name_sound ts x e = absurd cc

colon_sound : (ts us : List Symbol) → colon_at ts ≡ Some us → ts ≡ Colon ∷ us
colon_sound (Colon ∷ ts) us e = ap (λ (l : List Symbol). Colon ∷ l) (some_same _ us e)
colon_sound ts us e = absurd cc

define_sound : (ts us : List Symbol) → define_at ts ≡ Some us → ts ≡ Define ∷ us
define_sound (Define ∷ ts) us e = ap (λ (l : List Symbol). Define ∷ l) (some_same _ us e)
define_sound ts us e = absurd cc

ended_sound : {A : Type 0} (a b : A) (ts : List Symbol) → ended a ts ≡ Some b → (ts ≡ []) × (a ≡ b)
ended_sound a b [] e = (refl, some_same a b e)
ended_sound a b (t ∷ ts) e = absurd cc

heading_sound : (ts : List Symbol) (x : List Column × List Symbol) → heading_at ts ≡ Some x → (h : Columns) × (ts ≡ spell_heading h ++ x.1) × (x.0 ≡ heading h)
heading_sound (Open ∷ ts) x e =
    let s = list_sound spell_column (λ (c : Column). c) column_at comma_at Close columns_sound (length ts) ts x e in (
      record { first = s.0; rest = s.1 },
      ap (λ (l : List Symbol). Open ∷ l) (s.2 ∙ sym (list_tail spell_column s.0 s.1 Close x.1)),
      s.3 ∙ ap (λ (l : List Column). s.0 ∷ l) (same_list s.1),
    )
heading_sound ts x e = absurd cc

-- what stands in braces is spelled as the list of an insert
abbrev IsBraces : Reader → List Symbol → List Form × List Symbol → Type 0
IsBraces value ts x = (n : List ℕ) → (p : Plain) × (Word words.Insert ∷ Name n ∷ ts ≡ spell_plain p ++ x.1) × (insert n (logics x.0) ≡ plain_form value p)

some_braces : (value : Reader) (ts : List Symbol) (x : List Form × List Symbol) → list_at (compare_at value) brace_at (length ts) ts ≡ Some x → IsBraces value (OpenBrace ∷ ts) x
some_braces value ts x e n =
    let s = list_sound spell_comparison (comparison_form value) (compare_at value) brace_at CloseBrace (comparisons_sound value) (length ts) ts x e in (
      inserts n s.0 s.1,
      ap (λ (l : List Symbol). Word words.Insert ∷ Name n ∷ OpenBrace ∷ l) (s.2 ∙ sym (list_tail spell_comparison s.0 s.1 CloseBrace x.1)),
      ap (λ (l : List Form). insert n (logics l)) s.3,
    )

braces_sound : (value : Reader) (ts : List Symbol) (x : List Form × List Symbol) → braces_at value ts ≡ Some x → IsBraces value ts x
braces_sound value (OpenBrace ∷ CloseBrace ∷ ts) x e = λ n. subst (λ (y : List Form × List Symbol). IsBraces value (OpenBrace ∷ CloseBrace ∷ ts) y) (some_same _ x e) (λ n. (inserts_none n, refl, refl)) n
braces_sound value (OpenBrace ∷ []) x e = absurd cc
braces_sound value (OpenBrace ∷ t ∷ ts) x e = some_braces value (t ∷ ts) x e
braces_sound value ts x e = absurd cc

-- what stands in braces is spelled as the certificate of a verify
abbrev IsCertificate : Reader → List Symbol → List Entry × List Symbol → Type 0
IsCertificate value ts x = (n m : List ℕ) → (p : Plain) × (Word words.Verify ∷ Name n ∷ Name m ∷ ts ≡ spell_plain p ++ x.1) × (verify n m x.0 ≡ plain_form value p)

some_entries : (value : Reader) (ts : List Symbol) (x : List Entry × List Symbol) → entries_at value ts ≡ Some x → IsCertificate value (OpenBrace ∷ ts) x
some_entries value ts x e n m =
    let s = list_sound spell_entry (entry_of value) (entry_at value) brace_at CloseBrace (entries_sound value) (length ts) ts x e in (
      verifies n m s.0 s.1,
      ap (λ (l : List Symbol). Word words.Verify ∷ Name n ∷ Name m ∷ OpenBrace ∷ l) (s.2 ∙ sym (list_tail spell_entry s.0 s.1 CloseBrace x.1)),
      ap (verify n m) s.3,
    )

certificate_sound : (value : Reader) (ts : List Symbol) (x : List Entry × List Symbol) → certificate_at value ts ≡ Some x → IsCertificate value ts x
certificate_sound value (OpenBrace ∷ CloseBrace ∷ ts) x e = λ n m. subst (λ (y : List Entry × List Symbol). IsCertificate value (OpenBrace ∷ CloseBrace ∷ ts) y) (some_same _ x e) (λ n m. (verifies_none n m, refl, refl)) n m
certificate_sound value (OpenBrace ∷ []) x e = absurd cc
certificate_sound value (OpenBrace ∷ t ∷ ts) x e = some_entries value (t ∷ ts) x e
certificate_sound value ts x e = absurd cc

-- ---- drafts

-- the symbols spell the draft
abbrev pub IsDraft : Reader → List Symbol → Draft → Type 0
IsDraft value ts (plain c) = (p : Plain) × (ts ≡ spell_plain p) × (c ≡ plain_form value p)
IsDraft value ts (formed h ps) = (p : Prefix) × (rest : List Symbol) × (ts ≡ spell_prefix p ++ rest) × AreTerminals value rest ps × (h ≡ head_of p)

named_sound : (value : Reader) (w : Keyword) (make : List ℕ → CommandForm) (tree : List ℕ → Plain) (ts : List Symbol) (d : Draft) → ((n : List ℕ) → spell_plain (tree n) ≡ Word w ∷ Name n ∷ []) → ((n : List ℕ) → plain_form value (tree n) ≡ make n) → named_draft make ts ≡ Some d → IsDraft value (Word w ∷ ts) d
named_sound value w make tree ts d spelled means e =
    let l = bind_some (last_name ts) (λ n. Some (plain (make n))) d e in
    let n = bind_some (name_at ts) (λ n. ended n.0 n.1) l.0 l.1 in
    let z = ended_sound n.0.0 l.0 n.0.1 n.2 in
    subst (IsDraft value (Word w ∷ ts)) (ap (λ (m : List ℕ). plain (make m)) z.1 ∙ some_same _ d l.2) (
      tree n.0.0,
      ap (λ (l : List Symbol). Word w ∷ l) (name_sound ts n.0 n.1 ∙ ap (λ (l : List Symbol). Name n.0.0 ∷ l) z.0) ∙ sym (spelled n.0.0),
      sym (means n.0.0),
    )

header_sound : (value : Reader) (ts : List Symbol) (d : Draft) → header_draft ts ≡ Some d → IsDraft value (Word words.Dedale ∷ ts) d
header_sound value ts d e =
    let n = bind_some (number_at ts) header_by d e in
    by n.0 (number_sound ts n.0 n.1) (number_of n.0.0 == 2) refl n.2
  where
    by : (x : List ℕ × List Symbol) → ts ≡ Number x.0 ∷ x.1 → (b : Bool) → (number_of x.0 == 2) ≡ b → (if b then ended (plain header) x.1 else None) ≡ Some d → IsDraft value (Word words.Dedale ∷ ts) d
    by x is false two e = absurd cc
    by x is true two e =
        let z = ended_sound (plain header) d x.1 e in
        subst (IsDraft value (Word words.Dedale ∷ ts)) z.1 (opens x.0 two, ap (λ (l : List Symbol). Word words.Dedale ∷ l) (is ∙ ap (λ (l : List Symbol). Number x.0 ∷ l) z.0), refl)

dump_sound : (value : Reader) (ts : List Symbol) (d : Draft) → ended (plain dump) ts ≡ Some d → IsDraft value (Word words.Dump ∷ ts) d
dump_sound value ts d e =
    let z = ended_sound (plain dump) d ts e in
    subst (IsDraft value (Word words.Dump ∷ ts)) z.1 (dumps, ap (λ (l : List Symbol). Word words.Dump ∷ l) z.0, refl)

relation_sound : (value : Reader) (ts : List Symbol) (d : Draft) → relation_draft ts ≡ Some d → IsDraft value (Word words.Relation ∷ ts) d
relation_sound value ts d e =
    let n = bind_some (name_at ts) (λ n. heading_at n.1 >>= λ h. ended (plain (relation n.0 h.0)) h.1) d e in
    let h = bind_some (heading_at n.0.1) (λ h. ended (plain (relation n.0.0 h.0)) h.1) d n.2 in
    let z = ended_sound (plain (relation n.0.0 h.0.0)) d h.0.1 h.2 in
    let s = heading_sound n.0.1 h.0 h.1 in
    subst (IsDraft value (Word words.Relation ∷ ts)) z.1 (
      defines n.0.0 s.0,
      ap (λ (l : List Symbol). Word words.Relation ∷ l) (name_sound ts n.0 n.1 ∙ ap (λ (l : List Symbol). Name n.0.0 ∷ l) (s.1 ∙ ap (λ (l : List Symbol). spell_heading s.0 ++ l) z.0 ∙ append-nil (spell_heading s.0))),
      ap (relation n.0.0) s.2,
    )

insert_sound : (value : Reader) (ts : List Symbol) (d : Draft) → insert_draft value ts ≡ Some d → IsDraft value (Word words.Insert ∷ ts) d
insert_sound value ts d e =
    let n = bind_some (name_at ts) (λ n. braces_at value n.1 >>= λ fs. ended (plain (insert n.0 (logics fs.0))) fs.1) d e in
    let b = bind_some (braces_at value n.0.1) (λ fs. ended (plain (insert n.0.0 (logics fs.0))) fs.1) d n.2 in
    let z = ended_sound (plain (insert n.0.0 (logics b.0.0))) d b.0.1 b.2 in
    let s = braces_sound value n.0.1 b.0 b.1 n.0.0 in
    subst (IsDraft value (Word words.Insert ∷ ts)) z.1 (
      s.0,
      ap (λ (l : List Symbol). Word words.Insert ∷ l) (name_sound ts n.0 n.1) ∙ s.1 ∙ ap (λ (l : List Symbol). spell_plain s.0 ++ l) z.0 ∙ append-nil (spell_plain s.0),
      s.2,
    )

delete_sound : (value : Reader) (ts : List Symbol) (d : Draft) → delete_draft value ts ≡ Some d → IsDraft value (Word words.Delete ∷ ts) d
delete_sound value ts d e =
    let n = bind_some (name_at ts) (λ n. number_at n.1 >>= λ d. ended (plain (delete n.0 (value.number (number_of d.0)))) d.1) d e in
    let b = bind_some (number_at n.0.1) (λ d. ended (plain (delete n.0.0 (value.number (number_of d.0)))) d.1) d n.2 in
    let z = ended_sound (plain (delete n.0.0 (value.number (number_of b.0.0)))) d b.0.1 b.2 in
    subst (IsDraft value (Word words.Delete ∷ ts)) z.1 (
      deletes n.0.0 b.0.0,
      ap (λ (l : List Symbol). Word words.Delete ∷ l) (name_sound ts n.0 n.1 ∙ ap (λ (l : List Symbol). Name n.0.0 ∷ l) (number_sound n.0.1 b.0 b.1 ∙ ap (λ (l : List Symbol). Number b.0.0 ∷ l) z.0)),
      refl,
    )

disjoint_sound : (value : Reader) (ts : List Symbol) (d : Draft) → disjoint_draft ts ≡ Some d → IsDraft value (Word words.Disjoint ∷ ts) d
disjoint_sound value ts d e =
    let n = bind_some (name_at ts) (λ n. name_at n.1 >>= λ m. ended (plain (disjoint n.0 m.0)) m.1) d e in
    let m = bind_some (name_at n.0.1) (λ m. ended (plain (disjoint n.0.0 m.0)) m.1) d n.2 in
    let z = ended_sound (plain (disjoint n.0.0 m.0.0)) d m.0.1 m.2 in
    subst (IsDraft value (Word words.Disjoint ∷ ts)) z.1 (
      certifies n.0.0 m.0.0,
      ap (λ (l : List Symbol). Word words.Disjoint ∷ l) (name_sound ts n.0 n.1 ∙ ap (λ (l : List Symbol). Name n.0.0 ∷ l) (name_sound n.0.1 m.0 m.1 ∙ ap (λ (l : List Symbol). Name m.0.0 ∷ l) z.0)),
      refl,
    )

verify_sound : (value : Reader) (ts : List Symbol) (d : Draft) → verify_draft value ts ≡ Some d → IsDraft value (Word words.Verify ∷ ts) d
verify_sound value ts d e =
    let n = bind_some (name_at ts) (λ n. name_at n.1 >>= λ m. certificate_at value m.1 >>= λ es. ended (plain (verify n.0 m.0 es.0)) es.1) d e in
    let m = bind_some (name_at n.0.1) (λ m. certificate_at value m.1 >>= λ es. ended (plain (verify n.0.0 m.0 es.0)) es.1) d n.2 in
    let b = bind_some (certificate_at value m.0.1) (λ es. ended (plain (verify n.0.0 m.0.0 es.0)) es.1) d m.2 in
    let z = ended_sound (plain (verify n.0.0 m.0.0 b.0.0)) d b.0.1 b.2 in
    let s = certificate_sound value m.0.1 b.0 b.1 n.0.0 m.0.0 in
    subst (IsDraft value (Word words.Verify ∷ ts)) z.1 (
      s.0,
      ap (λ (l : List Symbol). Word words.Verify ∷ l) (name_sound ts n.0 n.1 ∙ ap (λ (l : List Symbol). Name n.0.0 ∷ l) (name_sound n.0.1 m.0 m.1)) ∙ s.1 ∙ ap (λ (l : List Symbol). spell_plain s.0 ++ l) z.0 ∙ append-nil (spell_plain s.0),
      s.2,
    )

-- a formula behind what stands before it
formed_sound : (value : Reader) (ts rest : List Symbol) (p : Prefix) (h : Head) (d : Draft) → ts ≡ spell_prefix p ++ rest → h ≡ head_of p → formed_at value h rest ≡ Some d → IsDraft value ts d
formed_sound value ts rest p h d is same e =
    let b = bind_some (terminals_at value rest) (λ ps. Some (formed h ps)) d e in
    subst (IsDraft value ts) (some_same _ d b.2) (p, rest, is, terminals_sound value rest b.0 b.1, same)

view_sound : (value : Reader) (ts : List Symbol) (d : Draft) → view_draft value ts ≡ Some d → IsDraft value (Word words.View ∷ ts) d
view_sound value ts d e =
    let n = bind_some (name_at ts) (λ n. heading_at n.1 >>= λ h. define_at h.1 >>= formed_at value (view_head n.0 h.0)) d e in
    let h = bind_some (heading_at n.0.1) (λ h. define_at h.1 >>= formed_at value (view_head n.0.0 h.0)) d n.2 in
    let u = bind_some (define_at h.0.1) (formed_at value (view_head n.0.0 h.0.0)) d h.2 in
    let s = heading_sound n.0.1 h.0 h.1 in
    formed_sound value (Word words.View ∷ ts) u.0 (views n.0.0 s.0) (view_head n.0.0 h.0.0) d
    (ap (λ (l : List Symbol). Word words.View ∷ l) (name_sound ts n.0 n.1 ∙ ap (λ (l : List Symbol). Name n.0.0 ∷ l) (s.1 ∙ ap (λ (l : List Symbol). spell_heading s.0 ++ l) (define_sound h.0.1 u.0 u.1) ∙ sym (append_assoc (spell_heading s.0) (Define ∷ []) u.0))))
    (ap (view_head n.0.0) s.2)
    u.2

over_sound : (value : Reader) (w : Keyword) (make : List Column → Head) (tree : Columns → Prefix) (ts : List Symbol) (d : Draft) → ((h : Columns) → spell_prefix (tree h) ≡ Word w ∷ spell_heading h ++ Colon ∷ []) → ((h : Columns) → make (heading h) ≡ head_of (tree h)) → over_draft value make ts ≡ Some d → IsDraft value (Word w ∷ ts) d
over_sound value w make tree ts d spelled heads e =
    let h = bind_some (heading_at ts) (λ h. colon_at h.1 >>= formed_at value (make h.0)) d e in
    let u = bind_some (colon_at h.0.1) (formed_at value (make h.0.0)) d h.2 in
    let s = heading_sound ts h.0 h.1 in
    formed_sound value (Word w ∷ ts) u.0 (tree s.0) (make h.0.0) d
    (ap (λ (l : List Symbol). Word w ∷ l) (s.1 ∙ ap (λ (l : List Symbol). spell_heading s.0 ++ l) (colon_sound h.0.1 u.0 u.1) ∙ sym (append_assoc (spell_heading s.0) (Colon ∷ []) u.0)) ∙ ap (λ (l : List Symbol). l ++ u.0) (sym (spelled s.0)))
    (ap make s.2 ∙ heads s.0)
    u.2

behind_sound : (value : Reader) (w : Keyword) (ts : List Symbol) (d : Draft) → draft_behind value w ts ≡ Some d → IsDraft value (Word w ∷ ts) d
behind_sound value words.Dedale ts d e = header_sound value ts d e
behind_sound value words.Relation ts d e = relation_sound value ts d e
behind_sound value words.Insert ts d e = insert_sound value ts d e
behind_sound value words.Delete ts d e = delete_sound value ts d e
behind_sound value words.Drop ts d e = named_sound value words.Drop drop drops ts d (λ n. refl) (λ n. refl) e
behind_sound value words.Keep ts d e = named_sound value words.Keep keep keeps ts d (λ n. refl) (λ n. refl) e
behind_sound value words.Show ts d e = named_sound value words.Show show shows ts d (λ n. refl) (λ n. refl) e
behind_sound value words.BoxOf ts d e = named_sound value words.BoxOf box_of boxes ts d (λ n. refl) (λ n. refl) e
behind_sound value words.Dump ts d e = dump_sound value ts d e
behind_sound value words.Disjoint ts d e = disjoint_sound value ts d e
behind_sound value words.Verify ts d e = verify_sound value ts d e
behind_sound value words.View ts d e = view_sound value ts d e
behind_sound value words.Ask ts d e = formed_sound value (Word words.Ask ∷ ts) ts asks ask_head d refl refl e
behind_sound value words.Query ts d e = over_sound value words.Query query_head queries ts d (λ h. refl) (λ h. refl) e
behind_sound value words.Explain ts d e = over_sound value words.Explain explain_head explains ts d (λ h. refl) (λ h. refl) e
behind_sound value w ts d e = absurd cc

pub draft_sound : (value : Reader) (ts : List Symbol) (d : Draft) → draft_at value ts ≡ Some d → IsDraft value ts d
draft_sound value (Word w ∷ ts) d e = behind_sound value w ts d e
draft_sound value ts d e = absurd cc

-- a draft that is spelled spells the commands that it stands for
pub draft_spells : (value : Reader) (ts : List Symbol) (d : Draft) (c : CommandForm) (depth : ℕ) → IsDraft value ts d → Means d c depth → SpellsCommand value ts c depth
draft_spells value ts (plain k) c depth (p, e, m) (is, flat) = inl (record { plain = p; spelled = e; means = is ∙ m; flat = flat })
draft_spells value ts (formed h ps) c depth (p, rest, e, are, same) (f, sp, is) =
    inr (record { before = p; rest = rest; spelled = e; formula = f; spells = record { terminals = ps; are = are; spells = sp }; means = is ∙ ap (λ (k : Head). head_form k f) same ∙ sym (prefix_is_head p f) })

pub command_sound : (value : Reader) (ts : List Symbol) (c : CommandForm) (depth : ℕ) → IsDrafted value ts c depth → SpellsCommand value ts c depth
command_sound value ts c depth (d, e, m) = draft_spells value ts d c depth (draft_sound value ts d e) m
