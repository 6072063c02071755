-- The entry at a place of a well formed catalogue is the one of its name.
use Rattle.std.proofs.Common.{◌≡◌, ℕ, zero, suc, ◌+◌, ◌<◌, ◌≤◌, Bool, true, false, List, [], ◌∷◌, ◌++◌, length, map, drop, get_or, append_assoc, append-nil, Option, Some, None, is_some, refl, sym, ap, ◌∙◌, subst, true≢false, bytes_eq}
use Rattle.std.proofs.Math.ListN.{drop_of_length-le}
use Rattle.std.proofs.lemmas.List.{length-map}
use Rattle.std.proofs.lemmas.Option.{slice_get-get_or, slice_get-map, slice_get_within, get_or_from_slice_get}
use Rattle.std.specs.Prelude.{if◌then◌else◌, Result, Ok, Err, OnOk}
use Rattle.std.specs.List.{slice_get}
use Rattle.std.specs.Option.{option_map}
use Rattle.std.proofs.lemmas.Slice.Eq.{bytes_eq-Decides}
use Rattle.ded_num.proofs.Tests.{from_same_texts}
use Rattle.ded_model.specs.declared.name.Column.{Column}
use Rattle.ded_model.specs.Catalogue.{Entry, Catalogue, entry_name}
use Rattle.ded_model.specs.Catalogue as entry
use Rattle.ded_model.specs.Entries.{entry_of, relation_in, known}
use Rattle.ded_model.specs.Form.{Form}
use Rattle.ded_model.specs.Known.{Known, KnownNames, AreEntriesOver, IsWellFormed, with_known, entry_known}
use Rattle.ded_model.specs.Row.{Atom}
use Rattle.ded_sorts.proofs.KnownEntries.{KnownFrom, absent, known_entry}
use Rattle.ded_print.proofs.Plans.{left_after}
use Rattle.ded_dump.specs.Entries.{relation_line, insert_lines, entry_lines, entries_lines, lines_under, IsView}
use Rattle.ded_dump.proofs.Loops.{one_part, no_part}

-- ---- options

none-some : {A : Type 0} (x : A) → None ≡ Some x → ⊥
none-some x e = true≢false (ap is_some (sym e))

abbrev or_else : {A : Type 0} → A → Option A → A
or_else x None = x
or_else x (Some y) = y

same_some : {A : Type 0} (x y : A) → Some x ≡ Some y → x ≡ y
same_some x y e = ap (or_else x) e

-- ---- the entry of a name

pub named : (es : List Entry) (n : List ℕ) (e : Entry) → entry_of es n ≡ Some e → n ≡ entry_name e
named [] n e is = absurd (none-some e is)
named (f ∷ es) n e is = by (bytes_eq n (entry_name f)) refl (named es n e)
  where
    by : (b : Bool) → bytes_eq n (entry_name f) ≡ b → (entry_of es n ≡ Some e → n ≡ entry_name e) → n ≡ entry_name e
    by true b next = from_same_texts n (entry_name f) b ∙ ap entry_name (same_some f e (sym (ap (λ c. if c then Some f else entry_of es n) b) ∙ is))
    by false b next = next (sym (ap (λ c. if c then Some f else entry_of es n) b) ∙ is)

-- each name is new, so the first entry of the name is this one
entry_at : (limit : ℕ) (K : KnownNames) (es : List Entry) (i : ℕ) (e : Entry) → AreEntriesOver limit K es → slice_get es i ≡ Some e → entry_of es (entry_name e) ≡ Some e
entry_at limit K [] i e w is = absurd (none-some e is)
entry_at limit K (f ∷ es) zero e w is =
    let here : f ≡ e = same_some f e is in
    subst (λ (g : Entry). (if bytes_eq (entry_name g) (entry_name f) then Some f else entry_of es (entry_name g)) ≡ Some g) here
    (ap (λ c. if c then Some f else entry_of es (entry_name f)) ((bytes_eq-Decides (entry_name f) (entry_name f)).1 refl))
entry_at limit K (f ∷ es) (suc i) e w is = by (bytes_eq (entry_name e) (entry_name f)) refl (entry_at limit (with_known K f) es i e w.2 is)
  where
    by : (b : Bool) → bytes_eq (entry_name e) (entry_name f) ≡ b → entry_of es (entry_name e) ≡ Some e → (if bytes_eq (entry_name e) (entry_name f) then Some f else entry_of es (entry_name e)) ≡ Some e
    by true b next =
        let known : with_known K f (entry_name e) ≡ Some (entry_known K f) = ap (λ c. if c then Some (entry_known K f) else K (entry_name e)) b in
        absurd (none-some e (sym (absent limit (with_known K f) es (entry_name e) w.2 (ap is_some known)) ∙ next))
    by false b next = ap (λ c. if c then Some f else entry_of es (entry_name e)) b ∙ next

-- ---- the lines of the entries

pub next_entry : (c : Catalogue) → IsWellFormed c → (whole done now : List (List ℕ)) (i : ℕ) (n : List ℕ) → Some n ≡ option_map entry_name (slice_get c.entries i)
    → done ++ entries_lines (drop i c.entries) ≡ whole → now ≡ done ++ lines_under (entry_of c.entries n)
    → now ++ entries_lines (drop (i + 1) c.entries) ≡ whole
next_entry c w whole done now i n at e is = by (slice_get c.entries i) refl at
  where
    by : (o : Option Entry) → slice_get c.entries i ≡ o → Some n ≡ option_map entry_name o → now ++ entries_lines (drop (i + 1) c.entries) ≡ whole
    by None o f = absurd (none-some n (sym f))
    by (Some x) o f =
        let found : entry_of c.entries n ≡ Some x = ap (entry_of c.entries) (same_some n (entry_name x) f) ∙ entry_at c.limit (λ m. None) c.entries i x w o in
        let next : drop i c.entries ≡ x ∷ drop (i + 1) c.entries = left_after c.entries i x (slice_get_within c.entries i x o) (sym (get_or_from_slice_get c.entries i x x o)) in
        one_part whole done now (entry_lines x) (entries_lines (drop (i + 1) c.entries)) (subst (λ z. done ++ entries_lines z ≡ whole) next e)
        (is ∙ ap (λ z. done ++ lines_under z) found)

-- the name at a place is that of the entry there
pub name_there : {A : Type 0} (f : A → List ℕ) (ns : List A) (es : List Entry) (i : ℕ) (n : A) → map f ns ≡ map entry_name es → i < length ns → n ≡ get_or ns i n
    → Some (f n) ≡ option_map entry_name (slice_get es i)
name_there f ns es i n alike inside is =
    sym (ap (option_map f) (slice_get-get_or ns i n inside ∙ ap Some (sym is)))
    ∙ sym (slice_get-map f ns i)
    ∙ ap (λ l. slice_get l i) alike
    ∙ slice_get-map entry_name es i

pub all_entries : {A : Type 0} (f : A → List ℕ) (ns : List A) (c : Catalogue) (whole done : List (List ℕ)) (i : ℕ) → map f ns ≡ map entry_name c.entries → length ns ≤ i
    → done ++ entries_lines (drop i c.entries) ≡ whole → done ≡ whole
all_entries f ns c whole done i alike le e =
    let long : length c.entries ≡ length ns = sym (length-map c.entries entry_name) ∙ sym (ap length alike) ∙ length-map ns f in
    no_part whole done (entries_lines (drop i c.entries)) (ap entries_lines (drop_of_length-le c.entries (subst (λ k. k ≤ i) (sym long) le))) e

-- ---- what the calls of a catalogue tell of an entry

known_some : (o : Option Entry) (k : Option Known) → KnownFrom o None k → None ≡ option_map (λ (k : Known). k.columns) k → lines_under o ≡ []
known_some None k f e = refl
known_some (Some x) k f e = absurd (none-some _ (e ∙ ap (option_map (λ (k : Known). k.columns)) f.1))

-- no entry has the name
pub no_lines : (c : Catalogue) (n : List ℕ) → IsWellFormed c → None ≡ option_map (λ (k : Known). k.columns) (known c n) → lines_under (entry_of c.entries n) ≡ []
no_lines c n w e = known_some (entry_of c.entries n) (known c n) (known_entry c n w) e

relation_by : (o : Option Entry) (k : Option Known) (n : List ℕ) (h : List Column) (ts : List (ℕ × List Atom)) → ((e : Entry) → o ≡ Some e → n ≡ entry_name e) → KnownFrom o None k
    → Some h ≡ option_map (λ (k : Known). k.columns) k → Some ts ≡ relation_in o → lines_under o ≡ relation_line n h ∷ insert_lines n h ts
relation_by None k n h ts name f e r = absurd (none-some ts (sym r))
relation_by (Some (entry.view m g x)) k n h ts name f e r = absurd (none-some ts (sym r))
relation_by (Some (entry.relation m g i us)) k n h ts name f e r =
    let m_is : n ≡ m = name (entry.relation m g i us) refl in
    let g_is : h ≡ g = same_some h g (e ∙ ap (option_map (λ (k : Known). k.columns)) f.1) in
    let us_is : ts ≡ us = same_some ts us r in
    subst (λ z. relation_line m g ∷ insert_lines m g us ≡ relation_line z h ∷ insert_lines z h ts) (sym m_is)
    (subst (λ z. relation_line m g ∷ insert_lines m g us ≡ relation_line m z ∷ insert_lines m z ts) (sym g_is)
    (ap (λ z. relation_line m g ∷ insert_lines m g z) (sym us_is)))

-- a relation has the name
pub relation_lines : (c : Catalogue) (n : List ℕ) (h : List Column) (ts : List (ℕ × List Atom)) → IsWellFormed c → Some h ≡ option_map (λ (k : Known). k.columns) (known c n)
    → Some ts ≡ relation_in (entry_of c.entries n) → lines_under (entry_of c.entries n) ≡ relation_line n h ∷ insert_lines n h ts
relation_lines c n h ts w e r = relation_by (entry_of c.entries n) (known c n) n h ts (named c.entries n) (known_entry c n w) e r

-- it is put in two steps
pub relation_put : {A E : Type 0} (r : Result A E) (start middle now : List (List ℕ)) (o : Option Entry) (n line : List ℕ) (h : List Column) (ts : List (ℕ × List Atom)) → lines_under o ≡ relation_line n h ∷ insert_lines n h ts
    → line ≡ relation_line n h → middle ≡ start ++ line ∷ [] → OnOk r (now ≡ middle ++ insert_lines n h ts) → OnOk r (now ≡ start ++ lines_under o)
relation_put (Ok x) start middle now o n line h ts is l m e =
    e ∙ ap (λ z. z ++ insert_lines n h ts) (m ∙ ap (λ z. start ++ z ∷ []) l) ∙ append_assoc start (relation_line n h ∷ []) (insert_lines n h ts) ∙ ap (λ z. start ++ z) (sym is)
relation_put (Err x) start middle now o n line h ts is l m e = tt

-- nothing is put where there are no lines
pub nothing_put : (done more : List (List ℕ)) → more ≡ [] → done ≡ done ++ more
nothing_put done more none = sym (ap (λ z. done ++ z) none ∙ append-nil done)

view_by : (o p : Option Entry) (k : Option Known) (n : List ℕ) (h : List Column) → ((e : Entry) → o ≡ Some e → n ≡ entry_name e) → KnownFrom o None k → p ≡ o
    → Some h ≡ option_map (λ (k : Known). k.columns) k → None ≡ relation_in o → (f : Form) × (p ≡ Some (entry.view n h f))
view_by None p k n h name f q e r = absurd (none-some h (sym (e ∙ ap (option_map (λ (k : Known). k.columns)) f)))
view_by (Some (entry.relation m g i us)) p k n h name f q e r = absurd (none-some us r)
view_by (Some (entry.view m g x)) p k n h name f q e r =
    let m_is : n ≡ m = name (entry.view m g x) refl in
    let g_is : h ≡ g = same_some h g (e ∙ ap (option_map (λ (k : Known). k.columns)) f.1) in
    (x, q ∙ ap (λ z. Some (entry.view z g x)) (sym m_is) ∙ ap (λ z. Some (entry.view n z x)) (sym g_is))

-- a view has the name
pub view_there : (c : Catalogue) (n : List ℕ) (h : List Column) → IsWellFormed c → Some h ≡ option_map (λ (k : Known). k.columns) (known c n)
    → None ≡ relation_in (entry_of c.entries n) → IsView c n h
view_there c n h w e r =
    let v = view_by (entry_of c.entries n) (entry_of c.entries n) (known c n) n h (named c.entries n) (known_entry c n w) refl e r in
    record { form = v.0; is = v.1 }
