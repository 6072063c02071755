-- Comparisons, members, columns and terminals: what is read is spelled.
use Rattle.std.proofs.Common.{◌≡◌, ℕ, zero, suc, Bool, true, false, List, [], ◌∷◌, ◌++◌, length, refl, sym, ap, subst, ◌∙◌, append_assoc}
use Rattle.std.specs.Prelude.{Option, Some, None}
use Rattle.ded_model.specs.declared.formula.CompareOp.{CompareOp}
use Rattle.ded_model.specs.declared.formula.Operand.{Operand}
use Rattle.ded_model.specs.declared.name.Column.{Column}
use Rattle.ded_model.specs.Form.{Form, member}
use Rattle.ded_model.specs.Logic.{atom}
use Rattle.ded_grammar.specs.declared.terminal.Quantifier.{Quantifier}
use Rattle.ded_grammar.specs.declared.terminal.Quantifier.TheVariants.{Exists, Forall}
use Rattle.ded_grammar.specs.Trees.{TerminalForm, binder, leaf}
use Rattle.ded_grammar.specs.Building.{◌>>=◌}
use Rattle.ded_terminals.specs.declared.item.Keyword.{Keyword}
use Rattle.ded_terminals.specs.declared.item.Keyword.TheVariants as words
use Rattle.ded_terminals.specs.Symbols.{Symbol, Word, Name, Open, Close, CloseBrace, Comma, Relation}
use Rattle.ded_terminals.specs.Literals.{Reader}
use Rattle.ded_terminals.specs.Operands.{ParsedSide, spell_side, Reading, reading_of, argument_of}
use Rattle.ded_terminals.specs.Atoms.{compared, argument, spell_rest, Comparison, spell_comparison, comparison_form, Named, closed, inner, spell_named, name_of, Atom, truth, relates, belongs, spell_atom, atom_form, spell_column, sort_symbols, quantifier_symbol, IsTerminal, AreTerminals}
use Rattle.ded_terminals.specs.OperandReading.{side_at}
use Rattle.ded_terminals.specs.AtomReading.{comma_at, brace_at, relation_at, compare_at, argument_at, operands_at, enclosed_at, named_at, call_at, called_at, atom_by_call, atom_at, sort_at, column_at, binder_at, as_leaf, terminal_at, terminals_within, terminals_at}
use Rattle.ded_terminals.proofs.Binds.{bind_some, some_same}
use Rattle.ded_terminals.proofs.OperandsSound.{side_sound}
use Rattle.ded_terminals.proofs.ListsRead.{SoundItems, sign_of, list_sound, list_tail}

relation_sound : (ts : List Symbol) (x : CompareOp × List Symbol) → relation_at ts ≡ Some x → ts ≡ Relation x.0 ∷ x.1
relation_sound (Relation op ∷ ts) x e = ap (λ (y : CompareOp × List Symbol). Relation y.0 ∷ y.1) (some_same _ x e)
relation_sound ts x e = absurd cc

abbrev IsCompare : Reader → List Symbol → Form × List Symbol → Type 0
IsCompare value ts x = (c : Comparison) × (ts ≡ spell_comparison c ++ x.1) × (x.0 ≡ comparison_form value c)

pub compare_sound : (value : Reader) (ts : List Symbol) (x : Form × List Symbol) → compare_at value ts ≡ Some x → IsCompare value ts x
compare_sound value ts x e =
    let b = bind_some (side_at value.number ts) (λ l. relation_at l.1 >>= λ o. side_at value.number o.1 >>= λ r. Some (compared value l.0 o.0 r.0, r.1)) x e in
    let c = bind_some (relation_at b.0.1) (λ o. side_at value.number o.1 >>= λ r. Some (compared value b.0.0 o.0 r.0, r.1)) x b.2 in
    let d = bind_some (side_at value.number c.0.1) (λ r. Some (compared value b.0.0 c.0.0 r.0, r.1)) x c.2 in
    let l = side_sound value.number ts b.0 b.1 in
    let o = relation_sound b.0.1 c.0 c.1 in
    let r = side_sound value.number c.0.1 d.0 d.1 in
    let same = some_same _ x d.2 in (
      record { left = l.0; op = c.0.0; right = r.0 },
      l.1
          ∙ ap (λ (t : List Symbol). spell_side l.0 ++ t) (o ∙ ap (λ (t : List Symbol). Relation c.0.0 ∷ t) (r.1 ∙ ap (λ (y : Form × List Symbol). spell_side r.0 ++ y.1) same))
          ∙ sym (append_assoc (spell_side l.0) (Relation c.0.0 ∷ spell_side r.0) x.1),
      sym (ap (λ (y : Form × List Symbol). y.0) same) ∙ ap (λ (p : Reading). compared value p c.0.0 d.0.0) l.2 ∙ ap (λ (p : Reading). compared value (reading_of value.number l.0) c.0.0 p) r.2,
    )

-- ---- lists

comma_end : (ts : List Symbol) (x : Bool × List Symbol) → comma_at ts ≡ Some x → ts ≡ sign_of Close x.0 ∷ x.1
comma_end (Comma ∷ ts) x e = ap (λ (y : Bool × List Symbol). sign_of Close y.0 ∷ y.1) (some_same _ x e)
comma_end (Close ∷ ts) x e = ap (λ (y : Bool × List Symbol). sign_of Close y.0 ∷ y.1) (some_same _ x e)
comma_end ts x e = absurd cc

pub brace_end : (ts : List Symbol) (x : Bool × List Symbol) → brace_at ts ≡ Some x → ts ≡ sign_of CloseBrace x.0 ∷ x.1
brace_end (Comma ∷ ts) x e = ap (λ (y : Bool × List Symbol). sign_of CloseBrace y.0 ∷ y.1) (some_same _ x e)
brace_end (CloseBrace ∷ ts) x e = ap (λ (y : Bool × List Symbol). sign_of CloseBrace y.0 ∷ y.1) (some_same _ x e)
brace_end ts x e = absurd cc

argument_sound : (value : Reader) (ts : List Symbol) (x : Operand × List Symbol) → argument_at value ts ≡ Some x → (s : ParsedSide) × (ts ≡ spell_side s ++ x.1) × (x.0 ≡ argument value s)
argument_sound value ts x e =
    let b = bind_some (side_at value.number ts) (λ s. Some (argument_of value s.0, s.1)) x e in
    let s = side_sound value.number ts b.0 b.1 in
    let same = some_same _ x b.2 in
    (s.0, s.1 ∙ ap (λ (y : Operand × List Symbol). spell_side s.0 ++ y.1) same, sym (ap (λ (y : Operand × List Symbol). y.0) same) ∙ ap (argument_of value) s.2)

operands_sound : (value : Reader) → SoundItems spell_side (argument value) (argument_at value) comma_at Close
operands_sound value = record { item = argument_sound value; end = comma_end }

pub comparisons_sound : (value : Reader) → SoundItems spell_comparison (comparison_form value) (compare_at value) brace_at CloseBrace
comparisons_sound value = record { item = λ ts y e. compare_sound value ts y e; end = brace_end }

sort_sound : (ts : List Symbol) → ts ≡ sort_symbols (sort_at ts).0 ++ (sort_at ts).1
sort_sound [] = refl
sort_sound (Word words.Text ∷ ts) = refl
sort_sound (t ∷ ts) = refl

column_sound : (ts : List Symbol) (x : Column × List Symbol) → column_at ts ≡ Some x → (c : Column) × (ts ≡ spell_column c ++ x.1) × (x.0 ≡ c)
column_sound (Name n ∷ ts) x e =
    (x.0, ap (λ (l : List Symbol). Name n ∷ l) (sort_sound ts) ∙ ap (λ (y : Column × List Symbol). spell_column y.0 ++ y.1) (some_same _ x e), refl)
column_sound ts x e = absurd cc

pub columns_sound : SoundItems spell_column (λ (c : Column). c) column_at comma_at Close
columns_sound = record { item = column_sound; end = comma_end }

-- ---- terminals

-- these symbols, read as this terminal, and those after them
abbrev Found : Reader → List Symbol → TerminalForm × List Symbol → Type 0
Found value ts x = (front : List Symbol) × (ts ≡ front ++ x.1) × IsTerminal value front x.0

leaf_found : (value : Reader) (ts : List Symbol) (x : TerminalForm × List Symbol) (a : Atom) (y : Form × List Symbol) → ts ≡ spell_atom a ++ y.1 → y.0 ≡ atom_form value a → Some (leaf y.0, y.1) ≡ Some x → Found value ts x
leaf_found value ts x a y e m f = subst (Found value ts) (some_same _ x f) (spell_atom a, e, (a, refl, sym m))

compare_found : (value : Reader) (ts : List Symbol) (x : TerminalForm × List Symbol) → as_leaf (compare_at value ts) ≡ Some x → Found value ts x
compare_found value ts x e =
    let b = bind_some (compare_at value ts) (λ y. Some (leaf y.0, y.1)) x e in
    let c = compare_sound value ts b.0 b.1 in
    leaf_found value ts x (relates c.0) b.0 c.1 c.2 b.2

enclosed_sound : (ts : List Symbol) (x : List ℕ × List Symbol) → enclosed_at ts ≡ Some x → ts ≡ Open ∷ Name x.0 ∷ Close ∷ x.1
enclosed_sound (Open ∷ Name n ∷ Close ∷ ts) x e = ap (λ (y : List ℕ × List Symbol). Open ∷ Name y.0 ∷ Close ∷ y.1) (some_same _ x e)
enclosed_sound (Open ∷ Name n ∷ ts) x e = absurd cc
enclosed_sound (Open ∷ ts) x e = absurd cc
enclosed_sound ts x e = absurd cc

named_sound : (ts : List Symbol) (x : Named × List Symbol) → named_at ts ≡ Some x → ts ≡ spell_named x.0 ++ x.1
named_sound (Name n ∷ ts) x e = ap (λ (y : Named × List Symbol). spell_named y.0 ++ y.1) (some_same _ x e)
named_sound (Word words.Closure ∷ ts) x e =
    let b = bind_some (enclosed_at ts) (λ n. Some (closed n.0, n.1)) x e in
    ap (λ (l : List Symbol). Word words.Closure ∷ l) (enclosed_sound ts b.0 b.1) ∙ ap (λ (y : Named × List Symbol). spell_named y.0 ++ y.1) (some_same _ x b.2)
named_sound (Word words.Interior ∷ ts) x e =
    let b = bind_some (enclosed_at ts) (λ n. Some (inner n.0, n.1)) x e in
    ap (λ (l : List Symbol). Word words.Interior ∷ l) (enclosed_sound ts b.0 b.1) ∙ ap (λ (y : Named × List Symbol). spell_named y.0 ++ y.1) (some_same _ x b.2)
named_sound ts x e = absurd cc

call_sound : (m : Named) (ts : List Symbol) (x : Named × List Symbol) → call_at (m, ts) ≡ Some x → spell_named m ++ ts ≡ spell_named x.0 ++ (Open ∷ x.1)
call_sound m (Open ∷ ts) x e = ap (λ (y : Named × List Symbol). spell_named y.0 ++ (Open ∷ y.1)) (some_same _ x e)
call_sound m ts x e = absurd cc

called_sound : (ts : List Symbol) (x : Named × List Symbol) → called_at ts ≡ Some x → ts ≡ spell_named x.0 ++ (Open ∷ x.1)
called_sound ts x e =
    let b = bind_some (named_at ts) call_at x e in
    named_sound ts b.0 b.1 ∙ call_sound b.0.0 b.0.1 x b.2

membered : (value : Reader) (ts : List Symbol) (m : Named × List Symbol) (x : TerminalForm × List Symbol) → ts ≡ spell_named m.0 ++ (Open ∷ m.1) → as_leaf (atom_by_call value ts (Some m)) ≡ Some x → Found value ts x
membered value ts m x is e =
    let b = bind_some (atom_by_call value ts (Some m)) (λ y. Some (leaf y.0, y.1)) x e in
    let c = bind_some (operands_at value m.1) (λ y. Some (atom (member (name_of m.0) y.0), y.1)) b.0 b.1 in
    let s = list_sound spell_side (argument value) (argument_at value) comma_at Close (operands_sound value) (length m.1) m.1 c.0 c.1 in
    let same = some_same _ b.0 c.2 in
    leaf_found value ts x (belongs m.0 s.0 s.1) b.0
    (is
    ∙ ap (λ (t : List Symbol). spell_named m.0 ++ (Open ∷ t)) (s.2 ∙ sym (list_tail spell_side s.0 s.1 Close c.0.1))
    ∙ sym (append_assoc (spell_named m.0) (Open ∷ (spell_side s.0 ++ (spell_rest spell_side s.1 ++ Close ∷ []))) c.0.1)
    ∙ ap (λ (y : Form × List Symbol). spell_atom (belongs m.0 s.0 s.1) ++ y.1) same)
    (sym (ap (λ (y : Form × List Symbol). y.0) same) ∙ ap (λ (q : List Operand). atom (member (name_of m.0) q)) s.3)
    b.2

atom_found : (value : Reader) (ts : List Symbol) (x : TerminalForm × List Symbol) → as_leaf (atom_at value ts) ≡ Some x → Found value ts x
atom_found value ts x e = by (called_at ts) refl e
  where
    by : (o : Option (Named × List Symbol)) → called_at ts ≡ o → as_leaf (atom_by_call value ts o) ≡ Some x → Found value ts x
    by None f k = compare_found value ts x k
    by (Some m) f k = membered value ts m x (called_sound ts m f) k

binder_sound : (value : Reader) (q : Quantifier) (ts : List Symbol) (x : TerminalForm × List Symbol) → binder_at q ts ≡ Some x → Found value (quantifier_symbol q ∷ ts) x
binder_sound value q ts x e =
    let b = bind_some (column_at ts) (λ y. Some (binder q y.0, y.1)) x e in
    let c = column_sound ts b.0 b.1 in
    subst (Found value (quantifier_symbol q ∷ ts)) (some_same _ x b.2)
    (quantifier_symbol q ∷ spell_column b.0.0, ap (λ (l : List Symbol). quantifier_symbol q ∷ l) (c.1 ∙ ap (λ (k : Column). spell_column k ++ b.0.1) (sym c.2)), refl)

word_sound : (value : Reader) (w : Keyword) (ts : List Symbol) (x : TerminalForm × List Symbol) → terminal_at value (Word w ∷ ts) ≡ Some x → Found value (Word w ∷ ts) x
word_sound value words.Not ts x e = subst (Found value (Word words.Not ∷ ts)) (some_same _ x e) (Word words.Not ∷ [], refl, refl)
word_sound value words.And ts x e = subst (Found value (Word words.And ∷ ts)) (some_same _ x e) (Word words.And ∷ [], refl, refl)
word_sound value words.Or ts x e = subst (Found value (Word words.Or ∷ ts)) (some_same _ x e) (Word words.Or ∷ [], refl, refl)
word_sound value words.Implies ts x e = subst (Found value (Word words.Implies ∷ ts)) (some_same _ x e) (Word words.Implies ∷ [], refl, refl)
word_sound value words.Exists ts x e = binder_sound value Exists ts x e
word_sound value words.Forall ts x e = binder_sound value Forall ts x e
word_sound value words.True ts x e = subst (Found value (Word words.True ∷ ts)) (some_same _ x e) (Word words.True ∷ [], refl, (truth true, refl, refl))
word_sound value words.False ts x e = subst (Found value (Word words.False ∷ ts)) (some_same _ x e) (Word words.False ∷ [], refl, (truth false, refl, refl))
word_sound value words.Closure ts x e = atom_found value (Word words.Closure ∷ ts) x e
word_sound value words.Interior ts x e = atom_found value (Word words.Interior ∷ ts) x e
word_sound value w ts x e = absurd cc

terminal_sound : (value : Reader) (ts : List Symbol) (x : TerminalForm × List Symbol) → terminal_at value ts ≡ Some x → Found value ts x
terminal_sound value (Word w ∷ ts) x e = word_sound value w ts x e
terminal_sound value (Open ∷ ts) x e = subst (Found value (Open ∷ ts)) (some_same _ x e) (Open ∷ [], refl, refl)
terminal_sound value (Close ∷ ts) x e = subst (Found value (Close ∷ ts)) (some_same _ x e) (Close ∷ [], refl, refl)
terminal_sound value ts x e = atom_found value ts x e

within_sound : (k : ℕ) (value : Reader) (ts : List Symbol) (ps : List TerminalForm) → terminals_within value k ts ≡ Some ps → AreTerminals value ts ps
within_sound k value [] ps e = subst (AreTerminals value []) (some_same _ ps e) refl
within_sound zero value (t ∷ ts) ps e = absurd cc
within_sound (suc k) value (t ∷ ts) ps e =
    let b = bind_some (terminal_at value (t ∷ ts)) (λ x. terminals_within value k x.1 >>= λ qs. Some (x.0 ∷ qs)) ps e in
    let c = bind_some (terminals_within value k b.0.1) (λ qs. Some (b.0.0 ∷ qs)) ps b.2 in
    let p = terminal_sound value (t ∷ ts) b.0 b.1 in
    subst (AreTerminals value (t ∷ ts)) (some_same _ ps c.2) (p.0, b.0.1, p.1, p.2, within_sound k value b.0.1 c.0 c.1)

pub terminals_sound : (value : Reader) (ts : List Symbol) (ps : List TerminalForm) → terminals_at value ts ≡ Some ps → AreTerminals value ts ps
terminals_sound value ts ps e = within_sound (length ts) value ts ps e
