-- Numbers as they are read: where no number of the symbols is capped, these spell the same command.
use Rattle.std.proofs.Common.{◌≡◌, inl, inr, ℕ, Bool, true, false, List, [], ◌∷◌, ◌++◌, map, refl, sym, ap, ap₂, subst, ◌∙◌}
use Rattle.std.specs.Prelude.{ℤ, Some, None}
use Rattle.std.specs.List.{AllByRecursion}
use Rattle.ded_model.specs.declared.certificate.Entry.{Entry}
use Rattle.ded_model.specs.declared.certificate.Proof.{Proof}
use Rattle.ded_model.specs.declared.certificate.Proof.TheVariants.{Multipliers}
use Rattle.ded_model.specs.declared.formula.Operand.{Operand}
use Rattle.ded_model.specs.Command.{CommandForm, insert, delete, verify}
use Rattle.ded_model.specs.Form.{Form, compare, member}
use Rattle.ded_model.specs.Logic.{atom, logics}
use Rattle.ded_grammar.specs.Trees.{TerminalForm, nay, conjunct, disjunct, arrow, opening, closing, binder, leaf}
use Rattle.ded_terminals.specs.Symbols.{Symbol, Name, Number, Decimal, Times, Open, Close, CloseBrace, Relation, number_of, decimal_number, decimal_power}
use Rattle.ded_terminals.specs.Literals.{Scalar, whole, quotient, decimal, spell_scalar, Literal, lowest, literal, marked, capped, capped_reader}
use Rattle.ded_terminals.specs.Operands.{Product, scaled, constant, lone, ParsedSide, text, sum, spell_product, spell_more, spell_side, SignedFactor, Factor, factor, add_factor, add_all, Reading, as_reading, single, reading_of, literals, signed, operand_over, argument_of}
use Rattle.ded_terminals.specs.Atoms.{compared, argument, spell_rest, Comparison, spell_comparison, comparison_form, spell_named, name_of, Atom, truth, relates, belongs, spell_atom, atom_form, IsTerminal, AreTerminals}
use Rattle.ded_syntax.specs.Certificates.{Integer, spell_integers, integer_of, ProofTree, by_text, by_rows, spell_proof, proof_of, EntryTree, spell_entry, entry_of}
use Rattle.ded_syntax.specs.Commands.{Plain, opens, defines, inserts_none, inserts, deletes, drops, keeps, shows, boxes, dumps, certifies, verifies_none, verifies, spell_plain, plain_form, spell_prefix, SpellsCommand}
use Rattle.ded_terminals.proofs.Denominators.{side_some, both_some, denominators_same}

-- the two read the number as one
abbrev pub Alike : (ℕ → ℕ) → (ℕ → ℕ) → Symbol → Type 0
Alike read other (Number d) = read (number_of d) ≡ other (number_of d)
Alike read other (Decimal t) = (read (decimal_number t) ≡ other (decimal_number t)) × (read (decimal_power t) ≡ other (decimal_power t))
Alike read other t = Unit {0}

abbrev pub AllAlike : (ℕ → ℕ) → (ℕ → ℕ) → List Symbol → Type 0
AllAlike read other ts = AllByRecursion (Alike read other) ts

split : {A : Type 0} (P : A → Type 0) (xs ys : List A) → AllByRecursion P (xs ++ ys) → AllByRecursion P xs × AllByRecursion P ys
split P [] ys h = (tt, h)
split P (x ∷ xs) ys h = let more = split P xs ys h.1 in ((h.0, more.0), more.1)

-- ---- what is read

module _ (read other : ℕ → ℕ) where
  lowest_alike : (a b c d : ℕ) → a ≡ b → c ≡ d → lowest a c ≡ lowest b d
  lowest_alike a b c d e f = ap₂ lowest e f

  literal_alike : (s : Scalar) → AllAlike read other (spell_scalar s) → literal read s ≡ literal other s
  literal_alike (whole d) h = ap (λ (k : ℕ). (k, 1)) h.0
  literal_alike (quotient d e z) h = lowest_alike _ _ _ _ h.0 h.1.1.0
  literal_alike (decimal t) h = lowest_alike _ _ _ _ h.0.0 h.0.1

  product_alike : (p : Product) → AllAlike read other (spell_product p) → factor read p ≡ factor other p
  product_alike (scaled s n) h = ap (λ (l : Literal). (l, Some n)) (literal_alike s (split (Alike read other) (spell_scalar s) (Times ∷ Name n ∷ []) h).0)
  product_alike (constant s) h = ap (λ (l : Literal). (l, None)) (literal_alike s h)
  product_alike (lone n) h = refl

  more_alike : (ps : List (Bool × Product)) (a : List SignedFactor) → AllAlike read other (spell_more ps) → add_all read a ps ≡ add_all other a ps
  more_alike [] a h = refl
  more_alike (p ∷ ps) a h =
      let both = split (Alike read other) (spell_product p.1) (spell_more ps) h.1 in
      more_alike ps (add_factor a p.0 (factor read p.1)) both.1 ∙ ap (λ (q : Factor). add_all other (add_factor a p.0 q) ps) (product_alike p.1 both.0)

  sum_alike : (m : Bool) (p : Product) (ps : List (Bool × Product)) → AllAlike read other (spell_product p ++ spell_more ps) → reading_of read (sum m p ps) ≡ reading_of other (sum m p ps)
  sum_alike m p ps h =
      let both = split (Alike read other) (spell_product p) (spell_more ps) h in
      ap (as_reading (single (sum m p ps)))
      (more_alike ps (add_factor [] m (factor read p)) both.1 ∙ ap (λ (q : Factor). add_all other (add_factor [] m q) ps) (product_alike p both.0))

  side_alike : (s : ParsedSide) → AllAlike read other (spell_side s) → reading_of read s ≡ reading_of other s
  side_alike (text t) h = refl
  side_alike (sum true p ps) h = sum_alike true p ps h.1
  side_alike (sum false p ps) h = sum_alike false p ps h

-- ---- commands, by the capped numbers and by the numbers themselves

abbrev Agree : List Symbol → Type 0
Agree ts = AllAlike capped (λ n. n) ts

-- items of a list
items_alike : {T A : Type 0} (spell : T → List Symbol) (mean also : T → A) → ((x : T) → Agree (spell x) → mean x ≡ also x) → (xs : List T) → Agree (spell_rest spell xs) → map mean xs ≡ map also xs
items_alike spell mean also h [] all = refl
items_alike spell mean also h (x ∷ xs) all =
    let both = split (Alike capped (λ n. n)) (spell x) (spell_rest spell xs) all.1 in
    ap (λ y. y ∷ map mean xs) (h x both.0) ∙ ap (λ ys. also x ∷ ys) (items_alike spell mean also h xs both.1)

list_alike : {T A : Type 0} (spell : T → List Symbol) (mean also : T → A) (ending : Symbol) → ((x : T) → Agree (spell x) → mean x ≡ also x) → (x : T) (xs : List T) → Agree (spell x ++ (spell_rest spell xs ++ ending ∷ [])) → (mean x ∷ map mean xs) ≡ (also x ∷ map also xs)
list_alike spell mean also ending h x xs all =
    let outer = split (Alike capped (λ n. n)) (spell x) (spell_rest spell xs ++ ending ∷ []) all in
    let inner = split (Alike capped (λ n. n)) (spell_rest spell xs) (ending ∷ []) outer.1 in
    ap (λ y. y ∷ map mean xs) (h x outer.0) ∙ ap (λ ys. also x ∷ ys) (items_alike spell mean also h xs inner.0)

comparison_alike : (c : Comparison) → Agree (spell_comparison c) → comparison_form capped_reader c ≡ comparison_form marked c
comparison_alike c h =
    let both = split (Alike capped (λ n. n)) (spell_side c.left) (Relation c.op ∷ spell_side c.right) h in
    let left = side_alike capped (λ n. n) c.left both.0 in
    let right = side_alike capped (λ n. n) c.right both.1.1 in
    ap₂ (λ (l r : Reading). compared capped_reader l c.op r) left right
    ∙ ap (λ (m : ℕ). atom (compare (operand_over marked m (reading_of (λ n. n) c.left)) c.op (operand_over marked m (reading_of (λ n. n) c.right))))
    (denominators_same (literals (reading_of (λ n. n) c.left) ++ literals (reading_of (λ n. n) c.right)) (both_some _ _ (side_some c.left) (side_some c.right)))

argument_alike : (s : ParsedSide) → Agree (spell_side s) → argument capped_reader s ≡ argument marked s
argument_alike s h =
    ap (argument_of capped_reader) (side_alike capped (λ n. n) s h)
    ∙ ap (λ (m : ℕ). operand_over marked m (reading_of (λ n. n) s)) (denominators_same (literals (reading_of (λ n. n) s)) (side_some s))

atom_alike : (a : Atom) → Agree (spell_atom a) → atom_form capped_reader a ≡ atom_form marked a
atom_alike (truth true) h = refl
atom_alike (truth false) h = refl
atom_alike (relates c) h = comparison_alike c h
atom_alike (belongs m s ss) h =
    let behind = split (Alike capped (λ n. n)) (spell_named m) (Open ∷ (spell_side s ++ (spell_rest spell_side ss ++ Close ∷ []))) h in
    ap (λ (os : List Operand). atom (member (name_of m) os)) (list_alike spell_side (argument capped_reader) (argument marked) Close argument_alike s ss behind.1.1)

terminal_alike : (p : TerminalForm) (front : List Symbol) → Agree front → IsTerminal capped_reader front p → IsTerminal marked front p
terminal_alike (leaf f) front h (a, e, m) = (a, e, sym (atom_alike a (subst Agree e h)) ∙ m)
terminal_alike nay front h is = is
terminal_alike conjunct front h is = is
terminal_alike disjunct front h is = is
terminal_alike arrow front h is = is
terminal_alike opening front h is = is
terminal_alike closing front h is = is
terminal_alike (binder q c) front h is = is

terminals_alike : (ps : List TerminalForm) (ts : List Symbol) → Agree ts → AreTerminals capped_reader ts ps → AreTerminals marked ts ps
terminals_alike [] ts h e = e
terminals_alike (p ∷ ps) ts h (front, rest, e, is, more) =
    let both = split (Alike capped (λ n. n)) front rest (subst (Agree) e h) in
    (front, rest, e, terminal_alike p front both.0 is, terminals_alike ps rest both.1 more)

integers_alike : (is : List Integer) → Agree (spell_integers is) → map (integer_of capped_reader) is ≡ map (integer_of marked) is
integers_alike [] h = refl
integers_alike ((true, d) ∷ is) h = ap₂ (λ (z : ℤ) (zs : List ℤ). z ∷ zs) (ap (signed true) h.1.0) (integers_alike is h.1.1)
integers_alike ((false, d) ∷ is) h = ap₂ (λ (z : ℤ) (zs : List ℤ). z ∷ zs) (ap (signed false) h.0) (integers_alike is h.1)

proof_alike : (p : ProofTree) → Agree (spell_proof p) → proof_of capped_reader p ≡ proof_of marked p
proof_alike by_text h = refl
proof_alike (by_rows is) h = ap Multipliers (integers_alike is h.1)

abbrev entry_with : ℕ → ℕ → Proof → Entry
entry_with m n p = record { first = m; second = n; proof = p }

entry_alike : (e : EntryTree) → Agree (spell_entry e) → entry_of capped_reader e ≡ entry_of marked e
entry_alike e h =
    ap₂ (λ (m n : ℕ). entry_with m n (proof_of capped_reader e.proof)) h.0 h.1.0
    ∙ ap (entry_with (number_of e.first) (number_of e.second)) (proof_alike e.proof h.1.1)

plain_alike : (p : Plain) → Agree (spell_plain p) → plain_form capped_reader p ≡ plain_form marked p
plain_alike (opens d two) all = refl
plain_alike (defines n h) all = refl
plain_alike (inserts_none n) all = refl
plain_alike (inserts n c cs) all = ap (λ (fs : List Form). insert n (logics fs)) (list_alike spell_comparison (comparison_form capped_reader) (comparison_form marked) CloseBrace comparison_alike c cs all.1.1.1)
plain_alike (deletes n d) all = ap (delete n) all.1.1.0
plain_alike (drops n) all = refl
plain_alike (keeps n) all = refl
plain_alike (shows n) all = refl
plain_alike (boxes n) all = refl
plain_alike dumps all = refl
plain_alike (certifies n m) all = refl
plain_alike (verifies_none n m) all = refl
plain_alike (verifies n m e es) all = ap (verify n m) (list_alike spell_entry (entry_of capped_reader) (entry_of marked) CloseBrace entry_alike e es all.1.1.1.1)

pub command_alike : (ts : List Symbol) (c : CommandForm) (depth : ℕ) → Agree ts → SpellsCommand capped_reader ts c depth → SpellsCommand marked ts c depth
command_alike ts c depth h (inl s) = inl (record { plain = s.plain; spelled = s.spelled; means = s.means ∙ plain_alike s.plain (subst (Agree) s.spelled h); flat = s.flat })
command_alike ts c depth h (inr s) =
    let both = split (Alike capped (λ n. n)) (spell_prefix s.before) s.rest (subst (Agree) s.spelled h) in
    inr (record { before = s.before; rest = s.rest; spelled = s.spelled; formula = s.formula; spells = record { terminals = s.spells.terminals; are = terminals_alike s.spells.terminals s.rest both.1 s.spells.are; spells = s.spells.spells }; means = s.means })
