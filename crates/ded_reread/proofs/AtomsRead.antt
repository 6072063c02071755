-- The texts of atoms are worded as what is read back of them.
use Rattle.std.proofs.Common.{◌≡◌, ℕ, ◌≤◌, List, [], ◌∷◌, ◌++◌, map, length, refl, sym, ap₂, subst, inl, inr, arith, Bool, true, false, append_assoc}
use Rattle.std.specs.Prelude.{ℤ, pos, int_lt, not, Option, Some, None, codes}
use Rattle.std.specs.List.{list_any}
use Rattle.std.proofs.lemmas.Bool.{or_parts, or_from}
use lib.IntN.{neg_ℤ}
use Rattle.ded_model.specs.declared.formula.CompareOp.{CompareOp}
use Rattle.ded_model.specs.declared.formula.CompareOp.TheVariants.{Less, LessEq, Equal, NotEqual, GreaterEq, Greater}
use Rattle.ded_model.specs.declared.formula.Operand.{Operand}
use Rattle.ded_model.specs.declared.formula.Operand.TheVariants.{Single, Sum, Quoted}
use Rattle.ded_model.specs.declared.row.RowOp.{RowOp}
use Rattle.ded_model.specs.declared.row.RowOp.TheVariants.{Zero, AtMost, Below}
use Rattle.ded_model.specs.declared.slot.Slot.{Slot}
use Rattle.ded_model.specs.declared.tuple.BothAtom.TheVariants.{First, Second}
use Rattle.ded_model.specs.declared.tuple.ThemeAtom.{ThemeAtom}
use Rattle.ded_model.specs.declared.tuple.ThemeAtom.TheVariants.{EqText, NeText, EqSlot, NeSlot}
use Rattle.ded_model.specs.Coefs.{AreCoefs}
use Rattle.ded_model.specs.Constraint.{LinearConstraint}
use Rattle.ded_model.specs.Form.{member}
use Rattle.ded_model.specs.Logic.{atom}
use Rattle.ded_model.specs.LongRows.{is_long_atom, is_long_argument}
use Rattle.ded_model.specs.Normal.{IsNormalRow, IsNormalAtom, is_true_row}
use Rattle.ded_model.specs.Plain.{ArePlainOperands, IsPlainAtom}
use Rattle.ded_model.specs.Row.{Atom}
use Rattle.ded_model.proofs.LineCoefs.{AllNonzero}
use Rattle.ded_print.specs.Numbers.{integer_text}
use Rattle.ded_print.specs.Tuples.{Names, term_text, later_terms_text, signed, op_text, row_with_text, theme_text, atom_text}
use Rattle.ded_dump.specs.Comparisons.{compare_text, constant_text, stated_text, denied_text, row_comparison_text, compared_text}
use Rattle.ded_dump.specs.Operands.{operand_text, operands_text, member_text}
use Rattle.ded_terminals.specs.Symbols.{Open, Close, Comma}
use Rattle.ded_terminals.specs.Literals.{exact, marked}
use Rattle.ded_terminals.specs.Operands.{ParsedSide, spell_side}
use Rattle.ded_terminals.specs.Atoms.{Named, spell_named, name_of, belongs, spell_rest, argument}
use Rattle.ded_terminals.specs.MemberNames.{word_of}
use Rattle.ded_syntax.specs.Marks.{is_marked}
use Rattle.ded_resolve.proofs.Ascending.{nonzero-kept}
use Rattle.ded_reread.specs.Formulas.{tuple_compare, theme_compare}
use Rattle.ded_reread.specs.Operands.{zero, op_of, row_compared, constant_compare, stated, denied, restored_row, restored_compare, restored_operand}
use Rattle.ded_reread.specs.Words.{HasWords, HaveWords, AtomHasWords}
use Rattle.ded_reread.specs.ScriptWords.{IsName, IsMember, IsText}
use Rattle.ded_reread.proofs.Arguments.{operand_worded}
use Rattle.ded_reread.proofs.RowsRead.{row_worded}
use Rattle.ded_reread.proofs.Sides.{IsWholeSide, text_side, name_side, zero_side, whole_comparison}
use Rattle.ded_reread.proofs.WordedAtoms.{IsWordedAtom, IsWordedComparison}
use Rattle.ded_reread.proofs.MemberWords.{opened, closing, named_worded}
use Rattle.ded_reread.proofs.Worded.{Worded, Loose, Fits, Any, then_any, then_fitting, nothing, blank, lone_sign}

abbrev pub IsNoSum : Operand → Type 0
IsNoSum (Single x) = Unit {0}
IsNoSum (Sum t) = ⊥
IsNoSum (Quoted t) = Unit {0}

-- a comparison of numbers has a normal row, with coefficients in order that aren't 0; one of texts has no sums
abbrev pub IsGoalOf : Operand → Operand → Option LinearConstraint → Type 0
IsGoalOf l r (Some row) = AreCoefs row.coefs × IsNormalRow row
IsGoalOf l r None = IsNoSum l × IsNoSum r

-- ---- rows

constant_worded : (b : Bool) → IsWordedComparison (constant_text b) (constant_compare b)
constant_worded true = whole_comparison (codes "0") (codes "0") Equal zero zero zero_side zero_side
constant_worded false = whole_comparison (codes "0") (codes "0") Less zero zero zero_side zero_side

op_same : (turned : Bool) (op : RowOp) → compare_text (op_of turned op) ≡ op_text turned op
op_same turned Zero = refl
op_same false AtMost = refl
op_same true AtMost = refl
op_same false Below = refl
op_same true Below = refl

abbrev row : List (Slot × ℤ) → ℤ → RowOp → LinearConstraint
row cs m op = record { coefs = cs; constant = m; op = op }

compared_worded : (names : Names) (op : RowOp) (m : ℤ) (c : Slot × ℤ) (cs : List (Slot × ℤ)) (o : CompareOp) → AllNonzero (c ∷ cs) → IsNormalRow (row (c ∷ cs) m op)
    → AtomHasWords IsName IsMember IsText (row_compared names (row (c ∷ cs) m op) o) → IsPlainAtom (row_compared names (row (c ∷ cs) m op) o) → is_long_atom (row_compared names (row (c ∷ cs) m op) o) ≡ false
    → IsWordedComparison (term_text names c.0 (signed (int_lt c.1 (pos 0)) c.1) ++ (later_terms_text names (int_lt c.1 (pos 0)) cs ++ (compare_text o ++ integer_text (neg_ℤ (signed (int_lt c.1 (pos 0)) m)))))
    (row_compared names (row (c ∷ cs) m op) o)
compared_worded names op m c cs o some normal words plain short = row_worded names op m c cs o some.0 normal words.0 plain.0 short

-- the row with its own sign
own_worded : (names : Names) (op : RowOp) (m : ℤ) (c : Slot × ℤ) (cs : List (Slot × ℤ)) → AllNonzero (c ∷ cs) → IsNormalRow (row (c ∷ cs) m op)
    → AtomHasWords IsName IsMember IsText (row_compared names (row (c ∷ cs) m op) (op_of (int_lt c.1 (pos 0)) op)) → IsPlainAtom (row_compared names (row (c ∷ cs) m op) (op_of (int_lt c.1 (pos 0)) op))
    → is_long_atom (row_compared names (row (c ∷ cs) m op) (op_of (int_lt c.1 (pos 0)) op)) ≡ false
    → IsWordedComparison (row_with_text names (c ∷ cs) op m) (row_compared names (row (c ∷ cs) m op) (op_of (int_lt c.1 (pos 0)) op))
own_worded names op m c cs some normal words plain short =
    subst (λ (t : List ℕ). IsWordedComparison (term_text names c.0 (signed (int_lt c.1 (pos 0)) c.1) ++ (later_terms_text names (int_lt c.1 (pos 0)) cs ++ (t ++ integer_text (neg_ℤ (signed (int_lt c.1 (pos 0)) m)))))
    (row_compared names (row (c ∷ cs) m op) (op_of (int_lt c.1 (pos 0)) op))) (op_same (int_lt c.1 (pos 0)) op)
    (compared_worded names op m c cs (op_of (int_lt c.1 (pos 0)) op) some normal words plain short)

stated_worded : (names : Names) (op : RowOp) (m : ℤ) (cs : List (Slot × ℤ)) → AllNonzero cs → IsNormalRow (row cs m op)
    → AtomHasWords IsName IsMember IsText (stated names (row cs m op) cs) → IsPlainAtom (stated names (row cs m op) cs) → is_long_atom (stated names (row cs m op) cs) ≡ false
    → IsWordedComparison (stated_text names (row cs m op) cs) (stated names (row cs m op) cs)
stated_worded names op m [] some normal words plain short = constant_worded (is_true_row (row [] m op))
stated_worded names op m (c ∷ cs) some normal words plain short = own_worded names op m c cs some normal words plain short

denied_worded : (names : Names) (op : RowOp) (m : ℤ) (cs : List (Slot × ℤ)) → AllNonzero cs → IsNormalRow (row cs m op)
    → AtomHasWords IsName IsMember IsText (denied names (row cs m op) cs) → IsPlainAtom (denied names (row cs m op) cs) → is_long_atom (denied names (row cs m op) cs) ≡ false
    → IsWordedComparison (denied_text names (row cs m op) cs) (denied names (row cs m op) cs)
denied_worded names op m [] some normal words plain short = constant_worded (not (is_true_row (row [] m op)))
denied_worded names op m (c ∷ cs) some normal words plain short = compared_worded names op m c cs NotEqual some normal words plain short

restored_worded : (names : Names) (o : CompareOp) (r : LinearConstraint) → AllNonzero r.coefs → IsNormalRow r
    → AtomHasWords IsName IsMember IsText (restored_row names o r) → IsPlainAtom (restored_row names o r) → is_long_atom (restored_row names o r) ≡ false
    → IsWordedComparison (row_comparison_text names o r) (restored_row names o r)
restored_worded names Less r some normal words plain short = stated_worded names r.op r.constant r.coefs some normal words plain short
restored_worded names LessEq r some normal words plain short = stated_worded names r.op r.constant r.coefs some normal words plain short
restored_worded names Equal r some normal words plain short = stated_worded names r.op r.constant r.coefs some normal words plain short
restored_worded names NotEqual r some normal words plain short = denied_worded names r.op r.constant r.coefs some normal words plain short
restored_worded names GreaterEq r some normal words plain short = stated_worded names r.op r.constant r.coefs some normal words plain short
restored_worded names Greater r some normal words plain short = stated_worded names r.op r.constant r.coefs some normal words plain short

-- ---- comparisons

side_worded : (t : Operand) → IsNoSum t → HasWords IsName IsText (restored_operand t) → IsWholeSide (operand_text t) (restored_operand t)
side_worded (Single x) h words = name_side x words
side_worded (Sum t) h words = absurd h
side_worded (Quoted t) h words = text_side t words

pub worded_compare : (names : Names) (l : Operand) (op : CompareOp) (r : Operand) (o : Option LinearConstraint) → IsGoalOf l r o
    → AtomHasWords IsName IsMember IsText (restored_compare names l op r o) → IsPlainAtom (restored_compare names l op r o) → is_long_atom (restored_compare names l op r o) ≡ false
    → IsWordedComparison (compared_text names l op r o) (restored_compare names l op r o)
worded_compare names l op r (Some row) goal words plain short = restored_worded names op row (nonzero-kept row.coefs goal.0) goal.1 words plain short
worded_compare names l op r None goal words plain short =
    whole_comparison (operand_text l) (operand_text r) op (restored_operand l) (restored_operand r) (side_worded l goal.0 words.0) (side_worded r goal.1 words.1)

-- ---- members

pub comma : Loose (codes ", ") (Comma ∷ [])
comma = then_any Any (codes ",") (codes " ") (Comma ∷ []) [] (lone_sign (codes ",") (inr (inr (inr (inr (inl refl))))) refl) blank

record AreWordedArguments (bytes : List ℕ) (ts : List Operand) : Type 0 where
  sides : List ParsedSide
  worded : Worded bytes (spell_rest spell_side sides)
  means : map (argument exact) sides ≡ map restored_operand ts
  unmarked : list_any is_marked (map (argument marked) sides) ≡ false

fits_operands : (ts : List Operand) → Fits (operands_text (codes ", ") ts)
fits_operands [] = tt
fits_operands (t ∷ ts) = refl

arguments_worded : (ts : List Operand) → HaveWords IsName IsText ts → ArePlainOperands ts → list_any is_long_argument ts ≡ false → AreWordedArguments (operands_text (codes ", ") ts) ts
arguments_worded [] words plain short = record { sides = []; worded = nothing Fits; means = refl; unmarked = refl }
arguments_worded (t ∷ ts) words plain short =
    let both = or_parts (is_long_argument t) (list_any is_long_argument ts) short in
    let x = operand_worded t words.0 plain.0 both.0 in
    let xs = arguments_worded ts words.1 plain.1 both.1 in
    record {
      sides = x.side ∷ xs.sides;
      worded = then_any Fits (codes ", ") (operand_text t ++ operands_text (codes ", ") ts) (Comma ∷ []) (spell_side x.side ++ spell_rest spell_side xs.sides) comma
          (then_fitting (operand_text t) (operands_text (codes ", ") ts) (spell_side x.side) (spell_rest spell_side xs.sides) x.worded (fits_operands ts) xs.worded);
      means = ap₂ (λ (o : Operand) (os : List Operand). o ∷ os) x.means xs.means;
      unmarked = or_from (is_marked (argument marked x.side)) (list_any is_marked (map (argument marked) xs.sides)) x.unmarked xs.unmarked;
    }

arguments_fit : (ts : List Operand) → Fits (operands_text (codes ", ") ts ++ codes ")")
arguments_fit [] = refl
arguments_fit (t ∷ ts) = refl

worded_by : (m : Named) (ts : List Operand) → 1 ≤ length ts → IsName (word_of m) → HaveWords IsName IsText ts → ArePlainOperands ts → is_long_atom (member (name_of m) ts) ≡ false
    → IsWordedAtom (member_text (name_of m) ts) (member (name_of m) (map restored_operand ts))
worded_by m [] some named words plain short = absurd (omega (arith, some))
worded_by m (t ∷ ts) some named words plain short =
    let n = name_of m in
    let both = or_parts (is_long_argument t) (list_any is_long_argument ts) short in
    let x = operand_worded t words.0 plain.0 both.0 in
    let xs = arguments_worded ts words.1 plain.1 both.1 in
    let more = operands_text (codes ", ") ts in
    let inner : Worded (operand_text t ++ (more ++ codes ")")) (spell_side x.side ++ (spell_rest spell_side xs.sides ++ Close ∷ [])) =
    then_fitting (operand_text t) (more ++ codes ")") (spell_side x.side) (spell_rest spell_side xs.sides ++ Close ∷ []) x.worded (arguments_fit ts)
    (then_fitting more (codes ")") (spell_rest spell_side xs.sides) (Close ∷ []) xs.worded refl closing) in
    record {
      spelled = belongs m x.side xs.sides;
      worded = subst (λ (b : List ℕ). Worded (n ++ (codes "(" ++ b)) (spell_named m ++ (Open ∷ spell_side x.side ++ (spell_rest spell_side xs.sides ++ Close ∷ [])))) (sym (append_assoc (operand_text t) more (codes ")")))
          (then_fitting n (codes "(" ++ (operand_text t ++ (more ++ codes ")"))) (spell_named m) (Open ∷ spell_side x.side ++ (spell_rest spell_side xs.sides ++ Close ∷ [])) (named_worded m named) refl
          (then_any Fits (codes "(") (operand_text t ++ (more ++ codes ")")) (Open ∷ []) (spell_side x.side ++ (spell_rest spell_side xs.sides ++ Close ∷ [])) opened inner));
      means = ap₂ (λ (o : Operand) (os : List Operand). atom (member n (o ∷ os))) x.means xs.means;
      unmarked = or_from (is_marked (argument marked x.side)) (list_any is_marked (map (argument marked) xs.sides)) x.unmarked xs.unmarked;
    }

-- a relation or view has an argument or more
pub worded_member : (n : List ℕ) (ts : List Operand) → 1 ≤ length ts
    → AtomHasWords IsName IsMember IsText (member n ts) → ArePlainOperands ts → is_long_atom (member n ts) ≡ false
    → IsWordedAtom (member_text n ts) (member n (map restored_operand ts))
worded_member n ts some words plain short =
    subst (λ (m : List ℕ). IsWordedAtom (member_text m ts) (member m (map restored_operand ts))) (sym words.0.is)
    (worded_by words.0.named ts some words.0.word words.1 plain (subst (λ (m : List ℕ). is_long_atom (member m ts) ≡ false) words.0.is short))

-- ---- atoms of tuples

theme_worded : (names : Names) (a : ThemeAtom) → AtomHasWords IsName IsMember IsText (theme_compare names a) → IsWordedComparison (theme_text names a) (theme_compare names a)
theme_worded names (EqText s t) words = whole_comparison (names s) _ Equal (Single (names s)) (Quoted t) (name_side (names s) words.0) (text_side t words.1)
theme_worded names (NeText s t) words = whole_comparison (names s) _ NotEqual (Single (names s)) (Quoted t) (name_side (names s) words.0) (text_side t words.1)
theme_worded names (EqSlot s t) words = whole_comparison (names s) (names t) Equal (Single (names s)) (Single (names t)) (name_side (names s) words.0) (name_side (names t) words.1)
theme_worded names (NeSlot s t) words = whole_comparison (names s) (names t) NotEqual (Single (names s)) (Single (names t)) (name_side (names s) words.0) (name_side (names t) words.1)

tuple_row_worded : (names : Names) (op : RowOp) (m : ℤ) (cs : List (Slot × ℤ)) → AllNonzero cs → IsNormalRow (row cs m op)
    → AtomHasWords IsName IsMember IsText (tuple_compare names (First (row cs m op))) → IsPlainAtom (tuple_compare names (First (row cs m op))) → is_long_atom (tuple_compare names (First (row cs m op))) ≡ false
    → IsWordedComparison (row_with_text names cs op m) (tuple_compare names (First (row cs m op)))
tuple_row_worded names op m [] some normal words plain short = constant_worded false
tuple_row_worded names op m (c ∷ cs) some normal words plain short = own_worded names op m c cs some normal words plain short

pub worded_tuple_atom : (names : Names) (a : Atom) → IsNormalAtom a
    → AtomHasWords IsName IsMember IsText (tuple_compare names a) → IsPlainAtom (tuple_compare names a) → is_long_atom (tuple_compare names a) ≡ false
    → IsWordedComparison (atom_text names a) (tuple_compare names a)
worded_tuple_atom names (First r) normal words plain short = tuple_row_worded names r.op r.constant r.coefs (nonzero-kept r.coefs normal.0) normal.1 words plain short
worded_tuple_atom names (Second a) normal words plain short = theme_worded names a words
