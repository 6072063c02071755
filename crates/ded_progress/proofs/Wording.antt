-- The goal of a formula that was read: its rows and the sums among its arguments have no coefficient 0, its texts are byte strings, and its
-- quantifiers are over slots.
use Rattle.std.proofs.Common.{◌≡◌, ℕ, ◌+◌, ◌<◌, arith, refl, nat_lt, nat_le, Bool, true, false, ◌||◌, ◌&&◌, cond, inl, inr, List, [], ◌∷◌, map, sym, subst, bytes_eq}
use Rattle.std.specs.Prelude.{pos}
use lib.IntN.{neg_ℤ}
use Rattle.std.specs.List.{list_any}
use Rattle.ded_lex.specs.Lexemes.{Lexeme, Each, text_byte}
use Rattle.ded_model.specs.declared.command.Language.{Language}
use Rattle.ded_model.specs.declared.command.Refusal.TheVariants.{LongName}
use Rattle.ded_model.specs.declared.formula.CompareOp.{CompareOp}
use Rattle.ded_model.specs.declared.formula.CompareOp.TheVariants.{Less, LessEq, Equal, NotEqual, GreaterEq, Greater}
use Rattle.ded_model.specs.declared.formula.Operand.{Operand}
use Rattle.ded_model.specs.declared.formula.Operand.TheVariants.{Single, Sum, Quoted}
use Rattle.ded_model.specs.declared.name.Column.{Column}
use Rattle.ded_model.specs.declared.row.RowOp.{RowOp}
use Rattle.ded_model.specs.declared.row.RowOp.TheVariants.{Zero, AtMost, Below}
use Rattle.ded_model.specs.declared.tuple.BothAtom.TheVariants.{Second}
use Rattle.ded_model.specs.declared.tuple.ThemeAtom.TheVariants.{EqSlot, NeSlot}
use Rattle.ded_model.specs.Coefs.{mixed}
use Rattle.ded_model.specs.Command.{CommandForm, ask, query, explain}
use Rattle.ded_model.specs.Form.{Form, FormAtom, compare, member}
use Rattle.ded_model.specs.Goal.{GoalAtom, linear, theme, GoalForm}
use Rattle.ded_model.specs.Goal as goal
use Rattle.ded_model.specs.Logic.{atom, always, never, negation, every_of, some_of, implies, minus, exists, forall, Logics, none, also, AllAtoms, AllAtomsOf, quantifiers}
use Rattle.ded_model.specs.Normal.{normal_row}
use Rattle.ded_model.specs.Point.{AllBytes, IsSlotOf, same_slot}
use Rattle.ded_model.specs.Slotted.{SlotScope, heading_scope, add_parts, slot_sum, difference_row, sums_goal, TextSide, at, word, text_side, same_text_goal, other_text_goal, texts_goal, is_text_operand, compare_goal, place_of, goal_below, goals_below, goal_of}
use Rattle.ded_model.specs.Sum.{SlotSum, denominator}
use Rattle.ded_model.proofs.Comparisons.{texts_have}
use Rattle.ded_model.proofs.LineCoefs.{AllNonzero, nonzero-nonzero}
use Rattle.ded_model.proofs.Lists.{every-right}
use Rattle.ded_model.proofs.Members.{or_split}
use Rattle.ded_model.proofs.Points.{and_right}
use Rattle.ded_terminals.specs.Literals.{Reader, exact}
use Rattle.ded_terminals.specs.Symbols.{Symbol, symbol}
use Rattle.ded_syntax.specs.Commands.{Plain, opens, defines, inserts_none, inserts, deletes, drops, keeps, shows, boxes, dumps, certifies, verifies_none, verifies, plain_form, Prefix, views, asks, queries, explains, spell_prefix, prefix_form, SpellsCommand}
use Rattle.ded_syntax.specs.Spelling.{IsRead, is_long_word}
use Rattle.ded_algebra.specs.Compiled.{AreByteTexts}
use Rattle.ded_width.proofs.Ties.{AreNonzeroPlaces, normal_sound}
use Rattle.ded_reread.specs.ScriptWords.{IsName, IsMember, IsText}
use Rattle.ded_reread.specs.Words.{HasTexts, HasWords, HaveWords, AreWritten}
use Rattle.ded_reread.proofs.WordsOperands.{AreGood}
use Rattle.ded_reread.proofs.WordsSymbols.{IsGoodSymbol, symbols_good}
use Rattle.ded_reread.proofs.WordsTrees.{Written, formula_written}
use Rattle.std.proofs.lemmas.Bool.Decides.{nat_tests}

-- ---- the formula of a question that was read

-- the formula of a question has words of the grammar
abbrev AsksWords : CommandForm → Type 0
AsksWords (ask f) = Written f
AsksWords (query h f) = Written f
AsksWords (explain h f) = Written f
AsksWords _ = Unit {0}

flat_words : (value : Reader) (p : Plain) → AsksWords (plain_form value p)
flat_words value (opens d two) = tt
flat_words value (defines n h) = tt
flat_words value (inserts_none n) = tt
flat_words value (inserts n c cs) = tt
flat_words value (deletes n d) = tt
flat_words value (drops n) = tt
flat_words value (keeps n) = tt
flat_words value (shows n) = tt
flat_words value (boxes n) = tt
flat_words value dumps = tt
flat_words value (certifies n m) = tt
flat_words value (verifies_none n m) = tt
flat_words value (verifies n m e es) = tt

before_words : (p : Prefix) (f : Form) → Written f → AsksWords (prefix_form p f)
before_words (views n h) f u = tt
before_words asks f u = u
before_words (queries h) f u = u
before_words (explains h) f u = u

command_words : (value : Reader) (ts : List Symbol) (x : CommandForm) (depth : ℕ) → AreGood ts → SpellsCommand value ts x depth → AsksWords x
command_words value ts x depth q (inl s) = subst AsksWords (sym s.means) (flat_words value s.plain)
command_words value ts x depth q (inr s) =
    let both = subst AreGood s.spelled q in
    subst AsksWords (sym s.means) (before_words s.before s.formula (formula_written value s.rest s.formula depth (every-right IsGoodSymbol (spell_prefix s.before) s.rest both) s.spells))

-- no word of it is long
no_long : (language : Language) (bytes : List ℕ) (x : CommandForm) (r : IsRead language bytes x) → list_any is_long_word r.spells.lexemes ≡ false
no_long language bytes x r = by (list_any is_long_word r.spells.lexemes) refl
  where
    by : (b : Bool) → list_any is_long_word r.spells.lexemes ≡ b → list_any is_long_word r.spells.lexemes ≡ false
    by true e = absurd (r.accepted LongName (record { lexemes = r.spells.lexemes; are = r.spells.are; passes = e }))
    by false e = e

pub read_words : (language : Language) (bytes : List ℕ) (x : CommandForm) → IsRead language bytes x → AsksWords x
read_words language bytes x r =
    let s = r.spells in
    let short = subst (λ (ls : List Lexeme). list_any is_long_word ls ≡ false) (sym s.are.lexemes_are) (no_long language bytes x r) in
    command_words exact (map (symbol language) s.lexemes) x r.depth
    (subst (λ (ls : List Lexeme). AreGood (map (symbol language) ls)) s.are.lexemes_are (symbols_good language s.are.cells s.are.each short)) s.command

-- ---- texts

-- what may stand between quotes is bytes
pub text_bytes : (t : List ℕ) → Each text_byte t → AllBytes t
text_bytes [] h = tt
text_bytes (b ∷ t) h = (
  elim (or_split (nat_le 32 b && nat_le b 126) (nat_le 128 b && nat_le b 255) h.0) [
    | inl e ↦ small 126 b (and_right (nat_le 32 b) (nat_le b 126) e) (omega arith)
    | inr e ↦ small 255 b (and_right (nat_le 128 b) (nat_le b 255) e) (omega arith)
  ],
  text_bytes t h.1,
)
  where
    small : (m b : ℕ) → nat_le b m ≡ true → m < 256 → b < 256
    small m b e l = grind (arith, nat_tests)

-- ---- goals

-- no coefficient of a row, and of a sum among the arguments, is 0; texts are such as may be quoted
abbrev pub IsWorded : GoalAtom → Type 0
IsWorded (linear r) = AllNonzero r.coefs
IsWorded (theme a) = HasTexts IsText (Second a)
IsWorded (goal.member n ts) = AreByteTexts ts × AreNonzeroPlaces ts

abbrev pub IsWordedGoal : GoalForm → Type 0
IsWordedGoal g = AllAtoms IsWorded g

chosen : (P : GoalForm → Type 0) (b : Bool) (f g : GoalForm) → P f → P g → P (cond b f g)
chosen P true f g p q = p
chosen P false f g p q = q

difference_worded : (l r : SlotSum) (op : RowOp) → AllNonzero (normal_row (difference_row l r op)).coefs
difference_worded l r op = (normal_sound (difference_row l r op) (nonzero-nonzero (mixed (pos (denominator r.over)) l.coefs (neg_ℤ (pos (denominator l.over))) r.coefs))).0

sums_worded : (l r : SlotSum) (op : CompareOp) → IsWordedGoal (sums_goal l op r)
sums_worded l r Less = difference_worded l r Below
sums_worded l r LessEq = difference_worded l r AtMost
sums_worded l r Equal = difference_worded l r Zero
sums_worded l r NotEqual = difference_worded l r Zero
sums_worded l r GreaterEq = difference_worded r l AtMost
sums_worded l r Greater = difference_worded r l Below

-- the word of a side may be quoted
abbrev SideHas : TextSide → Type 0
SideHas (at s) = Unit {0}
SideHas (word t) = IsText t

side_has : (scope : SlotScope) (t : Operand) → HasWords IsName IsText t → SideHas (text_side scope t)
side_has scope (Single x) h = tt
side_has scope (Sum t) h = tt
side_has scope (Quoted t) h = h

same_worded : (a b : TextSide) → SideHas a → SideHas b → IsWordedGoal (same_text_goal a b)
same_worded (at s) (at t) p q =
    chosen IsWordedGoal (same_slot s t) always (cond (nat_lt s.number t.number) (atom (theme (EqSlot s t))) (atom (theme (EqSlot t s)))) tt
    (chosen IsWordedGoal (nat_lt s.number t.number) (atom (theme (EqSlot s t))) (atom (theme (EqSlot t s))) tt tt)
same_worded (at s) (word t) p q = q
same_worded (word t) (at s) p q = p
same_worded (word t) (word u) p q = chosen IsWordedGoal (bytes_eq t u) always never tt tt

other_worded : (a b : TextSide) → SideHas a → SideHas b → IsWordedGoal (other_text_goal a b)
other_worded (at s) (at t) p q =
    chosen IsWordedGoal (same_slot s t) never (cond (nat_lt s.number t.number) (atom (theme (NeSlot s t))) (atom (theme (NeSlot t s)))) tt
    (chosen IsWordedGoal (nat_lt s.number t.number) (atom (theme (NeSlot s t))) (atom (theme (NeSlot t s))) tt tt)
other_worded (at s) (word t) p q = q
other_worded (word t) (at s) p q = p
other_worded (word t) (word u) p q = chosen IsWordedGoal (bytes_eq t u) never always tt tt

texts_worded : (a : TextSide) (op : CompareOp) (b : TextSide) → SideHas a → SideHas b → IsWordedGoal (texts_goal a op b)
texts_worded a Less b p q = tt
texts_worded a LessEq b p q = tt
texts_worded a Equal b p q = same_worded a b p q
texts_worded a NotEqual b p q = other_worded a b p q
texts_worded a GreaterEq b p q = tt
texts_worded a Greater b p q = tt

compare_worded : (scope : SlotScope) (l : Operand) (op : CompareOp) (r : Operand) → HasWords IsName IsText l → HasWords IsName IsText r → IsWordedGoal (compare_goal scope l op r)
compare_worded scope l op r p q =
    chosen IsWordedGoal (is_text_operand scope l || is_text_operand scope r) (texts_goal (text_side scope l) op (text_side scope r)) (sums_goal (slot_sum scope l) op (slot_sum scope r))
    (texts_worded (text_side scope l) op (text_side scope r) (side_has scope l p) (side_has scope r q)) (sums_worded (slot_sum scope l) (slot_sum scope r) op)

places_bytes : (scope : SlotScope) (ts : List Operand) → HaveWords IsName IsText ts → AreByteTexts (map (place_of scope) ts)
places_bytes scope [] h = tt
places_bytes scope (Single x ∷ ts) h = (tt, places_bytes scope ts h.1)
places_bytes scope (Sum t ∷ ts) h = (tt, places_bytes scope ts h.1)
places_bytes scope (Quoted t ∷ ts) h = (text_bytes t h.0, places_bytes scope ts h.1)

places_nonzero : (scope : SlotScope) (ts : List Operand) → AreNonzeroPlaces (map (place_of scope) ts)
places_nonzero scope [] = tt
places_nonzero scope (Single x ∷ ts) = places_nonzero scope ts
places_nonzero scope (Sum t ∷ ts) = (nonzero-nonzero (add_parts scope t.parts), places_nonzero scope ts)
places_nonzero scope (Quoted t ∷ ts) = places_nonzero scope ts

mutual
  below_worded : (scope : SlotScope) (n : ℕ) (f : Form) → Written f → IsWordedGoal (goal_below scope n f)
  below_worded scope n (atom (compare l op r)) h = compare_worded scope l op r h.0 h.1
  below_worded scope n (atom (member m ts)) h = (places_bytes scope ts h.1, places_nonzero scope ts)
  below_worded scope n always h = tt
  below_worded scope n never h = tt
  below_worded scope n (negation f) h = below_worded scope n f h
  below_worded scope n (every_of fs) h = all_worded scope n fs h.1
  below_worded scope n (some_of fs) h = all_worded scope n fs h.1
  below_worded scope n (implies f g) h = (below_worded scope n f h.0, below_worded scope (n + quantifiers f) g h.1)
  below_worded scope n (minus f g) h = absurd h
  below_worded scope n (exists s k f) h = below_worded ((k, record { number = n; sort = s }) ∷ scope) (n + 1) f h.1
  below_worded scope n (forall s k f) h = below_worded ((k, record { number = n; sort = s }) ∷ scope) (n + 1) f h.1

  all_worded : (scope : SlotScope) (n : ℕ) (fs : Logics FormAtom) → AreWritten IsName IsMember IsText fs → AllAtomsOf IsWorded (goals_below scope n fs)
  all_worded scope n none h = tt
  all_worded scope n (also f fs) h = (below_worded scope n f h.0, all_worded scope (n + quantifiers f) fs h.1)

pub goal_worded : (h : List Column) (f : Form) → Written f → IsWordedGoal (goal_of h f)
unfolding goal_of
goal_worded h f w = below_worded (heading_scope 0 h) _ f w

-- ---- quantifiers

abbrev mutual
  -- each quantifier is over a slot, of its sort
  pub OverSlots : GoalForm → Type 0
  OverSlots (atom a) = Unit {0}
  OverSlots always = Unit {0}
  OverSlots never = Unit {0}
  OverSlots (negation g) = OverSlots g
  OverSlots (every_of gs) = EachOverSlots gs
  OverSlots (some_of gs) = EachOverSlots gs
  OverSlots (implies f g) = OverSlots f × OverSlots g
  OverSlots (minus f g) = OverSlots f × OverSlots g
  OverSlots (exists s k g) = IsSlotOf s k × OverSlots g
  OverSlots (forall s k g) = IsSlotOf s k × OverSlots g

  pub EachOverSlots : Logics GoalAtom → Type 0
  EachOverSlots none = Unit {0}
  EachOverSlots (also g gs) = OverSlots g × EachOverSlots gs

sums_over : (l r : SlotSum) (op : CompareOp) → OverSlots (sums_goal l op r)
sums_over l r Less = tt
sums_over l r LessEq = tt
sums_over l r Equal = tt
sums_over l r NotEqual = tt
sums_over l r GreaterEq = tt
sums_over l r Greater = tt

compare_over : (scope : SlotScope) (l : Operand) (op : CompareOp) (r : Operand) → OverSlots (compare_goal scope l op r)
compare_over scope l op r =
    chosen OverSlots (is_text_operand scope l || is_text_operand scope r) (texts_goal (text_side scope l) op (text_side scope r)) (sums_goal (slot_sum scope l) op (slot_sum scope r))
    (texts_have OverSlots (record { holds = tt; fails = tt; text = λ a. tt }) (text_side scope l) (text_side scope r) op) (sums_over (slot_sum scope l) (slot_sum scope r) op)

mutual
  below_over : (scope : SlotScope) (n : ℕ) (f : Form) → OverSlots (goal_below scope n f)
  below_over scope n (atom (compare l op r)) = compare_over scope l op r
  below_over scope n (atom (member m ts)) = tt
  below_over scope n always = tt
  below_over scope n never = tt
  below_over scope n (negation f) = below_over scope n f
  below_over scope n (every_of fs) = all_over scope n fs
  below_over scope n (some_of fs) = all_over scope n fs
  below_over scope n (implies f g) = (below_over scope n f, below_over scope (n + quantifiers f) g)
  below_over scope n (minus f g) = (below_over scope n f, below_over scope (n + quantifiers f) g)
  below_over scope n (exists s k f) = (refl, below_over ((k, record { number = n; sort = s }) ∷ scope) (n + 1) f)
  below_over scope n (forall s k f) = (refl, below_over ((k, record { number = n; sort = s }) ∷ scope) (n + 1) f)

  all_over : (scope : SlotScope) (n : ℕ) (fs : Logics FormAtom) → EachOverSlots (goals_below scope n fs)
  all_over scope n none = tt
  all_over scope n (also f fs) = (below_over scope n f, all_over scope (n + quantifiers f) fs)

pub goal_over : (h : List Column) (f : Form) → OverSlots (goal_of h f)
unfolding goal_of
goal_over h f = below_over (heading_scope 0 h) _ f
