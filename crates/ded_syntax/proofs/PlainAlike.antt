-- What the plain language spells, each language spells alike, and the same refusals apply to it.
--
-- What a lexeme says differs where another language has a word, a sign or decimals that the plain one lacks. In the plain language each of these
-- is what stands in no command, so each lexeme of a command says the same in all languages.
use Rattle.std.proofs.Common.{◌≡◌, inl, inr, ℕ, Bool, true, false, ◌||◌, List, [], ◌∷◌, map, refl, sym, ap, ap₂, ◌∙◌, subst}
use Rattle.std.specs.Prelude.{◌↔◌, if◌then◌else◌, codes}
use Rattle.std.specs.List.{list_any}
use Rattle.std.specs.Str.{bytes_eq}
use Rattle.std.proofs.lemmas.Slice.Eq.{bytes_eq-Decides}
use Rattle.ded_lex.specs.Lexemes.{Lexeme, Word, Number, Decimal, Quoted, Sign}
use Rattle.ded_lex.specs.Tokens.{AreLexemes}
use Rattle.ded_model.specs.declared.command.Language.{Language}
use Rattle.ded_model.specs.declared.command.Language.TheVariants.{One}
use Rattle.ded_model.specs.declared.command.Refusal.{Refusal}
use Rattle.ded_model.specs.declared.command.Refusal.TheVariants.{Syntax, LongName, LongNumber, Deep}
use Rattle.ded_model.specs.Command.{CommandForm}
use Rattle.ded_terminals.specs.Symbols.{Symbol, Name, formula_word, command_word, unused_word, dedale_symbol, dump_symbol, word_symbol, sum_sign, other_sign, slash_symbol, sign_symbol, symbol}
use Rattle.ded_terminals.specs.Literals.{exact, marked}
use Rattle.ded_terminals.proofs.Seen.{one_list}
use Rattle.ded_syntax.specs.Commands.{SpellsCommand}
use Rattle.ded_syntax.specs.Spelling.{Spells, is_long_number, AppliesIn}
use Rattle.ded_syntax.proofs.UsedWords.{IsUsed, AreUsed, command_used}

-- ---- lexemes

-- a word that no language has for itself
word_said : (l : Language) (w : List ℕ) → bytes_eq w (codes "dedale") ≡ false → bytes_eq w (codes "dump") ≡ false → word_symbol l w ≡ formula_word (command_word (unused_word (Name w) w) w) w
word_said l w e f =
    ap (λ (b : Bool). formula_word (command_word (if b then dedale_symbol l else (if bytes_eq w (codes "dump") then dump_symbol l else unused_word (Name w) w)) w) w) e
    ∙ ap (λ (b : Bool). formula_word (command_word (if b then dump_symbol l else unused_word (Name w) w) w) w) f

word_same : (l : Language) (w : List ℕ) → IsUsed (word_symbol One w) → word_symbol One w ≡ word_symbol l w
word_same l w used = by (bytes_eq w (codes "dedale")) refl (bytes_eq w (codes "dump")) refl
  where
    by : (b : Bool) → bytes_eq w (codes "dedale") ≡ b → (a : Bool) → bytes_eq w (codes "dump") ≡ a → word_symbol One w ≡ word_symbol l w
    by true e a f = absurd (subst (λ (v : List ℕ). IsUsed (word_symbol One v)) ((bytes_eq-Decides w (codes "dedale")).0 e) used)
    by false e true f = absurd (subst (λ (v : List ℕ). IsUsed (word_symbol One v)) ((bytes_eq-Decides w (codes "dump")).0 f) used)
    by false e false f = word_said One w e f ∙ sym (word_said l w e f)

sign_said : (l : Language) (s : List ℕ) → bytes_eq s (codes "/") ≡ false → sign_symbol l s ≡ sum_sign (other_sign s) s
sign_said l s e = ap (λ (b : Bool). sum_sign (if b then slash_symbol l else other_sign s) s) e

sign_same : (l : Language) (s : List ℕ) → IsUsed (sign_symbol One s) → sign_symbol One s ≡ sign_symbol l s
sign_same l s used = by (bytes_eq s (codes "/")) refl
  where
    by : (b : Bool) → bytes_eq s (codes "/") ≡ b → sign_symbol One s ≡ sign_symbol l s
    by true e = absurd (subst (λ (v : List ℕ). IsUsed (sign_symbol One v)) ((bytes_eq-Decides s (codes "/")).0 e) used)
    by false e = sign_said One s e ∙ sym (sign_said l s e)

symbol_same : (l : Language) (t : Lexeme) → IsUsed (symbol One t) → symbol One t ≡ symbol l t
symbol_same l (Word w) used = word_same l w used
symbol_same l (Number ds) used = refl
symbol_same l (Decimal bs) used = absurd used
symbol_same l (Quoted t) used = refl
symbol_same l (Sign s) used = sign_same l s used

symbols_same : (l : Language) (ls : List Lexeme) → AreUsed (map (symbol One) ls) → map (symbol One) ls ≡ map (symbol l) ls
symbols_same l [] used = refl
symbols_same l (t ∷ ts) used = ap₂ (λ (x : Symbol) (xs : List Symbol). x ∷ xs) (symbol_same l t used.0) (symbols_same l ts used.1)

number_same : (l : Language) (t : Lexeme) → IsUsed (symbol One t) → is_long_number One t ≡ is_long_number l t
number_same l (Word w) used = refl
number_same l (Number ds) used = refl
number_same l (Decimal bs) used = absurd used
number_same l (Quoted t) used = refl
number_same l (Sign s) used = refl

numbers_same : (l : Language) (ls : List Lexeme) → AreUsed (map (symbol One) ls) → list_any (is_long_number One) ls ≡ list_any (is_long_number l) ls
numbers_same l [] used = refl
numbers_same l (t ∷ ts) used = ap₂ (λ (a b : Bool). a || b) (number_same l t used.0) (numbers_same l ts used.1)

-- ---- bytes

-- the two read the lexemes of the bytes alike
pub record ReadAlike (l m : Language) (bytes : List ℕ) : Type 0 where
  pub symbols : (ls : List Lexeme) → AreLexemes bytes ls → map (symbol l) ls ≡ map (symbol m) ls
  pub numbers : (ls : List Lexeme) → AreLexemes bytes ls → list_any (is_long_number l) ls ≡ list_any (is_long_number m) ls

turned : (l m : Language) (bytes : List ℕ) → ReadAlike l m bytes → ReadAlike m l bytes
turned l m bytes r = record { symbols = λ ls are. sym (r.symbols ls are); numbers = λ ls are. sym (r.numbers ls are) }

spells_in : (l m : Language) (bytes : List ℕ) → ReadAlike l m bytes → (x : CommandForm) (depth : ℕ) → Spells l bytes x depth → Spells m bytes x depth
spells_in l m bytes r x depth s = record { lexemes = s.lexemes; are = s.are; command = subst (λ (ts : List Symbol). SpellsCommand exact ts x depth) (r.symbols s.lexemes s.are) s.command }

applies_in : (l m : Language) (bytes : List ℕ) → ReadAlike l m bytes → (q : Refusal) → AppliesIn q l bytes → AppliesIn q m bytes
applies_in l m bytes r Syntax none = λ x depth s. none x depth (spells_in m l bytes (turned l m bytes r) x depth s)
applies_in l m bytes r LongName h = h
applies_in l m bytes r LongNumber (inl h) = inl (record { lexemes = h.lexemes; are = h.are; passes = sym (r.numbers h.lexemes h.are) ∙ h.passes })
applies_in l m bytes r LongNumber (inr (inl h)) = inr (inl (record {
  lexemes = h.lexemes;
  are = h.are;
  command = h.command;
  depth = h.depth;
  spells = subst (λ (ts : List Symbol). SpellsCommand marked ts h.command h.depth) (r.symbols h.lexemes h.are) h.spells;
  long = h.long;
}))
applies_in l m bytes r LongNumber (inr (inr h)) = inr (inr (record { command = h.command; depth = h.depth; spells = spells_in l m bytes r h.command h.depth h.spells; long = h.long }))
applies_in l m bytes r Deep h = record { command = h.command; depth = h.depth; spells = spells_in l m bytes r h.command h.depth h.spells; above = h.above }
applies_in l m bytes r _ h = absurd h

-- ---- what the plain language spells

module _ (l : Language) (bytes : List ℕ) (x : CommandForm) (depth : ℕ) (s : Spells One bytes x depth) where
  used : (ls : List Lexeme) → AreLexemes bytes ls → AreUsed (map (symbol One) ls)
  used ls are = subst (λ (ts : List Lexeme). AreUsed (map (symbol One) ts)) (one_list bytes s.lexemes ls s.are are) (command_used exact _ x depth s.command)

  pub plain_alike : ReadAlike One l bytes
  plain_alike = record { symbols = λ ls are. symbols_same l ls (used ls are); numbers = λ ls are. numbers_same l ls (used ls are) }

  pub spelled_too : Spells l bytes x depth
  spelled_too = spells_in One l bytes plain_alike x depth s

  pub spelled_plainly : (y : CommandForm) (n : ℕ) → Spells l bytes y n → Spells One bytes y n
  spelled_plainly y n t = spells_in l One bytes (turned One l bytes plain_alike) y n t

  pub refused_alike : (q : Refusal) → AppliesIn q l bytes ↔ AppliesIn q One bytes
  refused_alike q = (λ h. applies_in l One bytes (turned One l bytes plain_alike) q h, λ h. applies_in One l bytes plain_alike q h)
