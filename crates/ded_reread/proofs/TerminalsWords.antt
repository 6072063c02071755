-- Texts that spell terminals, for both readers: fixed words and signs, quantifiers with their variables, and texts in a row.
use Rattle.std.proofs.Common.{◌≡◌, ◌≤◌, inl, inr, ℕ, true, false, List, [], ◌∷◌, ◌++◌, length, refl, sym, subst, ap, ◌∙◌, append_assoc, append-nil, arith}
use Rattle.std.specs.Prelude.{codes}
use Rattle.std.specs.List.{list_all}
use Rattle.ded_lex.specs.Lexemes.{BeginsWith, letter_byte, word_byte}
use Rattle.ded_model.specs.declared.command.Language.TheVariants.{Two}
use Rattle.ded_model.specs.declared.slot.Sort.{Sort}
use Rattle.ded_model.specs.declared.slot.Sort.TheVariants.{Rat, Text}
use Rattle.ded_model.specs.Point.{Key}
use Rattle.ded_model.specs.Logic.{always, never}
use Rattle.ded_grammar.specs.declared.terminal.Quantifier.TheVariants.{Exists, Forall}
use Rattle.ded_grammar.specs.Trees.{TerminalForm, nay, conjunct, disjunct, arrow, opening, closing, binder, leaf}
use Rattle.ded_print.specs.Plans.{key_text, sort_text}
use Rattle.ded_terminals.specs.declared.item.Keyword.TheVariants as words
use Rattle.ded_terminals.specs.Symbols.{Symbol, Word, Name, Open, Close, word_symbol}
use Rattle.ded_terminals.specs.Literals.{Reader, exact, marked}
use Rattle.ded_terminals.specs.Atoms.{truth, IsTerminal, AreTerminals, spell_column, sort_symbols}
use Rattle.ded_dump.specs.Headings.{column_text, variable}
use Rattle.ded_reread.specs.ScriptWords.{IsName}
use Rattle.ded_reread.proofs.Worded.{WordedBefore, Worded, Loose, Any, Fits, append, then_any, then_fitting, as_worded, nothing, blank, word, name, lone_sign, each_of}
use Rattle.ded_reread.proofs.MemberWords.{opened}

-- ---- terminals in a row

are_joined : (value : Reader) (ts us : List Symbol) (ps qs : List TerminalForm) → AreTerminals value ts ps → AreTerminals value us qs → AreTerminals value (ts ++ us) (ps ++ qs)
are_joined value ts us [] qs h k = subst (λ (xs : List Symbol). AreTerminals value (xs ++ us) qs) (sym h) k
are_joined value ts us (p ∷ ps) qs h k =
    (h.0, h.1 ++ us, ap (λ (xs : List Symbol). xs ++ us) h.2 ∙ append_assoc h.0 h.1 us, h.3, are_joined value h.1 us ps qs h.4 k)

is_one : (value : Reader) (ts : List Symbol) (p : TerminalForm) → IsTerminal value ts p → AreTerminals value ts (p ∷ [])
is_one value ts p h = (ts, [], sym (append-nil ts), h, refl)

-- ---- texts that spell terminals

-- where bytes come next that pass the test
pub record SaysBefore (F : List ℕ → Type 0) (t : List ℕ) (ps : List TerminalForm) : Type 0 where
  pub symbols : List Symbol
  pub worded : WordedBefore F t symbols
  pub exactly : AreTerminals exact symbols ps
  pub marking : AreTerminals marked symbols ps

abbrev pub Says : List ℕ → List TerminalForm → Type 0
Says = SaysBefore Fits

abbrev pub SaysLoosely : List ℕ → List TerminalForm → Type 0
SaysLoosely = SaysBefore Any

pub say_nothing : (F : List ℕ → Type 0) → SaysBefore F [] []
say_nothing F = record { symbols = []; worded = nothing F; exactly = refl; marking = refl }

pub say_one : (F : List ℕ → Type 0) (t : List ℕ) (ts : List Symbol) (p : TerminalForm) → WordedBefore F t ts → IsTerminal exact ts p → IsTerminal marked ts p → SaysBefore F t (p ∷ [])
say_one F t ts p w e m = record { symbols = ts; worded = w; exactly = is_one exact ts p e; marking = is_one marked ts p m }

-- behind what anything may follow
pub say_then : (s t : List ℕ) (ps qs : List TerminalForm) → SaysLoosely s ps → Says t qs → Says (s ++ t) (ps ++ qs)
say_then s t ps qs x y = record {
  symbols = x.symbols ++ y.symbols;
  worded = then_any Fits s t x.symbols y.symbols x.worded y.worded;
  exactly = are_joined exact x.symbols y.symbols ps qs x.exactly y.exactly;
  marking = are_joined marked x.symbols y.symbols ps qs x.marking y.marking;
}

-- behind what this fits
pub say_on : (s t : List ℕ) (ps qs : List TerminalForm) → Says s ps → Fits t → Says t qs → Says (s ++ t) (ps ++ qs)
say_on s t ps qs x fits y = record {
  symbols = x.symbols ++ y.symbols;
  worded = then_fitting s t x.symbols y.symbols x.worded fits y.worded;
  exactly = are_joined exact x.symbols y.symbols ps qs x.exactly y.exactly;
  marking = are_joined marked x.symbols y.symbols ps qs x.marking y.marking;
}

-- ---- fixed words

pub spaced : (w : List ℕ) → BeginsWith letter_byte w → list_all word_byte w ≡ true → length w ≤ 64 → Loose (w ++ 32 ∷ []) (word_symbol Two w ∷ [])
spaced w begins each short = append Fits Any w (32 ∷ []) (word_symbol Two w ∷ []) [] (word w begins (each_of word_byte w each) short) (λ next k. refl) blank

pub twice_spaced : (w : List ℕ) → BeginsWith letter_byte w → list_all word_byte w ≡ true → length w ≤ 64 → Loose (32 ∷ (w ++ 32 ∷ [])) (word_symbol Two w ∷ [])
twice_spaced w begins each short = then_any Any (32 ∷ []) (w ++ 32 ∷ []) [] (word_symbol Two w ∷ []) blank (spaced w begins each short)

pub say_not : SaysLoosely (codes "not ") (nay ∷ [])
say_not = say_one Any (codes "not ") (Word words.Not ∷ []) nay (spaced (codes "not") refl refl (omega arith)) refl refl

pub say_and : SaysLoosely (codes " and ") (conjunct ∷ [])
say_and = say_one Any (codes " and ") (Word words.And ∷ []) conjunct (twice_spaced (codes "and") refl refl (omega arith)) refl refl

pub say_or : SaysLoosely (codes " or ") (disjunct ∷ [])
say_or = say_one Any (codes " or ") (Word words.Or ∷ []) disjunct (twice_spaced (codes "or") refl refl (omega arith)) refl refl

pub say_implies : SaysLoosely (codes " implies ") (arrow ∷ [])
say_implies = say_one Any (codes " implies ") (Word words.Implies ∷ []) arrow (twice_spaced (codes "implies") refl refl (omega arith)) refl refl

pub say_opening : SaysLoosely (codes "(") (opening ∷ [])
say_opening = say_one Any (codes "(") (Open ∷ []) opening opened refl refl

pub say_apart : SaysLoosely (codes " (") (opening ∷ [])
say_apart = say_one Any (codes " (") (Open ∷ []) opening (then_any Any (32 ∷ []) (codes "(") [] (Open ∷ []) blank opened) refl refl

pub say_closing : Says (codes ")") (closing ∷ [])
say_closing = say_one Fits (codes ")") (Close ∷ []) closing (as_worded (codes ")") (Close ∷ []) (lone_sign (codes ")") (inr (inl refl)) refl)) refl refl

pub say_true : Says (codes "true") (leaf always ∷ [])
say_true =
    say_one Fits (codes "true") (Word words.True ∷ []) (leaf always) (word (codes "true") refl (each_of word_byte (codes "true") refl) (omega arith))
    (truth true, refl, refl) (truth true, refl, refl)

pub say_false : Says (codes "false") (leaf never ∷ [])
say_false =
    say_one Fits (codes "false") (Word words.False ∷ []) (leaf never) (word (codes "false") refl (each_of word_byte (codes "false") refl) (omega arith))
    (truth false, refl, refl) (truth false, refl, refl)

-- ---- variables

pub sorted : (n : List ℕ) (s : Sort) → IsName n → Worded (n ++ sort_text s) (Name n ∷ sort_symbols s)
sorted n Rat h = subst (λ (t : List ℕ). Worded t (Name n ∷ [])) (sym (append-nil n)) (name n h)
sorted n Text h =
    then_fitting n (codes " text") (Name n ∷ []) (Word words.Text ∷ []) (name n h) refl
    (then_any Fits (32 ∷ []) (codes "text") [] (Word words.Text ∷ []) blank (word (codes "text") refl (each_of word_byte (codes "text") refl) (omega arith)))

pub say_exists : (s : Sort) (k : Key) → IsName (key_text k) → Says (codes "exists " ++ column_text (variable s k)) (binder Exists (variable s k) ∷ [])
say_exists s k h =
    say_one Fits (codes "exists " ++ column_text (variable s k)) (Word words.Exists ∷ spell_column (variable s k)) (binder Exists (variable s k))
    (then_any Fits (codes "exists ") (column_text (variable s k)) (Word words.Exists ∷ []) (spell_column (variable s k)) (spaced (codes "exists") refl refl (omega arith)) (sorted (key_text k) s h))
    refl refl

pub say_forall : (s : Sort) (k : Key) → IsName (key_text k) → Says (codes "forall " ++ column_text (variable s k)) (binder Forall (variable s k) ∷ [])
say_forall s k h =
    say_one Fits (codes "forall " ++ column_text (variable s k)) (Word words.Forall ∷ spell_column (variable s k)) (binder Forall (variable s k))
    (then_any Fits (codes "forall ") (column_text (variable s k)) (Word words.Forall ∷ []) (spell_column (variable s k)) (spaced (codes "forall") refl refl (omega arith)) (sorted (key_text k) s h))
    refl refl
