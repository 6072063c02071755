-- Texts that are worded as symbols, whatever fitting bytes come next.
--
-- A text is one of cells without comments and decimals, and of whole parts. What may come next is a test F: `Any` for a text that ends
-- in a blank or in a sign that no longer one begins with, and `Fits` for one that ends in a word, a number or a quoted text.
use Rattle.std.proofs.Common.{◌≡◌, ◌≢◌, ℕ, ◌≤◌, Bool, true, false, List, [], ◌∷◌, ◌++◌, map, length, refl, sym, ap, ap₂, subst, ◌∙◌, inl, inr, arith, append_assoc, append-nil, true≢false}
use Rattle.std.specs.Prelude.{◌==◌, ◌||◌, ◌&&◌, not, nat_lt, nat_le, ◌^◌, flat_map, if◌then◌else◌}
use Rattle.std.specs.List.{AllByRecursion, list_any, list_all}
use Rattle.std.proofs.lemmas.Grind.{flat_map-append}
use Rattle.std.proofs.lemmas.List.{map-append}
use Rattle.std.proofs.lemmas.List.Folds.{list_any-append}
use Rattle.std.proofs.lemmas.Bool.{or_parts}
use Rattle.std.proofs.lemmas.Bool.Decides.{nat_tests}
use Rattle.ded_lex.specs.Gaps.{Space}
use Rattle.ded_lex.specs.Lexemes.{Lexeme, Word, Number, Sign, Quoted, lexeme_bytes, BeginsWith, BeginsNot, Each, letter_byte, digit_byte, word_byte, numeral_byte, equals_byte, dash_byte, quote_byte, IsOneOf, lone_signs, open_signs, IsLexeme}
use Rattle.ded_lex.specs.Tokens.{Cell, GapCell, LexemeCell, cell_bytes, IsCell, AreCells, lexemes_of, AreLexemes}
use Rattle.ded_lex.specs.Pieces.{Part, Plain, Dash, NoDash, spelled, IsPart, AreParts, IsWhole}
use Rattle.ded_lex.specs.Pieces as piece
use Rattle.ded_lex.proofs.Cases.{is_not}
use Rattle.ded_model.specs.declared.command.Language.TheVariants.{Two}
use Rattle.ded_model.specs.Quoting.{doubled, quoted}
use Rattle.ded_terminals.specs.Symbols.{Symbol, Name, symbol, word_symbol, sign_symbol, number_of}
use Rattle.ded_terminals.specs.Symbols as symbols
use Rattle.ded_syntax.specs.Spelling.{is_long_word, is_long_number}
use Rattle.ded_reread.specs.ScriptWords.{IsName, IsText}

-- ---- cells before bytes

-- cells one after another, where these bytes come next
abbrev pub AreCellsBefore : List Cell → List ℕ → Type 0
AreCellsBefore [] next = Unit {0}
AreCellsBefore (cell ∷ cells) next = IsCell cell (flat_map cell_bytes cells ++ next) × AreCellsBefore cells next

cells_append : (cs ds : List Cell) (next : List ℕ) → AreCellsBefore cs (flat_map cell_bytes ds ++ next) → AreCellsBefore ds next → AreCellsBefore (cs ++ ds) next
cells_append [] ds next h k = k
cells_append (c ∷ cs) ds next h k = (
  subst (IsCell c) (sym (ap (λ (l : List ℕ). l ++ next) (flat_map-append cell_bytes cs ds) ∙ append_assoc (flat_map cell_bytes cs) (flat_map cell_bytes ds) next)) h.0,
  cells_append cs ds next h.1 k,
)

cells_end : (cs : List Cell) → AreCellsBefore cs [] → AreCells cs
cells_end [] h = tt
cells_end (c ∷ cs) h = (subst (IsCell c) (append-nil (flat_map cell_bytes cs)) h.0, cells_end cs h.1)

lexemes_append : (cs ds : List Cell) → lexemes_of (cs ++ ds) ≡ lexemes_of cs ++ lexemes_of ds
lexemes_append [] ds = refl
lexemes_append (GapCell g ∷ cs) ds = lexemes_append cs ds
lexemes_append (LexemeCell l ∷ cs) ds = ap (λ (ls : List Lexeme). l ∷ ls) (lexemes_append cs ds)

parts_append : (ps qs : List Part) (next : List ℕ) → AreParts ps (spelled qs ++ next) → AreParts qs next → AreParts (ps ++ qs) next
parts_append [] qs next h k = k
parts_append (p ∷ ps) qs next h k = (
  subst (IsPart p) (sym (ap (λ (l : List ℕ). l ++ next) (flat_map-append piece.part_bytes ps qs) ∙ append_assoc (spelled ps) (spelled qs) next)) h.0,
  parts_append ps qs next h.1 k,
)

-- ---- worded texts

-- bytes that would go on with a word, a number, a quoted text or a sign
abbrev pub glue_byte : ℕ → Bool
glue_byte b = numeral_byte b || ((b == 61) || ((b == 45) || (b == 39)))

-- none of these comes next
abbrev pub Fits : List ℕ → Type 0
Fits = BeginsNot glue_byte

abbrev pub Any : List ℕ → Type 0
Any next = Unit {0}

-- where bytes come next that pass the test
pub record WordedBefore (F : List ℕ → Type 0) (text : List ℕ) (ts : List Symbol) : Type 0 where
  pub cells : List Cell
  pub bytes : flat_map cell_bytes cells ≡ text
  pub symbols_are : map (symbol Two) (lexemes_of cells) ≡ ts
  pub words : list_any is_long_word (lexemes_of cells) ≡ false
  pub numbers : list_any (is_long_number Two) (lexemes_of cells) ≡ false
  pub each : (next : List ℕ) → F next → AreCellsBefore cells next
  pub parts : List Part
  pub spells : spelled parts ≡ text
  pub whole : (next : List ℕ) → F next → AreParts parts next

abbrev pub Worded : List ℕ → List Symbol → Type 0
Worded = WordedBefore Fits

abbrev pub Loose : List ℕ → List Symbol → Type 0
Loose = WordedBefore Any

-- ---- one text behind another

pub append : (F G : List ℕ → Type 0) (s t : List ℕ) (ts us : List Symbol) → WordedBefore F s ts → ((next : List ℕ) → G next → F (t ++ next)) → WordedBefore G t us → WordedBefore G (s ++ t) (ts ++ us)
append F G s t ts us v fits w = record {
  cells = v.cells ++ w.cells;
  bytes = flat_map-append cell_bytes v.cells w.cells ∙ ap₂ (λ (a b : List ℕ). a ++ b) v.bytes w.bytes;
  symbols_are = ap (map (symbol Two)) (lexemes_append v.cells w.cells) ∙ map-append (symbol Two) (lexemes_of v.cells) (lexemes_of w.cells) ∙ ap₂ (λ (a b : List Symbol). a ++ b) v.symbols_are w.symbols_are;
  words = ap (list_any is_long_word) (lexemes_append v.cells w.cells) ∙ list_any-append is_long_word (lexemes_of v.cells) (lexemes_of w.cells) ∙ ap₂ (λ (a b : Bool). a || b) v.words w.words;
  numbers = ap (list_any (is_long_number Two)) (lexemes_append v.cells w.cells) ∙ list_any-append (is_long_number Two) (lexemes_of v.cells) (lexemes_of w.cells) ∙ ap₂ (λ (a b : Bool). a || b) v.numbers w.numbers;
  each = λ next g. cells_append v.cells w.cells next (v.each (flat_map cell_bytes w.cells ++ next) (subst (λ (l : List ℕ). F (l ++ next)) (sym w.bytes) (fits next g))) (w.each next g);
  parts = v.parts ++ w.parts;
  spells = flat_map-append piece.part_bytes v.parts w.parts ∙ ap₂ (λ (a b : List ℕ). a ++ b) v.spells w.spells;
  whole = λ next g. parts_append v.parts w.parts next (v.whole (spelled w.parts ++ next) (subst (λ (l : List ℕ). F (l ++ next)) (sym w.spells) (fits next g))) (w.whole next g);
}

-- a text that fits goes on with what fits
pub fits_on : (t next : List ℕ) → Fits t → Fits next → Fits (t ++ next)
fits_on [] next h k = k
fits_on (b ∷ t) next h k = h

-- a text that fits behind one that may not be followed by anything
pub then_fitting : (s t : List ℕ) (ts us : List Symbol) → Worded s ts → Fits t → Worded t us → Worded (s ++ t) (ts ++ us)
then_fitting s t ts us v h w = append Fits Fits s t ts us v (λ next k. fits_on t next h k) w

-- any text behind a loose one
pub then_any : (F : List ℕ → Type 0) (s t : List ℕ) (ts us : List Symbol) → Loose s ts → WordedBefore F t us → WordedBefore F (s ++ t) (ts ++ us)
then_any F s t ts us v w = append Any F s t ts us v (λ next k. tt) w

-- less may come next
pub fewer : (F G : List ℕ → Type 0) (t : List ℕ) (ts : List Symbol) → ((next : List ℕ) → G next → F next) → WordedBefore F t ts → WordedBefore G t ts
fewer F G t ts h w = record {
  cells = w.cells;
  bytes = w.bytes;
  symbols_are = w.symbols_are;
  words = w.words;
  numbers = w.numbers;
  each = λ next g. w.each next (h next g);
  parts = w.parts;
  spells = w.spells;
  whole = λ next g. w.whole next (h next g);
}

pub as_worded : (t : List ℕ) (ts : List Symbol) → Loose t ts → Worded t ts
as_worded t ts w = fewer Any Fits t ts (λ next g. tt) w

pub nothing : (F : List ℕ → Type 0) → WordedBefore F [] []
nothing F = record {
  cells = [];
  bytes = refl;
  symbols_are = refl;
  words = refl;
  numbers = refl;
  each = λ next g. tt;
  parts = [];
  spells = refl;
  whole = λ next g. tt;
}

-- ---- bytes that are parts by themselves

abbrev pub plain_byte : ℕ → Bool
plain_byte b = not ((b == 39) || ((b == 45) || (b == 59)))

plain_part : (b : ℕ) → plain_byte b ≡ true → (b ≢ 39) × (b ≢ 45) × (b ≢ 59)
plain_part b h = (
  (λ e. true≢false (sym (subst (λ (x : ℕ). plain_byte x ≡ true) e h))),
  (λ e. true≢false (sym (subst (λ (x : ℕ). plain_byte x ≡ true) e h))),
  (λ e. true≢false (sym (subst (λ (x : ℕ). plain_byte x ≡ true) e h))),
)

plain_spelled : (t : List ℕ) → spelled (map Plain t) ≡ t
plain_spelled [] = refl
plain_spelled (b ∷ t) = ap (λ (l : List ℕ). b ∷ l) (plain_spelled t)

plain_parts : (t next : List ℕ) → Each plain_byte t → AreParts (map Plain t) next
plain_parts [] next h = tt
plain_parts (b ∷ t) next h = (plain_part b h.0, plain_parts t next h.1)

plain_from : (x y z : Bool) → x ≡ false → y ≡ false → z ≡ false → not (x || (y || z)) ≡ true
plain_from false false false e f g = refl
plain_from false false true e f g = absurd (true≢false g)
plain_from false true z e f g = absurd (true≢false f)
plain_from true y z e f g = absurd (true≢false e)

other_than : (test : ℕ → Bool) (b k : ℕ) → test b ≡ true → test k ≡ false → (b == k) ≡ false
other_than test b k h other = is_not b k (λ e. true≢false (sym (subst (λ (x : ℕ). test x ≡ true) e h) ∙ other))

plain_in : (test : ℕ → Bool) (t : List ℕ) → test 39 ≡ false → test 45 ≡ false → test 59 ≡ false → Each test t → Each plain_byte t
plain_in test [] e f g h = tt
plain_in test (b ∷ t) e f g h =
    (plain_from (b == 39) (b == 45) (b == 59) (other_than test b 39 h.0 e) (other_than test b 45 h.0 f) (other_than test b 59 h.0 g), plain_in test t e f g h.1)

and_both : (a b : Bool) → (a && b) ≡ true → (a ≡ true) × (b ≡ true)
and_both true true e = (refl, refl)
and_both true false e = absurd (true≢false (sym e))
and_both false b e = absurd (true≢false (sym e))

-- of bytes that are written out
pub each_of : (test : ℕ → Bool) (t : List ℕ) → list_all test t ≡ true → Each test t
each_of test [] e = tt
each_of test (b ∷ t) e = let h = and_both (test b) (list_all test t) e in (h.0, each_of test t h.1)

-- ---- one lexeme

pub one_lexeme : (F : List ℕ → Type 0) (l : Lexeme) → ((next : List ℕ) → F next → IsLexeme l next) → Each plain_byte (lexeme_bytes l) → is_long_word l ≡ false → is_long_number Two l ≡ false
    → WordedBefore F (lexeme_bytes l) (symbol Two l ∷ [])
one_lexeme F l h plain word number = record {
  cells = LexemeCell l ∷ [];
  bytes = append-nil (lexeme_bytes l);
  symbols_are = refl;
  words = ap (λ (b : Bool). b || false) word;
  numbers = ap (λ (b : Bool). b || false) number;
  each = λ next g. (h next g, tt);
  parts = map Plain (lexeme_bytes l);
  spells = plain_spelled (lexeme_bytes l);
  whole = λ next g. plain_parts (lexeme_bytes l) next plain;
}

pub blank : Loose (32 ∷ []) []
blank = record {
  cells = GapCell (Space 32) ∷ [];
  bytes = refl;
  symbols_are = refl;
  words = refl;
  numbers = refl;
  each = λ next g. (refl, tt);
  parts = Plain 32 ∷ [];
  spells = refl;
  whole = λ next g. plain_parts (32 ∷ []) next (each_of plain_byte (32 ∷ []) refl);
}

-- a sign that no longer one begins with
pub lone_sign : (s : List ℕ) → IsOneOf s lone_signs → list_all plain_byte s ≡ true → Loose s (sign_symbol Two s ∷ [])
lone_sign s h plain = one_lexeme Any (Sign s) (λ next g. inl h) (each_of plain_byte s plain) refl refl

-- one that `=` would make longer
pub open_sign : (s : List ℕ) → IsOneOf s open_signs → list_all plain_byte s ≡ true → WordedBefore (BeginsNot equals_byte) s (sign_symbol Two s ∷ [])
open_sign s h plain = one_lexeme (BeginsNot equals_byte) (Sign s) (λ next g. inr (inl (h, g))) (each_of plain_byte s plain) refl refl

no_dash : (next : List ℕ) → BeginsNot dash_byte next → NoDash next
no_dash [] h = tt
no_dash (b ∷ next) h = λ e. true≢false (sym (ap dash_byte e) ∙ h)

pub dash : WordedBefore (BeginsNot dash_byte) (45 ∷ []) (symbols.Minus ∷ [])
dash = record {
  cells = LexemeCell (Sign (45 ∷ [])) ∷ [];
  bytes = refl;
  symbols_are = refl;
  words = refl;
  numbers = refl;
  each = λ next g. (inr (inr (refl, g)), tt);
  parts = Dash ∷ [];
  spells = refl;
  whole = λ next g. (no_dash next g, tt);
}

-- what follows a word, a number and a quoted text
fits_word : (next : List ℕ) → Fits next → BeginsNot word_byte next
fits_word [] h = tt
fits_word (b ∷ next) h = (or_parts (word_byte b) (b == 46) (or_parts (numeral_byte b) ((b == 61) || ((b == 45) || (b == 39))) h).0).0

fits_number : (next : List ℕ) → Fits next → BeginsNot numeral_byte next
fits_number [] h = tt
fits_number (b ∷ next) h = (or_parts (numeral_byte b) ((b == 61) || ((b == 45) || (b == 39))) h).0

fits_quote : (next : List ℕ) → Fits next → BeginsNot quote_byte next
fits_quote [] h = tt
fits_quote (b ∷ next) h = (or_parts (b == 45) (b == 39) (or_parts (b == 61) ((b == 45) || (b == 39)) (or_parts (numeral_byte b) ((b == 61) || ((b == 45) || (b == 39))) h).1).1).1

-- a word of at most 64 bytes, as what it is in the language
pub word : (w : List ℕ) → BeginsWith letter_byte w → Each word_byte w → length w ≤ 64 → Worded w (word_symbol Two w ∷ [])
word w begins each short =
    let few : nat_lt 64 (length w) ≡ false = grind (arith, nat_tests) in
    one_lexeme Fits (Word w) (λ next g. (begins, each, fits_word next g)) (plain_in word_byte w refl refl refl each) few refl

pub name : (n : List ℕ) → IsName n → Worded n (Name n ∷ [])
name n h = subst (λ (s : Symbol). Worded n (s ∷ [])) h.free (word n h.begins h.each h.short)

-- a number below 2^63
pub number : (ds : List ℕ) → BeginsWith digit_byte ds → Each digit_byte ds → nat_le (2 ^ 63) (number_of ds) ≡ false → Worded ds (symbols.Number ds ∷ [])
number ds begins each short = one_lexeme Fits (Number ds) (λ next g. (begins, each, fits_number next g)) (plain_in digit_byte ds refl refl refl each) refl short

-- ---- quoted texts

-- behind the first quote: a quote that is written twice ends a part and begins one
abbrev quoted_parts : List ℕ → List ℕ → List Part
quoted_parts body [] = piece.Quoted body ∷ []
quoted_parts body (b ∷ t) = if b == 39 then piece.Quoted body ∷ quoted_parts [] t else quoted_parts (body ++ b ∷ []) t

abbrev IsBody : List ℕ → Type 0
IsBody = AllByRecursion (λ b. b ≢ 39)

body_more : (body : List ℕ) (b : ℕ) → IsBody body → b ≢ 39 → IsBody (body ++ b ∷ [])
body_more [] b h k = (k, tt)
body_more (c ∷ body) b h k = (h.0, body_more body b h.1 k)

quoted_spelled : (body t : List ℕ) → spelled (quoted_parts body t) ≡ 39 ∷ (body ++ (doubled t ++ 39 ∷ []))
quoted_spelled body [] = append-nil (39 ∷ body ++ 39 ∷ [])
quoted_spelled body (b ∷ t) = by (b == 39) (quoted_spelled [] t) (quoted_spelled (body ++ b ∷ []) t)
  where
    by : (x : Bool) → spelled (quoted_parts [] t) ≡ 39 ∷ (doubled t ++ 39 ∷ []) → spelled (quoted_parts (body ++ b ∷ []) t) ≡ 39 ∷ ((body ++ b ∷ []) ++ (doubled t ++ 39 ∷ []))
        → spelled (if x then piece.Quoted body ∷ quoted_parts [] t else quoted_parts (body ++ b ∷ []) t) ≡ 39 ∷ (body ++ (((if x then 39 ∷ 39 ∷ [] else b ∷ []) ++ doubled t) ++ 39 ∷ []))
    by true h k = ap (λ (l : List ℕ). (39 ∷ body ++ 39 ∷ []) ++ l) h ∙ ap (λ (l : List ℕ). 39 ∷ l) (append_assoc body (39 ∷ []) (39 ∷ (doubled t ++ 39 ∷ [])))
    by false h k = k ∙ ap (λ (l : List ℕ). 39 ∷ l) (append_assoc body (b ∷ []) (doubled t ++ 39 ∷ []))

quoted_whole : (body t next : List ℕ) → IsBody body → AreParts (quoted_parts body t) next
quoted_whole body [] next h = (h, tt)
quoted_whole body (b ∷ t) next h = by (b == 39) refl (quoted_whole [] t next tt) (λ k. quoted_whole (body ++ b ∷ []) t next k)
  where
    by : (x : Bool) → (b == 39) ≡ x → AreParts (quoted_parts [] t) next → (IsBody (body ++ b ∷ []) → AreParts (quoted_parts (body ++ b ∷ []) t) next)
        → AreParts (if x then piece.Quoted body ∷ quoted_parts [] t else quoted_parts (body ++ b ∷ []) t) next
    by true e k l = (h, k)
    by false e k l = l (body_more body b h (λ f. true≢false (sym (ap (λ (y : ℕ). y == 39) f) ∙ e)))

pub quoted_text : (t : List ℕ) → IsText t → Worded (quoted t) (symbols.Quoted t ∷ [])
quoted_text t h = record {
  cells = LexemeCell (Quoted t) ∷ [];
  bytes = append-nil (quoted t);
  symbols_are = refl;
  words = refl;
  numbers = refl;
  each = λ next g. ((h, fits_quote next g), tt);
  parts = quoted_parts [] t;
  spells = quoted_spelled [] t;
  whole = λ next g. quoted_whole [] t next tt;
}

-- ---- lines

-- behind a line feed
pub line_lexemes : (text : List ℕ) (ts : List Symbol) (w : Worded text ts) → AreLexemes (10 ∷ text) (lexemes_of w.cells)
line_lexemes text ts w = record {
  cells = GapCell (Space 10) ∷ w.cells;
  is = ap (λ (l : List ℕ). 10 ∷ l) w.bytes;
  each = (refl, cells_end w.cells (w.each [] tt));
  lexemes_are = refl;
}

pub line_whole : (text : List ℕ) (ts : List Symbol) → Worded text ts → (after : List ℕ) → IsWhole (10 ∷ text) (59 ∷ after)
line_whole text ts w after = record {
  parts = Plain 10 ∷ w.parts;
  is = ap (λ (l : List ℕ). 10 ∷ l) w.spells;
  each = (plain_part 10 refl, w.whole (59 ∷ after) refl);
}
