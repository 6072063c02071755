-- Each statement is some tagged one.
use Rattle.std.proofs.Common.{◌≡◌, ◌≢◌, ◌⊎◌, ℕ, zero, suc, ◌+◌, ◌≤◌, ◌<◌, Bool, true, false, List, [], ◌∷◌, length, drop, refl, inl, inr, sym, ap, ◌∙◌, subst, true≢false, ⊎_elim, arith}
use Rattle.std.specs.Prelude.{Option, Some, None, map, codes}
use Rattle.std.specs.Str.{bytes_eq}
use Rattle.std.proofs.lemmas.Bool.Decides.{leb_tells}
use Rattle.std.proofs.lemmas.List.{length-drop}
use Rattle.std.proofs.lemmas.Slice.Eq.{bytes_eq-Decides}
use Rattle.ded_lex.specs.declared.front.Front.{Front}
use Rattle.ded_lex.specs.declared.token.Token.{Token}
use Rattle.ded_lex.specs.declared.token.TokenKind.TheVariants as kind
use Rattle.ded_lex.specs.Fronts.{front_of}
use Rattle.ded_lex.specs.Lexemes.{Lexeme, Word, Number, Decimal, Quoted, Sign}
use Rattle.ded_lex.specs.Pieces.{Statement, Whole}
use Rattle.ded_lex.specs.Pieces as pieces
use Rattle.ded_lex.specs.Tokens.{AreTokens, AreLexemes, kind_of, lexeme}
use Rattle.ded_lex.proofs.FrontReads.{front_sound}
use Rattle.ded_lex.proofs.Said.{tokens_say}
use Rattle.ded_lex.proofs.TokenLists.{TokensAt, forth, back, no_tokens, none_left, one_token_list}
use Rattle.ded_model.specs.declared.command.Language.TheVariants.{One}
use Rattle.ded_terminals.specs.Symbols.{number_of}
use Rattle.ded_syntax.proofs.Decided.{SomeCommand, NoCommand, spelling_decided}
use Rattle.ded_terminals.proofs.Seen.{no_lexemes, one_list}
use Rattle.ded_shared.specs.Tags.{Tagged, begins, commits, aborts, commands, other, IsSessionOf, HasTag, IsWord, SpellsCommand, Tags, TagsCommand, HasNoTag, IsTaggedPiece, IsTagged}

-- it is so, or it isn't
abbrev pub Decided : Type 0 → Type 0
Decided P = P ⊎ (P → ⊥)

-- ---- tokens

-- there are tokens, or none
abbrev HasTokens : ℕ → List ℕ → Type 0
HasTokens at bytes = ((tokens : List Token) × TokensAt at bytes tokens) ⊎ ((tokens : List Token) → TokensAt at bytes tokens → ⊥)

behind_front : (at : ℕ) (bytes : List ℕ) (f : Front) → front_of bytes ≡ Some f → HasTokens (at + f.length) (drop f.length bytes) → HasTokens at bytes
behind_front at bytes f e (inl t) = inl (_, forth f at bytes t.0 e t.1)
behind_front at bytes f e (inr none) = inr (λ tokens t. let b = back f at bytes tokens e t in none b.0 b.1)

tokens_by : (at : ℕ) (b : ℕ) (bs : List ℕ) → ((at : ℕ) (cs : List ℕ) → length cs ≤ length bs → HasTokens at cs) → (o : Option Front) → front_of (b ∷ bs) ≡ o → HasTokens at (b ∷ bs)
tokens_by at b bs again None e = inr (λ tokens t. no_tokens at (b ∷ bs) tokens (omega arith) e t)
tokens_by at b bs again (Some f) e =
    let some : 0 < f.length = (front_sound (b ∷ bs) f e).1 in
    behind_front at (b ∷ bs) f e (again (at + f.length) (drop f.length (b ∷ bs)) (omega (arith, length-drop f.length (b ∷ bs), some)))

has_tokens : (k at : ℕ) (bytes : List ℕ) → length bytes ≤ k → HasTokens at bytes
has_tokens k at [] le = inl ([], none_left at [] refl)
has_tokens zero at (b ∷ bs) le = absurd (omega (arith, le))
has_tokens (suc k) at (b ∷ bs) le = tokens_by at b bs (λ at2 cs less. has_tokens k at2 cs (omega (arith, le, less))) _ refl

abbrev NoTokens : List ℕ → Type 0
NoTokens bytes = (tokens : List Token) → AreTokens bytes tokens → ⊥

abbrev SomeTokens : List ℕ → Type 0
SomeTokens bytes = ((tokens : List Token) × AreTokens bytes tokens) ⊎ NoTokens bytes

from_start : (bytes : List ℕ) → HasTokens 0 bytes → SomeTokens bytes
from_start bytes (inl t) = inl (t.0, record { cells = t.1.cells; is = t.1.is; each = t.1.each; tokens_are = t.1.tokens_are })
from_start bytes (inr none) = inr (λ tokens are. none tokens (record { cells = are.cells; is = are.is; each = are.each; tokens_are = are.tokens_are }))

some_tokens : (bytes : List ℕ) → SomeTokens bytes
some_tokens bytes = from_start bytes (has_tokens (length bytes) 0 bytes (omega arith))

-- ---- lexemes

same_text : (xs ys : List ℕ) → Decided (xs ≡ ys)
same_text xs ys = by (bytes_eq xs ys) refl
  where
    by : (b : Bool) → bytes_eq xs ys ≡ b → Decided (xs ≡ ys)
    by true e = inl ((bytes_eq-Decides xs ys).0 e)
    by false e = inr (λ f. true≢false (sym ((bytes_eq-Decides xs ys).1 f) ∙ e))

-- words that are the same lexeme have the same bytes
pub word_same : {cs bs : List ℕ} → Word cs ≡ Word bs → cs ≡ bs
word_same e = cc

number_same : {cs bs : List ℕ} → Number cs ≡ Number bs → cs ≡ bs
number_same e = cc

sign_same : {cs bs : List ℕ} → Sign cs ≡ Sign bs → cs ≡ bs
sign_same e = cc

-- a lexeme of another kind is no word
pub no_word : (l : Lexeme) → kind_of l ≢ kind.Word → (bs : List ℕ) → l ≡ Word bs → ⊥
no_word l ne bs e = ne (ap kind_of e)

-- a lexeme of another kind than numbers is the number of no session
pub no_number : (l : Lexeme) → kind_of l ≢ kind.Number → (k : ℕ) → IsSessionOf k l → ⊥
no_number l ne k s = ne (ap kind_of s.is)

-- a lexeme of another kind is no sign
pub no_sign : (l : Lexeme) → kind_of l ≢ kind.Sign → (bs : List ℕ) → l ≡ Sign bs → ⊥
no_sign l ne bs e = ne (ap kind_of e)

is_word : (l : Lexeme) (bs : List ℕ) → Decided (l ≡ Word bs)
is_word (Word cs) bs = ⊎_elim (λ (e : cs ≡ bs). inl (ap Word e)) (λ (n : cs ≡ bs → ⊥). inr (λ e. n (word_same e))) (same_text cs bs)
is_word (Number cs) bs = inr (no_word (Number cs) (λ e. cc) bs)
is_word (Decimal cs) bs = inr (no_word (Decimal cs) (λ e. cc) bs)
is_word (Quoted cs) bs = inr (no_word (Quoted cs) (λ e. cc) bs)
is_word (Sign cs) bs = inr (no_word (Sign cs) (λ e. cc) bs)

is_sign : (l : Lexeme) (bs : List ℕ) → Decided (l ≡ Sign bs)
is_sign (Sign cs) bs = ⊎_elim (λ (e : cs ≡ bs). inl (ap Sign e)) (λ (n : cs ≡ bs → ⊥). inr (λ e. n (sign_same e))) (same_text cs bs)
is_sign (Number cs) bs = inr (no_sign (Number cs) (λ e. cc) bs)
is_sign (Decimal cs) bs = inr (no_sign (Decimal cs) (λ e. cc) bs)
is_sign (Quoted cs) bs = inr (no_sign (Quoted cs) (λ e. cc) bs)
is_sign (Word cs) bs = inr (no_sign (Word cs) (λ e. cc) bs)

abbrev NoSession : Lexeme → Type 0
NoSession l = (k : ℕ) → IsSessionOf k l → ⊥

abbrev SomeSession : Lexeme → Type 0
SomeSession l = ((k : ℕ) × IsSessionOf k l) ⊎ NoSession l

-- a lexeme is the number of one session at most
pub one_session : (l : Lexeme) (k j : ℕ) → IsSessionOf k l → IsSessionOf j l → k ≡ j
one_session l k j s t = sym s.value ∙ ap number_of (number_same (sym s.is ∙ t.is)) ∙ t.value

-- where digits are the number of session k, they write k
pub value_is : (digits : List ℕ) (k : ℕ) → IsSessionOf k (Number digits) → number_of digits ≡ k
value_is digits k s = ap number_of (number_same s.is) ∙ s.value

session_by : (digits : List ℕ) → ((1 ≤ number_of digits) ⊎ (number_of digits < 1)) → ((number_of digits ≤ 64) ⊎ (64 < number_of digits)) → SomeSession (Number digits)
session_by digits (inl low) (inl high) = inl (number_of digits, record { digits = digits; is = refl; value = refl; low = low; high = high })
session_by digits (inr low) high = inr (λ k s. absurd (omega (arith, low, value_is digits k s, s.low)))
session_by digits (inl low) (inr high) = inr (λ k s. absurd (omega (arith, high, value_is digits k s, s.high)))

le_or : (a b : ℕ) → (a ≤ b) ⊎ (b < a)
le_or a b = ⊎_elim (λ h. inl h.1) (λ h. inr h.1) (leb_tells a b)

some_session : (l : Lexeme) → SomeSession l
some_session (Number digits) = session_by digits (le_or 1 (number_of digits)) (le_or (number_of digits) 64)
some_session (Word cs) = inr (no_number (Word cs) (λ e. cc))
some_session (Decimal cs) = inr (no_number (Decimal cs) (λ e. cc))
some_session (Quoted cs) = inr (no_number (Quoted cs) (λ e. cc))
some_session (Sign cs) = inr (no_number (Sign cs) (λ e. cc))

-- ---- tags

first_same : {A : Type 0} {x y u v : A} {xs ys : List A} → x ∷ y ∷ xs ≡ u ∷ v ∷ ys → x ≡ u
first_same e = cc

second_same : {A : Type 0} {x y u v : A} {xs ys : List A} → x ∷ y ∷ xs ≡ u ∷ v ∷ ys → y ≡ v
second_same e = cc

-- bytes have one tag at most
pub one_tag : (bytes : List ℕ) (k j : ℕ) (rest end : List ℕ) → HasTag bytes k rest → HasTag bytes j end → (k ≡ j) × (rest ≡ end)
one_tag bytes k j rest end s t =
    let same : s.number ∷ s.colon ∷ s.more ≡ t.number ∷ t.colon ∷ t.more = one_token_list bytes _ _ s.are t.are in (
      one_session (lexeme bytes t.number) k j (subst (λ (x : Token). IsSessionOf k (lexeme bytes x)) (first_same same) s.is_number) t.is_number,
      s.behind ∙ ap (λ (x : Token). drop x.end bytes) (second_same same) ∙ sym t.behind,
    )

-- the bytes have no tag
abbrev pub NoTag : List ℕ → Type 0
NoTag bytes = (k : ℕ) (rest : List ℕ) → HasTag bytes k rest → ⊥

abbrev SomeTag : List ℕ → Type 0
SomeTag bytes = ((k : ℕ) × (rest : List ℕ) × HasTag bytes k rest) ⊎ NoTag bytes

-- bytes that can't be cut into tokens have no tag
pub untagged_tokens : (bytes : List ℕ) → NoTokens bytes → NoTag bytes
untagged_tokens bytes none k rest t = none (t.number ∷ t.colon ∷ t.more) t.are

-- nor have bytes of fewer than two tokens
pub untagged_few : (bytes : List ℕ) (tokens : List Token) → AreTokens bytes tokens → length tokens < 2 → NoTag bytes
untagged_few bytes tokens are few k rest t = omega (arith, few, ap length (one_token_list bytes tokens (t.number ∷ t.colon ∷ t.more) are t.are))

-- nor have bytes whose first token isn't the number of a session
pub untagged_number : (bytes : List ℕ) (first second : Token) (others : List Token) → AreTokens bytes (first ∷ second ∷ others) → ((k : ℕ) → IsSessionOf k (lexeme bytes first) → ⊥) → NoTag bytes
untagged_number bytes first second others are none k rest t =
    none k (subst (λ (x : Token). IsSessionOf k (lexeme bytes x)) (first_same (one_token_list bytes _ _ t.are are)) t.is_number)

-- nor have bytes whose second token is no colon
pub untagged_colon : (bytes : List ℕ) (first second : Token) (others : List Token) → AreTokens bytes (first ∷ second ∷ others) → (lexeme bytes second ≡ Sign (codes ":") → ⊥) → NoTag bytes
untagged_colon bytes first second others are none k rest t =
    none (ap (lexeme bytes) (second_same (one_token_list bytes _ _ are t.are)) ∙ t.is_colon)

tag_by : (bytes : List ℕ) (first second : Token) (others : List Token) → AreTokens bytes (first ∷ second ∷ others) → SomeSession (lexeme bytes first) → Decided (lexeme bytes second ≡ Sign (codes ":")) → SomeTag bytes
tag_by bytes first second others are (inl s) (inl c) = inl (
  s.0,
  drop second.end bytes,
  record {
    number = first;
    colon = second;
    more = others;
    are = are;
    is_number = s.1;
    is_colon = c;
    behind = refl;
  },
)
tag_by bytes first second others are (inr none) c = inr (untagged_number bytes first second others are none)
tag_by bytes first second others are (inl s) (inr none) = inr (untagged_colon bytes first second others are none)

tag_of_tokens : (bytes : List ℕ) (tokens : List Token) → AreTokens bytes tokens → SomeTag bytes
tag_of_tokens bytes [] are = inr (untagged_few bytes [] are (omega arith))
tag_of_tokens bytes (t ∷ []) are = inr (untagged_few bytes (t ∷ []) are (omega arith))
tag_of_tokens bytes (t ∷ u ∷ ts) are = tag_by bytes t u ts are (some_session (lexeme bytes t)) (is_sign (lexeme bytes u) (codes ":"))

some_tag : (bytes : List ℕ) → SomeTag bytes
some_tag bytes = by (some_tokens bytes)
  where
    by : SomeTokens bytes → SomeTag bytes
    by (inl t) = tag_of_tokens bytes t.0 t.1
    by (inr none) = inr (untagged_tokens bytes none)

-- ---- what stands behind a tag

only_word : (ls : List Lexeme) (word : List ℕ) → Decided (ls ≡ Word word ∷ [])
only_word [] word = inr (λ e. cc)
only_word (l ∷ []) word = ⊎_elim (λ (e : l ≡ Word word). inl (ap (λ (x : Lexeme). x ∷ []) e)) (λ (n : l ≡ Word word → ⊥). inr (λ (e : l ∷ [] ≡ Word word ∷ []). n cc)) (is_word l word)
only_word (l ∷ m ∷ ls) word = inr (λ e. cc)

word_by : (word bytes : List ℕ) → SomeTokens bytes → Decided (IsWord word bytes)
word_by word bytes (inr none) = inr (no_lexemes bytes none (Word word ∷ []))
word_by word bytes (inl t) =
    let told : AreLexemes bytes (map (lexeme bytes) t.0) = tokens_say bytes t.0 t.1 in
    ⊎_elim
    (λ (e : map (lexeme bytes) t.0 ≡ Word word ∷ []). inl (subst (AreLexemes bytes) e told))
    (λ (n : map (lexeme bytes) t.0 ≡ Word word ∷ [] → ⊥). inr (λ w. n (one_list bytes _ _ told w)))
    (only_word (map (lexeme bytes) t.0) word)

some_word : (word bytes : List ℕ) → Decided (IsWord word bytes)
some_word word bytes = word_by word bytes (some_tokens bytes)

some_spelled : (bytes : List ℕ) → Decided (SpellsCommand bytes)
some_spelled bytes = ⊎_elim
    (λ (s : SomeCommand One bytes). inl (record { command = s.0; depth = s.1; spells = s.2 }))
    (λ (n : NoCommand One bytes). inr (λ s. n s.command s.depth s.spells))
    (spelling_decided One bytes)

-- ---- statements

abbrev SomePiece : List ℕ → Type 0
SomePiece bytes = (x : Tagged) × IsTaggedPiece bytes x

untagged : (bytes : List ℕ) → NoTag bytes → HasNoTag bytes
untagged bytes none = record {
  begins = λ k t. none k t.rest t.tag;
  commits = λ k t. none k t.rest t.tag;
  aborts = λ k t. none k t.rest t.tag;
  commands = λ k rest t. none k rest t.tag;
}

module _ (bytes : List ℕ) (k : ℕ) (rest : List ℕ) (tag : HasTag bytes k rest) where
  no_word_behind : (word : List ℕ) → (IsWord word rest → ⊥) → (j : ℕ) → Tags word bytes j → ⊥
  no_word_behind word none j t = none (subst (IsWord word) (one_tag bytes j k t.rest rest t.tag tag).1 t.is_word)

  no_command_behind : (SpellsCommand rest → ⊥) → (j : ℕ) (end : List ℕ) → TagsCommand bytes j end → ⊥
  no_command_behind none j end t = none (subst SpellsCommand (one_tag bytes j k end rest t.tag tag).1 t.spells)

  piece_by : length bytes ≤ 65536 → Decided (IsWord (codes "begin") rest) → Decided (IsWord (codes "commit") rest) → Decided (IsWord (codes "abort") rest) → Decided (SpellsCommand rest) → SomePiece bytes
  piece_by short (inl w) c a s = (begins k, (short, record { rest = rest; tag = tag; is_word = w }))
  piece_by short (inr b) (inl w) a s = (commits k, (short, record { rest = rest; tag = tag; is_word = w }))
  piece_by short (inr b) (inr c) (inl w) s = (aborts k, (short, record { rest = rest; tag = tag; is_word = w }))
  piece_by short (inr b) (inr c) (inr a) (inl s) = (commands k rest, (short, record { tag = tag; spells = s }))
  piece_by short (inr b) (inr c) (inr a) (inr s) = (
    other (Whole []),
    inr (
      short,
      record {
        begins = no_word_behind (codes "begin") b;
        commits = no_word_behind (codes "commit") c;
        aborts = no_word_behind (codes "abort") a;
        commands = no_command_behind s;
      },
      refl,
    ),
  )

piece_of_tag : (bytes : List ℕ) → length bytes ≤ 65536 → SomeTag bytes → SomePiece bytes
piece_of_tag bytes short (inl t) =
    piece_by bytes t.0 t.1 t.2 short (some_word (codes "begin") t.1) (some_word (codes "commit") t.1) (some_word (codes "abort") t.1) (some_spelled t.1)
piece_of_tag bytes short (inr none) = (other (Whole []), inr (short, untagged bytes none, refl))

some_piece : (bytes : List ℕ) → ((length bytes ≤ 65536) ⊎ (65536 < length bytes)) → SomePiece bytes
some_piece bytes (inl short) = piece_of_tag bytes short (some_tag bytes)
some_piece bytes (inr long) = (other (Whole bytes), inl (long, refl))

-- each statement is some tagged one
pub some_tagged : (s : Statement) → (x : Tagged) × IsTagged s x
some_tagged (Whole bytes) = some_piece bytes (le_or (length bytes) 65536)
some_tagged (pieces.Unfinished rest) = (other (pieces.Unfinished rest), refl)
