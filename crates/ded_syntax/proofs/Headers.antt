-- Reading the header front by front: it is read where it is spelled.
use Rattle.std.proofs.Common.{◌≡◌, ◌⊎◌, true≢false, ℕ, ◌+◌, ◌<◌, ◌≤◌, Bool, true, false, List, [], ◌∷◌, ◌++◌, length, map, drop, refl, sym, ap, subst, ◌∙◌, inl, inr, arith}
use Rattle.std.specs.Prelude.{◌==◌, ◌||◌, ◌^◌, nat_le, Option, Some, None, if◌then◌else◌}
use Rattle.std.proofs.lemmas.Bool.Decides.{nat_tests}
use Rattle.ded_grammar.specs.Building.{◌>>=◌}
use Rattle.ded_lex.specs.declared.front.Front.{Front}
use Rattle.ded_lex.specs.declared.token.Token.{Token}
use Rattle.ded_lex.specs.Fronts.{front_of, front_tokens}
use Rattle.ded_lex.specs.Lexemes.{Lexeme}
use Rattle.ded_lex.specs.Tokens.{AreTokens, lexeme}
use Rattle.ded_lex.proofs.Said.{tokens_say, said_by_tokens}
use Rattle.ded_lex.proofs.TokenLists.{IsReadTo, read_none, read_more, read_all, read_nothing}
use Rattle.ded_model.specs.declared.command.Language.TheVariants.{Opening}
use Rattle.ded_model.specs.Command.{CommandForm, header}
use Rattle.ded_model.specs.Form.{Form}
use Rattle.ded_syntax.specs.declared.header.Progress.{Progress}
use Rattle.ded_syntax.specs.declared.header.Progress.TheVariants.{Nothing, Named, Whole}
use Rattle.ded_terminals.specs.declared.item.Keyword.TheVariants as words
use Rattle.ded_terminals.specs.Symbols.{Symbol, Word, Number, symbol, number_of}
use Rattle.ded_terminals.specs.Literals.{Reader, exact, capped_reader}
use Rattle.ded_syntax.specs.Commands.{Plain, opens, defines, inserts_none, inserts, deletes, drops, keeps, shows, boxes, dumps, certifies, verifies_none, verifies, spell_plain, plain_form, Prefix, views, asks, queries, explains, prefix_form, SpellsCommand}
use Rattle.ded_syntax.specs.Headers.{is_dedale, is_two, header_step, header_walk, opening_symbols}
use Rattle.ded_syntax.specs.Spelling.{Spells, IsHeader, IsRead}
use Rattle.ded_syntax.specs.CommandReading.{plain}
use Rattle.ded_terminals.proofs.Binds.{some_same}
use Rattle.ded_syntax.proofs.CommandsRead.{plain_read}
use Rattle.ded_syntax.proofs.Decided.{spelling_decided}
use Rattle.ded_syntax.proofs.One.{one_command}
use Rattle.ded_syntax.proofs.Refused.{is_read}
use Rattle.ded_terminals.proofs.Seen.{one_list, no_lexemes}

-- ---- symbols

walk_on : (o : Option Progress) (ts us : List Symbol) → header_walk o (ts ++ us) ≡ header_walk (header_walk o ts) us
walk_on o [] us = refl
walk_on o (t ∷ ts) us = walk_on (o >>= λ p. header_step p t) ts us

walk_ended : (ts : List Symbol) → header_walk None ts ≡ None
walk_ended [] = refl
walk_ended (t ∷ ts) = walk_ended ts

-- nothing stands behind the end
never : (ts : List Symbol) → header_walk None ts ≡ Some Whole → ⊥
never ts e = none_some (sym (walk_ended ts) ∙ e)
  where
    none_some : None ≡ Some Whole → ⊥
    none_some f = cc

-- the symbols of a header, with its digits
pub record AreHeader (ts : List Symbol) : Type 0 where
  pub digits : List ℕ
  pub two : (number_of digits == 2) ≡ true
  pub are : ts ≡ Word words.Dedale ∷ Number digits ∷ []

plain_header : (value : Reader) (p : Plain) → header ≡ plain_form value p → AreHeader (spell_plain p)
plain_header value (opens d two) e = record { digits = d; two = two; are = refl }
plain_header value (defines n h) e = absurd cc
plain_header value (inserts_none n) e = absurd cc
plain_header value (inserts n c cs) e = absurd cc
plain_header value (deletes n d) e = absurd cc
plain_header value (drops n) e = absurd cc
plain_header value (keeps n) e = absurd cc
plain_header value (shows n) e = absurd cc
plain_header value (boxes n) e = absurd cc
plain_header value dumps e = absurd cc
plain_header value (certifies n m) e = absurd cc
plain_header value (verifies_none n m) e = absurd cc
plain_header value (verifies n m x xs) e = absurd cc

no_prefix : (p : Prefix) (f : Form) → header ≡ prefix_form p f → ⊥
no_prefix (views n h) f e = cc
no_prefix asks f e = cc
no_prefix (queries h) f e = cc
no_prefix (explains h) f e = cc

pub header_symbols : (value : Reader) (ts : List Symbol) (depth : ℕ) → SpellsCommand value ts header depth → AreHeader ts
header_symbols value ts depth (inl s) = subst AreHeader (sym s.spelled) (plain_header value s.plain s.means)
header_symbols value ts depth (inr s) = absurd (no_prefix s.before s.formula s.means)

spelled_walk : (ts : List Symbol) → AreHeader ts → header_walk (Some Nothing) ts ≡ Some Whole
spelled_walk ts h = ap (header_walk (Some Nothing)) h.are ∙ ap (λ (b : Bool). if b then Some Whole else None) h.two

dedale_is : (t : Symbol) → is_dedale t ≡ true → t ≡ Word words.Dedale
dedale_is (Word words.Dedale) e = refl
dedale_is t e = absurd cc

-- the digits of a number of value 2
abbrev IsTwo : Symbol → Type 0
IsTwo t = (d : List ℕ) × (t ≡ Number d) × ((number_of d == 2) ≡ true)

two_is : (t : Symbol) → is_two t ≡ true → IsTwo t
two_is (Number d) e = (d, refl, e)
two_is t e = absurd cc

module _ (value : Reader) where
  ends : (t u : Symbol) (us : List Symbol) → t ≡ Word words.Dedale → IsTwo u → header_walk (Some Whole) us ≡ Some Whole → SpellsCommand value (t ∷ u ∷ us) header 0
  ends t u [] e (d, f, two) w = inl (record { plain = opens d two; spelled = ap (λ (x : Symbol). x ∷ u ∷ []) e ∙ ap (λ (x : Symbol). Word words.Dedale ∷ x ∷ []) f; means = refl; flat = refl })
  ends t u (v ∷ us) e two w = absurd (never us w)

  behind : (t : Symbol) (us : List Symbol) → t ≡ Word words.Dedale → header_walk (Some Named) us ≡ Some Whole → SpellsCommand value (t ∷ us) header 0
  behind t [] e w = absurd cc
  behind t (u ∷ us) e w = by (is_two u) refl w
    where
      by : (b : Bool) → is_two u ≡ b → header_walk (if b then Some Whole else None) us ≡ Some Whole → SpellsCommand value (t ∷ u ∷ us) header 0
      by true f v = ends t u us e (two_is u f) v
      by false f v = absurd (never us v)

  walk_spelled : (ts : List Symbol) → header_walk (Some Nothing) ts ≡ Some Whole → SpellsCommand value ts header 0
  walk_spelled [] w = absurd cc
  walk_spelled (t ∷ ts) w = by (is_dedale t) refl w
    where
      by : (b : Bool) → is_dedale t ≡ b → header_walk (if b then Some Named else None) ts ≡ Some Whole → SpellsCommand value (t ∷ ts) header 0
      by true e v = behind t ts (dedale_is t e) v
      by false e v = absurd (never ts v)

-- ---- no refusal applies

two_short : (n : ℕ) → (n == 2) ≡ true → nat_le (2 ^ 63) n ≡ false
two_short n e = grind (arith, nat_tests)

pub header_read : (bytes : List ℕ) → IsHeader bytes → IsRead Opening bytes header
header_read bytes h =
    let s = header_symbols exact (map (symbol Opening) h.lexemes) 0 h.command in
    is_read Opening bytes (Word words.Dedale ∷ Number s.digits ∷ []) (record { lexemes = h.lexemes; are = h.are; seen = sym s.are }) (plain header) (plain_read capped_reader (opens s.digits s.two)) refl
    refl (ap (λ (b : Bool). b || false) (two_short (number_of s.digits) s.two)) refl refl header 0 (refl, refl) (omega arith)

-- ---- whether the header is spelled is decided

header_flat : (value : Reader) (ts : List Symbol) (depth : ℕ) → SpellsCommand value ts header depth → depth ≡ 0
header_flat value ts depth (inl s) = s.flat
header_flat value ts depth (inr s) = absurd (no_prefix s.before s.formula s.means)

abbrev is_header_form : CommandForm → Bool
is_header_form header = true
is_header_form _ = false

form_is : (x : CommandForm) → is_header_form x ≡ true → x ≡ header
form_is header e = refl
form_is _ e = absurd (true≢false (sym e))

pub header_decided : (bytes : List ℕ) → IsHeader bytes ⊎ (IsHeader bytes → ⊥)
header_decided bytes = elim (spelling_decided Opening bytes) [
  | inl s ↦ by s.0 s.1 s.2 (is_header_form s.0) refl
  | inr none ↦ inr (λ h. none header 0 h)
]
  where
    by : (x : CommandForm) (depth : ℕ) → Spells Opening bytes x depth → (b : Bool) → is_header_form x ≡ b → IsHeader bytes ⊎ (IsHeader bytes → ⊥)
    by x depth s true e =
        let t : Spells Opening bytes header depth = subst (λ (y : CommandForm). Spells Opening bytes y depth) (form_is x e) s in
        inl (subst (λ (n : ℕ). Spells Opening bytes header n) (header_flat exact _ depth t.command) t)
    by x depth s false e = inr (λ h. true≢false (ap is_header_form (one_command Opening bytes header x 0 depth h s).0 ∙ e))

-- ---- tokens

symbols_on : (bytes : List ℕ) (these those : List Token) → opening_symbols bytes (these ++ those) ≡ opening_symbols bytes these ++ opening_symbols bytes those
symbols_on bytes [] those = refl
symbols_on bytes (t ∷ ts) those = ap (λ (l : List Symbol). symbol Opening (lexeme bytes t) ∷ l) (symbols_on bytes ts those)

module _ (bytes : List ℕ) where
  -- the tokens of the header are read as such
  tokens_walk : (tokens : List Token) → AreTokens bytes tokens → IsHeader bytes → header_walk (Some Nothing) (opening_symbols bytes tokens) ≡ Some Whole
  tokens_walk tokens are h =
      ap (λ (ls : List Lexeme). header_walk (Some Nothing) (map (symbol Opening) ls)) (one_list bytes _ h.lexemes (tokens_say bytes tokens are) h.are)
      ∙ spelled_walk (map (symbol Opening) h.lexemes) (header_symbols exact (map (symbol Opening) h.lexemes) 0 h.command)

  -- up to a place there are tokens, and so much of the header
  pub record IsWalkedTo (at : ℕ) (progress : Progress) : Type 0 where
    pub tokens : List Token
    pub read : IsReadTo bytes at tokens
    pub walked : header_walk (Some Nothing) (opening_symbols bytes tokens) ≡ Some progress

  pub walk_none : IsWalkedTo 0 Nothing
  walk_none = record { tokens = []; read = read_none bytes; walked = refl }

  module _ (at : ℕ) (progress : Progress) (w : IsWalkedTo at progress) where
    walk_more_is : (more : List Token) → header_walk (Some Nothing) (opening_symbols bytes (w.tokens ++ more)) ≡ header_walk (Some progress) (opening_symbols bytes more)
    walk_more_is more =
        ap (header_walk (Some Nothing)) (symbols_on bytes w.tokens more)
        ∙ walk_on (Some Nothing) (opening_symbols bytes w.tokens) (opening_symbols bytes more)
        ∙ ap (λ (o : Option Progress). header_walk o (opening_symbols bytes more)) w.walked

    -- no front stands there
    pub walk_nothing : at < length bytes → front_of (drop at bytes) ≡ None → IsHeader bytes → ⊥
    walk_nothing lt e h = no_lexemes bytes (read_nothing bytes at w.tokens lt e w.read) h.lexemes h.are

    -- it goes on
    pub walk_more : (f : Front) (next : Progress) → front_of (drop at bytes) ≡ Some f → header_walk (Some progress) (opening_symbols bytes (front_tokens f.kind at (at + f.length))) ≡ Some next → IsWalkedTo (at + f.length) next
    walk_more f next e goes = record {
      tokens = w.tokens ++ front_tokens f.kind at (at + f.length);
      read = read_more bytes at w.tokens _ f e refl w.read;
      walked = walk_more_is (front_tokens f.kind at (at + f.length)) ∙ goes;
    }

    -- it doesn't
    pub walk_stops : (f : Front) → front_of (drop at bytes) ≡ Some f → header_walk (Some progress) (opening_symbols bytes (front_tokens f.kind at (at + f.length))) ≡ None → IsHeader bytes → ⊥
    walk_stops f e stops h =
        let here : List Token = front_tokens f.kind at (at + f.length) in
        let r : IsReadTo bytes (at + f.length) (w.tokens ++ here) = read_more bytes at w.tokens _ f e refl w.read in
        let t = said_by_tokens bytes h.lexemes h.are in
        let b = r.back t.0 t.1 in
        never (opening_symbols bytes b.0)
        (ap (λ (o : Option Progress). header_walk o (opening_symbols bytes b.0)) (sym (walk_more_is here ∙ stops))
        ∙ sym (walk_on (Some Nothing) (opening_symbols bytes (w.tokens ++ here)) (opening_symbols bytes b.0))
        ∙ ap (header_walk (Some Nothing)) (sym (symbols_on bytes (w.tokens ++ here) b.0))
        ∙ ap (λ (l : List Token). header_walk (Some Nothing) (opening_symbols bytes l)) (sym b.2)
        ∙ tokens_walk t.0 t.1 h)

    -- where nothing is left, the header was read whole, or none is there
    pub walk_all : length bytes ≤ at → progress ≡ Whole → IsHeader bytes
    walk_all le e =
        let are : AreTokens bytes w.tokens = read_all bytes at w.tokens le w.read in
        record {
          lexemes = map (lexeme bytes) w.tokens;
          are = tokens_say bytes w.tokens are;
          command = walk_spelled exact (opening_symbols bytes w.tokens) (w.walked ∙ ap Some e);
        }

    walk_part : length bytes ≤ at → IsHeader bytes → progress ≡ Whole
    walk_part le h = some_same progress Whole (sym w.walked ∙ tokens_walk w.tokens (read_all bytes at w.tokens le w.read) h)

    pub none_part : length bytes ≤ at → progress ≡ Nothing → IsHeader bytes → ⊥
    none_part le e h = differ (sym e ∙ walk_part le h)
      where
        differ : Nothing ≡ Whole → ⊥
        differ f = cc

    pub named_part : length bytes ≤ at → progress ≡ Named → IsHeader bytes → ⊥
    named_part le e h = differ (sym e ∙ walk_part le h)
      where
        differ : Named ≡ Whole → ⊥
        differ f = cc
