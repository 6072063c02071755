-- The symbols of bytes, from their tokens.
use Rattle.std.proofs.Common.{◌≡◌, ℕ, ◌+◌, ◌≤◌, List, [], ◌∷◌, length, ap, sym, ◌∙◌, subst, arith}
use Rattle.std.specs.Prelude.{map}
use Rattle.std.proofs.lemmas.List.{length-map}
use Rattle.ded_lex.specs.declared.token.Token.{Token}
use Rattle.ded_model.specs.declared.command.Language.{Language}
use Rattle.ded_lex.specs.Lexemes.{Lexeme}
use Rattle.ded_lex.specs.Tokens.{AreTokens, AreLexemes, AreInOrder, lexeme}
use Rattle.ded_lex.proofs.Said.{tokens_say, said_by_tokens}
use Rattle.ded_lex.proofs.Spans.{in_order}
use Rattle.ded_lex.proofs.TokenLists.{one_token_list}
use Rattle.ded_terminals.specs.declared.item.Item.{Item}
use Rattle.ded_terminals.specs.Symbols.{symbol}
use Rattle.ded_terminals.specs.Items.{seen, symbols, AreSymbols}

-- where there are no tokens, there are no lexemes
pub no_lexemes : (bytes : List ℕ) → ((tokens : List Token) → AreTokens bytes tokens → ⊥) → (lexemes : List Lexeme) → AreLexemes bytes lexemes → ⊥
no_lexemes bytes none lexemes are = let t = said_by_tokens bytes lexemes are in none t.0 t.1

pub one_list : (bytes : List ℕ) (these those : List Lexeme) → AreLexemes bytes these → AreLexemes bytes those → these ≡ those
one_list bytes these those x y =
    let s = said_by_tokens bytes these x in
    let t = said_by_tokens bytes those y in
    s.2 ∙ ap (map (lexeme bytes)) (one_token_list bytes s.0 t.0 s.1 t.1) ∙ sym t.2

-- the symbols of items that were made of tokens, which say what the piece says
pub symbols_are : (language : Language) (bytes piece : List ℕ) (tokens : List Token) (items : List Item) → AreLexemes piece (map (lexeme bytes) tokens) → symbols bytes items ≡ map (symbol language) (map (lexeme bytes) tokens) → AreSymbols language piece (symbols bytes items)
symbols_are language bytes piece tokens items are e = record { lexemes = map (lexeme bytes) tokens; are = are; seen = e }

-- tokens in order are no more than the bytes in which they stand
count : (tokens : List Token) (at limit : ℕ) → at ≤ limit → AreInOrder at limit tokens → at + length tokens ≤ limit
count [] at limit le order = omega (arith, le)
count (t ∷ ts) at limit le (begins, some, within, behind) = omega (arith, begins, some, count ts t.end limit within behind)

pub few_tokens : (bytes : List ℕ) (tokens slice : List Token) → length bytes ≤ 65536 → AreTokens bytes tokens → slice ≡ tokens → length slice ≤ 65536
few_tokens bytes tokens slice le are e = omega (arith, le, count tokens 0 (length bytes) (omega arith) (in_order bytes tokens are), ap length e)

pub few_items : (language : Language) (bytes : List ℕ) (tokens : List Token) (items : List Item) → length tokens ≤ 65536 → symbols bytes items ≡ map (symbol language) (map (lexeme bytes) tokens) → length items ≤ 65536
few_items language bytes tokens items le e =
    omega (arith, le, ap length e, length-map items (seen bytes), length-map (map (lexeme bytes) tokens) (symbol language), length-map tokens (lexeme bytes))

-- a slice of all tokens of bytes says what these say
pub slice_says : (bytes : List ℕ) (tokens slice : List Token) → AreTokens bytes tokens → slice ≡ tokens → AreLexemes bytes (map (lexeme bytes) slice)
slice_says bytes tokens slice are e = subst (λ (l : List Token). AreLexemes bytes (map (lexeme bytes) l)) (sym e) (tokens_say bytes tokens are)
