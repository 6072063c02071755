-- The words of transactions.
use Rattle.std.proofs.Common.{◌≡◌, ◌≢◌, ◌↔◌, ℕ, ◌≤◌, List, [], ◌∷◌, length, get_or, slice_index_or, refl, sym, ap, ◌∙◌, subst, arith}
use Rattle.std.specs.Prelude.{Option, Some, None, map, codes}
use Rattle.ded_lex.specs.declared.token.Token.{Token}
use Rattle.ded_lex.specs.declared.token.TokenKind.TheVariants as kind
use Rattle.ded_lex.specs.Lexemes.{Lexeme, Word}
use Rattle.ded_lex.specs.Tokens.{AreLexemes, lexeme, kind_of}
use Rattle.std.proofs.lemmas.List.{length-map}
use Rattle.ded_terminals.proofs.Seen.{one_list}
use Rattle.ded_shared.specs.declared.tag.Verb.{Verb}
use Rattle.ded_shared.specs.declared.tag.Verb.TheVariants.{Begin, Commit, Abort}
use Rattle.ded_shared.proofs.OneTag.{only_same}
use Rattle.ded_shared.specs.Deciding.{no_word, word_same}
use Rattle.ded_shared.specs.Tags.{IsWord}
use Rattle.ded_shared.specs.TagTokens.{AreTokensIn, AreTokensOf}
use Rattle.ded_shared.specs.Verbs.{verb_word}

verb_same : (v w : Verb) → verb_word v ≡ verb_word w → v ≡ w
verb_same Begin Begin e = refl
verb_same Begin Commit e = absurd (omega (arith, ap length e))
verb_same Begin Abort e = absurd (omega (arith, ap (λ (l : List ℕ). get_or l 0 0) e))
verb_same Commit Begin e = absurd (omega (arith, ap length e))
verb_same Commit Commit e = refl
verb_same Commit Abort e = absurd (omega (arith, ap length e))
verb_same Abort Begin e = absurd (omega (arith, ap (λ (l : List ℕ). get_or l 0 0) e))
verb_same Abort Commit e = absurd (omega (arith, ap length e))
verb_same Abort Abort e = refl

some_is : {x y : Verb} → Some x ≡ Some y → x ≡ y
some_is e = cc

pub none_is : {x : Verb} → None ≡ Some x → ⊥
none_is e = cc

-- the option is the word of transactions that the lexeme is, where it is one
abbrev pub IsVerbOf : Option Verb → Lexeme → Type 0
IsVerbOf o l = (verb : Verb) → (o ≡ Some verb) ↔ (l ≡ Word (verb_word verb))

pub verb_is : (v : Verb) (l : Lexeme) → l ≡ Word (verb_word v) → IsVerbOf (Some v) l
verb_is v l is = λ verb. (
  λ e. is ∙ ap (λ (w : Verb). Word (verb_word w)) (some_is e),
  λ f. ap Some (verb_same v verb (word_same (sym is ∙ f))),
)

pub verb_is_none : (l : Lexeme) → ((verb : Verb) → l ≡ Word (verb_word verb) → ⊥) → IsVerbOf None l
verb_is_none l none = λ verb. (λ e. absurd (none_is e), λ f. absurd (none verb f))

pub no_verb_kind : (l : Lexeme) → kind_of l ≢ kind.Word → IsVerbOf None l
no_verb_kind l ne = verb_is_none l (λ verb. no_word l ne (verb_word verb))

none_of_three : (word : List ℕ) → word ≢ codes "begin" → word ≢ codes "commit" → word ≢ codes "abort" → (verb : Verb) → Word word ≡ Word (verb_word verb) → ⊥
none_of_three word b c a Begin e = b (word_same e)
none_of_three word b c a Commit e = c (word_same e)
none_of_three word b c a Abort e = a (word_same e)

pub no_verb_word : (l : Lexeme) (word : List ℕ) → l ≡ Word word → word ≢ codes "begin" → word ≢ codes "commit" → word ≢ codes "abort" → IsVerbOf None l
no_verb_word l word is b c a = verb_is_none l (λ verb e. none_of_three word b c a verb (sym is ∙ e))

-- ---- tokens that are one word

one_long : (list : List Token) (d : Token) → length list ≡ 1 → list ≡ slice_index_or list 0 d ∷ []
one_long [] d e = absurd (omega (arith, e))
one_long (x ∷ []) d e = refl
one_long (x ∷ y ∷ zs) d e = absurd (omega (arith, e))

module _ (bytes : List ℕ) (list : List Token) (d : Token) (one : length list ≡ 1) where
  inside_one : AreTokensIn bytes list → AreTokensIn bytes (slice_index_or list 0 d ∷ [])
  inside_one inside = subst (AreTokensIn bytes) (one_long list d one) inside

  pub only_order : AreTokensIn bytes list → (slice_index_or list 0 d).start ≤ (slice_index_or list 0 d).end
  only_order inside = (inside_one inside).0.0

  pub only_within : AreTokensIn bytes list → (slice_index_or list 0 d).end ≤ length bytes
  only_within inside = (inside_one inside).0.1

  module _ (rest : List ℕ) (of : AreTokensOf rest bytes list) where
    told : AreLexemes rest (lexeme bytes (slice_index_or list 0 d) ∷ [])
    told = subst (λ (l : List Token). AreLexemes rest (map (lexeme bytes) l)) (one_long list d one) of.say

    said : (word : List ℕ) → lexeme bytes (slice_index_or list 0 d) ≡ Word word → IsWord word rest
    said word e = subst (λ (x : Lexeme). AreLexemes rest (x ∷ [])) e told

    only : (word : List ℕ) → IsWord word rest → lexeme bytes (slice_index_or list 0 d) ≡ Word word
    only word w = only_same (one_list rest (lexeme bytes (slice_index_or list 0 d) ∷ []) (Word word ∷ []) told w)

    -- what the only token says, the bytes say
    pub alone : (o : Option Verb) → IsVerbOf o (lexeme bytes (slice_index_or list 0 d)) → (verb : Verb) → (o ≡ Some verb) ↔ IsWord (verb_word verb) rest
    alone o v = λ verb. (λ e. said (verb_word verb) ((v verb).0 e), λ w. (v verb).1 (only (verb_word verb) w))

-- any other count of tokens
pub not_alone : (rest bytes : List ℕ) (tokens : List Token) → AreTokensOf rest bytes tokens → length tokens ≢ 1 → (verb : Verb) → (None ≡ Some verb) ↔ IsWord (verb_word verb) rest
not_alone rest bytes tokens of ne = λ verb. (
  λ e. absurd (none_is e),
  λ w. absurd (ne (sym (length-map tokens (lexeme bytes)) ∙ ap length (one_list rest (map (lexeme bytes) tokens) (Word (verb_word verb) ∷ []) of.say w))),
)
