-- The names of members are worded: a name, or that of its closure or its interior.
use Rattle.std.proofs.Common.{ℕ, List, [], ◌∷◌, ◌++◌, inl, inr, refl, arith}
use Rattle.std.specs.Prelude.{codes}
use Rattle.ded_lex.specs.Lexemes.{word_byte}
use Rattle.ded_terminals.specs.declared.item.Keyword.{Keyword}
use Rattle.ded_terminals.specs.declared.item.Keyword.TheVariants as words
use Rattle.ded_terminals.specs.Atoms.{Named, plain, closed, inner, spell_named, name_of}
use Rattle.ded_terminals.specs.MemberNames.{word_of}
use Rattle.ded_terminals.specs.Symbols.{Word, Name, Open, Close}
use Rattle.ded_reread.specs.ScriptWords.{IsName}
use Rattle.ded_reread.proofs.Worded.{Worded, Loose, Fits, then_any, then_fitting, as_worded, lone_sign, word, name, each_of}

pub opened : Loose (codes "(") (Open ∷ [])
opened = lone_sign (codes "(") (inl refl) refl

pub closing : Worded (codes ")") (Close ∷ [])
closing = as_worded (codes ")") (Close ∷ []) (lone_sign (codes ")") (inr (inl refl)) refl)

-- the name of a closure or of an interior, by its word
of_name : (w : List ℕ) (k : Keyword) (n : List ℕ) → Worded w (Word k ∷ []) → IsName n → Worded (w ++ (codes "(" ++ (n ++ codes ")"))) (Word k ∷ Open ∷ Name n ∷ Close ∷ [])
of_name w k n front h =
    then_fitting w (codes "(" ++ (n ++ codes ")")) (Word k ∷ []) (Open ∷ Name n ∷ Close ∷ []) front refl
    (then_any Fits (codes "(") (n ++ codes ")") (Open ∷ []) (Name n ∷ Close ∷ []) opened (then_fitting n (codes ")") (Name n ∷ []) (Close ∷ []) (name n h) refl closing))

pub named_worded : (m : Named) → IsName (word_of m) → Worded (name_of m) (spell_named m)
named_worded (plain n) h = name n h
named_worded (closed n) h = of_name (codes "closure") words.Closure n (word (codes "closure") refl (each_of word_byte (codes "closure") refl) (omega arith)) h
named_worded (inner n) h = of_name (codes "interior") words.Interior n (word (codes "interior") refl (each_of word_byte (codes "interior") refl) (omega arith)) h
