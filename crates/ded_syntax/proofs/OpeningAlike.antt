-- What the plain language spells, the opening one spells alike, and it isn't the header.
use Rattle.std.proofs.Common.{◌≡◌, ℕ, Bool, false, List, [], ◌∷◌, map, sym, ap, ◌∙◌, subst, true≢false}
use Rattle.ded_lex.specs.Lexemes.{Lexeme}
use Rattle.ded_model.specs.declared.command.Language.TheVariants.{Opening, One}
use Rattle.ded_model.specs.declared.command.Refusal.{Refusal}
use Rattle.ded_model.specs.Command.{CommandForm}
use Rattle.ded_terminals.specs.Symbols.{Symbol, symbol}
use Rattle.ded_terminals.specs.Literals.{exact}
use Rattle.ded_syntax.specs.Headers.{is_dedale}
use Rattle.ded_syntax.specs.Spelling.{Spells, IsHeader, AppliesIn}
use Rattle.ded_syntax.proofs.Headers.{AreHeader, header_symbols}
use Rattle.ded_syntax.proofs.PlainAlike.{plain_alike, spelled_too, spelled_plainly, refused_alike}
use Rattle.ded_syntax.proofs.UsedWords.{no_dedale}

-- what is spelled in the plain language isn't the header
first_is : (ls : List Lexeme) → AreHeader (map (symbol One) ls) → ⊥
first_is [] h = nothing h.are
  where
    nothing : {s t : Symbol} → [] ≡ s ∷ t ∷ [] → ⊥
    nothing e = cc
first_is (t ∷ ts) h = true≢false (sym (ap (λ (l : List Symbol). first l) h.are) ∙ no_dedale t)
  where
    first : List Symbol → Bool
    first [] = false
    first (u ∷ us) = is_dedale u

pub no_header : (bytes : List ℕ) (x : CommandForm) (depth : ℕ) → Spells One bytes x depth → IsHeader bytes → ⊥
no_header bytes x depth s h =
    first_is h.lexemes
    (subst AreHeader (sym ((plain_alike Opening bytes x depth s).symbols h.lexemes h.are)) (header_symbols exact (map (symbol Opening) h.lexemes) 0 h.command))

pub opening_spelled : (bytes : List ℕ) (x : CommandForm) (depth : ℕ) → Spells One bytes x depth → Spells Opening bytes x depth
opening_spelled bytes x depth s = spelled_too Opening bytes x depth s

pub spelled_back : (bytes : List ℕ) (x : CommandForm) (depth : ℕ) → Spells One bytes x depth → (y : CommandForm) (n : ℕ) → Spells Opening bytes y n → Spells One bytes y n
spelled_back bytes x depth s y n t = spelled_plainly Opening bytes x depth s y n t

pub refused_back : (bytes : List ℕ) (x : CommandForm) (depth : ℕ) → Spells One bytes x depth → (q : Refusal) → AppliesIn q Opening bytes → AppliesIn q One bytes
refused_back bytes x depth s q h = (refused_alike Opening bytes x depth s q).0 h
