-- Bytes of language 2 that spell a command for both readers, with short words and numbers, no long row and no mark, and nested no
-- deeper than 64, are read.
use Rattle.std.proofs.Common.{◌≡◌, ◌≤◌, inl, inr, ℕ, Bool, false, List, map, sym, subst, ap, ◌∙◌, true≢false, arith}
use Rattle.std.specs.List.{list_any}
use Rattle.ded_lex.specs.Lexemes.{Lexeme}
use Rattle.ded_lex.specs.Tokens.{AreLexemes}
use Rattle.ded_model.specs.declared.command.Language.TheVariants.{Two}
use Rattle.ded_model.specs.declared.command.Refusal.{Refusal}
use Rattle.ded_model.specs.declared.command.Refusal.TheVariants.{Syntax, LongName, LongNumber, Deep}
use Rattle.ded_model.specs.Command.{CommandForm}
use Rattle.ded_model.specs.LongRows.{has_long_row}
use Rattle.ded_terminals.specs.Symbols.{symbol}
use Rattle.ded_terminals.specs.Literals.{exact, marked}
use Rattle.ded_syntax.specs.Marks.{has_mark}
use Rattle.ded_syntax.specs.Commands.{SpellsCommand}
use Rattle.ded_syntax.specs.Spelling.{Spells, IsRead, AppliesIn, SomeLexeme, SpellsLongLiteral, is_long_word, is_long_number}
use Rattle.ded_terminals.proofs.Seen.{one_list}
use Rattle.ded_syntax.proofs.One.{same_symbols, one_command}

module _ (bytes : List ℕ) (lexemes : List Lexeme) (are : AreLexemes bytes lexemes) (c : CommandForm) (depth : ℕ) (exactly : SpellsCommand exact (map (symbol Two) lexemes) c depth) where
  spelled : Spells Two bytes c depth
  spelled = record { lexemes = lexemes; are = are; command = exactly }

  no_lexeme : (test : Lexeme → Bool) → list_any test lexemes ≡ false → SomeLexeme test bytes → ⊥
  no_lexeme test h s = true≢false (sym s.passes ∙ ap (list_any test) (one_list bytes s.lexemes lexemes s.are are) ∙ h)

  no_mark : SpellsCommand marked (map (symbol Two) lexemes) c depth → has_mark c ≡ false → SpellsLongLiteral Two bytes → ⊥
  no_mark marking h s =
      let other = subst (λ (ls : List Lexeme). SpellsCommand marked (map (symbol Two) ls) s.command s.depth) (one_list bytes s.lexemes lexemes s.are are) s.spells in
      true≢false (sym s.long ∙ ap has_mark (same_symbols marked (map (symbol Two) lexemes) s.command c s.depth depth other marking).0 ∙ h)

  pub is_read : SpellsCommand marked (map (symbol Two) lexemes) c depth → list_any is_long_word lexemes ≡ false → list_any (is_long_number Two) lexemes ≡ false → has_mark c ≡ false → has_long_row c ≡ false → depth ≤ 64 → IsRead Two bytes c
  is_read marking words numbers marks rows low = record { depth = depth; spells = spelled; accepted = none_applies }
    where
      none_applies : (q : Refusal) → AppliesIn q Two bytes → ⊥
      none_applies Syntax a = a c depth spelled
      none_applies LongName a = no_lexeme is_long_word words a
      none_applies LongNumber (inl a) = no_lexeme (is_long_number Two) numbers a
      none_applies LongNumber (inr (inl a)) = no_mark marking marks a
      none_applies LongNumber (inr (inr a)) = true≢false (sym a.long ∙ ap has_long_row (one_command Two bytes a.command c a.depth depth a.spells spelled).0 ∙ rows)
      none_applies Deep a = absurd (omega (arith, (one_command Two bytes a.command c a.depth depth a.spells spelled).1, low, a.above))
      none_applies q a = a
