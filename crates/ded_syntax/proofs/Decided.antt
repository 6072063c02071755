-- Whether bytes spell a command is decided.
use Rattle.std.proofs.Common.{◌≡◌, ◌⊎◌, ℕ, zero, suc, ◌+◌, ◌≤◌, ◌<◌, Bool, true, false, List, [], ◌∷◌, length, drop, refl, inl, inr, sym, ap, ◌∙◌, true≢false, ⊎_elim, arith}
use Rattle.std.specs.Prelude.{map, Option, Some, None}
use Rattle.std.proofs.lemmas.List.{length-drop}
use Rattle.ded_lex.specs.declared.front.Front.{Front}
use Rattle.ded_lex.specs.declared.token.Token.{Token}
use Rattle.ded_lex.specs.Tokens.{AreTokens, lexeme}
use Rattle.ded_lex.specs.Fronts.{front_of}
use Rattle.ded_lex.proofs.FrontReads.{front_sound}
use Rattle.ded_lex.proofs.Said.{tokens_say}
use Rattle.ded_lex.proofs.TokenLists.{TokensAt, forth, back, no_tokens, none_left}
use Rattle.ded_model.specs.declared.command.Language.{Language}
use Rattle.ded_model.specs.declared.command.Refusal.{Refusal}
use Rattle.ded_model.specs.declared.command.Refusal.TheVariants.{Syntax}
use Rattle.ded_model.specs.Command.{CommandForm}
use Rattle.ded_terminals.specs.Symbols.{Symbol, symbol}
use Rattle.ded_syntax.specs.CommandReading.{Draft, draft_at, scans}
use Rattle.ded_syntax.specs.Drafts.{HasDraft}
use Rattle.ded_terminals.specs.Items.{AreSymbols}
use Rattle.ded_terminals.specs.Literals.{Reader, capped_reader}
use Rattle.ded_syntax.specs.Spelling.{Spells, AppliesIn, IsRead}
use Rattle.ded_terminals.proofs.Seen.{no_lexemes}
use Rattle.ded_terminals.proofs.Binds.{some_same}
use Rattle.ded_syntax.proofs.Refused.{no_token, not_drafted, some_spelled}

-- ---- tokens

-- there are tokens, or none
abbrev HasTokens : ℕ → List ℕ → Type 0
HasTokens at bytes = ((tokens : List Token) × TokensAt at bytes tokens) ⊎ ((tokens : List Token) → TokensAt at bytes tokens → ⊥)

behind_front : (at : ℕ) (bytes : List ℕ) (f : Front) → front_of bytes ≡ Some f → HasTokens (at + f.length) (drop f.length bytes) → HasTokens at bytes
behind_front at bytes f e (inl t) = inl (_, forth f at bytes t.0 e t.1)
behind_front at bytes f e (inr none) = inr (λ tokens t. let b = back f at bytes tokens e t in none b.0 b.1)

tokens_by : (at : ℕ) (b : ℕ) (bs : List ℕ) → ((at : ℕ) (cs : List ℕ) → length cs ≤ length bs → HasTokens at cs) → (o : Option Front) → front_of (b ∷ bs) ≡ o → HasTokens at (b ∷ bs)
tokens_by at b bs again None e = inr (λ tokens t. no_tokens at (b ∷ bs) tokens (omega arith) e t)
tokens_by at b bs again (Some f) e =
    let some : 0 < f.length = (front_sound (b ∷ bs) f e).1 in
    behind_front at (b ∷ bs) f e (again (at + f.length) (drop f.length (b ∷ bs)) (omega (arith, length-drop f.length (b ∷ bs), some)))

has_tokens : (k at : ℕ) (bytes : List ℕ) → length bytes ≤ k → HasTokens at bytes
has_tokens k at [] le = inl ([], none_left at [] refl)
has_tokens zero at (b ∷ bs) le = absurd (omega (arith, le))
has_tokens (suc k) at (b ∷ bs) le = tokens_by at b bs (λ at2 cs less. has_tokens k at2 cs (omega (arith, le, less))) _ refl

-- ---- drafts

some_none : {A : Type 0} (x : A) (o : Option A) → o ≡ Some x → o ≡ None → ⊥
some_none x None e f = cc
some_none x (Some y) e f = cc

no_draft : (value : Reader) (ts : List Symbol) → draft_at value ts ≡ None → HasDraft value ts → ⊥
no_draft value ts e (d, read, scanned) = some_none d (draft_at value ts) read e

no_formula : (value : Reader) (ts : List Symbol) (d : Draft) → draft_at value ts ≡ Some d → scans d ≡ false → HasDraft value ts → ⊥
no_formula value ts d e f (other, read, scanned) = true≢false (sym scanned ∙ ap scans (some_same other d (sym read ∙ e)) ∙ f)

-- ---- commands

module _ (language : Language) (bytes : List ℕ) where
  abbrev pub SomeCommand : Type 0
  SomeCommand = (c : CommandForm) × (depth : ℕ) × Spells language bytes c depth

  abbrev pub NoCommand : Type 0
  NoCommand = AppliesIn Syntax language bytes

  module _ (ts : List Symbol) (are : AreSymbols language bytes ts) where
    by_scanning : (d : Draft) → draft_at capped_reader ts ≡ Some d → (b : Bool) → scans d ≡ b → SomeCommand ⊎ NoCommand
    by_scanning d e true s = inl (some_spelled language bytes ts are d e s)
    by_scanning d e false s = inr (not_drafted language bytes ts are (no_formula capped_reader ts d e s)).applies

    by_drafts : (o : Option Draft) → draft_at capped_reader ts ≡ o → SomeCommand ⊎ NoCommand
    by_drafts None e = inr (not_drafted language bytes ts are (no_draft capped_reader ts e)).applies
    by_drafts (Some d) e = by_scanning d e (scans d) refl

  by_tokens : HasTokens 0 bytes → SomeCommand ⊎ NoCommand
  by_tokens (inl t) =
      let are : AreTokens bytes t.0 = record { cells = t.1.cells; is = t.1.is; each = t.1.each; tokens_are = t.1.tokens_are } in
      by_drafts (map (symbol language) (map (lexeme bytes) t.0)) (record { lexemes = map (lexeme bytes) t.0; are = tokens_say bytes t.0 are; seen = refl }) _ refl
  by_tokens (inr none) =
      inr (no_token language bytes (no_lexemes bytes (λ tokens are. none tokens (record { cells = are.cells; is = are.is; each = are.each; tokens_are = are.tokens_are })))).applies

  -- a command is spelled, or none
  pub spelling_decided : SomeCommand ⊎ NoCommand
  spelling_decided = by_tokens (has_tokens (length bytes) 0 bytes (omega arith))

  pub some_command : (NoCommand → ⊥) → SomeCommand
  some_command applies = ⊎_elim (λ (s : SomeCommand). s) (λ (a : NoCommand). absurd (applies a)) spelling_decided

  -- where no refusal applies, a command is read
  pub some_read : ((refusal : Refusal) → AppliesIn refusal language bytes → ⊥) → (c : CommandForm) × IsRead language bytes c
  some_read none =
      let s = some_command (none Syntax) in
      (s.0, record { depth = s.1; spells = s.2; accepted = none })
