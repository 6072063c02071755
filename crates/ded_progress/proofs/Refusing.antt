-- Bytes are read as a command, or some refusal is the least that applies to them.
use Rattle.std.proofs.Common.{◌≡◌, ◌≢◌, ◌<◌, ◌⊎◌, inl, inr, ⊎_elim, ℕ, Bool, true, false, List, map, refl, sym, ◌∙◌, arith}
use Rattle.std.specs.Prelude.{Some}
use Rattle.std.specs.List.{list_any}
use Rattle.std.proofs.lemmas.Bool.{or_parts}
use Rattle.std.proofs.lemmas.Bool.Decides.{leb_tells}
use Rattle.ded_model.specs.declared.command.Language.{Language}
use Rattle.ded_model.specs.declared.command.Refusal.{Refusal}
use Rattle.ded_model.specs.declared.command.Refusal.TheVariants.{Syntax, LongName, LongNumber, Deep, Memory}
use Rattle.ded_model.specs.Command.{CommandForm}
use Rattle.ded_model.specs.LongRows.{is_long_atom}
use Rattle.ded_model.specs.Refusals.{refusal_number}
use Rattle.ded_terminals.specs.Items.{is_long_name, is_long_literal, AreSymbols}
use Rattle.ded_terminals.specs.Literals.{exact, capped_reader}
use Rattle.ded_terminals.specs.Symbols.{Symbol, symbol}
use Rattle.ded_syntax.specs.CommandReading.{Draft, draft_at, scans}
use Rattle.ded_syntax.specs.Drafts.{some_in_draft}
use Rattle.ded_syntax.specs.Marks.{is_marked_atom, is_unfit_atom}
use Rattle.ded_syntax.specs.Meaning.{Means}
use Rattle.ded_syntax.specs.Spelling.{Spells, AppliesIn, IsLeastIn, IsRead}
use Rattle.ded_syntax.proofs.CommandsRead.{command_read}
use Rattle.ded_syntax.proofs.Decided.{spelling_decided}
use Rattle.ded_syntax.proofs.DraftsAlike.{means_scans, scans_means, other_draft}
use Rattle.ded_syntax.proofs.Refused.{is_deep, is_read, is_unfit, has_literal, long_name}
use Rattle.ded_syntax.proofs.Unfit.{unfit_draft}

module _ (language : Language) (bytes : List ℕ) where
  -- they are read as a command, or refused by themselves
  abbrev pub AreDecided : Type 0
  AreDecided = ((x : CommandForm) × IsRead language bytes x) ⊎ ((r : Refusal) × (r ≢ Memory) × IsLeastIn r language bytes)

  none_below : (q : Refusal) → refusal_number q < 3 → AppliesIn q language bytes → ⊥
  none_below Syntax lt a = absurd (omega (arith, lt))
  none_below LongName lt a = absurd (omega (arith, lt))
  none_below LongNumber lt a = absurd (omega (arith, lt))
  none_below Deep lt a = absurd (omega (arith, lt))
  none_below q lt a = a

  module _ (ts : List Symbol) (are : AreSymbols language bytes ts) (d : Draft) (read : draft_at capped_reader ts ≡ Some d) (scanned : scans d ≡ true) where
    by_nesting : list_any is_long_name ts ≡ false → list_any is_long_literal ts ≡ false → some_in_draft is_marked_atom d ≡ false → some_in_draft is_long_atom d ≡ false
        → (x : CommandForm) (depth : ℕ) → Means d x depth → AreDecided
    by_nesting names literals marks rows x depth m = ⊎_elim
        (λ t. inl (x, is_read language bytes ts are d read scanned names literals marks rows x depth m t.1))
        (λ f. inr (Deep, (λ e. cc), is_deep language bytes ts are d read scanned names literals marks rows x depth m f.1))
        (leb_tells depth 64)

    by_rows : list_any is_long_name ts ≡ false → list_any is_long_literal ts ≡ false → (b : Bool) → some_in_draft is_unfit_atom d ≡ b → AreDecided
    by_rows names literals true e = inr (LongNumber, (λ k. cc), is_unfit language bytes ts are d read scanned names literals e)
    by_rows names literals false e =
        let both = or_parts _ _ (sym (unfit_draft d) ∙ e) in
        let m = scans_means d scanned in
        by_nesting names literals both.0 both.1 m.0 m.1 m.2

    by_literals : list_any is_long_name ts ≡ false → (b : Bool) → list_any is_long_literal ts ≡ b → AreDecided
    by_literals names true e = inr (LongNumber, (λ k. cc), has_literal language bytes ts are d read scanned names e)
    by_literals names false e = by_rows names e (some_in_draft is_unfit_atom d) refl

    by_names : (b : Bool) → list_any is_long_name ts ≡ b → AreDecided
    by_names true e = inr (LongName, (λ k. cc), long_name language bytes ts are d read scanned e)
    by_names false e = by_literals e (list_any is_long_literal ts) refl

  by_spelling : ((x : CommandForm) × (depth : ℕ) × Spells language bytes x depth) ⊎ AppliesIn Syntax language bytes → AreDecided
  by_spelling (inl s) =
      let ts : List Symbol = map (symbol language) s.2.lexemes in
      let r = command_read exact ts s.0 s.1 s.2.command in
      let d = other_draft exact capped_reader ts r.0 r.1 (means_scans r.0 s.0 s.1 r.2) in
      by_names ts (record { lexemes = s.2.lexemes; are = s.2.are; seen = refl }) d.0 d.1 d.2 (list_any is_long_name ts) refl
  by_spelling (inr a) = inr (Syntax, (λ e. cc), record { applies = a; least = none_below })

  pub bytes_decided : AreDecided
  bytes_decided = by_spelling (spelling_decided language bytes)
