-- Drafts as values of the reader, and what holds of each result.
use Rattle.std.proofs.Common.{◌≡◌, Bool, true, false, List, refl, sym, ap, subst, ◌∙◌}
use Rattle.std.specs.Prelude.{◌↔◌, IsTrue}
use Rattle.ded_grammar.specs.declared.terminal.Terminal.{Terminal}
use Rattle.ded_grammar.specs.declared.scan.Spot.TheVariants.{Start}
use Rattle.ded_grammar.specs.Forms.{terminal_forms}
use Rattle.ded_grammar.specs.Scanning.{scan}
use Rattle.ded_grammar.specs.Spelling.{SpellsDeep}
use Rattle.ded_grammar.specs.Trees.{TerminalForm, Whole, spell}
use Rattle.ded_grammar.proofs.Sound.{spelled}
use Rattle.ded_grammar.proofs.Tells.{scanned}
use Rattle.ded_syntax.specs.CommandReading as reading
use Rattle.ded_syntax.specs.Meaning.{MeansDeep}

-- whether the terminals spell a formula is what scanning them says
pub scan_told : (ps : List TerminalForm) (b : Bool) → (IsTrue b ↔ ((w : Whole) × (spell w ≡ ps))) → b ≡ scan Start 0 ps
scan_told ps true h = let w = h.0 refl in sym (ap (scan Start 0) (sym w.1) ∙ scanned w.0)
scan_told ps false h = sym (by (scan Start 0 ps) refl)
  where
    differ : false ≡ true → ⊥
    differ e = cc

    by : (c : Bool) → scan Start 0 ps ≡ c → scan Start 0 ps ≡ false
    by true e = absurd (differ (h.1 (spelled ps e)))
    by false e = e

module _ (d : reading.Draft) (h : reading.Head) (ps qs : List Terminal) (is : d ≡ reading.formed h (terminal_forms qs)) (same : ps ≡ qs) where
  pub formed_scans : (b : Bool) → (IsTrue b ↔ ((w : Whole) × (spell w ≡ terminal_forms ps))) → b ≡ reading.scans d
  formed_scans b told = scan_told (terminal_forms ps) b told ∙ ap (λ (l : List Terminal). scan Start 0 (terminal_forms l)) same ∙ ap reading.scans (sym is)

  pub formed_tree : reading.scans d ≡ true → (w : Whole) × (spell w ≡ terminal_forms ps)
  formed_tree s = spelled (terminal_forms ps) (ap (λ (l : List Terminal). scan Start 0 (terminal_forms l)) same ∙ ap reading.scans (sym is) ∙ s)

  pub formed_deep : SpellsDeep (terminal_forms ps) → MeansDeep d
  formed_deep s =
      subst MeansDeep (ap (λ (l : List Terminal). reading.formed h (terminal_forms l)) same ∙ sym is)
      (reading.head_form h s.formula, s.depth, (s.formula, s.spells, refl), s.above)
