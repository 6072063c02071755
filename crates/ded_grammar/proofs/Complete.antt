-- What is spelled is scanned.
use Rattle.std.proofs.Common.{◌≡◌, ℕ, suc, List, [], ◌∷◌, ◌++◌, refl, ap, ◌∙◌, append_assoc}
use Rattle.ded_grammar.specs.declared.scan.Spot.TheVariants.{Start, Within, After}
use Rattle.ded_grammar.specs.Trees.{TerminalForm, conjunct, disjunct, arrow, closing, Whole, only, follows, Either, either_last, either_more, Both, both_last, both_more, One, negated, bound, grouped, plain, Body, bound_again, around, spell, spell_either, spell_both, spell_one, spell_body}
use Rattle.ded_grammar.specs.Scanning.{scan}

mutual
  pub scan_whole : (w : Whole) (n : ℕ) (ps : List TerminalForm) → scan Start n (spell w ++ ps) ≡ scan After n ps
  scan_whole (only e) n ps = scan_either e n ps
  scan_whole (follows e w) n ps = ap (scan Start n) (append_assoc (spell_either e) (arrow ∷ spell w) ps) ∙ scan_either e n (arrow ∷ spell w ++ ps) ∙ scan_whole w n ps

  pub scan_either : (e : Either) (n : ℕ) (ps : List TerminalForm) → scan Start n (spell_either e ++ ps) ≡ scan After n ps
  scan_either (either_last b) n ps = scan_both b n ps
  scan_either (either_more b e) n ps = ap (scan Start n) (append_assoc (spell_both b) (disjunct ∷ spell_either e) ps) ∙ scan_both b n (disjunct ∷ spell_either e ++ ps) ∙ scan_either e n ps

  pub scan_both : (b : Both) (n : ℕ) (ps : List TerminalForm) → scan Start n (spell_both b ++ ps) ≡ scan After n ps
  scan_both (both_last u) n ps = scan_one u n ps
  scan_both (both_more u b) n ps = ap (scan Start n) (append_assoc (spell_one u) (conjunct ∷ spell_both b) ps) ∙ scan_one u n (conjunct ∷ spell_both b ++ ps) ∙ scan_both b n ps

  pub scan_one : (u : One) (n : ℕ) (ps : List TerminalForm) → scan Start n (spell_one u ++ ps) ≡ scan After n ps
  scan_one (negated u) n ps = scan_one u n ps
  scan_one (bound q c b) n ps = scan_body b n ps
  scan_one (grouped w) n ps = ap (scan Start (suc n)) (append_assoc (spell w) (closing ∷ []) ps) ∙ scan_whole w (suc n) (closing ∷ ps)
  scan_one (plain f) n ps = refl

  pub scan_body : (b : Body) (n : ℕ) (ps : List TerminalForm) → scan Within n (spell_body b ++ ps) ≡ scan After n ps
  scan_body (bound_again q c b) n ps = scan_body b n ps
  scan_body (around w) n ps = ap (scan Start (suc n)) (append_assoc (spell w) (closing ∷ []) ps) ∙ scan_whole w (suc n) (closing ∷ ps)
