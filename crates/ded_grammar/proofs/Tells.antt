-- Scanning tells whether a formula is spelled.
use Rattle.std.proofs.Common.{◌≡◌, Bool, true, List, [], sym, ap, ◌∙◌}
use Rattle.std.specs.Prelude.{◌↔◌, IsTrue}
use Rattle.std.proofs.lemmas.List.{append-nil}
use Rattle.ded_grammar.specs.declared.terminal.Terminal.{Terminal}
use Rattle.ded_grammar.specs.declared.scan.Spot.TheVariants.{Start}
use Rattle.ded_grammar.specs.Forms.{terminal_forms}
use Rattle.ded_grammar.specs.Trees.{Whole, spell}
use Rattle.ded_grammar.specs.Scanning.{scan}
use Rattle.ded_grammar.proofs.Complete.{scan_whole}
use Rattle.ded_grammar.proofs.Sound.{spelled}

pub scanned : (w : Whole) → scan Start 0 (spell w) ≡ true
scanned w = ap (scan Start 0) (sym (append-nil (spell w))) ∙ scan_whole w 0 []

pub tells : (items : List Terminal) (b : Bool) → b ≡ scan Start 0 (terminal_forms items) → IsTrue b ↔ ((w : Whole) × (spell w ≡ terminal_forms items))
tells items b e = ((λ t. spelled (terminal_forms items) (sym e ∙ t)), (λ x. e ∙ ap (scan Start 0) (sym x.1) ∙ scanned x.0))
