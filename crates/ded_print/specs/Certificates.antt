-- How certificates are written.
use Rattle.std.specs.Prelude.{ℕ, ℤ, List, [], ◌∷◌, ◌++◌, length, map, codes}
use Rattle.ded_model.specs.declared.certificate.Entry.{Entry}
use Rattle.ded_model.specs.declared.certificate.Proof.{Proof}
use Rattle.ded_model.specs.declared.certificate.Proof.TheVariants.{Text, Multipliers}
use Rattle.ded_print.specs.Lines.{counted_text}
use Rattle.ded_print.specs.Numbers.{number_text, integer_text}

-- each number behind a blank
abbrev pub multipliers_text : List ℤ → List ℕ
multipliers_text [] = []
multipliers_text (m ∷ ms) = 32 ∷ (integer_text m ++ multipliers_text ms)

-- `text`, or `:` and the numbers
abbrev pub proof_text : Proof → List ℕ
proof_text Text = codes "text"
proof_text (Multipliers ms) = codes ":" ++ multipliers_text ms

-- the numbers of two tuples, and what shows that they have no common point
abbrev pub entry_line : Entry → List ℕ
entry_line e = number_text e.first ++ (32 ∷ (number_text e.second ++ (32 ∷ proof_text e.proof)))

-- `apart K`, and K lines, one for each pair of tuples
abbrev pub apart_text : List Entry → List ℕ
apart_text es = counted_text (codes "apart") (number_text (length es)) (map entry_line es)
