-- Lemmas that several crates cite.
use Rattle.std.proofs.Common.{◌≡◌, ◌||◌, List, [], ◌∷◌, refl, ap₂, ◌++◌}
use Rattle.ded_model.specs.declared.slot.Slot.{Slot}
use Rattle.ded_model.specs.Row.{Atom, row_mentions, theme_mentions, tuples_mention}
use Rattle.ded_model.specs.Lines.{row_lines, tuples_lines}
use Rattle.ded_theory.specs.Both.{by_kind}
use Rattle.ded_genrel.specs.Lists.{conjs_mention, conjs_lines}
use Rattle.ded_atoms.proofs.Conjunctive.{tuple_mentions-is, atoms_lines-is}

pub lists_mention : (cs : List (List Atom)) (s : Slot) → conjs_mention (by_kind row_mentions theme_mentions) cs s ≡ tuples_mention cs s
unfolding tuples_mention
lists_mention [] s = refl
lists_mention (c ∷ cs) s = ap₂ (λ a b. a || b) (tuple_mentions-is c s) (lists_mention cs s)

pub lists_lines : (cs : List (List Atom)) → conjs_lines (by_kind row_lines (λ a. [])) cs ≡ tuples_lines cs
lists_lines [] = refl
lists_lines (c ∷ cs) = ap₂ (λ xs ys. xs ++ ys) (atoms_lines-is c) (lists_lines cs)
