-- What shows of two tuples that they have no common point.
use Rattle.std.specs.Prelude.{◌≡◌, true, List, ◌++◌}
use Rattle.ded_model.specs.declared.certificate.Proof.{Proof}
use Rattle.ded_model.specs.declared.certificate.Proof.TheVariants.{Text, Multipliers}
use Rattle.ded_model.specs.Cell.{conj_holds, HoldsNowhere}
use Rattle.ded_model.specs.Row.{Atom, theme_holds}
use Rattle.ded_theory.specs.Both.{firsts, seconds}
use Rattle.ded_weighing.specs.Weighing.{refutes, IsLongWeighing}

-- the text atoms of both hold nowhere together, or the rows of both, each times its number, come to a row that holds nowhere
abbrev pub Checks : List Atom → List Atom → Proof → Type 0
Checks t u Text = HoldsNowhere (conj_holds theme_holds (seconds (t ++ u)))
Checks t u (Multipliers ms) = refutes ms (firsts (t ++ u)) ≡ true

-- there are as many numbers as rows, of the right signs, and a number on the way to that row is too long
abbrev pub IsTooLong : List Atom → List Atom → Proof → Type 0
IsTooLong t u Text = ⊥
IsTooLong t u (Multipliers ms) = IsLongWeighing ms (firsts (t ++ u))
