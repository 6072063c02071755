-- A tuple holds where its rows and its text atoms do.
use Rattle.std.proofs.Common.{◌≡◌, ◌&&◌, List, [], ◌∷◌, refl, ap, ◌∙◌}
use Rattle.ded_num.proofs.Tests.{and_false, and_false_left}
use Rattle.ded_model.specs.declared.tuple.BothAtom.TheVariants.{First, Second}
use Rattle.ded_model.specs.Point.{Point}
use Rattle.ded_model.specs.Cell.{conj_holds, HoldsNowhere}
use Rattle.ded_model.specs.Row.{Atom, row_holds, theme_holds, atom_holds, tuple_holds}
use Rattle.ded_theory.specs.Both.{by_kind, firsts, seconds}
use Rattle.ded_theory.proofs.TwoKinds.{parts_hold}

-- a tuple is a conjunction of atoms of two kinds
pub tuple_is : (atoms : List Atom) (p : Point) → tuple_holds atoms p ≡ conj_holds (by_kind row_holds theme_holds) atoms p
unfolding tuple_holds atom_holds
tuple_is [] p = refl
tuple_is (First r ∷ atoms) p = ap (λ b. row_holds r p && b) (tuple_is atoms p)
tuple_is (Second a ∷ atoms) p = ap (λ b. theme_holds a p && b) (tuple_is atoms p)

-- so it holds where its two parts do
tuple_parts : (atoms : List Atom) (p : Point) → tuple_holds atoms p ≡ (conj_holds row_holds (firsts atoms) p && conj_holds theme_holds (seconds atoms) p)
tuple_parts atoms p = tuple_is atoms p ∙ parts_hold row_holds theme_holds atoms p

-- a tuple of which the rows hold nowhere holds nowhere
pub no_rows : (atoms : List Atom) → HoldsNowhere (conj_holds row_holds (firsts atoms)) → HoldsNowhere (tuple_holds atoms)
no_rows atoms h p i = tuple_parts atoms p ∙ and_false_left (conj_holds row_holds (firsts atoms) p) (conj_holds theme_holds (seconds atoms) p) (h p i)

-- and so does one of which the text atoms hold nowhere
pub no_texts : (atoms : List Atom) → HoldsNowhere (conj_holds theme_holds (seconds atoms)) → HoldsNowhere (tuple_holds atoms)
no_texts atoms h p i = tuple_parts atoms p ∙ and_false (conj_holds row_holds (firsts atoms) p) (conj_holds theme_holds (seconds atoms) p) (h p i)
