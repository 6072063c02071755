use Rattle.std.proofs.Common.{◌≡◌, ℕ, List, ◌++◌, sym, ap, ◌∙◌, arith}
use Rattle.std.specs.Prelude.{ℤ, unsigned_abs}
use Rattle.std.specs.Int.{w128}
use Rattle.std.proofs.lemmas.Int.{to_z-of_z, fits_signed_from_abs}
use mir.Val.{to_z, of_z}
use Rattle.ded_num.specs.Gcd.{nat_gcd, gcd_from}
use Rattle.ded_model.specs.LongRows.{parts_over, differences_over}
use Rattle.ded_syntax.proofs.LongLists.{gcd_split}
use Rattle.ded_syntax.proofs.long.row_divisor.Goals as goal

pub returns : goal.returns
returns c =
    let l = c.args.left.now in
    let r = c.args.right.now in
    let a : ℤ → List ℤ = λ o. differences_over o l r (parts_over o l) in
    let b : ℤ → List ℤ = λ o. differences_over o l r (parts_over o r) in
    let o : ℤ = to_z w128 (of_z w128 c.args.over) in
    let oz : o ≡ c.args.over = to_z-of_z w128 c.args.over (fits_signed_from_abs w128 c.args.over (omega (arith, c.requires.within))) in
    let cz : to_z w128 (of_z w128 c.args.constant) ≡ c.args.constant = to_z-of_z w128 c.args.constant (fits_signed_from_abs w128 c.args.constant (omega (arith, c.requires.short))) in
    let gz : to_z w128 (of_z w128 c.gcd.result) ≡ c.gcd.result = to_z-of_z w128 c.gcd.result (fits_signed_from_abs w128 c.gcd.result (omega (arith, c.gcd.ensures.short))) in
    let bz : to_z w128 (of_z w128 c.divisor-by.result) ≡ c.divisor-by.result = to_z-of_z w128 c.divisor-by.result (fits_signed_from_abs w128 c.divisor-by.result (omega (arith, c.divisor-by.ensures.short))) in
    let dz : to_z w128 (of_z w128 c.divisor.result) ≡ c.divisor.result = to_z-of_z w128 c.divisor.result (fits_signed_from_abs w128 c.divisor.result (omega (arith, c.divisor.ensures.short))) in
    c.unsigned_abs.ensures.value
    ∙ ap unsigned_abs dz
    ∙ c.divisor.ensures.value
    ∙ ap (λ (z : ℤ). gcd_from (unsigned_abs z) (b o)) bz
    ∙ ap (λ (g : ℕ). gcd_from g (b o)) (c.divisor-by.ensures.value ∙ ap (λ (z : ℤ). gcd_from (unsigned_abs z) (a o)) (gz ∙ c.gcd.ensures.value) ∙ ap (λ (z : ℤ). gcd_from (nat_gcd 0 (unsigned_abs z)) (a o)) cz)
    ∙ sym (gcd_split (nat_gcd 0 (unsigned_abs c.args.constant)) (a o) (b o))
    ∙ ap (λ (z : ℤ). gcd_from (nat_gcd 0 (unsigned_abs c.args.constant)) (a z ++ b z)) oz
