use Rattle.std.proofs.Common.{◌≡◌, ℕ, ◌+◌, ◌<◌, List, ◌++◌, take, drop, length, get_or, set, ap, ◌∙◌, SFits, add-one, to_z, of_z, rules}
use Rattle.std.specs.Prelude.{ℤ, pos, int_div}
use Rattle.std.specs.Int.{w128}
use Rattle.std.proofs.lemmas.Int.{to_z-of_z, fits_signed_from_abs}
use Rattle.ded_num.specs.Length.{IsShort}
use Rattle.ded_model.specs.declared.slot.Slot.{Slot}
use Rattle.ded_model.specs.declared.slot.Sort.TheVariants.{Rat}
use Rattle.ded_model.specs.Coefs.{AreCoefs}
use Rattle.ded_model.specs.Normal.{coefs_over}
use Rattle.ded_model.proofs.CoefDivision.{short_at, at_turn, after_turn}
use Rattle.ded_model.proofs.row.divide_all.Goals as goal

back : (z : ℤ) → IsShort z → to_z w128 (of_z w128 z) ≡ z
back z h = to_z-of_z w128 z (fits_signed_from_abs w128 z h)

module _ (by : ℤ) (old l : List (Slot × ℤ)) (i : ℕ) (lt : i < length old) (inv : l ≡ coefs_over by (take i old) ++ drop i old) (short : AreCoefs old) where
  element : get_or l i (record { number = 0; sort = Rat }, pos 0) ≡ get_or old i (record { number = 0; sort = Rat }, pos 0)
  element = ap (λ xs. get_or xs i (record { number = 0; sort = Rat }, pos 0)) inv ∙ at_turn by old i _ lt

  short_old : IsShort (get_or old i (record { number = 0; sort = Rat }, pos 0)).1
  short_old = short_at old i _ short lt

  short_here : IsShort (to_z w128 (of_z w128 (get_or l i (record { number = 0; sort = Rat }, pos 0)).1))
  short_here = rw element (rw (back _ short_old) short_old)

  next : (r : ℤ) → SFits w128 r → r ≡ int_div (to_z w128 (of_z w128 (get_or l i (record { number = 0; sort = Rat }, pos 0)).1)) by
      → set l i ((get_or l i (record { number = 0; sort = Rat }, pos 0)).0, to_z w128 (of_z w128 r)) ≡ coefs_over by (take (i + 1) old) ++ drop (i + 1) old
  next r fits e =
      let d : Slot × ℤ = (record { number = 0; sort = Rat }, pos 0) in
      let read : to_z w128 (of_z w128 (get_or l i d).1) ≡ (get_or old i d).1 = ap (λ (x : Slot × ℤ). to_z w128 (of_z w128 x.1)) element ∙ back _ short_old in
      let r' : to_z w128 (of_z w128 r) ≡ int_div (get_or old i d).1 by = to_z-of_z w128 r fits ∙ e ∙ ap (λ z. int_div z by) read in
      let s' : (get_or l i d).0 ≡ (get_or old i d).0 = ap (λ (x : Slot × ℤ). x.0) element in
      rw (s', r', inv, add-one) (after_turn by old i d lt)

pub quotient-entry-requires-clause-short : goal.quotient-entry-requires-clause-short
quotient-entry-requires-clause-short c =
    λ z. short_here _ c.args.list.now c.loop-entry.list c.loop-entry.entry-index c.loop-entry-test.true c.loop-entry.invariant c.requires.short

pub loop-entry-preserved : goal.loop-entry-preserved
loop-entry-preserved c =
    let fits : SFits w128 c.quotient-entry.result = search rules in
    next _ c.args.list.now c.loop-entry.list c.loop-entry.entry-index c.loop-entry-test.true c.loop-entry.invariant c.requires.short c.quotient-entry.result fits c.quotient-entry.ensures
