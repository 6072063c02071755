-- A few closed formulas, true and false over every catalogue, each read straight off the definition: where some value is
-- claimed the proof names it, and where none is claimed the proof takes any and finds two comparisons that exclude each other.
use Rattle.std.proofs.Common.{◌≡◌, ℕ, true, List, [], ◌∷◌, arith, refl}
use Rattle.std.specs.Prelude.{ℤ, pos, ◌+ℤ◌, ◌-ℤ◌, ◌*ℤ◌, int_lt}
use Rattle.std.proofs.lemmas.Int.{ints}
use Rattle.ded_model.specs.declared.slot.Sort.TheVariants.{Rat, Text}
use Rattle.ded_model.specs.declared.formula.CompareOp.TheVariants.{Less, Equal, NotEqual}
use Rattle.ded_model.specs.declared.formula.Operand.{Operand}
use Rattle.ded_model.specs.declared.formula.Operand.TheVariants.{Single, Sum, Quoted}
use Rattle.ded_model.specs.Form.{compare}
use Rattle.ded_model.specs.Logic.{atom, every_of, exists, forall, none, also}
use Rattle.ded_model.specs.Point.{name, number_at, text_at}
use Rattle.ded_model.specs.Sum.{denominator}
use Rattle.ded_model.specs.Value.{compare_holds}
use Rattle.ded_model.specs.Catalogue.{Catalogue, origin, IsTruth}
use Rattle.ded_model.proofs.Points.{number_at-extended, number_at-kept}
use Rattle.ded_model.proofs.Numbers.{extended, extended_is}
use Rattle.ded_model.proofs.Texts.{text_extended, text_extended_is}

abbrev x : List ℕ
x = 120 ∷ []

abbrev y : List ℕ
y = 121 ∷ []

abbrev literal : ℤ → Operand
literal n = Sum (record { parts = []; constant = n; over = pos 1 })

-- exists x (2*x = 1): a half
half_is_a_number : (c : Catalogue) → IsTruth c (exists Rat (name x) (atom (compare (Sum (record { parts = (x, pos 2) ∷ []; constant = pos 0; over = pos 1 })) Equal (literal (pos 1)))))
unfolding compare_holds number_at denominator
half_is_a_number c = (extended (name x) 2 (pos 1) origin, extended_is (name x) 2 (pos 1) origin (omega arith), refl)

-- no x with x < 0 and 0 < x
no_number_on_both_sides : (c : Catalogue) → ¬ IsTruth c (exists Rat (name x) (every_of (also (atom (compare (Single x) Less (literal (pos 0)))) (also (atom (compare (literal (pos 0)) Less (Single x))) none))))
unfolding compare_holds denominator
no_number_on_both_sides c w = apart (number_at w.0 (name x)) (pos w.0.den) w.2.0 w.2.1.0
  where
    apart : (n d : ℤ) → int_lt (n *ℤ pos 1) ((pos 0 +ℤ pos 0 *ℤ d) *ℤ pos 1) ≡ true → int_lt ((pos 0 +ℤ pos 0 *ℤ d) *ℤ pos 1) (n *ℤ pos 1) ≡ true → ⊥
    apart n d h k = absurd (grind (arith, ints))

-- exists x text (x != 'a'): the empty text
some_text_differs : (c : Catalogue) → IsTruth c (exists Text (name x) (atom (compare (Single x) NotEqual (Quoted (97 ∷ [])))))
unfolding compare_holds number_at text_at
some_text_differs c = (text_extended (name x) [] origin, text_extended_is (name x) [] origin tt, refl)

-- forall x exists y (y < x): one less
no_number_is_least : (c : Catalogue) → IsTruth c (forall Rat (name x) (exists Rat (name y) (atom (compare (Single y) Less (Single x)))))
unfolding compare_holds
no_number_is_least c = λ q s.
    let n = number_at q (name x) in
    let r = extended (name y) 1 (n -ℤ pos 1) q in
    let t = extended_is (name y) 1 (n -ℤ pos 1) q (omega arith) in
    (r, t, under (number_at r (name y)) (number_at r (name x)) n (number_at-extended q (name y) r t (name y) refl) (number_at-kept q (name y) r t (name x) refl))
  where
    under : (a b n : ℤ) → a ≡ n -ℤ pos 1 → b ≡ n *ℤ pos 1 → int_lt (a *ℤ pos 1) (b *ℤ pos 1) ≡ true
    under a b n e f = grind (arith, ints)
