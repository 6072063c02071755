-- The order of lower bounds is one in which any two compare, so a sort by it gives a sorted list.
--
-- One bound follows another where it begins no earlier. Of two bounds one follows the other, and following is transitive: with
-- fractions over positive denominators both are read off the sign of a difference.
use Rattle.std.proofs.Common.{◌≡◌, Bool, true, false, arith, refl, sym, ◌∙◌, ◌⊎◌, inl, inr, true≢false, cond, ap, subst}
use Rattle.std.specs.Prelude.{ℤ, pos, ◌-ℤ◌, ◌*ℤ◌, ◌<ℤ◌, int_lt}
use Rattle.std.proofs.lemmas.Int.{ints, by_lt_z}
use Rattle.std.proofs.lemmas.Cmp.{int_ranked}
use Rattle.std.specs.declared.cmp.Ordering.{Ordering}
use Rattle.std.specs.declared.cmp.Ordering.TheVariants.{Less, Equal, Greater}
use Rattle.std.specs.Ordering.{ordering_then, is_lt, MatchOrdering}
use Rattle.std.specs.Cmp.{IsStrictWeakOrder}
use Rattle.ded_num.proofs.Tests.{either_swapped}
use Rattle.ded_model.specs.declared.row.RowOp.TheVariants.{AtMost, Below}
use Rattle.ded_model.specs.declared.bound.Bound.{Bound}
use Rattle.ded_model.specs.declared.bound.Bound.TheVariants.{Infinite, Excluded, Included}
use Rattle.ded_model.specs.Bound.{Fraction, lower}
use Rattle.ded_model.proofs.Core.{Meets, below_at_most}
use Rattle.ded_box.specs.Intervals.{IsPositive, HasPositive}
use Rattle.ded_box.proofs.Gaps.{gap, gap_chain, gap_turned}
use Rattle.ded_box.proofs.Insides.{MayMeet}
use Rattle.ded_index.specs.declared.entry.BoxEntry.{BoxEntry}
use Rattle.ded_index.specs.Entries.{low}
use Rattle.ded_index.specs.Orders.{sound_fraction, sound, fraction_order, low_order, entry_order}

-- ---- comparisons

at_most_of : (o : Ordering) (x y : ℤ) → MatchOrdering o (x <ℤ y) (x ≡ y) (y <ℤ x) → is_lt o ≡ false → Meets AtMost (y -ℤ x)
at_most_of Less x y m h = absurd (true≢false h)
at_most_of Equal x y m h = omega (arith, ints)
at_most_of Greater x y m h = omega (arith, ints)

not_less_of : (o : Ordering) (x y : ℤ) → MatchOrdering o (x <ℤ y) (x ≡ y) (y <ℤ x) → Meets AtMost (y -ℤ x) → is_lt o ≡ false
not_less_of Less x y m h = absurd (omega (arith, ints))
not_less_of Equal x y m h = refl
not_less_of Greater x y m h = refl

at_most_then : (o : Ordering) (x y : ℤ) → MatchOrdering o (x <ℤ y) (x ≡ y) (y <ℤ x) → is_lt (ordering_then o Greater) ≡ false → Meets AtMost (y -ℤ x)
at_most_then Less x y m h = absurd (true≢false h)
at_most_then Equal x y m h = omega (arith, ints)
at_most_then Greater x y m h = omega (arith, ints)

not_less_then : (o : Ordering) (x y : ℤ) → MatchOrdering o (x <ℤ y) (x ≡ y) (y <ℤ x) → Meets AtMost (y -ℤ x) → is_lt (ordering_then o Greater) ≡ false
not_less_then Less x y m h = absurd (omega (arith, ints))
not_less_then Equal x y m h = refl
not_less_then Greater x y m h = refl

below_of : (o : Ordering) (x y : ℤ) → MatchOrdering o (x <ℤ y) (x ≡ y) (y <ℤ x) → is_lt (ordering_then o Less) ≡ false → Meets Below (y -ℤ x)
below_of Less x y m h = absurd (true≢false h)
below_of Equal x y m h = absurd (true≢false h)
below_of Greater x y m h = omega (arith, ints)

not_upto_of : (o : Ordering) (x y : ℤ) → MatchOrdering o (x <ℤ y) (x ≡ y) (y <ℤ x) → Meets Below (y -ℤ x) → is_lt (ordering_then o Less) ≡ false
not_upto_of Less x y m h = absurd (omega (arith, ints))
not_upto_of Equal x y m h = absurd (omega (arith, ints))
not_upto_of Greater x y m h = refl

ranked : (f g : Fraction) → MatchOrdering (fraction_order f g) ((f.num *ℤ g.den) <ℤ (g.num *ℤ f.den)) (f.num *ℤ g.den ≡ g.num *ℤ f.den) ((g.num *ℤ f.den) <ℤ (f.num *ℤ g.den))
ranked f g = int_ranked (f.num *ℤ g.den) (g.num *ℤ f.den) (fraction_order f g) refl

-- ---- bounds

-- the first begins no earlier than the second
abbrev pub Follows : Bound → Bound → Type 0
Follows Infinite Infinite = Unit {0}
Follows Infinite (Excluded g) = ⊥
Follows Infinite (Included g) = ⊥
Follows (Excluded f) Infinite = Unit {0}
Follows (Excluded f) (Excluded g) = Meets AtMost (gap g f)
Follows (Excluded f) (Included g) = Meets AtMost (gap g f)
Follows (Included f) Infinite = Unit {0}
Follows (Included f) (Excluded g) = Meets Below (gap g f)
Follows (Included f) (Included g) = Meets AtMost (gap g f)

follows_from : (a b : Bound) → is_lt (low_order a b) ≡ false → Follows a b
follows_from Infinite Infinite h = tt
follows_from Infinite (Excluded g) h = true≢false h
follows_from Infinite (Included g) h = true≢false h
follows_from (Excluded f) Infinite h = tt
follows_from (Excluded f) (Excluded g) h = at_most_of (fraction_order f g) _ _ (ranked f g) h
follows_from (Excluded f) (Included g) h = at_most_then (fraction_order f g) _ _ (ranked f g) h
follows_from (Included f) Infinite h = tt
follows_from (Included f) (Excluded g) h = below_of (fraction_order f g) _ _ (ranked f g) h
follows_from (Included f) (Included g) h = at_most_of (fraction_order f g) _ _ (ranked f g) h

follows_to : (a b : Bound) → Follows a b → is_lt (low_order a b) ≡ false
follows_to Infinite Infinite h = refl
follows_to Infinite (Excluded g) h = absurd h
follows_to Infinite (Included g) h = absurd h
follows_to (Excluded f) Infinite h = refl
follows_to (Excluded f) (Excluded g) h = not_less_of (fraction_order f g) _ _ (ranked f g) h
follows_to (Excluded f) (Included g) h = not_less_then (fraction_order f g) _ _ (ranked f g) h
follows_to (Included f) Infinite h = refl
follows_to (Included f) (Excluded g) h = not_upto_of (fraction_order f g) _ _ (ranked f g) h
follows_to (Included f) (Included g) h = not_less_of (fraction_order f g) _ _ (ranked f g) h

-- of two fractions one is at most the other, or less
either_at_most : (f g : Fraction) → Meets AtMost (gap g f) ⊎ Meets AtMost (gap f g)
either_at_most f g = let t = gap_turned lower f g in by_lt_z (pos 0) (gap g f) (λ l. inr (omega (arith, ints))) (λ l. inl l)

either_below : (f g : Fraction) → Meets AtMost (gap g f) ⊎ Meets Below (gap f g)
either_below f g = let t = gap_turned lower f g in by_lt_z (pos 0) (gap g f) (λ l. inr (omega (arith, ints))) (λ l. inl l)

follows_either : (a b : Bound) → Follows a b ⊎ Follows b a
follows_either Infinite Infinite = inl tt
follows_either Infinite (Excluded g) = inr tt
follows_either Infinite (Included g) = inr tt
follows_either (Excluded f) Infinite = inl tt
follows_either (Excluded f) (Excluded g) = either_at_most f g
follows_either (Excluded f) (Included g) = either_below f g
follows_either (Included f) Infinite = inl tt
follows_either (Included f) (Excluded g) = either_swapped (either_below g f)
follows_either (Included f) (Included g) = either_at_most f g

follows_chain : (a b c : Bound) → HasPositive a → HasPositive b → HasPositive c → Follows a b → Follows b c → Follows a c
follows_chain Infinite b Infinite pa pb pc h k = tt
follows_chain (Excluded f) b Infinite pa pb pc h k = tt
follows_chain (Included f) b Infinite pa pb pc h k = tt
follows_chain a Infinite (Excluded z) pa pb pc h k = absurd k
follows_chain a Infinite (Included z) pa pb pc h k = absurd k
follows_chain Infinite (Excluded g) (Excluded z) pa pb pc h k = absurd h
follows_chain Infinite (Included g) (Excluded z) pa pb pc h k = absurd h
follows_chain Infinite (Excluded g) (Included z) pa pb pc h k = absurd h
follows_chain Infinite (Included g) (Included z) pa pb pc h k = absurd h
follows_chain (Excluded f) (Excluded g) (Excluded z) pa pb pc h k = gap_chain AtMost AtMost z g f pc pb pa k h
follows_chain (Excluded f) (Excluded g) (Included z) pa pb pc h k = gap_chain AtMost AtMost z g f pc pb pa k h
follows_chain (Excluded f) (Included g) (Excluded z) pa pb pc h k = below_at_most _ (gap_chain Below AtMost z g f pc pb pa k h)
follows_chain (Excluded f) (Included g) (Included z) pa pb pc h k = gap_chain AtMost AtMost z g f pc pb pa k h
follows_chain (Included f) (Excluded g) (Excluded z) pa pb pc h k = gap_chain AtMost Below z g f pc pb pa k h
follows_chain (Included f) (Excluded g) (Included z) pa pb pc h k = below_at_most _ (gap_chain AtMost Below z g f pc pb pa k h)
follows_chain (Included f) (Included g) (Excluded z) pa pb pc h k = gap_chain Below AtMost z g f pc pb pa k h
follows_chain (Included f) (Included g) (Included z) pa pb pc h k = gap_chain AtMost AtMost z g f pc pb pa k h

-- what begins no later meets what the other does
pub earlier_meets : (a b w : Bound) → HasPositive a → HasPositive b → HasPositive w → Follows b a → MayMeet lower b w → MayMeet lower a w
earlier_meets Infinite b w pa pb pw k m = tt
earlier_meets (Excluded f) Infinite w pa pb pw k m = absurd k
earlier_meets (Included f) Infinite w pa pb pw k m = absurd k
earlier_meets (Excluded f) (Excluded g) Infinite pa pb pw k m = tt
earlier_meets (Excluded f) (Excluded g) (Excluded z) pa pb pw k m = gap_chain AtMost Below f g z pa pb pw k m
earlier_meets (Excluded f) (Excluded g) (Included z) pa pb pw k m = gap_chain AtMost Below f g z pa pb pw k m
earlier_meets (Excluded f) (Included g) Infinite pa pb pw k m = tt
earlier_meets (Excluded f) (Included g) (Excluded z) pa pb pw k m = gap_chain Below Below f g z pa pb pw k m
earlier_meets (Excluded f) (Included g) (Included z) pa pb pw k m = gap_chain Below AtMost f g z pa pb pw k m
earlier_meets (Included f) (Excluded g) Infinite pa pb pw k m = tt
earlier_meets (Included f) (Excluded g) (Excluded z) pa pb pw k m = gap_chain AtMost Below f g z pa pb pw k m
earlier_meets (Included f) (Excluded g) (Included z) pa pb pw k m = below_at_most _ (gap_chain AtMost Below f g z pa pb pw k m)
earlier_meets (Included f) (Included g) Infinite pa pb pw k m = tt
earlier_meets (Included f) (Included g) (Excluded z) pa pb pw k m = gap_chain AtMost Below f g z pa pb pw k m
earlier_meets (Included f) (Included g) (Included z) pa pb pw k m = gap_chain AtMost AtMost f g z pa pb pw k m

-- ---- sound bounds

pub sound_fraction_is : (f : Fraction) → IsPositive f → sound_fraction f ≡ f
unfolding sound_fraction
sound_fraction_is f h = ap (λ b. cond b f (record { num = pos 0; den = pos 1 })) (above f.den h)
  where
    above : (z : ℤ) → pos 0 <ℤ z → int_lt (pos 0) z ≡ true
    above z h = grind (arith, ints)

sound_fraction-positive : (f : Fraction) → IsPositive (sound_fraction f)
unfolding sound_fraction
sound_fraction-positive f = by (int_lt (pos 0) f.den) refl
  where
    by : (b : Bool) → int_lt (pos 0) f.den ≡ b → IsPositive (cond b f (record { num = pos 0; den = pos 1 }))
    by true e = positive f.den e
      where
        positive : (z : ℤ) → int_lt (pos 0) z ≡ true → pos 0 <ℤ z
        positive z e = grind (arith, ints)
    by false e = omega (arith, ints)

sound-positive : (b : Bound) → HasPositive (sound b)
sound-positive Infinite = tt
sound-positive (Excluded f) = sound_fraction-positive f
sound-positive (Included f) = sound_fraction-positive f

sound_is : (b : Bound) → HasPositive b → sound b ≡ b
sound_is Infinite h = refl
sound_is (Excluded f) h = ap Excluded (sound_fraction_is f h)
sound_is (Included f) h = ap Included (sound_fraction_is f h)

-- ---- entries

-- any two entries compare
pub entries_ranked : IsStrictWeakOrder (λ a b. is_lt (entry_order a b))
entries_ranked = record {
  one_way = λ a b h. one_way (sound (low a)) (sound (low b)) h;
  chain = λ a b c h k. follows_to (sound (low a)) (sound (low c))
      (follows_chain (sound (low a)) (sound (low b)) (sound (low c)) (sound-positive (low a)) (sound-positive (low b)) (sound-positive (low c)) (follows_from (sound (low a)) (sound (low b)) h) (follows_from (sound (low b)) (sound (low c)) k));
}
  where
    one_way : (a b : Bound) → is_lt (low_order a b) ≡ true → is_lt (low_order b a) ≡ false
    one_way a b h = elim (follows_either a b) [ inl f ↦ absurd (true≢false (sym h ∙ follows_to a b f)) | inr g ↦ follows_to b a g ]

-- an entry that isn't before another follows it
pub entry_follows : (a b : BoxEntry) → HasPositive (low a) → HasPositive (low b) → is_lt (entry_order a b) ≡ false → Follows (low a) (low b)
entry_follows a b pa pb h =
    subst (λ z. Follows z (low b)) (sound_is (low a) pa) (subst (λ z. Follows (sound (low a)) z) (sound_is (low b) pb) (follows_from (sound (low a)) (sound (low b)) h))
