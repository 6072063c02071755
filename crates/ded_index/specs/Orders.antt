-- The order of lower bounds: from where an interval begins.
use Rattle.std.specs.Prelude.{pos, ◌*ℤ◌, int_lt, if◌then◌else◌}
use Rattle.std.specs.declared.cmp.Ordering.{Ordering}
use Rattle.std.specs.declared.cmp.Ordering.TheVariants.{Less, Equal, Greater}
use Rattle.std.specs.Ordering.{int_cmp, ordering_then}
use Rattle.ded_model.specs.declared.bound.Bound.{Bound}
use Rattle.ded_model.specs.declared.bound.Bound.TheVariants.{Infinite, Excluded, Included}
use Rattle.ded_model.specs.Bound.{Fraction}
use Rattle.ded_index.specs.declared.entry.BoxEntry.{BoxEntry}
use Rattle.ded_index.specs.Entries.{low}

-- a fraction without a denominator above 0, which no value of the program has, counts as 0, so that any two compare
unfoldable pub sound_fraction : Fraction → Fraction
sound_fraction f = if int_lt (pos 0) f.den then f else record { num = pos 0; den = pos 1 }

-- the bound, whose fraction counts as 0 where its denominator isn't above 0
abbrev pub sound : Bound → Bound
sound Infinite = Infinite
sound (Excluded f) = Excluded (sound_fraction f)
sound (Included f) = Included (sound_fraction f)

-- the order of two fractions with denominators above 0
abbrev pub fraction_order : Fraction → Fraction → Ordering
fraction_order f g = int_cmp (f.num *ℤ g.den) (g.num *ℤ f.den)

-- a lower bound that is attained begins before one with the same fraction that isn't
abbrev pub low_order : Bound → Bound → Ordering
low_order Infinite Infinite = Equal
low_order Infinite (Excluded g) = Less
low_order Infinite (Included g) = Less
low_order (Excluded f) Infinite = Greater
low_order (Excluded f) (Excluded g) = fraction_order f g
low_order (Excluded f) (Included g) = ordering_then (fraction_order f g) Greater
low_order (Included f) Infinite = Greater
low_order (Included f) (Excluded g) = ordering_then (fraction_order f g) Less
low_order (Included f) (Included g) = fraction_order f g

-- the order of entries, by where their first intervals begin
abbrev pub entry_order : BoxEntry → BoxEntry → Ordering
entry_order a b = low_order (sound (low a)) (sound (low b))
