-- The name of a column by its number.
use Rattle.std.proofs.Common.{◌≡◌, ℕ, zero, suc, ◌<◌, ◌≤◌, List, [], ◌∷◌, length, refl, arith, slice_index_or}
use Rattle.ded_model.specs.declared.name.Column.{Column}
use Rattle.ded_print.specs.Tuples.{column_at}

pub column_there : (columns : List Column) (n : ℕ) (d : Column) → n < length columns → (slice_index_or columns n d).name ≡ column_at columns n
column_there [] n d there = absurd (omega (arith, there))
column_there (c ∷ cs) zero d there = refl
column_there (c ∷ cs) (suc n) d there = column_there cs n d (omega (arith, there))

pub column_absent : (columns : List Column) (n : ℕ) → length columns ≤ n → [] ≡ column_at columns n
column_absent [] n absent = refl
column_absent (c ∷ cs) zero absent = absurd (omega (arith, absent))
column_absent (c ∷ cs) (suc n) absent = column_absent cs n (omega (arith, absent))
