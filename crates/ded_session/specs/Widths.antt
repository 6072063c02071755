-- Commands whose question isn't narrow.
use Rattle.std.specs.Prelude.{[]}
use Rattle.ded_model.specs.Catalogue.{Catalogue, tuples_of}
use Rattle.ded_cert.specs.Pairs.{pairs_of, IsLongCheck, IsWide, SomePair}
use Rattle.ded_model.specs.Command.{CommandForm, ask, query, box_of, disjoint, verify}
use Rattle.ded_model.specs.Entries.{columns_in, tuples_in}
use Rattle.ded_model.specs.Measure.{IsNarrow}
use Rattle.ded_model.specs.Width.{IsBoxNarrow}

-- (b + 1) * 2 ^ q is above 128, with the greatest length b and the rank q of the formula, or of the relation's tuples and its
-- rational columns, or, of some pair of tuples, one more than the count of their slots; or in the check of the first entry of some pair
-- a number is too long
abbrev pub IsNotNarrow : CommandForm → Catalogue → Type 0
IsNotNarrow (ask f) c = IsNarrow c [] f → ⊥
IsNotNarrow (query h f) c = IsNarrow c h f → ⊥
IsNotNarrow (box_of n) c = IsBoxNarrow (columns_in c n) (tuples_of (tuples_in c n)) → ⊥
IsNotNarrow (disjoint n m) c = SomePair IsWide (pairs_of (tuples_in c n) (tuples_in c m))
IsNotNarrow (verify n m es) c = SomePair (IsLongCheck es) (pairs_of (tuples_in c n) (tuples_in c m))
IsNotNarrow _ c = ⊥
