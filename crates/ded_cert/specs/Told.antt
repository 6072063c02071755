-- What is told of two relations.
use Rattle.std.specs.Prelude.{List}
use Rattle.ded_cert.specs.declared.pairs.Disjointness.{Disjointness}
use Rattle.ded_cert.specs.declared.pairs.Disjointness.TheVariants.{Apart, Meet}
use Rattle.ded_cert.specs.Pairs.{Numbered, AreEntriesOf, IsFirstMeeting}

-- certificates for all pairs, or the numbers of the first one that has a common point
abbrev pub IsTold : List (Numbered × Numbered) → Disjointness → Type 0
IsTold ps (Apart es) = AreEntriesOf ps es.items
IsTold ps (Meet i j) = IsFirstMeeting ps i j
