-- Certificates for all pairs of the tuples of two relations.
use Rattle.std.specs.Prelude.{◌≡◌, ◌⊎◌, ℕ, Bool, ◌==◌, ◌&&◌, Option, Some, None, MatchOption, List, [], ◌∷◌, ◌++◌, map, if◌then◌else◌}
use Rattle.ded_model.specs.declared.certificate.Entry.{Entry}
use Rattle.ded_model.specs.Cell.{HoldsSomewhere, HoldsNowhere}
use Rattle.ded_model.specs.Catalogue.{tuples_of}
use Rattle.ded_model.specs.Point.{Point}
use Rattle.ded_model.specs.Row.{Atom, tuple_holds, tuples_hold}
use Rattle.ded_cert.specs.Certified.{HasSmallSum, IsWidePair}
use Rattle.ded_cert.specs.Checks.{Checks, IsTooLong}

-- a tuple with its number
abbrev pub Numbered : Type 0
Numbered = ℕ × List Atom

-- the tuple with each of the list, in order
abbrev pub pairs_with : Numbered → List Numbered → List (Numbered × Numbered)
pairs_with t us = map (λ u. (t, u)) us

-- each tuple of the first list with each of the second: in the order of the first, and then of the second
abbrev pub pairs_of : List Numbered → List Numbered → List (Numbered × Numbered)
pairs_of [] us = []
pairs_of (t ∷ ts) us = pairs_with t us ++ pairs_of ts us

-- ---- what is certified

-- the two tuples of the pair hold together nowhere
abbrev pub AreApart : Numbered × Numbered → Type 0
AreApart p = HoldsNowhere (tuple_holds (p.0.1 ++ p.1.1))

-- the two tuples of the pair hold together somewhere
abbrev pub Meet : Numbered × Numbered → Type 0
Meet p = HoldsSomewhere (tuple_holds (p.0.1 ++ p.1.1))

-- the entry has the numbers of the pair, and a proof with a small sum that checks
pub record IsEntryOf (p : Numbered × Numbered) (e : Entry) : Type 0 where
  pub first : e.first ≡ p.0.0
  pub second : e.second ≡ p.1.0
  pub checks : Checks p.0.1 p.1.1 e.proof
  pub small : HasSmallSum e.proof

-- one entry for each pair, in order
abbrev pub AreEntriesOf : List (Numbered × Numbered) → List Entry → Type 0
AreEntriesOf [] [] = Unit {0}
AreEntriesOf (p ∷ ps) (e ∷ es) = IsEntryOf p e × AreEntriesOf ps es
AreEntriesOf _ _ = ⊥

-- these are the numbers of the first pair that has a common point
abbrev pub IsFirstMeeting : List (Numbered × Numbered) → ℕ → ℕ → Type 0
IsFirstMeeting [] i j = ⊥
IsFirstMeeting (p ∷ ps) i j = ((i ≡ p.0.0) × (j ≡ p.1.0) × Meet p) ⊎ (AreApart p × IsFirstMeeting ps i j)

-- ---- what is verified

-- the first entry with these numbers
abbrev pub entry_for : List Entry → ℕ → ℕ → Option Entry
entry_for [] i j = None
entry_for (e ∷ es) i j = if (e.first == i) && (e.second == j) then Some e else entry_for es i j

-- the first entry with the numbers of the pair checks
abbrev pub IsVerified : List Entry → Numbered × Numbered → Type 0
IsVerified es p = MatchOption (entry_for es p.0.0 p.1.0) ⊥ (λ e. Checks p.0.1 p.1.1 e.proof)

-- in its check a number is too long
abbrev pub IsLongCheck : List Entry → Numbered × Numbered → Type 0
IsLongCheck es p = MatchOption (entry_for es p.0.0 p.1.0) ⊥ (λ e. IsTooLong p.0.1 p.1.1 e.proof)

-- ---- some pair

-- it is so of some pair of the list
abbrev pub SomePair : (Numbered × Numbered → Type 0) → List (Numbered × Numbered) → Type 0
SomePair P [] = ⊥
SomePair P (p ∷ ps) = P p ⊎ SomePair P ps

-- certifying a pair may leave numbers that are too long
abbrev pub IsWide : Numbered × Numbered → Type 0
IsWide p = IsWidePair p.0.1 p.1.1

-- ---- what that says of the relations

-- some tuple of each holds at the point
abbrev pub both_hold : List Numbered → List Numbered → Point → Bool
both_hold ts us p = tuples_hold (tuples_of ts) p && tuples_hold (tuples_of us) p
