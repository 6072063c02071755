-- A relation whose tuples are dealt out holds exactly where it does over one of the parts.
use Rattle.std.proofs.Common.{◌≡◌, ℕ, true, inl, inr, List, [], ◌∷◌}
use Rattle.std.specs.Prelude.{◌↔◌}
use Rattle.std.specs.List.{Contains}
use Rattle.std.proofs.lemmas.List.Folds.{Any-from_list_any, list_any-from_Any}
use Rattle.ded_model.proofs.Lists.{Every, Some as SomeOf, some_weaker, some_both}
use Rattle.ded_model.specs.Catalogue.{Catalogue, tuples_of, at_slots, meaning}
use Rattle.ded_model.specs.Entries.{tuples_in, columns_in}
use Rattle.ded_model.specs.Known.{IsWellFormed}
use Rattle.ded_model.specs.Point.{Point}
use Rattle.ded_model.specs.Row.{Atom, tuple_holds, tuples_hold}
use Rattle.ded_model.specs.Value.{Argument}
use Rattle.ded_parts.specs.Parts.{IsPart, AreParts}
use Rattle.ded_parts.proofs.PartNames.{whole_holds, part_holds}

-- tuples hold where one of them does
one_holds : (ts : List (List Atom)) (p : Point) → tuples_hold ts p ≡ true → (t : List Atom) × Contains ts t × (tuple_holds t p ≡ true)
unfolding tuples_hold
one_holds ts p h = let some = Any-from_list_any (λ t. tuple_holds t p) ts h in (some.1, (some.0, some.2, some.3), some.4)

some_hold : (ts : List (List Atom)) (p : Point) (t : List Atom) → Contains ts t → tuple_holds t p ≡ true → tuples_hold ts p ≡ true
unfolding tuples_hold
some_hold ts p t i h = list_any-from_Any (λ t. tuple_holds t p) ts (i.0, t, i.1, i.2, h)

module _ (d : Catalogue) (w : IsWellFormed d) (n : List ℕ) (c : Catalogue) (cs : List Catalogue) (a : AreParts d n (c ∷ cs)) (den : ℕ) (xs : List Argument) where
  -- the values of the columns
  abbrev p : Point
  p = record { den = den; coords = at_slots 0 (columns_in d n) xs }

  to_part : meaning d n den xs → SomeOf (λ e. meaning e n den xs) (c ∷ cs)
  to_part h = by (one_holds (tuples_of (tuples_in d n)) p ((whole_holds d w n c a.each.0 den xs).0 h))
    where
      by : (t : List Atom) × Contains (tuples_of (tuples_in d n)) t × (tuple_holds t p ≡ true) → SomeOf (λ e. meaning e n den xs) (c ∷ cs)
      by some =
          some_weaker (λ e. IsPart d n e × Contains (tuples_of (tuples_in e n)) some.0) (λ e. meaning e n den xs) (c ∷ cs)
          (λ e k. (part_holds d w n e k.0 den xs).1 (some_hold (tuples_of (tuples_in e n)) p some.0 k.1 some.2))
          (some_both (IsPart d n) (λ e. Contains (tuples_of (tuples_in e n)) some.0) (c ∷ cs) a.each ((a.dealt some.0).0 some.1))

  -- of one tuple
  there : (t : List Atom) → tuple_holds t p ≡ true → Contains (tuples_of (tuples_in d n)) t → meaning d n den xs
  there t h i = (whole_holds d w n c a.each.0 den xs).1 (some_hold (tuples_of (tuples_in d n)) p t i h)

  from_part : SomeOf (λ e. meaning e n den xs) (c ∷ cs) → meaning d n den xs
  from_part h = each (c ∷ cs) a.each (λ t. (a.dealt t).1) h
    where
      each : (es : List Catalogue) → Every (IsPart d n) es → ((t : List Atom) → SomeOf (λ e. Contains (tuples_of (tuples_in e n)) t) es → Contains (tuples_of (tuples_in d n)) t)
          → SomeOf (λ e. meaning e n den xs) es → meaning d n den xs
      each [] k i h = absurd h
      each (e ∷ es) k i (inl h) = let some = one_holds (tuples_of (tuples_in e n)) p ((part_holds d w n e k.0 den xs).0 h) in there some.0 some.2 (i some.0 (inl some.1))
      each (e ∷ es) k i (inr h) = each es k.1 (λ t j. i t (inr j)) h

  pub dealt_name : meaning d n den xs ↔ SomeOf (λ e. meaning e n den xs) (c ∷ cs)
  dealt_name = (to_part, from_part)
