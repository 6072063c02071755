-- The views whose evaluation as a whole was begun in a question.
use Rattle.std.specs.Prelude.{◌≡◌, ◌⊎◌, ◌<◌, ℕ, true, false, List, ◌++◌}
use Rattle.std.specs.List.{AllByRecursion, list_any}
use Rattle.std.specs.Str.{bytes_eq}
use Rattle.ded_model.specs.Catalogue.{Catalogue}
use Rattle.ded_model.specs.Entries.{known}
use Rattle.ded_model.specs.Known.{level_with}
use Rattle.ded_model.specs.Measure.{measures}
use Rattle.ded_algebra.specs.declared.given.GivenRelation.{GivenRelation}
use Rattle.ded_algebra.specs.Given.{has_name}
use Rattle.ded_query.specs.Gathering.{IsGathered}

-- more views are tried, behind the others, and none of these was given before
pub record TriesMore (given : List GivenRelation) (old new : List (List ℕ)) : Type 0 where
  pub more : List (List ℕ)
  pub is : new ≡ old ++ more
  pub absent : AllByRecursion (λ n. has_name n given ≡ false) more

-- each view that was tried is given, or too wide, or else it is still being evaluated, and its level is above the one said
abbrev pub AreSettled : Catalogue → List GivenRelation → List (List ℕ) → ℕ → Type 0
AreSettled c given tried most = (n : List ℕ) → list_any (bytes_eq n) tried ≡ true → has_name n given ≡ false → ((measures c n).clash ≡ true) ⊎ (most < level_with (known c n))

-- what is asked for has some level at most, and the views that are still being evaluated have levels above it
pub record IsBelowTried (c : Catalogue) (given : List GivenRelation) (tried : List (List ℕ)) (HasAtMost : ℕ → Type 0) : Type 0 where
  pub level : ℕ
  pub has : HasAtMost level
  pub settled : AreSettled c given tried level

-- what is given is right, nothing that was given is gone, and each view that was tried since is given then, or too wide
pub record IsGatheredBy (c : Catalogue) (old : List GivenRelation) (before : List (List ℕ)) (new : List GivenRelation) (after : List (List ℕ)) : Type 0 where
  pub gathered : IsGathered c old new
  pub settled : (n : List ℕ) → list_any (bytes_eq n) after ≡ true → has_name n new ≡ false → (list_any (bytes_eq n) before ≡ true) ⊎ ((measures c n).clash ≡ true)
