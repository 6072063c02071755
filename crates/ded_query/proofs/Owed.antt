-- Lemmas that belong into lower crates.
use Rattle.std.proofs.Common.{◌≡◌, ℕ, false, List, [], ◌∷◌, ◌++◌, refl, ◌∙◌, bytes_eq}
use Rattle.std.specs.List.{list_any}
use Rattle.std.proofs.lemmas.Bool.{or_from}
use Rattle.ded_num.proofs.Tests.{bytes_eq-swap}
use Rattle.ded_model.proofs.Bools.{or_false_left, or_false_right}
use Rattle.ded_plan.specs.ScannedNames.{AreDistinctNames}
use Rattle.ded_plan.proofs.ScannedNames.{any_more}

-- ---- ded_plan, where it stands in ScannedNames

-- a name that isn't there
pub distinct_more : (m : List ℕ) (ns : List (List ℕ)) → list_any (bytes_eq m) ns ≡ false → AreDistinctNames ns → AreDistinctNames (ns ++ m ∷ [])
distinct_more m [] e d = (refl, tt)
distinct_more m (k ∷ ns) e d =
    (any_more k m ns ∙ or_from (list_any (bytes_eq k) ns) (bytes_eq k m) d.0 (bytes_eq-swap k m ∙ or_false_left (bytes_eq m k) (list_any (bytes_eq m) ns) e), distinct_more m ns (or_false_right (bytes_eq m k) (list_any (bytes_eq m) ns) e) d.1)
