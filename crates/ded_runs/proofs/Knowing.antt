-- Of remade entries the same is known.
use Rattle.std.proofs.Common.{◌≡◌, ℕ, true, List, [], ◌∷◌, map, refl, ap, ◌∙◌, bytes_eq}
use Rattle.std.specs.Prelude.{Some, None, if◌then◌else◌}
use Rattle.ded_model.specs.Catalogue.{Entry, relation, view}
use Rattle.ded_model.specs.Known.{Known, KnownNames, level_of, entry_known, with_known, known_from, known_of}
use Rattle.ded_model.specs.Form.{Form}
use Rattle.ded_model.specs.declared.name.Column.{Column}
use Rattle.ded_reread.specs.Formulas.{restored}
use Rattle.ded_runs.specs.Remade.{remade_entry}

module _ (level : (K : KnownNames) (h : List Column) (f : Form) → level_of K (restored h f) ≡ level_of K f) where
  same_known : (K : KnownNames) (e : Entry) → entry_known K (remade_entry e) ≡ entry_known K e
  same_known K (relation n h m ts) = refl
  same_known K (view n h f) = ap (λ l. record { is_view = true; columns = h; level = l }) (level K h f)

  same_with : (K : KnownNames) (e : Entry) → with_known K (remade_entry e) ≡ with_known K e
  same_with K (relation n h m ts) = refl
  same_with K (view n h f) = ap {B = KnownNames} (λ (k : Known) (m : List ℕ). if bytes_eq m n then Some k else K m) (same_known K (view n h f))

  same_from : (K : KnownNames) (es : List Entry) → known_from K (map remade_entry es) ≡ known_from K es
  same_from K [] = refl
  same_from K (e ∷ es) = ap (λ (L : KnownNames). known_from L (map remade_entry es)) (same_with K e) ∙ same_from (with_known K e) es

  pub known_same : (es : List Entry) → known_of (map remade_entry es) ≡ known_of es
  unfolding known_of
  known_same es = same_from (λ n. None) es
