-- What is read back of an accepted formula holds of the same values.
use Rattle.std.proofs.Common.{ℕ, ◌<◌, List}
use Rattle.std.specs.Prelude.{◌↔◌}
use Rattle.ded_model.specs.declared.name.Column.{Column}
use Rattle.ded_model.specs.Catalogue.{Catalogue, at_slots, at_names, meaning, Holds}
use Rattle.ded_model.specs.Form.{Form}
use Rattle.ded_model.specs.Known.{KnownNames, IsAccepted}
use Rattle.ded_model.specs.Plain.{IsPlain}
use Rattle.ded_model.specs.Value.{Argument}
use Rattle.ded_sorts.proofs.Headings.{goals_mean}
use Rattle.ded_reread.specs.Formulas.{restored}
use Rattle.ded_reread.proofs.Accepted.{accepted_restored}
use Rattle.ded_reread.proofs.Goals.{alike_restored}

-- both hold where their goals do
pub holds_restored : (c : Catalogue) (K : KnownNames) (h : List Column) (f : Form) → IsAccepted K h f → IsPlain f → (d : ℕ) (xs : List Argument) → 0 < d
    → Holds c (restored h f) (record { den = d; coords = at_names h xs }) ↔ Holds c f (record { den = d; coords = at_names h xs })
holds_restored c K h f a p d xs i =
    let r = accepted_restored K h f a p in
    let new = goals_mean (meaning c) K h (restored h f) r.once r.bound r.sorted d xs i in
    let old = goals_mean (meaning c) K h f a.once a.bound a.sorted d xs i in
    let both = (alike_restored c K h f a p).holds (record { den = d; coords = at_slots 0 h xs }) i in
    (λ s. old.1 (both.0 (new.0 s)), λ s. new.1 (both.1 (old.0 s)))
