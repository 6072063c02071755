-- Copies of what stands under a name.
use Rattle.std.specs.Prelude.{◌≡◌, ℕ, List}
use Rattle.std.specs.List.{AllZip}
use Rattle.ded_model.specs.Form.{form}
use Rattle.ded_model.specs.Goal.{goal_form}
use Rattle.ded_catalog.specs.declared.stored.Stored.{Stored}
use Rattle.ded_catalog.specs.declared.stored.Stored.TheVariants.{Relation, View}

-- relations with equal parts, or views whose formulas and goals stand for the same, with equal levels and names
abbrev pub IsCopy : Stored → Stored → Type 0
IsCopy (Relation r) (Relation s) = (s.heading ≡ r.heading) × (s.inserts ≡ r.inserts) × (s.tuples.entries ≡ r.tuples.entries)
IsCopy (Relation r) (View w) = ⊥
IsCopy (View v) (Relation s) = ⊥
IsCopy (View v) (View w) = (w.heading ≡ v.heading) × (form w.formula ≡ form v.formula) × (goal_form w.goal ≡ goal_form v.goal) × (w.level ≡ v.level)
    × (w.mentions.items ≡ v.mentions.items)

-- the second table is a copy of the first
abbrev pub AreCopies : List (List ℕ × Stored) → List (List ℕ × Stored) → Type 0
AreCopies es fs = AllZip (λ p q. (q.0 ≡ p.0) × IsCopy p.1 q.1) es fs
