-- What is left of the rows in the end.
use Rattle.std.proofs.Common.{◌≡◌, ◌<◌, true, false, [], refl, inl, inr}
use Rattle.std.specs.Prelude.{◌↔◌, IsTrue}
use Rattle.std.specs.List.{AllByRecursion}
use Rattle.ded_model.specs.declared.slot.Slot.{Slot}
use Rattle.ded_model.specs.Constraint.{LinearConstraint}
use Rattle.ded_model.specs.Point.{same_slot, Point}
use Rattle.ded_model.specs.Row.{row_holds, row_mentions}
use Rattle.ded_model.specs.Cell.{conj_holds}
use Rattle.ded_model.specs.Lines.{In, IsSubset, row_lines, elim_at}
use Rattle.ded_theory.specs.Conjunctions.{conj_mentions, conj_lines}
use Rattle.ded_elimination.specs.LinearAtoms.{IsLinearAtom}
use Rattle.ded_elimination.specs.Adding.{HoldExtended, IsRemaining, Adds}
use Rattle.ded_elimination.proofs.Conjunctions.{Rows, In-all, In-conj, mentions-In, lines-In}

module _ (Kind : LinearConstraint → Type 0) (s : Slot) (rows out : Rows) (added : Adds Kind s rows (HoldExtended s rows) [] true out) where
  -- each row is one that the elimination may leave
  all_remain : (r : LinearConstraint) → In r out → IsRemaining Kind s rows r
  all_remain r i = elim (added.remaining r i) [ inl none ↦ absurd none | inr l ↦ l ]

  pub outcome_holds : (p : Point) → 0 < p.den → IsTrue (conj_holds row_holds out p) ↔ HoldExtended s rows p
  outcome_holds p h = ((λ c. (added.holds p h refl c).1), (λ w. In-conj out p (λ r i. (all_remain r i).follows p h w)))

  pub outcome_normal : AllByRecursion IsLinearAtom out
  outcome_normal = In-all IsLinearAtom out (λ r i. (all_remain r i).normal)

  pub outcome_kind : AllByRecursion Kind out
  outcome_kind = In-all Kind out (λ r i. (all_remain r i).kind)

  pub outcome_slots : (t : Slot) → conj_mentions row_mentions out t ≡ true → (same_slot t s ≡ false) × (conj_mentions row_mentions rows t ≡ true)
  outcome_slots t m = let r = mentions-In out t m in (all_remain r.0 r.1).slots t r.2

  pub outcome_lines : IsSubset (conj_lines row_lines out) (elim_at s (conj_lines row_lines rows))
  outcome_lines l i = let r = lines-In out l i in (all_remain r.0 r.1).lines l r.2
