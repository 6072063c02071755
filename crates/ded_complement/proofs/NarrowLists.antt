-- Where all atoms of a list of conjunctions together aren't wide, no conjunction is.
use Rattle.std.proofs.Common.{Bool, List, [], ◌∷◌, ◌++◌, sym, ◌∙◌, subst}
use Rattle.std.specs.List.{AllByRecursion}
use Rattle.ded_model.specs.declared.slot.Slot.{Slot}
use Rattle.ded_model.specs.Lines.{Line, In}
use Rattle.ded_model.proofs.Rows.{or_left, or_right}
use Rattle.ded_model.proofs.Members.{In-left, In-right}
use Rattle.ded_theory.specs.Conjunctions.{conj_mentions, conj_lines, IsWide}
use Rattle.ded_theory.proofs.Conjunctions.{conj_mentions-append}
use Rattle.ded_theory.proofs.Parted.{wide_more}
use Rattle.ded_genrel.specs.Lists.{AreNormal}
use Rattle.ded_genrel.proofs.Items.{all-append}
use Rattle.ded_genrel.proofs.Laws.{conj_lines-append}
use Rattle.ded_complement.specs.Pieces.{all_atoms}

-- what holds of the atoms of each conjunction holds of them all
pub all_of_each : {A : Type 0} (P : A → Type 0) (conjs : List (List A)) → AreNormal P conjs → AllByRecursion P (all_atoms conjs)
all_of_each P [] h = tt
all_of_each P (c ∷ conjs) h = all-append P c (all_atoms conjs) h.0 (all_of_each P conjs h.1)

module _ {A : Type 0} (m : A → Slot → Bool) (l : A → List Line) where
  wide_first : (c atoms : List A) → IsWide m l c → IsWide m l (c ++ atoms)
  wide_first c atoms =
      wide_more m l m l c (c ++ atoms)
      (λ x i. subst (In x) (sym (conj_lines-append l c atoms)) (In-left x (conj_lines l c) (conj_lines l atoms) i))
      (λ s e. conj_mentions-append m c atoms s ∙ or_left (conj_mentions m c s) (conj_mentions m atoms s) e)

  wide_rest : (c atoms : List A) → IsWide m l atoms → IsWide m l (c ++ atoms)
  wide_rest c atoms =
      wide_more m l m l atoms (c ++ atoms)
      (λ x i. subst (In x) (sym (conj_lines-append l c atoms)) (In-right x (conj_lines l c) (conj_lines l atoms) i))
      (λ s e. conj_mentions-append m c atoms s ∙ or_right (conj_mentions m c s) (conj_mentions m atoms s) e)

  -- where the atoms of all conjunctions together aren't wide, no conjunction is
  pub none_wide : (conjs : List (List A)) → (IsWide m l (all_atoms conjs) → ⊥) → AllByRecursion (λ c. IsWide m l c → ⊥) conjs
  none_wide [] n = tt
  none_wide (c ∷ conjs) n = (λ w. n (wide_first c (all_atoms conjs) w), none_wide conjs (λ w. n (wide_rest c (all_atoms conjs) w)))
