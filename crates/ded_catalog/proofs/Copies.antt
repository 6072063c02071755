-- A copy of the table stands for the same entries, and is kept where the table is.
use Rattle.std.proofs.Common.{◌≡◌, ℕ, ◌≤◌, length, None, List, [], ◌∷◌, refl, sym, ap, ◌∙◌, subst}
use Rattle.ded_model.specs.declared.name.Column.{Column}
use Rattle.ded_model.specs.Catalogue as entry
use Rattle.ded_model.specs.Form.{Form}
use Rattle.ded_model.specs.Known.{KnownNames, IsEntryOver, with_known, level_of}
use Rattle.ded_model.specs.Logic.{some_atom}
use Rattle.ded_model.specs.LongRows.{is_long_atom}
use Rattle.ded_model.specs.Made.{is_made}
use Rattle.ded_model.specs.Plain.{IsPlain}
use Rattle.ded_model.specs.Slotted.{goal_of}
use Rattle.ded_catalog.specs.declared.stored.Stored.{Stored}
use Rattle.ded_catalog.specs.declared.stored.Stored.TheVariants.{Relation, View}
use Rattle.ded_catalog.specs.Copies.{IsCopy, AreCopies}
use Rattle.ded_catalog.specs.Conditions.{IsRight, AreKept, IsKept}
use Rattle.ded_catalog.specs.Mentions.{AreMentions}
use Rattle.ded_catalog.specs.State.{entry_form, entry_forms}

-- a copy is the same entry
entry_copy : (n m : List ℕ) (s w : Stored) → m ≡ n → IsCopy s w → entry_form m w ≡ entry_form n s
entry_copy n m (Relation r) (Relation s) e c = λ i. entry.relation (e i) (c.0 i) (c.1 i) (c.2 i)
entry_copy n m (Relation r) (View w) e c = absurd c
entry_copy n m (View v) (Relation s) e c = absurd c
entry_copy n m (View v) (View w) e c = λ i. entry.view (e i) (c.0 i) (c.1 i)

mentions_copy : (f g : Form) (ns ms : List (List ℕ)) → g ≡ f → ms ≡ ns → AreMentions ns f → AreMentions ms g
mentions_copy f g ns ms e d h = subst (AreMentions ms) (sym e) (subst (λ l. AreMentions l f) (sym d) h)

right_copy : (K : KnownNames) (s w : Stored) → IsCopy s w → IsRight K s → IsRight K w
right_copy K (Relation r) (Relation s) c h = subst (λ (k : List Column). length k ≤ 16) (sym c.0) h
right_copy K (Relation r) (View w) c h = absurd c
right_copy K (View v) (Relation s) c h = absurd c
right_copy K (View v) (View w) c h = (c.3 ∙ h.0 ∙ ap (level_of K) (sym c.1), c.2 ∙ h.1 ∙ (λ i. goal_of (sym c.0 i) (sym c.1 i)), subst IsPlain (sym c.1) h.2, ap (some_atom is_long_atom) c.1 ∙ h.3, mentions_copy _ _ _ _ c.1 c.4 h.4)

pub forms_copy : (es fs : List (List ℕ × Stored)) → AreCopies es fs → entry_forms fs ≡ entry_forms es
forms_copy [] [] c = refl
forms_copy [] (f ∷ fs) c = absurd c
forms_copy (e ∷ es) [] c = absurd c
forms_copy (e ∷ es) (f ∷ fs) c = λ i. entry_copy e.0 f.0 e.1 f.1 c.0.0 c.0.1 i ∷ forms_copy es fs c.1 i

kept_copied : (limit : ℕ) (es fs : List (List ℕ × Stored)) (K : KnownNames) → AreCopies es fs → AreKept limit K es → AreKept limit K fs
kept_copied limit [] [] K c h = tt
kept_copied limit [] (f ∷ fs) K c h = absurd c
kept_copied limit (e ∷ es) [] K c h = absurd c
kept_copied limit (e ∷ es) (f ∷ fs) K c h =
    let same = entry_copy e.0 f.0 e.1 f.1 c.0.0 c.0.1 in (
      (ap K c.0.0 ∙ h.0.0, ap is_made c.0.0 ∙ h.0.1),
      subst (IsEntryOver limit K) (sym same) h.1,
      right_copy K e.1 f.1 c.0.1 h.2,
      subst (λ x. AreKept limit (with_known K x) fs) (sym same) (kept_copied limit es fs (with_known K (entry_form e.0 e.1)) c.1 h.3),
    )

pub kept_copy : (limit : ℕ) (es fs : List (List ℕ × Stored)) → AreCopies es fs → IsKept limit es → IsKept limit fs
kept_copy limit es fs c h = record { low = h.low; high = h.high; entries = kept_copied limit es fs (λ m. None) c h.entries }
