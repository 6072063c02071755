use Rattle.std.proofs.Common.{◌≡◌, true, sym, ◌∙◌}
use Rattle.std.specs.Prelude.{◌↔◌, IsTrue, false}
use Rattle.ded_model.specs.declared.slot.Slot.{Slot}
use Rattle.ded_model.specs.Point.{Point, IsPoint, same_slot}
use Rattle.ded_model.specs.Row.{theme_holds, theme_mentions}
use Rattle.ded_model.specs.Cell.{conj_holds}
use Rattle.ded_theory.specs.Conjunctions.{conj_mentions}
use Rattle.ded_theory.specs.Eliminations.{eliminated_atoms, eliminated_holds, SomeExtension}
use Rattle.ded_theme.specs.Sources.{source}
use Rattle.ded_theme.specs.Replacing.{replaced_holds, replaced_mentions}
use Rattle.ded_theme.proofs.Lists.{if_ok_weaker}
use Rattle.ded_theme.proofs.Pinning.{pinned_exact, pinned_slots}
use Rattle.ded_theme.proofs.Freeing.{free_exact, kept_normal, kept_slots}
use Rattle.ded_theme.proofs.elimination.eliminate.Goals as goal

pub returns-in-Some-clause-holds : goal.returns-in-Some-clause-holds
returns-in-Some-clause-holds c =
    let s = c.args.slot in
    let w = source c.in-Some.word in
    let atoms = c.args.atoms.now in
    if_ok_weaker
    (λ e. (p : Point) → eliminated_holds theme_holds e p ≡ conj_holds (replaced_holds s w) atoms p)
    (λ e. (p : Point) → IsPoint p → IsTrue (eliminated_holds theme_holds e p) ↔ SomeExtension s (conj_holds theme_holds atoms) p)
    c.with_word_in_all.result
    (λ e h p n. let x = pinned_exact s w atoms p n c.in-Some.ensures in ((λ k. x.0 (sym (h p) ∙ k)), (λ y. h p ∙ x.1 y)))
    c.with_word_in_all.ensures.holds

pub returns-in-Some-clause-slots : goal.returns-in-Some-clause-slots
returns-in-Some-clause-slots c =
    let s = c.args.slot in
    let w = source c.in-Some.word in
    let atoms = c.args.atoms.now in
    if_ok_weaker
    (λ e. (t : Slot) → conj_mentions theme_mentions (eliminated_atoms e) t ≡ true → conj_mentions (replaced_mentions s w) atoms t ≡ true)
    (λ e. (t : Slot) → conj_mentions theme_mentions (eliminated_atoms e) t ≡ true → (same_slot t s ≡ false) × (conj_mentions theme_mentions atoms t ≡ true))
    c.with_word_in_all.result
    (λ e h t k. pinned_slots s w atoms t c.in-Some.ensures (h t k))
    c.with_word_in_all.ensures.slots

pub returns-in_ok-without-in-None-clause-holds : goal.returns-in_ok-without-in-None-clause-holds
returns-in_ok-without-in-None-clause-holds c = λ p n. rw c.in_ok-without-in-None.ensures (free_exact c.args.slot c.args.atoms.now p c.requires c.in-None.ensures)

pub returns-in_ok-without-in-None-clause-normal : goal.returns-in_ok-without-in-None-clause-normal
returns-in_ok-without-in-None-clause-normal c = rw c.in_ok-without-in-None.ensures (kept_normal c.args.slot c.args.atoms.now c.requires)

pub returns-in_ok-without-in-None-clause-slots : goal.returns-in_ok-without-in-None-clause-slots
returns-in_ok-without-in-None-clause-slots c = rw c.in_ok-without-in-None.ensures (kept_slots c.args.slot c.args.atoms.now)
