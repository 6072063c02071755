use Rattle.std.proofs.Common.{◌+◌, ◌≡◌, ◌∙◌, ◌++◌, ◌∷◌, [], Vec, Global, true, false, IsTrue, ap, drop, subst, sym}
use Rattle.std.proofs.lemmas.Result.{IfOk-weaker}
use Rattle.ded_model.specs.declared.slot.Slot.{Slot}
use Rattle.ded_model.specs.Normal.{IsNormalTuple}
use Rattle.ded_model.specs.Point.{Point}
use Rattle.ded_model.specs.Row.{Atom, tuple_holds, atom_mentions, tuple_mentions}
use Rattle.ded_ranges.proofs.Columns.{contrary}
use Rattle.ded_plan.proofs.AddedScans.{next_of}
use Rattle.ded_plan.proofs.AtomsWithin.{picked_none, picked_more, picked_same, picked_hold, atoms_without}
use Rattle.ded_plan.proofs.scans.without_slot.Goals as goal
use Rattle.ded_plan.proofs.scans.without_slot.Goals.{then-not-mentions+in_ok-copy+in_ok-push, else-not-mentions}

pub loop-atom-init : goal.loop-atom-init
loop-atom-init c =
    picked_none (λ a. atom_mentions a c.args.slot ≡ false) [] c.deref-atom-items.result.now c.new-atoms.result.items c.new-atoms.ensures.items (subst IsNormalTuple (sym c.deref-atom-items.ensures.value) c.tuple.invariant)

pub loop-atom-preserved : goal.loop-atom-preserved
loop-atom-preserved c =
    let P = λ (a : Atom). atom_mentions a c.args.slot ≡ false in
    let all = c.deref-atom-items.result.now in
    let next = next_of all c.loop-atom.atom-index c.atom-item.result c.loop-atom-test.true c.atom-item.is in
    elim c.if-not-mentions.branch [
      | then-not-mentions+in_ok-copy+in_ok-push w ↦
          picked_more P [] all (drop c.loop-atom.atom-index all) (drop (c.loop-atom.atom-index + 1) all) c.loop-atom.atoms.items c.if-not-mentions.atoms.items c.atom-item.result next
          (ap (λ (v : Vec Atom Global). v.items) w.atoms-is ∙ w.in_ok-push.ensures.items ∙ ap (λ a. c.loop-atom.atoms.items ++ a ∷ []) w.in_ok-copy.ensures)
          (sym w.if-not-mentions.ensures) c.loop-atom.invariant
      | else-not-mentions w ↦
          picked_same P [] all (drop c.loop-atom.atom-index all) (drop (c.loop-atom.atom-index + 1) all) c.loop-atom.atoms.items c.if-not-mentions.atoms.items c.atom-item.result next (ap (λ (v : Vec Atom Global). v.items) w.atoms-is) c.loop-atom.invariant
    ]

pub normal_tuple-requires : goal.normal_tuple-requires
normal_tuple-requires c = c.loop-atom.invariant.normal tt

pub returns-clause-holds : goal.returns-clause-holds
returns-clause-holds c =
    let all = c.deref-atom-items.result.now in
    let taken = c.loop-atom.atoms.items in
    IfOk-weaker c.normal_tuple.result (λ t. (p : Point) → tuple_holds t p ≡ tuple_holds taken p) (λ t. (p : Point) → IsTrue (tuple_holds c.args.tuple.now p) → IsTrue (tuple_holds t p))
    (λ t m p h. m p ∙ picked_hold (λ a. atom_mentions a c.args.slot ≡ false) all (drop c.loop-atom.atom-index all) taken c.args.tuple.now p (c.deref-atom-items.ensures.value ∙ c.tuple.view_is) c.loop-atom.invariant h) c.normal_tuple.ensures.holds

pub returns-clause-slot : goal.returns-clause-slot
returns-clause-slot c =
    IfOk-weaker c.normal_tuple.result (λ t. (s : Slot) → tuple_mentions t s ≡ true → tuple_mentions c.loop-atom.atoms.items s ≡ true) _
    (λ t m. contrary (tuple_mentions t c.args.slot) (tuple_mentions c.loop-atom.atoms.items c.args.slot) (m c.args.slot) (atoms_without c.loop-atom.atoms.items c.args.slot (c.loop-atom.invariant.own tt))) c.normal_tuple.ensures.slots
