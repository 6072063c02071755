use Rattle.std.proofs.Common.{◌+◌, ◌≡◌, ◌∙◌, ◌++◌, ◌∷◌, [], Vec, Global, true, IsTrue, ap, drop, subst, sym}
use Rattle.std.proofs.lemmas.Result.{IfOk-weaker}
use Rattle.ded_model.specs.declared.slot.Slot.{Slot}
use Rattle.ded_model.specs.Normal.{IsNormalTuple}
use Rattle.ded_model.specs.Point.{Point}
use Rattle.ded_model.specs.Row.{Atom, tuple_holds, tuple_mentions}
use Rattle.ded_plan.specs.Scans.{is_over}
use Rattle.ded_plan.proofs.AddedScans.{next_of}
use Rattle.ded_plan.proofs.AtomsWithin.{picked_none, picked_more, picked_same, picked_hold, atoms_over}
use Rattle.ded_plan.proofs.scans.over_slots.Goals as goal
use Rattle.ded_plan.proofs.scans.over_slots.Goals.{then-is_over+in_ok-copy+in_ok-push, else-is_over}

pub loop-atom-init : goal.loop-atom-init
loop-atom-init c =
    picked_none (λ a. is_over c.args.slots.now a ≡ true) [] c.deref-atom-items.result.now c.new-atoms.result.items c.new-atoms.ensures.items (subst IsNormalTuple (sym c.deref-atom-items.ensures.value) c.tuple.invariant)

pub loop-atom-preserved : goal.loop-atom-preserved
loop-atom-preserved c =
    let P = λ (a : Atom). is_over c.args.slots.now a ≡ true in
    let all = c.deref-atom-items.result.now in
    let next = next_of all c.loop-atom.atom-index c.atom-item.result c.loop-atom-test.true c.atom-item.is in
    let slots = c.deref.ensures.value ∙ c.slots.view_is in
    elim c.if-is_over.branch [
      | then-is_over+in_ok-copy+in_ok-push w ↦
          picked_more P [] all (drop c.loop-atom.atom-index all) (drop (c.loop-atom.atom-index + 1) all) c.loop-atom.atoms.items c.if-is_over.atoms.items c.atom-item.result next
          (ap (λ (v : Vec Atom Global). v.items) w.atoms-is ∙ w.in_ok-push.ensures.items ∙ ap (λ a. c.loop-atom.atoms.items ++ a ∷ []) w.in_ok-copy.ensures)
          (subst (λ ss. is_over ss c.atom-item.result ≡ true) slots (sym w.if-is_over.ensures)) c.loop-atom.invariant
      | else-is_over w ↦
          picked_same P [] all (drop c.loop-atom.atom-index all) (drop (c.loop-atom.atom-index + 1) all) c.loop-atom.atoms.items c.if-is_over.atoms.items c.atom-item.result next (ap (λ (v : Vec Atom Global). v.items) w.atoms-is) c.loop-atom.invariant
    ]

pub normal_tuple-requires : goal.normal_tuple-requires
normal_tuple-requires c = c.loop-atom.invariant.normal tt

pub returns-clause-holds : goal.returns-clause-holds
returns-clause-holds c =
    let all = c.deref-atom-items.result.now in
    let taken = c.loop-atom.atoms.items in
    IfOk-weaker c.normal_tuple.result (λ t. (p : Point) → tuple_holds t p ≡ tuple_holds taken p) (λ t. (p : Point) → IsTrue (tuple_holds c.args.tuple.now p) → IsTrue (tuple_holds t p))
    (λ t m p h. m p ∙ picked_hold (λ a. is_over c.args.slots.now a ≡ true) all (drop c.loop-atom.atom-index all) taken c.args.tuple.now p (c.deref-atom-items.ensures.value ∙ c.tuple.view_is) c.loop-atom.invariant h) c.normal_tuple.ensures.holds

pub returns-clause-slots : goal.returns-clause-slots
returns-clause-slots c =
    IfOk-weaker c.normal_tuple.result (λ t. (s : Slot) → tuple_mentions t s ≡ true → tuple_mentions c.loop-atom.atoms.items s ≡ true) _
    (λ t m s h. atoms_over c.args.slots.now c.loop-atom.atoms.items s (c.loop-atom.invariant.own tt) (m s h)) c.normal_tuple.ensures.slots
