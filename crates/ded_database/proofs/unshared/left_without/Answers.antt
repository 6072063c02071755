use Rattle.std.proofs.Common.{◌++◌, ◌∷◌, [], Vec, Global, take, sym, ap, ◌∙◌, subst}
use Rattle.std.proofs.lemmas.List.{take_all}
use Rattle.ded_model.specs.Lines.{IsSubset, atoms_lines}
use Rattle.ded_model.specs.Row.{Atom}
use Rattle.ded_genrel.proofs.Items.{done_to}
use Rattle.ded_database.specs.Lost.{AreLeftWithout}
use Rattle.ded_database.proofs.RowLines.{left_none, left_kept, left_dropped}
use Rattle.ded_database.proofs.unshared.left_without.Goals.{then-not-branch+in_ok-copy+in_ok-push, else-not-branch}
use Rattle.ded_database.proofs.unshared.left_without.Goals as goal

pub loop-atom-init : goal.loop-atom-init
loop-atom-init c = subst (AreLeftWithout c.args.tuple.now []) (sym c.new-left.ensures.items) (left_none c.args.tuple.now)

pub loop-atom-preserved : goal.loop-atom-preserved
loop-atom-preserved c =
    let t = c.args.tuple.now in
    let done = take c.loop-atom.atom-index c.args.atoms.now in
    let a = c.atom-item.result in
    let same = c.deref-in-loop-atom.ensures.value ∙ c.in_ok-lines.ensures ∙ ap atoms_lines (c.deref.ensures.value ∙ c.tuple.view_is) in
    subst (λ u. AreLeftWithout t u c.if-not-branch.left.items) (sym (done_to c.args.atoms.now c.loop-atom.atom-index a c.loop-atom-test.true c.atom-item.is)) (elim c.if-not-branch.branch [
      | then-not-branch+in_ok-copy+in_ok-push w ↦ left_kept t done c.loop-atom.left.items c.if-not-branch.left.items a
          (ap (λ (v : Vec Atom Global). v.items) w.left-is ∙ w.in_ok-push.ensures.items ∙ ap (λ b. c.loop-atom.left.items ++ b ∷ []) w.in_ok-copy.ensures) c.loop-atom.invariant
      | else-not-branch w ↦ subst (AreLeftWithout t (done ++ a ∷ [])) (sym (ap (λ (v : Vec Atom Global). v.items) w.left-is))
          (left_dropped t done c.loop-atom.left.items a (subst (IsSubset (atoms_lines (a ∷ []))) same (c.in_ok-is_shared.ensures w.if-not-branch.false)) c.loop-atom.invariant)
    ])

pub returns : goal.returns
returns c = subst (λ u. AreLeftWithout c.args.tuple.now u c.loop-atom.left.items) (take_all c.loop-atom.atom-index c.args.atoms.now c.loop-atom-test.false) c.loop-atom.invariant
