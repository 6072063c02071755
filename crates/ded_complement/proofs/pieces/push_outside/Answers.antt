use Rattle.std.proofs.Common.{◌≡◌, ◌+◌, [], ◌∷◌, ◌++◌, Vec, Global, take, refl, ap, ◌∙◌, subst}
use Rattle.std.specs.List.{AllByRecursion}
use Rattle.ded_num.proofs.Tests.{all-at}
use Rattle.ded_genrel.proofs.Items.{done_to}
use Rattle.ded_complement.proofs.PieceLaws.{all_left, all_right}
use Rattle.ded_complement.proofs.Cutting.{taken_all, Cutting, cutting_none, cutting_added, cutting_implied, cut_more}
use Rattle.ded_complement.proofs.pieces.push_outside.Goals as goal
use Rattle.ded_complement.proofs.pieces.push_outside.Goals.{then-branch+in_ok-copy+in_ok-push, else-branch}

pub loop-atom-init : goal.loop-atom-init
loop-atom-init g c = cutting_none g.T.Theory.holds g.T.Theory.mentions g.T.Theory.lines g.T.Theory.cell g.T.Theory.normal c.args.piece.items c.args.piece.items c.args.out.now c.args.out.now refl refl c.requires.normal

pub push_negated-requires-clause-normal_atom : goal.push_negated-requires-clause-normal_atom
push_negated-requires-clause-normal_atom g c =
    let e : c.args.conj.now ≡ c.in-Some.others.now ++ c.in-Some.last.now ∷ [] = c.in-Some.ensures.cases.0 in
    all-at g.T.Theory.normal c.in-Some.others.now c.loop-atom.atom-index c.atom-item.result c.loop-atom-test.true c.atom-item.is (all_left g.T.Theory.normal c.in-Some.others.now (c.in-Some.last.now ∷ []) (subst (AllByRecursion g.T.Theory.normal) e c.requires.normal_conj))

pub push_negated-requires-2-clause-normal_atom : goal.push_negated-requires-2-clause-normal_atom
push_negated-requires-2-clause-normal_atom g c =
    let e : c.args.conj.now ≡ c.in-Some.others.now ++ c.in-Some.last.now ∷ [] = c.in-Some.ensures.cases.0 in
    (all_right g.T.Theory.normal c.in-Some.others.now (c.in-Some.last.now ∷ []) (subst (AllByRecursion g.T.Theory.normal) e c.requires.normal_conj)).0

pub loop-atom-preserved : goal.loop-atom-preserved
loop-atom-preserved g c =
    let next = done_to c.in-Some.others.now c.loop-atom.atom-index c.atom-item.result c.loop-atom-test.true c.atom-item.is in
    let e : c.args.conj.now ≡ c.in-Some.others.now ++ c.in-Some.last.now ∷ [] = c.in-Some.ensures.cases.0 in
    let same = c.in_ok-copy_conj.ensures ∙ c.deref.ensures.value in
    elim c.if-branch.branch [
      | then-branch+in_ok-copy+in_ok-push w ↦ cutting_added g.T.Theory.holds g.T.Theory.mentions g.T.Theory.lines g.T.Theory.cell g.T.Theory.normal c.args.piece.items (take c.loop-atom.atom-index c.in-Some.others.now) (take (c.loop-atom.atom-index + 1) c.in-Some.others.now) c.args.out.now c.loop-atom.out c.push_negated.new.out
          c.loop-atom.rest.items c.in_ok-copy_conj.field-0.items c.if-branch.rest.items c.atom-item.result w.in_ok-copy.field-0 next same (ap (λ (v : Vec g.row.T-Atom.Denot Global). v.items) w.rest-is ∙ w.in_ok-push.ensures.items) w.in_ok-copy.ensures
          (all-at g.T.Theory.normal c.in-Some.others.now c.loop-atom.atom-index c.atom-item.result c.loop-atom-test.true c.atom-item.is (all_left g.T.Theory.normal c.in-Some.others.now (c.in-Some.last.now ∷ []) (subst (AllByRecursion g.T.Theory.normal) e c.requires.normal_conj)))
          c.loop-atom.invariant c.in_ok-push_negated.ensures.more
      | else-branch w ↦ cutting_implied g.T.Theory.holds g.T.Theory.mentions g.T.Theory.lines g.T.Theory.cell g.T.Theory.normal c.args.piece.items (take c.loop-atom.atom-index c.in-Some.others.now) (take (c.loop-atom.atom-index + 1) c.in-Some.others.now) c.args.out.now c.loop-atom.out c.push_negated.new.out
          c.loop-atom.rest.items c.in_ok-copy_conj.field-0.items c.if-branch.rest.items c.atom-item.result next same (ap (λ (v : Vec g.row.T-Atom.Denot Global). v.items) w.rest-is)
          c.loop-atom.invariant c.in_ok-push_negated.ensures.more (c.in_ok-push_negated.ensures.dropped w.if-branch.false)
    ]

pub returns : goal.returns
returns g c =
    let e : c.args.conj.now ≡ c.in-Some.others.now ++ c.in-Some.last.now ∷ [] = c.in-Some.ensures.cases.0 in
    cut_more g.T.Theory.holds g.T.Theory.mentions g.T.Theory.lines g.T.Theory.cell g.T.Theory.normal c.args.piece.items c.in-Some.others.now c.args.conj.now c.args.out.now c.loop-atom.out c.push_negated-2.new.out c.loop-atom.rest.items c.loop-atom.rest.items c.in-Some.last.now e refl
    (subst (λ xs. Cutting g.T.Theory.holds g.T.Theory.mentions g.T.Theory.lines g.T.Theory.cell g.T.Theory.normal c.args.piece.items xs c.args.out.now c.loop-atom.out c.loop-atom.rest.items) (taken_all c.in-Some.others.now c.loop-atom.atom-index c.loop-atom-test.false) c.loop-atom.invariant)
    c.in_ok-push_negated-2.ensures.more
