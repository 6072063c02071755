use Rattle.std.proofs.Common.{◌+◌, ◌∷◌, drop, ap, subst, sym, ◌∙◌}
use Rattle.ded_theme.specs.Sources.{source}
use Rattle.ded_theme.specs.Replacing.{made_holds, made_mentions, IsNormalMade}
use Rattle.ded_theme.proofs.Lists.{rest_from}
use Rattle.ded_theme.proofs.Loops.{IsReplacing, IsReplacing-always, IsReplacing-atom}
use Rattle.ded_theme.proofs.elimination.with_word_in_all.Goals as goal
use Rattle.ded_theme.proofs.elimination.with_word_in_all.Goals.{in-Always, in-Atom+in_ok-push-in-Atom}

pub loop-atom-preserved : goal.loop-atom-preserved
loop-atom-preserved c =
    let s = c.args.slot in
    let v = source c.args.word in
    let all = c.args.atoms.now in
    let rest = drop (c.loop-atom.atom-index + 1) all in
    let a = c.atom-item.result in
    let made = c.in_ok-with_word.ensures in
    let h : IsReplacing s v all (a ∷ rest) c.loop-atom.remaining.items =
    subst (λ r. IsReplacing s v all r c.loop-atom.remaining.items) (rest_from all c.loop-atom.atom-index a c.loop-atom-test.true c.atom-item.is) c.loop-atom.invariant in
    elim c.match-branch-2.branch [
      | in-Always w ↦ rw w.remaining-is (IsReplacing-always s v all a rest c.loop-atom.remaining.items h (λ p. ap (λ m. made_holds m p) (sym w.in-Always.is) ∙ made.holds p))
      | in-Atom+in_ok-push-in-Atom w ↦
          rw (w.remaining-is, w.in_ok-push-in-Atom.ensures.items)
          (IsReplacing-atom s v all a w.in-Atom.made rest c.loop-atom.remaining.items h
          (λ p. ap (λ m. made_holds m p) (sym w.in-Atom.is) ∙ made.holds p)
          (subst IsNormalMade w.in-Atom.is made.normal)
          (λ t k. made.slots t (ap (λ m. made_mentions m t) w.in-Atom.is ∙ k)))
    ]
