use Rattle.std.proofs.Common.{rules, ◌≡◌, ◌∙◌, take, ◌+◌, false, refl, sym, subst, List}
use Rattle.ded_ranges.specs.declared.window.Window.{Window}
use Rattle.ded_ranges.specs.Windows.{IsMissed, IsNear}
use Rattle.ded_packed.specs.declared.lent.Lent.{Lent}
use Rattle.ded_packed.specs.Lent.{lent}
use Rattle.ded_ranges.proofs.Near.{kept_more, passed_more}
use Rattle.ded_ranges.proofs.window.Window.near.Goals as goal
use Rattle.ded_ranges.proofs.window.Window.near.Goals.{then-may_hold+in_ok-push, else-may_hold}

pub loop-tuple-preserved : goal.loop-tuple-preserved
loop-tuple-preserved c =
    let ts = c.args.tuples.now in
    let i = c.loop-tuple.tuple-index in
    let t = c.tuple-item.result in
    elim c.if-may_hold.branch [
      | then-may_hold+in_ok-push w ↦
          let items : c.if-may_hold.found.items ≡ w.push.new.self.items = search rules in
          kept_more c.args.self.now ts i t c.loop-tuple-test.true (sym c.tuple-item.is) c.loop-tuple.found.items c.if-may_hold.found.items _ refl (items ∙ w.in_ok-push.ensures.items) c.loop-tuple.invariant
      | else-may_hold w ↦
          let apart : c.may_hold.result ≡ false = search rules in
          let items : c.if-may_hold.found.items ≡ c.loop-tuple.found.items = search rules in
          let same : c.in_ok-sieve.sieve ≡ c.args.self.now = search rules in
          subst (λ (us : List Lent). IsNear c.args.self.now (lent us) (take (i + 1) ts)) (sym items)
          (passed_more c.args.self.now ts i t c.loop-tuple-test.true (sym c.tuple-item.is) c.loop-tuple.found.items (subst (λ (v : Window). IsMissed v t) same (c.may_hold.ensures apart)) c.loop-tuple.invariant)
    ]
