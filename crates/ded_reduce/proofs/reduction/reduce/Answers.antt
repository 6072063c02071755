use Rattle.std.proofs.Common.{◌≡◌, ◌⊎◌, true, inl, inr}
use Rattle.ded_theory.specs.declared.answers.Verdict.TheVariants.{Inhabited, Unknown}
use Rattle.ded_reduce.proofs.Sublists.{sublist_slots, sublist_lines}
use Rattle.ded_reduce.proofs.Sifting.{reducing_none, reducing_more, reduced_is}
use Rattle.ded_reduce.proofs.reduction.reduce.Goals.{in-Inhabited, in-Unknown}
use Rattle.ded_reduce.proofs.reduction.reduce.Goals as goal

pub loop-left-init : goal.loop-left-init
loop-left-init g c = reducing_none g.T.Theory.decides g.T.Theory.holds g.T.Theory.mentions g.T.Theory.lines g.T.Theory.normal c.args.conj.now c.in_ok-left.left.items c.in_ok-left.ensures c.requires.normal

pub loop-left-preserved : goal.loop-left-preserved
loop-left-preserved g c = reducing_more g.T.Theory.decides g.T.Theory.holds g.T.Theory.mentions g.T.Theory.lines g.T.Theory.normal c.args.conj.now c.loop-left.left.items c.sift.new.conj.items c.match-branch-3.is_open c.in_ok-sift.field-0 c.loop-left.invariant c.in_ok-sift.ensures

pub returns-then-not-branch : goal.returns-then-not-branch
returns-then-not-branch g c =
    let settles : (c.in_ok-refute.field-0 ≡ Inhabited) ⊎ ((c.in_ok-refute.field-0 ≡ Unknown) × (c.match-branch-3.is_open ≡ true))
    = elim c.match-branch-3.branch [ in-Inhabited w ↦ inl w.in-Inhabited.is | in-Unknown w ↦ inr (w.in-Unknown.is, w.is_open-is) ] in
    let r = reducing_more g.T.Theory.decides g.T.Theory.holds g.T.Theory.mentions g.T.Theory.lines g.T.Theory.normal c.args.conj.now c.loop-left.left.items c.sift.new.conj.items c.match-branch-3.is_open c.in_ok-sift.field-0 c.loop-left.invariant c.in_ok-sift.ensures in
    let is = reduced_is g.T.Theory.decides g.T.Theory.holds g.T.Theory.mentions g.T.Theory.lines g.T.Theory.normal c.deref.result.now c.loop-left.left.items c.sift.new.conj.items c.in_ok-refute.field-0 c.match-branch-3.is_open c.in_ok-sift.field-0 c.deref.ensures.value settles c.in_ok-refute.ensures.verdict
    c.in_ok-refute.ensures.decided c.if-not-branch.true c.in_ok-sift.ensures in
    record {
      gone = tt;
      holds = r.holds;
      kept = r.kept;
      slots = λ s e. sublist_slots g.T.Theory.mentions s c.sift.new.conj.items c.args.conj.now r.kept e;
      lines = sublist_lines g.T.Theory.lines c.sift.new.conj.items c.args.conj.now r.kept;
      normal = r.all_normal;
      reduced = λ n. is (λ o. n o.1);
      decided = λ d. is (λ o. o.0 d);
    }
