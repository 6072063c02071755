use Rattle.std.proofs.Common.{◌≡◌, ℕ, ◌+◌, arith, sym, ap, ◌∙◌, take}
use Rattle.std.specs.Prelude.{nat_eq}
use Rattle.std.proofs.lemmas.List.{take_all}
use Rattle.ded_model.specs.Logic.{as_count}
use Rattle.ded_genrel.proofs.Items.{done_to}
use Rattle.ded_query.specs.Windows.{scans_of}
use Rattle.ded_query.proofs.NearViews.{scans_of-push}
use Rattle.ded_query.proofs.near.is_only.Goals.{then-eq, else-eq}
use Rattle.ded_query.proofs.near.is_only.Goals as goal

same : (k : ℕ) → k ≡ k + 0
same k = omega arith

pub loop-scan-preserved : goal.loop-scan-preserved
loop-scan-preserved c =
    let n = c.args.name.now in
    let i = c.loop-scan.scan-index in
    let all = ap (scans_of n) (done_to c.args.scans.now i c.scan-item.result c.loop-scan-test.true c.scan-item.is) ∙ scans_of-push n (take i c.args.scans.now) c.scan-item.result in
    elim c.if-eq.branch [
      | then-eq w ↦ (
        w.count-is ∙ ap (λ k. k + 1) c.loop-scan.invariant.0 ∙ ap (λ b. scans_of n (take i c.args.scans.now) + as_count b) w.if-eq.ensures ∙ sym all,
        omega (arith, w.count-is, c.loop-scan.invariant.1),
      )
      | else-eq w ↦ (
        w.count-is ∙ c.loop-scan.invariant.0 ∙ same (scans_of n (take i c.args.scans.now)) ∙ ap (λ b. scans_of n (take i c.args.scans.now) + as_count b) w.if-eq.ensures ∙ sym all,
        omega (arith, w.count-is, c.loop-scan.invariant.1),
      )
    ]

pub returns : goal.returns
returns c = ap (λ k. nat_eq k 1) (c.loop-scan.invariant.0 ∙ ap (scans_of c.args.name.now) (take_all c.loop-scan.scan-index c.args.scans.now c.loop-scan-test.false))
