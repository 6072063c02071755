use Rattle.std.proofs.Common.{◌≡◌, ◌∙◌, ap, subst}
use Rattle.std.specs.List.{list_all}
use Rattle.ded_model.proofs.Points.{and_right}
use Rattle.ded_ranges.specs.Boxes.{overlaps, may_pass, IsAround}
use Rattle.ded_ranges.proofs.Around.{passes}
use Rattle.ded_ranges.proofs.probe.Probe.may_pass.Goals as goal

pub returns-then-overlaps-clause-sound : goal.returns-then-overlaps-clause-sound
returns-then-overlaps-clause-sound c = λ m.
    let rs = c.args.reach.now in
    let ls = c.args.self.now in
    let b = c.self.inside.around in
    let is : c.self.inside.limits.now ≡ ls = c.self.view_is in
    let around : IsAround b ls = subst (IsAround b) is c.self.invariant in
    c.others_may_hold.ensures ∙ ap (λ xs. list_all (may_pass rs) xs) is ∙ and_right (overlaps b rs) (list_all (may_pass rs) ls) (passes b rs ls around m)
