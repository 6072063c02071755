use Rattle.std.proofs.Common.{◌≡◌, true, ap₂, subst, sym}
use Rattle.ded_model.specs.Logic.{atom}
use Rattle.ded_model.specs.PlanForm.{scan}
use Rattle.ded_model.specs.Point.{stands_in}
use Rattle.ded_plan.specs.declared.scans.ScanWithin.{ScanWithin}
use Rattle.ded_plan.specs.Scans.{AddsScans}
use Rattle.ded_plan.proofs.AddedScans.{adds_scan}
use Rattle.ded_plan.proofs.scans.add_scan.Goals as goal

pub returns : goal.returns
returns c =
    let s : ScanWithin = record { name = c.in_ok-copy.field-0; slots = c.in_ok-copy-2.field-0; within = c.in_ok-over_slots.field-0 } in
    subst (λ a. AddsScans (atom a) c.args.within.now c.args.scans.now.items c.push.new.self.items) (ap₂ scan c.in_ok-copy.ensures c.in_ok-copy-2.ensures)
    (adds_scan s c.args.within.now c.args.scans.now.items c.push.new.self.items c.in_ok-push.ensures.items c.in_ok-over_slots.ensures.holds
    (λ u m. subst (λ ss. stands_in ss u ≡ true) (sym c.in_ok-copy-2.ensures) (c.in_ok-over_slots.ensures.slots u m)))
