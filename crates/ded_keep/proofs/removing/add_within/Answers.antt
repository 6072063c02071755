use Rattle.std.proofs.Common.{sym, ap, subst}
use Rattle.ded_model.specs.PlanForm.{plan_form}
use Rattle.ded_keep.specs.declared.removing.Within.{Within}
use Rattle.ded_keep.specs.Remaining.{IsWithin}
use Rattle.ded_keep.proofs.Leaving.{adds_whole, adds_pieces}
use Rattle.ded_keep.proofs.removing.add_within.Goals as goal

pub returns-then-within-clause-is : goal.returns-then-within-clause-is
returns-then-within-clause-is g c =
    adds_whole (g.A.Relations.catalogue c.args.after.now) (plan_form c.args.plan.now) c.args.tuple c.args.list.now.items c.args.cut.now.items c.put_behind.new.list.items c.in_ok-within.within.tuples
    c.in_ok-within.ensures.is c.in_ok-put_behind.ensures

pub returns-clause-is : goal.returns-clause-is
returns-clause-is g c =
    adds_pieces (g.A.Relations.catalogue c.args.after.now) (plan_form c.args.plan.now) c.args.tuple c.args.list.now.items c.args.cut.now.items c.append.new.self.items _
    (subst (IsWithin (g.A.Relations.catalogue c.args.after.now) (plan_form c.args.plan.now) c.args.tuple) (sym (ap (λ (w : Within). w.tuples) c.within.view_is)) c.in_ok-within.ensures.is) c.in_ok-append.ensures.items
