use Rattle.std.proofs.Common.{◌≡◌, length, subst, sym, ap, ◌∙◌, SFits}
use Rattle.std.proofs.lemmas.List.{take_at}
use Rattle.std.specs.Int.{w128}
use Rattle.std.specs.List.{refill}
use Rattle.std.proofs.lemmas.Int.{to_z-of_z}
use Rattle.ded_model.specs.Coefs.{AreCoefs}
use Rattle.ded_model.specs.Normal.{DivideWhole, coefs_over}
use Rattle.ded_model.proofs.CoefDivision.{AreCoefs-coefs_over, length-coefs_over}
use Rattle.ded_model.proofs.row.Coefs.divide.Goals as goal

pub invariant_of-self : goal.invariant_of-self
invariant_of-self c =
    let fits : SFits w128 c.args.by = c.ranges.by in
    let old : AreCoefs c.self.inside.list.items = c.self.invariant in
    let whole : DivideWhole c.args.by c.self.inside.list.items = rw c.self.view_is c.requires.whole in
    let now : c.divide_all.new.list ≡ coefs_over c.args.by c.self.inside.list.items =
    c.divide_all.ensures ∙ ap (λ k. coefs_over k c.as_mut_slice.result.now) (to_z-of_z w128 c.args.by fits) ∙ ap (coefs_over c.args.by) c.as_mut_slice.ensures.value in
    let good : AreCoefs c.divide_all.new.list = rw now (AreCoefs-coefs_over c.args.by c.self.inside.list.items c.requires.nonzero whole old) in
    let long : length c.divide_all.new.list ≡ length c.self.inside.list.items = ap length now ∙ length-coefs_over c.args.by c.self.inside.list.items in
    let same : refill (length c.self.inside.list.items) c.self.inside.list.items c.divide_all.new.list ≡ c.divide_all.new.list =
    take_at c.divide_all.new.list _ (length c.self.inside.list.items) long in
    subst AreCoefs (sym same) good
