use Rattle.std.proofs.Common.{rules, ◌≡◌, ◌&&◌, not, ap, ap₂, sym, ◌∙◌}
use Rattle.ded_model.specs.declared.tuple.BothAtom.TheVariants.{Second}
use Rattle.ded_model.specs.declared.tuple.ThemeAtom.TheVariants.{EqText}
use Rattle.ded_model.specs.Row.{atom_holds}
use Rattle.ded_keep.proofs.Unmet.{unlike_texts}
use Rattle.ded_keep.proofs.unlike.are_unlike.Goals as goal

pub returns-then-is_same : goal.returns-then-is_same
returns-then-is_same c e p =
    let k = c.in-Second-EqText-Second-EqText in
    let first : c.args.first.now ≡ Second (EqText k.at k.text) = search rules in
    let second : c.args.second.now ≡ Second (EqText k.there k.other) = search rules in
    ap₂ (λ a b. atom_holds a p && atom_holds b p) first second ∙ unlike_texts k.at k.there k.text k.other p (sym c.is_same.ensures ∙ c.if-is_same.true) (ap not (sym c.is_same-then-is_same.ensures) ∙ e)
