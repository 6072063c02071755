use Rattle.std.proofs.Common.{sym, subst}
use Rattle.ded_figures.specs.declared.sight.Sight.{Sight}
use Rattle.ded_picture.specs.Parts.{AddsShown}
use Rattle.ded_picture.proofs.Showing.{adds_nothing, adds_wide, adds_long, adds_shown, is_long, is_shown}
use Rattle.ded_picture.proofs.parts.add_part.Goals as goal

pub returns-in-Nowhere : goal.returns-in-Nowhere
returns-in-Nowhere c =
    subst (λ (s : Sight). AddsShown c.args.window c.args.labels.now.keys s c.args.parts.now.list.items c.args.parts.now.wide c.args.parts.now.list.items c.args.parts.now.wide) (sym c.in-Nowhere.is)
    (adds_nothing _ _ _ _)

pub returns-in_ok-count_wide-in-Wide : goal.returns-in_ok-count_wide-in-Wide
returns-in_ok-count_wide-in-Wide c =
    subst (λ (s : Sight). AddsShown c.args.window c.args.labels.now.keys s c.args.parts.now.list.items c.args.parts.now.wide c.count_wide.new.parts.list.items c.count_wide.new.parts.wide) (sym c.in-Wide.is)
    (adds_wide _ _ _ _ _ _ c.in_ok-count_wide-in-Wide.ensures.list c.in_ok-count_wide-in-Wide.ensures.count)

pub returns-in_ok-push_shown-in-Some : goal.returns-in_ok-push_shown-in-Some
returns-in_ok-push_shown-in-Some c =
    subst (λ (s : Sight). AddsShown c.args.window c.args.labels.now.keys s c.args.parts.now.list.items c.args.parts.now.wide c.push_shown.new.parts.list.items c.push_shown.new.parts.wide) (sym c.in-Seen.is)
    (adds_shown _ _ _ c.in-Some.shown _ _ _ _ (is_shown _ _ _ _ c.in-Some.shown c.in-Some.is c.in_ok-shown-in-Seen.ensures) c.in_ok-push_shown-in-Some.ensures.list c.in_ok-push_shown-in-Some.ensures.count)

pub returns-in_ok-count_wide-in-None : goal.returns-in_ok-count_wide-in-None
returns-in_ok-count_wide-in-None c =
    subst (λ (s : Sight). AddsShown c.args.window c.args.labels.now.keys s c.args.parts.now.list.items c.args.parts.now.wide c.count_wide-in-None.new.parts.list.items c.count_wide-in-None.new.parts.wide) (sym c.in-Seen.is)
    (adds_long _ _ _ _ _ _ _ (is_long _ _ _ _ c.in-None.is c.in_ok-shown-in-Seen.ensures) c.in_ok-count_wide-in-None.ensures.list c.in_ok-count_wide-in-None.ensures.count)
