use Rattle.std.proofs.Common.{◌≡◌, ◌<◌, true, ap, sym, subst, ◌∙◌}
use Rattle.ded_model.specs.declared.slot.Slot.{Slot}
use Rattle.ded_model.specs.Point.{Point}
use Rattle.ded_model.specs.Row.{theme_holds, theme_mentions}
use Rattle.ded_model.specs.Normal.{IsNormalTheme}
use Rattle.ded_model.specs.Renaming.{IsRenamedPoint}
use Rattle.ded_theme.specs.Turning.{renamed_atom}
use Rattle.ded_theme.proofs.Lists.{if_ok_weaker}
use Rattle.ded_theme.proofs.Turning.{IsFromOld, renamed-holds, renamed-normal, renamed-slots}
use Rattle.ded_theme.proofs.theory.ThemeTheory.rename.Goals as goal

pub returns-clause-holds : goal.returns-clause-holds
returns-clause-holds c =
    let map = c.args.map.now in
    let old = c.args.atom.now in
    if_ok_weaker (λ a. a ≡ renamed_atom map old) (λ a. (p q : Point) → 0 < p.den → IsRenamedPoint map (theme_mentions old) p q → theme_holds a q ≡ theme_holds old p) c.renamed_theme.result
    (λ a e p q _ r. ap (λ b. theme_holds b q) e ∙ renamed-holds map old p q c.requires.normal r) c.renamed_theme.ensures

pub returns-clause-normal : goal.returns-clause-normal
returns-clause-normal c =
    let map = c.args.map.now in
    let old = c.args.atom.now in
    if_ok_weaker (λ a. a ≡ renamed_atom map old) IsNormalTheme c.renamed_theme.result
    (λ a e. subst IsNormalTheme (sym e) (renamed-normal map old c.requires.normal c.requires.one c.requires.sorts)) c.renamed_theme.ensures

pub returns-clause-slots : goal.returns-clause-slots
returns-clause-slots c =
    let map = c.args.map.now in
    let old = c.args.atom.now in
    if_ok_weaker (λ a. a ≡ renamed_atom map old) (λ a. (t : Slot) → theme_mentions a t ≡ true → IsFromOld map old t) c.renamed_theme.result
    (λ a e t m. renamed-slots map old t (sym (ap (λ b. theme_mentions b t) e) ∙ m)) c.renamed_theme.ensures
