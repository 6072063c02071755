-- Lemmas that several crates cite.
use Rattle.std.proofs.Common.{[]}
use Rattle.ded_model.specs.declared.slot.Sort.TheVariants.{Text}
use Rattle.ded_model.specs.Normal.{IsNormalTheme}
use Rattle.ded_model.specs.Row.{theme_holds, theme_mentions}
use Rattle.ded_model.proofs.Rows.{theme_holds-same}
use Rattle.ded_theory.proofs.PartLaws.{IsOfSort}
use Rattle.ded_theme.specs.Laws.{text-slot}

pub text_laws : IsOfSort theme_holds theme_mentions (λ a. []) IsNormalTheme Text
text_laws = record { respects = λ a p q _ _ same. theme_holds-same a p q same; sort = text-slot; line_slots = λ a l s none. absurd none }
