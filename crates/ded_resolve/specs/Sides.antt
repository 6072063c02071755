-- Sides of comparisons of texts.
use Rattle.ded_model.specs.Slotted.{TextSide, at, word}
use Rattle.ded_resolve.specs.declared.texts.ComparedText.{ComparedText}
use Rattle.ded_resolve.specs.declared.texts.ComparedText.TheVariants.{At, Word}

-- what a value of the program stands for
abbrev pub side_form : ComparedText → TextSide
side_form (At s) = at s
side_form (Word t) = word t.now
