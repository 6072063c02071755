-- The characters of the valid text were put.
use Rattle.std.proofs.Common.{◌++◌, flat_map, chars, ◌∙◌, subst}
use Rattle.std.specs.Prelude.{◌≡◌, OnOk}
use Rattle.ded_svg.specs.Escaping.{character_text, escape}
use Rattle.ded_svg.proofs.escape.put_escaped.Goals as goal

pub returns : goal.returns
unfolding escape
returns c =
    subst (λ l. OnOk c.put_characters.result (c.put_characters.new.text ≡ c.args.text.now ++ flat_map character_text (chars l))) (c.as_str.ensures.value ∙ c.in_ok-valid.ensures.lossy) c.put_characters.ensures
