-- The start tag, the title and the end tag were put.
use Rattle.std.specs.Prelude.{codes}
use Rattle.ded_svg.specs.Markup.{attribute_text, markup_text}
use Rattle.ded_svg.specs.Pictures.{words_markup}
use Rattle.ded_svg.proofs.Puts.{last_eight}
use Rattle.ded_svg.proofs.element.put_painted.Goals as goal

pub returns : goal.returns
returns c =
    last_eight c.put-3.result c.args.text.now c.put.new.self c.put_attribute.new.text c.put_attribute-2.new.text c.put_attribute-3.new.text c.put_attribute-4.new.text c.put-2.new.self c.put_words.new.text c.put-3.new.self
    (codes "<path") (attribute_text (codes "class") c.args.kind.now) (attribute_text (codes "fill") c.args.paint.now) (attribute_text (codes "stroke") c.args.paint.now) (attribute_text (codes "d") c.args.outline.now)
    (codes ">") (markup_text (words_markup (codes "title") c.args.title.now)) (codes "</path>\n")
    c.in_ok-put.ensures c.in_ok-put_attribute.ensures c.in_ok-put_attribute-2.ensures c.in_ok-put_attribute-3.ensures c.in_ok-put_attribute-4.ensures c.in_ok-put-2.ensures c.in_ok-put_words.ensures c.put-3.ensures
