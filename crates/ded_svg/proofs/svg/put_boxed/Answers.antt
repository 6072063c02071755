-- The start tag, the content and the end tag were put.
use Rattle.std.specs.Prelude.{codes}
use Rattle.ded_svg.specs.Markup.{attribute_text, markup_text}
use Rattle.ded_svg.specs.Pictures.{content_markup}
use Rattle.ded_svg.proofs.Puts.{last_seven}
use Rattle.ded_svg.proofs.svg.put_boxed.Goals as goal

pub returns : goal.returns
returns c =
    last_seven c.put-3.result c.args.text.now c.put.new.self c.put_attribute.new.text c.put_attribute-2.new.text c.put_attribute-3.new.text c.put-2.new.self c.put_content.new.text c.put-3.new.self
    (codes "<svg") (attribute_text (codes "xmlns") (codes "http://www.w3.org/2000/svg")) (attribute_text (codes "role") (codes "img")) (attribute_text (codes "viewBox") c.args.extent.now)
    (codes ">") (markup_text (content_markup c.args.picture.now)) (codes "</svg>\n")
    c.in_ok-put.ensures c.in_ok-put_attribute.ensures c.in_ok-put_attribute-2.ensures c.in_ok-put_attribute-3.ensures c.in_ok-put-2.ensures c.in_ok-put_content.ensures c.put-3.ensures
