-- The start tag, the content and the end tag were put.
use Rattle.std.specs.Prelude.{codes}
use Rattle.ded_svg.specs.Markup.{attribute_text, markup_text}
use Rattle.ded_svg.specs.Pictures.{tile_content}
use Rattle.ded_svg.proofs.Puts.{last_eight}
use Rattle.ded_svg.proofs.around.put_tile.Goals as goal

pub returns : goal.returns
returns c =
    last_eight c.put-3.result c.args.text.now c.put.new.self c.put_attribute.new.text c.put_attribute-2.new.text c.put_attribute-3.new.text c.put_attribute-4.new.text c.put-2.new.self c.put_tile_content.new.text c.put-3.new.self
    (codes "<pattern") (attribute_text (codes "id") c.args.name.now) (attribute_text (codes "width") (codes "8")) (attribute_text (codes "height") (codes "8")) (attribute_text (codes "patternUnits") (codes "userSpaceOnUse"))
    (codes ">") (markup_text (tile_content c.args.colour)) (codes "</pattern>\n")
    c.in_ok-put.ensures c.in_ok-put_attribute.ensures c.in_ok-put_attribute-2.ensures c.in_ok-put_attribute-3.ensures c.in_ok-put_attribute-4.ensures c.in_ok-put-2.ensures c.in_ok-put_tile_content.ensures c.put-3.ensures
