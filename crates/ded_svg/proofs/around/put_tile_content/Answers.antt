-- The ground and the hatch were put.
use Rattle.std.proofs.Common.{◌≡◌, ℕ, List, ◌++◌, subst}
use Rattle.std.specs.Prelude.{codes, OnOk}
use Rattle.ded_dump.proofs.Puts.{last_two}
use Rattle.ded_svg.specs.Markup.{markup_text}
use Rattle.ded_svg.specs.Palette.{hatch, tint}
use Rattle.ded_svg.specs.Pictures.{filled_markup, path_markup}
use Rattle.ded_svg.proofs.around.put_tile_content.Goals as goal

pub returns : goal.returns
returns c =
    last_two c.put_path.result c.args.text.now c.put_filled.new.text c.put_path.new.text (markup_text (filled_markup (tint c.args.colour) (codes "M0,0H8V8H0Z"))) (markup_text (path_markup (codes "hatch") (hatch c.args.colour)))
    (subst (λ (paint : List ℕ). c.put_filled.new.text ≡ c.args.text.now ++ markup_text (filled_markup paint (codes "M0,0H8V8H0Z"))) c.tint.ensures c.in_ok-put_filled.ensures)
    (subst (λ (outline : List ℕ). OnOk c.put_path.result (c.put_path.new.text ≡ c.put_filled.new.text ++ markup_text (path_markup (codes "hatch") outline))) c.hatch.ensures c.put_path.ensures)
