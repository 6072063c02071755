use Rattle.std.proofs.Common.{List, ◌++◌, ◌∙◌, ap, sym, subst}
use Rattle.ded_polygon.specs.Plane.{HalfPlane}
use Rattle.ded_polygon.specs.Lists.{AreAllVertices, AreJoined}
use Rattle.ded_polygon.specs.Vertices.{IsEnclosed}
use Rattle.ded_polygon.specs.Windows.{window_rows, window_planes}
use Rattle.ded_polygon.proofs.Results.{are_corners, bounded_around, bounded_outline}
use Rattle.ded_polygon.proofs.Framing.{planes_cut, cut_mentions, cut_bounded}
use Rattle.ded_polygon.proofs.polygon.cut.Goals as goal

pub returns-clause-corners : goal.returns-clause-corners
returns-clause-corners c =
    let x = c.args.x in
    let y = c.args.y in
    let rows = c.args.rows.now in
    let w = c.args.window in
    let cs = c.in_ok-arranged.field-0.items in
    let e = c.deref.ensures.value ∙ c.in_ok-add_window.ensures.sides ∙ ap (λ (ss : List HalfPlane). ss ++ window_planes w) c.in_ok-sides.ensures.sides ∙ sym (planes_cut x y c.requires.differ rows w) in
    are_corners x y c.requires.differ (rows ++ window_rows x y w) (cut_mentions x y rows w c.requires.only) cs (subst (λ ss. AreAllVertices ss cs) e c.in_ok-arranged.ensures.all)

pub returns-clause-around : goal.returns-clause-around
returns-clause-around c =
    let x = c.args.x in
    let y = c.args.y in
    let rows = c.args.rows.now in
    let w = c.args.window in
    let cs = c.in_ok-arranged.field-0.items in
    let e = c.deref.ensures.value ∙ c.in_ok-add_window.ensures.sides ∙ ap (λ (ss : List HalfPlane). ss ++ window_planes w) c.in_ok-sides.ensures.sides ∙ sym (planes_cut x y c.requires.differ rows w) in
    bounded_around x y c.requires.differ (rows ++ window_rows x y w) (cut_mentions x y rows w c.requires.only) cs (subst (λ ss. AreAllVertices ss cs) e c.in_ok-arranged.ensures.all)
    (subst (λ ss. IsEnclosed ss → AreJoined ss cs) e c.in_ok-arranged.ensures.joined) (cut_bounded x y c.requires.differ rows w c.in_ok-add_window.ensures.positive)

pub returns-clause-outline : goal.returns-clause-outline
returns-clause-outline c =
    let x = c.args.x in
    let y = c.args.y in
    let rows = c.args.rows.now in
    let w = c.args.window in
    let cs = c.in_ok-arranged.field-0.items in
    let e = c.deref.ensures.value ∙ c.in_ok-add_window.ensures.sides ∙ ap (λ (ss : List HalfPlane). ss ++ window_planes w) c.in_ok-sides.ensures.sides ∙ sym (planes_cut x y c.requires.differ rows w) in
    bounded_outline x y c.requires.differ (rows ++ window_rows x y w) (cut_mentions x y rows w c.requires.only) cs (subst (λ ss. AreAllVertices ss cs) e c.in_ok-arranged.ensures.all)
    (subst (λ ss. IsEnclosed ss → AreJoined ss cs) e c.in_ok-arranged.ensures.joined) (cut_bounded x y c.requires.differ rows w c.in_ok-add_window.ensures.positive)
