use Rattle.std.proofs.Common.{◌∙◌, sym, subst}
use Rattle.std.specs.Prelude.{pos, ◌<ℤ◌}
use Rattle.ded_polygon.specs.Plane.{Spot}
use Rattle.ded_strokes.proofs.Unions.{piece_near, near_piece}
use Rattle.ded_strokes.proofs.piece.PlanePiece.holds_near.Goals as goal

pub returns : goal.returns
returns c =
    let P : Spot → Type 0 = λ p. pos 0 <ℤ p.den in
    let positive : P c.args.corner = subst P c.corner.view_is c.corner.invariant.positive in (
      λ h. piece_near c.args.self.now c.args.corner c.args.direction positive (sym c.holds_soon.ensures ∙ h),
      λ h. c.holds_soon.ensures ∙ near_piece c.args.self.now c.args.corner c.args.direction positive h,
    )
