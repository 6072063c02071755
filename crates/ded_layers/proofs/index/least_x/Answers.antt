use Rattle.std.proofs.Common.{subst, sym}
use Rattle.std.specs.Prelude.{pos, ◌*ℤ◌, ◌≤ℤ◌, unsigned_abs}
use Rattle.ded_model.specs.Bound.{Fraction}
use Rattle.ded_layers.proofs.Utmost.{least_x}
use Rattle.ded_layers.proofs.index.least_x.Goals as goal

pub returns-in-Some : goal.returns-in-Some
returns-in-Some c = λ m hm lies.
    c.floor_at.ensures m.x (unsigned_abs m.den)
    (subst (λ (f : Fraction). (f.num *ℤ pos (unsigned_abs m.den)) ≤ℤ (m.x *ℤ f.den)) (sym c.x_of.ensures)
    (least_x c.args.planes.now c.args.left.plane c.in-Some.corner c.in-Some.ensures m hm lies c.requires.left c.requires.upright))
