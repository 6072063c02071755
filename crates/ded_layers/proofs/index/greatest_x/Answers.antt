use Rattle.std.proofs.Common.{subst, sym}
use Rattle.std.specs.Prelude.{pos, ◌*ℤ◌, ◌≤ℤ◌, unsigned_abs}
use Rattle.ded_model.specs.Bound.{Fraction}
use Rattle.ded_layers.proofs.Utmost.{greatest_x}
use Rattle.ded_layers.proofs.index.greatest_x.Goals as goal

pub returns-in-Some : goal.returns-in-Some
returns-in-Some c = λ m hm lies.
    c.ceil_at.ensures m.x (unsigned_abs m.den)
    (subst (λ (f : Fraction). (m.x *ℤ f.den) ≤ℤ (f.num *ℤ pos (unsigned_abs m.den))) (sym c.x_of.ensures)
    (greatest_x c.args.planes.now c.args.right.plane c.in-Some.corner c.in-Some.ensures m hm lies c.requires.right c.requires.upright))
