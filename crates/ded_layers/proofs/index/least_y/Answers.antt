use Rattle.std.proofs.Common.{subst, sym}
use Rattle.std.specs.Prelude.{pos, ◌*ℤ◌, ◌≤ℤ◌, unsigned_abs}
use Rattle.ded_model.specs.Bound.{Fraction}
use Rattle.ded_layers.proofs.Utmost.{least_y}
use Rattle.ded_layers.proofs.index.least_y.Goals as goal

pub returns-in-Some : goal.returns-in-Some
returns-in-Some c = λ m hm lies.
    c.floor_at.ensures m.y (unsigned_abs m.den)
    (subst (λ (f : Fraction). (f.num *ℤ pos (unsigned_abs m.den)) ≤ℤ (m.y *ℤ f.den)) (sym c.y_of.ensures)
    (least_y c.args.planes.now c.args.bottom.plane c.in-Some.corner c.in-Some.ensures m hm lies c.requires.bottom c.requires.flat))
