use Rattle.std.proofs.Common.{subst, sym}
use Rattle.std.specs.Prelude.{pos, ◌*ℤ◌, ◌≤ℤ◌, unsigned_abs}
use Rattle.ded_model.specs.Bound.{Fraction}
use Rattle.ded_layers.proofs.Utmost.{greatest_y}
use Rattle.ded_layers.proofs.index.greatest_y.Goals as goal

pub returns-in-Some : goal.returns-in-Some
returns-in-Some c = λ m hm lies.
    c.ceil_at.ensures m.y (unsigned_abs m.den)
    (subst (λ (f : Fraction). (m.y *ℤ f.den) ≤ℤ (f.num *ℤ pos (unsigned_abs m.den))) (sym c.y_of.ensures)
    (greatest_y c.args.planes.now c.args.top.plane c.in-Some.corner c.in-Some.ensures m hm lies c.requires.top c.requires.flat))
