-- What the answers of cuts tell.
use Rattle.std.proofs.Common.{◌≡◌, true, List, []}
use Rattle.std.specs.Prelude.{pos, ◌<ℤ◌, Option, Some, None, MatchOption}
use Rattle.ded_polygon.specs.Plane.{Spot, In, level, bend}
use Rattle.ded_strokes.specs.Bounds.{PlaneLimit}
use Rattle.ded_strokes.specs.Strokes.{parts_levels}
use Rattle.ded_strokes.specs.Cuts.{IsCut}
use Rattle.ded_strokes.specs.Stretches.{IsProper}
use Rattle.ded_strokes.proofs.Borders.{alike}

-- a border that is crossed between two corners of a side has a cut there
pub cut_of : (side b : PlaneLimit) (p q : Spot) (bs : List PlaneLimit) → IsProper side.plane → pos 0 <ℤ p.den → pos 0 <ℤ q.den → level side.plane p ≡ pos 0 → level side.plane q ≡ pos 0
    → In b bs → parts_levels (level b.plane p) (level b.plane q) ≡ true → (o : Option Spot)
    → MatchOption o (parts_levels (level b.plane p) (level b.plane q) ≡ true → bend side.plane b.plane ≡ pos 0) (λ c. IsCut side b p q c)
    → MatchOption o (bs ≡ []) (λ c. (d : PlaneLimit) × In d bs × IsCut side d p q c)
cut_of side b p q bs proper hp hq sp sq i h None m = absurd (alike side.plane b.plane (m h) p q proper hp hq sp sq h)
cut_of side b p q bs proper hp hq sp sq i h (Some c) m = (b, i, m)
