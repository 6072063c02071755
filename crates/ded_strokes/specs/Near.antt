-- Points as near as one likes in a direction.
use Rattle.std.specs.Prelude.{◌≡◌, ℕ, ◌<◌, ◌≤◌, ◌*◌, ℤ, pos, ◌+ℤ◌, ◌*ℤ◌, int_lt, int_le, Bool, true, ◌&&◌, ◌||◌, List}
use lib.IntN.{neg_ℤ}
use Rattle.std.specs.List.{list_all}
use Rattle.std.specs.Ordering.{int_eq}
use Rattle.ded_model.specs.declared.row.RowOp.{RowOp}
use Rattle.ded_model.specs.declared.row.RowOp.TheVariants.{Zero, AtMost, Below}
use Rattle.ded_num.specs.Length.{IsWithin}
use Rattle.ded_polygon.specs.Plane.{HalfPlane, Spot, level}
use Rattle.ded_strokes.specs.Bounds.{PlaneLimit}

-- a direction, by whole numbers
pub record Direction : Type 0 where
  pub u : ℤ
  pub v : ℤ

-- what the directions of short half planes have
pub record IsShortDirection (w : Direction) : Type 0 where
  pub u : IsWithin 31 w.u
  pub v : IsWithin 31 w.v

-- the direction straight out of a half plane
abbrev pub outward : HalfPlane → Direction
outward s = record { u = s.a; v = s.b }

-- the opposite direction
abbrev pub turned : Direction → Direction
turned w = record { u = neg_ℤ w.u; v = neg_ℤ w.v }

-- the point that is n / k times the direction off the spot
unfoldable pub moved : Spot → Direction → ℕ → ℕ → Spot
moved p w n k = record { x = p.x *ℤ pos k +ℤ (pos n *ℤ w.u) *ℤ p.den; y = p.y *ℤ pos k +ℤ (pos n *ℤ w.v) *ℤ p.den; den = p.den *ℤ pos k }

-- the test passes at the points as near as one likes in the direction: there is a positive number, 1 / reach, so that it passes at each
-- point that is a positive number up to that, n / k, times the direction off the spot
pub record Near (test : Spot → Bool) (p : Spot) (w : Direction) : Type 0 where
  pub reach : ℕ
  pub positive : 0 < reach
  pub passes : (n k : ℕ) → 0 < n → n * reach ≤ k → test (moved p w n k) ≡ true

-- how fast the level of a half plane grows in the direction
unfoldable pub growth : HalfPlane → Direction → ℤ
growth s w = s.a *ℤ w.u +ℤ s.b *ℤ w.v

-- a level that is z, and grows by g, is soon as the op says
abbrev pub soon : RowOp → ℤ → ℤ → Bool
soon Zero z g = int_eq z (pos 0) && int_eq g (pos 0)
soon AtMost z g = int_lt z (pos 0) || (int_eq z (pos 0) && int_le g (pos 0))
soon Below z g = int_lt z (pos 0) || (int_eq z (pos 0) && int_lt g (pos 0))

-- the limit holds soon after the spot
abbrev pub limit_soon : PlaneLimit → Spot → Direction → Bool
limit_soon b p w = soon b.op (level b.plane p) (growth b.plane w)

-- all limits of the piece hold soon after the spot, as is so where it has none
abbrev pub piece_soon : List PlaneLimit → Spot → Direction → Bool
piece_soon bs p w = list_all (λ b. limit_soon b p w) bs
