-- Rows over two slots at a point, and their limits at its spot.
use Rattle.std.proofs.Common.{◌≡◌, false, ◌&&◌, List, [], ◌∷◌, inl, inr, refl, ap, ap₂}
use Rattle.ded_model.specs.declared.slot.Slot.{Slot}
use Rattle.ded_model.specs.Constraint.{LinearConstraint}
use Rattle.ded_model.specs.Point.{Point, same_slot}
use Rattle.ded_model.specs.Row.{sign_meets, row_holds}
use Rattle.ded_polygon.specs.Closures.{MentionsOnly, MentionOnly}
use Rattle.ded_polygon.proofs.RowLevels.{row_level}
use Rattle.ded_strokes.specs.Bounds.{PlaneLimit, limit_of, limits_of, limit_holds, rows_hold, piece_holds, spot_at}

module _ (x y : Slot) (differ : same_slot x y ≡ false) (p : Point) where
  row_is : (r : LinearConstraint) → MentionsOnly x y r → row_holds r p ≡ limit_holds (limit_of x y r) (spot_at x y p)
  unfolding row_holds
  row_is r only = ap (sign_meets r.op) (row_level x y p differ r only)

  pub rows_are : (rows : List LinearConstraint) → MentionOnly x y rows → rows_hold rows p ≡ piece_holds (limits_of x y rows) (spot_at x y p)
  rows_are [] only = refl
  rows_are (r ∷ rows) only = ap₂ (λ a b. a && b) (row_is r (only r (inl refl))) (rows_are rows (λ q h. only q (inr h)))

-- four limits that are told one by one
pub four : (a b c d a' b' c' d' : PlaneLimit) → a ≡ a' → b ≡ b' → c ≡ c' → d ≡ d' → ◌≡◌ {A = List PlaneLimit} (a ∷ b ∷ c ∷ d ∷ []) (a' ∷ b' ∷ c' ∷ d' ∷ [])
four a b c d a' b' c' d' ea eb ec ed = rw (ea, eb, ec, ed) refl
