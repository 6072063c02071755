-- Pieces and unions of pieces as near as one likes: what holds soon is what holds near.
use Rattle.std.proofs.Common.{◌≡◌, ℕ, ◌+◌, ◌*◌, ◌<◌, ◌≤◌, Bool, true, false, ◌&&◌, ◌||◌, List, [], ◌∷◌, refl, sym, ap₂, ◌∙◌, arith}
use Rattle.std.specs.Prelude.{pos, ◌*ℤ◌, ◌<ℤ◌, unsigned_abs}
use Rattle.std.specs.List.{list_any}
use Rattle.ded_polygon.specs.Plane.{Spot}
use Rattle.ded_strokes.specs.Bounds.{PlaneLimit, limit_holds, piece_holds, union_holds}
use Rattle.ded_strokes.specs.Near.{Direction, Near, moved, growth, limit_soon, piece_soon}
use Rattle.ded_strokes.proofs.Soon.{limit_is}

-- the test has the value as near as one likes
pub record Settles (test : Spot → Bool) (value : Bool) (p : Spot) (w : Direction) : Type 0 where
  pub reach : ℕ
  pub positive : 0 < reach
  pub is : (n k : ℕ) → 0 < n → n * reach ≤ k → test (moved p w n k) ≡ value

-- then it passes near exactly where the value is true
pub near_of : (test : Spot → Bool) (value : Bool) (p : Spot) (w : Direction) → Settles test value p w → value ≡ true → Near test p w
near_of test value p w s h = record { reach = s.reach; positive = s.positive; passes = λ n k l m. s.is n k l m ∙ h }

pub of_near : (test : Spot → Bool) (value : Bool) (p : Spot) (w : Direction) → Settles test value p w → Near test p w → value ≡ true
of_near test value p w s h =
    sym (s.is 1 (s.reach + h.reach) (omega arith) (omega arith)) ∙ h.passes 1 (s.reach + h.reach) (omega arith) (omega arith)

left_reach : (n r s k : ℕ) → n * (r + s) ≤ k → n * r ≤ k
left_reach n r s k h = omega (arith, h)

right_reach : (n r s k : ℕ) → n * (r + s) ≤ k → n * s ≤ k
right_reach n r s k h = omega (arith, h)

module _ (p : Spot) (w : Direction) where
  always : (value : Bool) → Settles (λ m. value) value p w
  always value = record { reach = 1; positive = omega arith; is = λ n k l m. refl }

  joined : (f g : Spot → Bool) (a b : Bool) (op : Bool → Bool → Bool) → Settles f a p w → Settles g b p w → Settles (λ m. op (f m) (g m)) (op a b) p w
  joined f g a b op s t =
      let h = s.positive in
      record {
        reach = s.reach + t.reach;
        positive = omega arith;
        is = λ n k l m. ap₂ op (s.is n k l (left_reach n s.reach t.reach k m)) (t.is n k l (right_reach n s.reach t.reach k m));
      }

  module _ (q : pos 0 <ℤ p.den) where
    limit_settles : (b : PlaneLimit) → Settles (limit_holds b) (limit_soon b p w) p w
    limit_settles b = record { reach = unsigned_abs (growth b.plane w *ℤ p.den) + 1; positive = omega arith; is = λ n k h l. limit_is b p w n k q h l }

    pub piece_settles : (bs : List PlaneLimit) → Settles (piece_holds bs) (piece_soon bs p w) p w
    piece_settles [] = always true
    piece_settles (b ∷ bs) = joined (limit_holds b) (piece_holds bs) (limit_soon b p w) (piece_soon bs p w) (λ x y. x && y) (limit_settles b) (piece_settles bs)

    pub union_settles : (pieces : List (List PlaneLimit)) → Settles (union_holds pieces) (list_any (λ bs. piece_soon bs p w) pieces) p w
    union_settles [] = always false
    union_settles (bs ∷ pieces) =
        joined (piece_holds bs) (union_holds pieces) (piece_soon bs p w) (list_any (λ cs. piece_soon cs p w) pieces) (λ x y. x || y) (piece_settles bs) (union_settles pieces)

-- a piece near a spot
pub piece_near : (bs : List PlaneLimit) (p : Spot) (w : Direction) → pos 0 <ℤ p.den → piece_soon bs p w ≡ true → Near (piece_holds bs) p w
piece_near bs p w q h = near_of (piece_holds bs) (piece_soon bs p w) p w (piece_settles p w q bs) h

pub near_piece : (bs : List PlaneLimit) (p : Spot) (w : Direction) → pos 0 <ℤ p.den → Near (piece_holds bs) p w → piece_soon bs p w ≡ true
near_piece bs p w q h = of_near (piece_holds bs) (piece_soon bs p w) p w (piece_settles p w q bs) h
