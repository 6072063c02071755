-- The box of a test that passes where one of two does, and tests that pass alike.
use Rattle.std.proofs.Common.{◌≡◌, ℕ, ◌+◌, ◌<◌, Bool, false, ◌||◌, List, [], ◌∷◌, arith, sym, ap, ◌∙◌}
use Rattle.ded_model.specs.declared.name.Column.{Column}
use Rattle.ded_model.specs.declared.slot.Slot.{Slot}
use Rattle.ded_model.specs.declared.slot.Sort.{Sort}
use Rattle.ded_model.specs.declared.slot.Sort.TheVariants.{Rat, Text}
use Rattle.ded_model.specs.declared.bound.Bound.{Bound}
use Rattle.ded_model.specs.declared.bound.BoxReply.{BoxReply}
use Rattle.ded_model.specs.declared.bound.BoxReply.TheVariants.{Nowhere, NoRational, Spans}
use Rattle.ded_model.specs.Bound.{End, lower, upper}
use Rattle.ded_model.specs.Cell.{HoldsSomewhere}
use Rattle.ded_model.specs.Interval.{IsExactBound}
use Rattle.ded_model.specs.Point.{Point, IsPoint}
use Rattle.ded_model.specs.Width.{rational_columns}
use Rattle.ded_model.proofs.Rows.{or_left}
use Rattle.ded_box.specs.Intervals.{HasPositive, wider}
use Rattle.ded_box.specs.Boxes.{hulls}
use Rattle.ded_box.specs.Extents.{BoundsAt, AreBounds, IsBox, covering}
use Rattle.ded_box.proofs.Covers.{hull-interval}
use Rattle.ded_box.proofs.Exact.{tight, exact, tight-same, tight-either}
use Rattle.std.proofs.Math.Bool.{or-false}

-- ---- tests that pass alike

module _ (f g : Point → Bool) (same : (p : Point) → IsPoint p → f p ≡ g p) where
  exact-same : (s : Slot) (e : End) (b : Bound) → HasPositive b → IsExactBound f s e b → IsExactBound g s e b
  exact-same s e b pb x = exact g s e b (tight-same f g s e b same (tight f s e b pb x))

  bounds-same : (i : ℕ) (cs : List Column) (bs : List (Bound × Bound)) → AreBounds f i cs bs → AreBounds g i cs bs
  bounds-same i [] [] x = tt
  bounds-same i [] (b ∷ bs) x = x
  bounds-same i (c ∷ cs) bs x = at c.sort bs (bounds-same (i + 1) cs) x
    where
      at : (s : Sort) (bs : List (Bound × Bound)) → ((bs : List (Bound × Bound)) → AreBounds f (i + 1) cs bs → AreBounds g (i + 1) cs bs)
          → BoundsAt f i s bs (AreBounds f (i + 1) cs) → BoundsAt g i s bs (AreBounds g (i + 1) cs)
      at Text bs others x = others bs x
      at Rat [] others x = x
      at Rat (b ∷ bs) others x = (x.0, exact-same (record { number = i; sort = Rat }) lower b.0 x.0.0 x.1, exact-same (record { number = i; sort = Rat }) upper b.1 x.0.1 x.2, others bs x.3)

  somewhere-same : HoldsSomewhere f → HoldsSomewhere g
  somewhere-same x = (x.0, x.1, sym (same x.0 x.1) ∙ x.2)

  pub box-same : (h : List Column) (r : BoxReply) → IsBox f h r → IsBox g h r
  box-same h Nowhere x = λ p i. sym (same p i) ∙ x p i
  box-same h NoRational x = (somewhere-same x.0, x.1)
  box-same h (Spans bs) x = (somewhere-same x.0, x.1, bounds-same 0 h bs x.2)

-- ---- of two tests

abbrev either : (Point → Bool) → (Point → Bool) → Point → Bool
either f g p = f p || g p

module _ (f g : Point → Bool) where
  exact-either : (s : Slot) (e : End) (b c : Bound) → HasPositive b → HasPositive c → IsExactBound f s e b → IsExactBound g s e c → IsExactBound (either f g) s e (wider e b c)
  exact-either s e b c pb pc x y = exact (either f g) s e (wider e b c) (tight-either f g s e b c (tight f s e b pb x) (tight g s e c pc y))

  bounds-either : (i : ℕ) (cs : List Column) (bs ds : List (Bound × Bound)) → AreBounds f i cs bs → AreBounds g i cs ds → AreBounds (either f g) i cs (hulls bs ds)
  bounds-either i [] [] ds x y = tt
  bounds-either i [] (b ∷ bs) ds x y = absurd x
  bounds-either i (c ∷ cs) bs ds x y = at c.sort bs ds (bounds-either (i + 1) cs) x y
    where
      at : (s : Sort) (bs ds : List (Bound × Bound)) → ((bs ds : List (Bound × Bound)) → AreBounds f (i + 1) cs bs → AreBounds g (i + 1) cs ds → AreBounds (either f g) (i + 1) cs (hulls bs ds))
          → BoundsAt f i s bs (AreBounds f (i + 1) cs) → BoundsAt g i s ds (AreBounds g (i + 1) cs) → BoundsAt (either f g) i s (hulls bs ds) (AreBounds (either f g) (i + 1) cs)
      at Text bs ds others x y = others bs ds x y
      at Rat [] ds others x y = absurd x
      at Rat (b ∷ bs) [] others x y = absurd y
      at Rat (b ∷ bs) (d ∷ ds) others x y = (
        hull-interval b d x.0 y.0,
        exact-either (record { number = i; sort = Rat }) lower b.0 d.0 x.0.0 y.0.0 x.1 y.1,
        exact-either (record { number = i; sort = Rat }) upper b.1 d.1 x.0.1 y.0.1 x.2 y.2,
        others bs ds x.3 y.3,
      )

  somewhere-first : HoldsSomewhere f → HoldsSomewhere (either f g)
  somewhere-first x = (x.0, x.1, or_left (f x.0) (g x.0) x.2)

module _ (f g : Point → Bool) where
  -- where the one passes nowhere the other is what passes
  only-second : ((p : Point) → IsPoint p → f p ≡ false) → (p : Point) → IsPoint p → g p ≡ either f g p
  only-second n p i = ap (λ b. b || g p) (sym (n p i))

  only-first : ((p : Point) → IsPoint p → g p ≡ false) → (p : Point) → IsPoint p → f p ≡ either f g p
  only-first n p i = sym (or-false (f p)) ∙ ap (λ b. f p || b) (sym (n p i))

  mixed : (n : ℕ) → 0 < n → n ≡ 0 → ⊥
  mixed n h e = omega (arith, h, e)

  pub box-either : (h : List Column) (r q : BoxReply) → IsBox f h r → IsBox g h q → IsBox (either f g) h (covering r q)
  box-either h Nowhere q x y = box-same g (either f g) (only-second x) h q y
  box-either h NoRational q x y = (somewhere-first f g x.0, x.1)
  box-either h (Spans bs) Nowhere x y = box-same f (either f g) (only-first y) h (Spans bs) x
  box-either h (Spans bs) NoRational x y = absurd (mixed (rational_columns h) x.1 y.1)
  box-either h (Spans bs) (Spans ds) x y = (somewhere-first f g x.0, x.1, bounds-either f g 0 h bs ds x.2 y.2)
