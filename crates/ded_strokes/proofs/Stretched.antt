-- Stretches of a side, put together from those of its parts, and told of more pieces.
use Rattle.std.proofs.Common.{◌≡◌, List, [], ◌∷◌, ◌++◌, refl, sym, ap, ◌∙◌, subst}
use Rattle.std.specs.Prelude.{pos, ◌<ℤ◌, Result, Ok, Err, OnOk}
use Rattle.std.proofs.lemmas.List.{append_assoc}
use Rattle.ded_polygon.specs.Plane.{Spot}
use Rattle.ded_strokes.specs.Bounds.{PlaneLimit}
use Rattle.ded_strokes.specs.Near.{Direction}
use Rattle.ded_strokes.specs.Strokes.{HaveStroke}
use Rattle.ded_strokes.specs.Cuts.{LiesBetween}
use Rattle.ded_strokes.specs.Stretches.{Cutting, whole, at, AreStretches, AreCut, AddsCut, AreEnough}
use Rattle.ded_strokes.specs.declared.stretch.Stroke.{Stroke}
use Rattle.ded_strokes.specs.declared.parting.Stretch.{Stretch}
use Rattle.ded_strokes.proofs.Idle.{have_all, enough_before, enough_behind}

pub one_stretch : (pieces : List (List PlaneLimit)) (w : Direction) (p q : Spot) (s : Stroke) → HaveStroke pieces w p q s → AreCut pieces w p q (record { from = p; to = q; stroke = s } ∷ [])
one_stretch pieces w p q s h = record { cutting = whole; stretches = (record { from = p; to = q; stroke = s }, refl, record { begins = refl; ends = refl; drawn = h }) }

pub adds_one : (pieces : List (List PlaneLimit)) (w : Direction) (p q : Spot) (s : Stroke) (old new : List Stretch) → HaveStroke pieces w p q s → new ≡ old ++ record { from = p; to = q; stroke = s } ∷ [] → AddsCut pieces w p q old new
adds_one pieces w p q s old new h e = record { added = record { from = p; to = q; stroke = s } ∷ []; cut = one_stretch pieces w p q s h; is = e }

pub adds_both : (pieces : List (List PlaneLimit)) (w : Direction) (p q c : Spot) (old mid new : List Stretch) → pos 0 <ℤ c.den → LiesBetween p q c → AddsCut pieces w p c old mid → AddsCut pieces w c q mid new
    → AddsCut pieces w p q old new
adds_both pieces w p q c old mid new hc b front back = record {
  added = front.added ++ back.added;
  cut = record { cutting = at front.cut.cutting c back.cut.cutting; stretches = (hc, b, front.added, back.added, refl, front.cut.stretches, back.cut.stretches) };
  is = back.is ∙ ap (λ ss. ss ++ back.added) front.is ∙ append_assoc old front.added back.added;
}

-- with an answer for the second part
pub adds_next : {E : Type 0} (pieces : List (List PlaneLimit)) (w : Direction) (p q c : Spot) (old mid new : List Stretch) → pos 0 <ℤ c.den → LiesBetween p q c → AddsCut pieces w p c old mid
    → (o : Result (Unit {0}) E) → OnOk o (AddsCut pieces w c q mid new) → OnOk o (AddsCut pieces w p q old new)
adds_next pieces w p q c old mid new hc b front (Ok u) h = adds_both pieces w p q c old mid new hc b front h
adds_next pieces w p q c old mid new hc b front (Err e) h = h

module _ (few pieces : List (List PlaneLimit)) (w : Direction) where
  pub stretches_all : (cutting : Cutting) (p q : Spot) → pos 0 <ℤ p.den → pos 0 <ℤ q.den → AreEnough p q few pieces → (ss : List Stretch) → AreStretches few w cutting p q ss → AreStretches pieces w cutting p q ss
  stretches_all whole p q hp hq e ss h = (h.0, h.1, record { begins = h.2.begins; ends = h.2.ends; drawn = have_all p q hp hq few pieces e w h.0.stroke h.2.drawn })
  stretches_all (at l c r) p q hp hq e ss h = (
    h.0,
    h.1,
    h.2,
    h.3,
    h.4,
    stretches_all l p c hp h.0 (enough_before p q c hp hq h.0 h.1 few pieces e) h.2 h.5,
    stretches_all r c q h.0 hq (enough_behind p q c hp hq h.0 h.1 few pieces e) h.3 h.6,
  )

  -- stretches among enough of the pieces are stretches among all of them
  pub cut_all : (p q : Spot) → pos 0 <ℤ p.den → pos 0 <ℤ q.den → AreEnough p q few pieces → (ss : List Stretch) → AreCut few w p q ss → AreCut pieces w p q ss
  cut_all p q hp hq e ss h = record { cutting = h.cutting; stretches = stretches_all h.cutting p q hp hq e ss h.stretches }

  pub added_all : (p q : Spot) → pos 0 <ℤ p.den → pos 0 <ℤ q.den → AreEnough p q few pieces → (ss : List Stretch) → AddsCut few w p q [] ss → AreCut pieces w p q ss
  added_all p q hp hq e ss h = subst (AreCut pieces w p q) (sym h.is) (cut_all p q hp hq e h.added h.cut)
