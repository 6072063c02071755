-- Parts whose corners lie in the window.
use Rattle.std.proofs.Common.{ℕ, zero, suc, List, [], ◌∷◌, ◌++◌, inl, inr, refl, sym, subst}
use Rattle.std.specs.Prelude.{replicate}
use Rattle.ded_layers.specs.declared.part.Part.{Part}
use Rattle.ded_layers.specs.Layers.{AreCornersWithin, ArePartsWithin}
use Rattle.ded_polygon.specs.Plane.{In}
use Rattle.ded_polygon.specs.Windows.{Frame}
use Rattle.ded_figures.specs.declared.sight.Sight.{Sight}
use Rattle.ded_figures.specs.declared.sight.Sight.TheVariants.{Nowhere, Wide, Seen}
use Rattle.ded_picture.specs.declared.parts.Shown.{Shown}
use Rattle.ded_picture.specs.Layers.{AreLayersWithin, put_in, put_all}
use Rattle.ded_picture.specs.Parts.{AreAllWithin, AreShown}

-- of the first one and of those behind it
first_or : (w : Frame) (x y : Shown) (more : List Shown) → AreCornersWithin w y.part.corners.items → (In x more → AreCornersWithin w x.part.corners.items) → In x (y ∷ more) → AreCornersWithin w x.part.corners.items
first_or w x y more first behind (inl same) = subst (λ (s : Shown). AreCornersWithin w s.part.corners.items) (sym same) first
first_or w x y more first behind (inr i) = behind i

-- so are those of all that is shown
pub shown_within : (w : Frame) (labels : List (List ℕ)) (ss : List Sight) (list : List Shown) (wide : ℕ) → AreShown w labels ss list wide → AreAllWithin w list
shown_within w labels [] list wide a x i = absurd (subst (In x) a.0 i)
shown_within w labels (Nowhere ∷ ss) list wide a x i = shown_within w labels ss list wide a x i
shown_within w labels (Wide ∷ ss) list wide (n, e, a) x i = shown_within w labels ss list n a x i
shown_within w labels (Seen f ∷ ss) list wide (inl (y, more, e, is, a)) x i = first_or w x y more is.part.within (shown_within w labels ss more wide a x) (subst (In x) e i)
shown_within w labels (Seen f ∷ ss) list wide (inr (long, n, e, a)) x i = shown_within w labels ss list n a x i

module _ (w : Frame) where
  none_within : (n : ℕ) → AreLayersWithin w (replicate n [])
  none_within n layer i t j = absurd (by n i)
    where
      by : (n : ℕ) → In layer (replicate n []) → ⊥
      by zero i = absurd i
      by (suc n) (inl e) = absurd (subst (In t) e j)
      by (suc n) (inr i) = by n i

  part_within : (layer : List Part) (part : Part) → ArePartsWithin w layer → AreCornersWithin w part.corners.items → ArePartsWithin w (layer ++ part ∷ [])
  part_within [] part a h t (inl e) = subst (λ (p : Part). AreCornersWithin w p.corners.items) (sym e) h
  part_within [] part a h t (inr i) = absurd i
  part_within (p ∷ ps) part a h t (inl e) = a t (inl e)
  part_within (p ∷ ps) part a h t (inr i) = part_within ps part (λ s j. a s (inr j)) h t i

  put_within : (layers : List (List Part)) (n : ℕ) (part : Part) → AreLayersWithin w layers → AreCornersWithin w part.corners.items → AreLayersWithin w (put_in layers n part)
  put_within [] n part a h layer i = absurd i
  put_within (l ∷ ls) zero part a h layer (inl e) = subst (ArePartsWithin w) (sym e) (part_within l part (a l (inl refl)) h)
  put_within (l ∷ ls) zero part a h layer (inr i) = a layer (inr i)
  put_within (l ∷ ls) (suc n) part a h layer (inl e) = a layer (inl e)
  put_within (l ∷ ls) (suc n) part a h layer (inr i) = put_within ls n part (λ m j. a m (inr j)) h layer i

  all_within : (layers : List (List Part)) (ss : List Shown) → AreLayersWithin w layers → AreAllWithin w ss → AreLayersWithin w (put_all layers ss)
  all_within layers [] a h = a
  all_within layers (s ∷ ss) a h = all_within (put_in layers s.colour s.part) ss (put_within layers s.colour s.part a (h s (inl refl))) (λ t i. h t (inr i))

  pub layers_within : (n : ℕ) (ss : List Shown) → AreAllWithin w ss → AreLayersWithin w (put_all (replicate n []) ss)
  layers_within n ss h = all_within (replicate n []) ss (none_within n) h
