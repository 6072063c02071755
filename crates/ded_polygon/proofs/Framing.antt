-- The rows of a window: their half planes, and that they are bounded.
use Rattle.std.proofs.Common.{◌≡◌, Bool, true, false, cond, ◌||◌, List, [], ◌∷◌, ◌++◌, inl, inr, refl, sym, ap, ap₂, ◌∙◌, subst, append_assoc, append-nil, ℕ, ◌+◌, ◌<◌, ◌^◌, length, get_or, take, to_z, of_z, arith}
use Rattle.std.specs.Prelude.{ℤ, pos, ◌+ℤ◌, ◌-ℤ◌, ◌*ℤ◌, ◌<ℤ◌, unsigned_abs}
use lib.IntN.{neg_ℤ}
use Rattle.std.proofs.lemmas.Int.{ints, by_lt_z}
use Rattle.ded_num.proofs.Ring.{parts, ring_pos, diff_same}
use Rattle.ded_model.specs.declared.slot.Slot.{Slot}
use Rattle.ded_model.specs.Constraint.{LinearConstraint}
use Rattle.ded_model.specs.Coefs.{coef_at}
use Rattle.ded_model.specs.Point.{same_slot}
use Rattle.ded_model.specs.Row.{row_mentions}
use Rattle.ded_model.proofs.Points.{same_slot_is, same_slot_refl}
use Rattle.ded_polygon.specs.Plane.{HalfPlane, In}
use Rattle.ded_polygon.specs.Closures.{MentionOnly, growth, IsLeft, AreBounded}
use Rattle.ded_polygon.specs.Rows.{half_plane, by_op, half_planes}
use Rattle.ded_polygon.specs.Windows.{Frame, IsFrame, end_row, window_rows, window_planes}
use Rattle.ded_polygon.proofs.RowPlanes.{in_right, in_either}
use Rattle.ded_polygon.proofs.Signs.{above_above}
use Rattle.std.specs.Int.{w128}
use Rattle.std.proofs.lemmas.List.{take_more}
use Rattle.ded_num.specs.Length.{IsShort}
use Rattle.ded_num.proofs.Signs.{short_in_code, back_back}
use Rattle.ded_model.proofs.SlotLists.{same_slot-turned}

-- those of two lists of rows
pub planes_append : (x y : Slot) (rows more : List LinearConstraint) → half_planes x y (rows ++ more) ≡ half_planes x y rows ++ half_planes x y more
planes_append x y [] more = refl
planes_append x y (r ∷ rows) more = ap (λ ss. by_op r.op (half_plane x y r) ++ ss) (planes_append x y rows more) ∙ sym (append_assoc (by_op r.op (half_plane x y r)) (half_planes x y rows) (half_planes x y more))

-- the coefficient of a row with one slot
own_coef : (s : Slot) (a c : ℤ) → coef_at (end_row s a c).coefs s ≡ a
own_coef s a c = ap (λ b. cond b a (pos 0) +ℤ pos 0) (same_slot_refl s) ∙ omega (arith, ints)

other_coef : (s t : Slot) (a c : ℤ) → same_slot s t ≡ false → coef_at (end_row s a c).coefs t ≡ pos 0
other_coef s t a c h = ap (λ b. cond b a (pos 0) +ℤ pos 0) h

-- ---- the half planes of the rows of a window
plane_with : (a a' b b' c : ℤ) → a ≡ a' → b ≡ b' → ◌≡◌ {A = HalfPlane} (record { a = a; b = b; c = c }) (record { a = a'; b = b'; c = c })
plane_with a a' b b' c ea eb = rw (ea, eb) refl

plane_x : (x y : Slot) → same_slot x y ≡ false → (a c : ℤ) → half_plane x y (end_row x a c) ≡ record { a = a; b = pos 0; c = c }
plane_x x y differ a c = plane_with _ a _ (pos 0) c (own_coef x a c) (other_coef x y a c differ)

plane_y : (x y : Slot) → same_slot x y ≡ false → (b c : ℤ) → half_plane x y (end_row y b c) ≡ record { a = pos 0; b = b; c = c }
plane_y x y differ b c = plane_with _ (pos 0) _ b c (other_coef y x b c (same_slot-turned x y differ)) (own_coef y b c)

four : (p q r s p' q' r' s' : HalfPlane) → p ≡ p' → q ≡ q' → r ≡ r' → s ≡ s' → ◌≡◌ {A = List HalfPlane} (p ∷ q ∷ r ∷ s ∷ []) (p' ∷ q' ∷ r' ∷ s' ∷ [])
four p q r s p' q' r' s' ep eq er es = rw (ep, eq, er, es) refl

pub planes_of_window : (x y : Slot) → same_slot x y ≡ false → (w : Frame) → half_planes x y (window_rows x y w) ≡ window_planes w
planes_of_window x y differ w =
    four _ _ _ _ _ _ _ _ (plane_x x y differ (neg_ℤ w.den) w.left) (plane_x x y differ w.den (neg_ℤ w.right)) (plane_y x y differ (neg_ℤ w.den) w.bottom) (plane_y x y differ w.den (neg_ℤ w.top))

-- of some rows and those of a window
pub planes_cut : (x y : Slot) → same_slot x y ≡ false → (rows : List LinearConstraint) (w : Frame) → half_planes x y (rows ++ window_rows x y w) ≡ half_planes x y rows ++ window_planes w
planes_cut x y differ rows w = planes_append x y rows (window_rows x y w) ∙ ap (λ ss. half_planes x y rows ++ ss) (planes_of_window x y differ w)

-- ---- they mention the two slots alone
mentions_own : (s t : Slot) (a c : ℤ) → row_mentions (end_row s a c) t ≡ true → same_slot t s ≡ true
unfolding row_mentions
mentions_own s t a c h = ap (λ u. same_slot u s) (sym (same_slot_is s t (first (same_slot s t) h))) ∙ same_slot_refl s
  where
    first : (b : Bool) → (b || false) ≡ true → b ≡ true
    first true h = refl
    first false h = h

pub window_mentions : (x y : Slot) (w : Frame) → MentionOnly x y (window_rows x y w)
window_mentions x y w r (inl e) s h = inl (mentions_own x s (neg_ℤ w.den) w.left (subst (λ q. row_mentions q s ≡ true) e h))
window_mentions x y w r (inr (inl e)) s h = inl (mentions_own x s w.den (neg_ℤ w.right) (subst (λ q. row_mentions q s ≡ true) e h))
window_mentions x y w r (inr (inr (inl e))) s h = inr (mentions_own y s (neg_ℤ w.den) w.bottom (subst (λ q. row_mentions q s ≡ true) e h))
window_mentions x y w r (inr (inr (inr (inl e)))) s h = inr (mentions_own y s w.den (neg_ℤ w.top) (subst (λ q. row_mentions q s ≡ true) e h))
window_mentions x y w r (inr (inr (inr (inr i)))) s h = absurd i

pub cut_mentions : (x y : Slot) (rows : List LinearConstraint) (w : Frame) → MentionOnly x y rows → MentionOnly x y (rows ++ window_rows x y w)
cut_mentions x y rows w only r i = elim (in_either r rows (window_rows x y w) i) [ inl j ↦ only r j | inr j ↦ window_mentions x y w r j ]

-- ---- they are left in each direction
along_x : (a u v k m : ℤ) → k ≡ a → m ≡ pos 0 → k *ℤ u +ℤ m *ℤ v ≡ a *ℤ u
along_x a u v k m e f = ap₂ (λ p q. p *ℤ u +ℤ q *ℤ v) e f ∙ law a u v
  where
    law : (a u v : ℤ) → a *ℤ u +ℤ pos 0 *ℤ v ≡ a *ℤ u
    law a u v = rw (parts a, parts u, parts v) (simp ring_pos (diff_same _ _ _ _ (omega arith)))

along_y : (a u v k m : ℤ) → k ≡ pos 0 → m ≡ a → k *ℤ u +ℤ m *ℤ v ≡ a *ℤ v
along_y a u v k m e f = ap₂ (λ p q. p *ℤ u +ℤ q *ℤ v) e f ∙ law a u v
  where
    law : (a u v : ℤ) → pos 0 *ℤ u +ℤ a *ℤ v ≡ a *ℤ v
    law a u v = rw (parts a, parts u, parts v) (simp ring_pos (diff_same _ _ _ _ (omega arith)))

module _ (x y : Slot) (differ : same_slot x y ≡ false) (rows : List LinearConstraint) (w : Frame) (positive : pos 0 <ℤ w.den) where
  abbrev Left : ℤ → ℤ → Type 0
  Left u v = (r : LinearConstraint) × In r (rows ++ window_rows x y w) × IsLeft r.op (growth x y r u v)

  right_side : (u v : ℤ) → pos 0 <ℤ u → Left u v
  right_side u v h =
      let e = along_x w.den u v _ _ (own_coef x w.den (neg_ℤ w.right)) (other_coef x y w.den (neg_ℤ w.right) differ) in
      let k = above_above w.den u positive h in
      (end_row x w.den (neg_ℤ w.right), in_right _ rows (window_rows x y w) (inr (inl refl)), omega (arith, ints))

  left_side : (u v : ℤ) → u <ℤ pos 0 → Left u v
  left_side u v h =
      let e = along_x (neg_ℤ w.den) u v _ _ (own_coef x (neg_ℤ w.den) w.left) (other_coef x y (neg_ℤ w.den) w.left differ) in
      let k = above_above w.den (neg_ℤ u) positive (omega (arith, ints)) in
      let f = back_back w.den u in
      (end_row x (neg_ℤ w.den) w.left, in_right _ rows (window_rows x y w) (inl refl), omega (arith, ints))

  top_side : (u v : ℤ) → pos 0 <ℤ v → Left u v
  top_side u v h =
      let e = along_y w.den u v _ _ (other_coef y x w.den (neg_ℤ w.top) (same_slot-turned x y differ)) (own_coef y w.den (neg_ℤ w.top)) in
      let k = above_above w.den v positive h in
      (end_row y w.den (neg_ℤ w.top), in_right _ rows (window_rows x y w) (inr (inr (inr (inl refl)))), omega (arith, ints))

  bottom_side : (u v : ℤ) → v <ℤ pos 0 → Left u v
  bottom_side u v h =
      let e = along_y (neg_ℤ w.den) u v _ _ (other_coef y x (neg_ℤ w.den) w.bottom (same_slot-turned x y differ)) (own_coef y (neg_ℤ w.den) w.bottom) in
      let k = above_above w.den (neg_ℤ v) positive (omega (arith, ints)) in
      let f = back_back w.den v in
      (end_row y (neg_ℤ w.den) w.bottom, in_right _ rows (window_rows x y w) (inr (inr (inl refl))), omega (arith, ints))

  pub cut_bounded : AreBounded x y (rows ++ window_rows x y w)
  cut_bounded u v proper =
      by_lt_z (pos 0) u (λ above. right_side u v above)
      (λ most. by_lt_z u (pos 0) (λ below. left_side u v below)
      (λ least. by_lt_z (pos 0) v (λ above. top_side u v above)
      (λ most'. by_lt_z v (pos 0) (λ below. bottom_side u v below)
      (λ least'. absurd (proper (omega (arith, ints)) (omega (arith, ints)))))))

-- ---- as they are read
negative_read : (z : ℤ) → IsShort z → to_z w128 (of_z w128 (pos 0 -ℤ to_z w128 (of_z w128 z))) ≡ neg_ℤ z
negative_read z h =
    let e : to_z w128 (of_z w128 z) ≡ z = short_in_code z h in
    let m : unsigned_abs (pos 0 -ℤ z) < 2 ^ 127 = omega (arith, ints) in
    ap (λ k. to_z w128 (of_z w128 (pos 0 -ℤ k))) e ∙ short_in_code (pos 0 -ℤ z) m ∙ omega (arith, ints)

plane_at : (a b c a' b' c' : ℤ) → a ≡ a' → b ≡ b' → c ≡ c' → ◌≡◌ {A = HalfPlane} (record { a = a; b = b; c = c }) (record { a = a'; b = b'; c = c' })
plane_at a b c a' b' c' ea eb ec = rw (ea, eb, ec) refl

pub window_read : (w : Frame) → IsFrame w
    → ◌≡◌ {A = List HalfPlane}
    (record { a = to_z w128 (of_z w128 (pos 0 -ℤ to_z w128 (of_z w128 w.den))); b = pos 0; c = to_z w128 (of_z w128 w.left) }
    ∷ record { a = to_z w128 (of_z w128 w.den); b = pos 0; c = to_z w128 (of_z w128 (pos 0 -ℤ to_z w128 (of_z w128 w.right))) }
    ∷ record { a = pos 0; b = to_z w128 (of_z w128 (pos 0 -ℤ to_z w128 (of_z w128 w.den))); c = to_z w128 (of_z w128 w.bottom) }
    ∷ record { a = pos 0; b = to_z w128 (of_z w128 w.den); c = to_z w128 (of_z w128 (pos 0 -ℤ to_z w128 (of_z w128 w.top))) } ∷ [])
    (window_planes w)
window_read w h =
    let den : IsShort w.den = (let k = h.den in omega arith) in
    let left : IsShort w.left = (let k = h.left in omega arith) in
    let right : IsShort w.right = (let k = h.right in omega arith) in
    let bottom : IsShort w.bottom = (let k = h.bottom in omega arith) in
    let top : IsShort w.top = (let k = h.top in omega arith) in
    four _ _ _ _ _ _ _ _
    (plane_at _ _ _ _ _ _ (negative_read w.den den) refl (short_in_code w.left left))
    (plane_at _ _ _ _ _ _ (short_in_code w.den den) refl (negative_read w.right right))
    (plane_at _ _ _ _ _ _ refl (negative_read w.den den) (short_in_code w.bottom bottom))
    (plane_at _ _ _ _ _ _ refl (short_in_code w.den den) (negative_read w.top top))

-- ---- rows that are read one after another
pub more_planes : (x y : Slot) (rows : List LinearConstraint) (i : ℕ) (r : LinearConstraint) → i < length rows → r ≡ get_or rows i r
    → half_planes x y (take (i + 1) rows) ≡ half_planes x y (take i rows) ++ by_op r.op (half_plane x y r)
more_planes x y rows i r h e =
    ap (half_planes x y) (take_more rows i r h) ∙ planes_append x y (take i rows) (get_or rows i r ∷ [])
    ∙ ap (λ q. half_planes x y (take i rows) ++ half_planes x y (q ∷ [])) (sym e)
    ∙ ap (λ ss. half_planes x y (take i rows) ++ ss) (append-nil (by_op r.op (half_plane x y r)))
