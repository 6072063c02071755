-- Where a piece is not idle, its half planes hold with their borders.
use Rattle.std.proofs.Common.{◌≡◌, false, not, inl, inr, List, [], ◌∷◌, ◌++◌, refl, sym, subst, arith}
use Rattle.std.specs.Prelude.{ℤ, pos, ◌≤ℤ◌}
use Rattle.std.specs.Ordering.{int_eq}
use Rattle.std.proofs.lemmas.Int.{ints}
use Rattle.std.proofs.lemmas.Bool.Decides.{Decides-int_eq}
use Rattle.ded_num.proofs.Tests.{not_false_true}
use Rattle.ded_num.proofs.Signs.{not_above}
use Rattle.ded_model.specs.declared.row.RowOp.{RowOp}
use Rattle.ded_model.specs.declared.row.RowOp.TheVariants.{Zero, AtMost, Below}
use Rattle.ded_model.proofs.Bools.{or_false_left, or_false_right}
use Rattle.ded_polygon.specs.Plane.{HalfPlane, Spot, In, level}
use Rattle.ded_polygon.specs.Rows.{opposite}
use Rattle.ded_polygon.specs.Vertices.{LiesIn}
use Rattle.ded_polygon.specs.Windows.{Frame, window_planes}
use Rattle.ded_polygon.proofs.RowPlanes.{level_opposite, in_either}
use Rattle.ded_strokes.specs.Bounds.{PlaneLimit, closed_limits}
use Rattle.ded_strokes.specs.Stretches.{is_off, is_idle}
use Rattle.ded_layers.specs.Indexed.{closed, closed_of, LiesInAll}

none_of : (z : ℤ) → not (int_eq z (pos 0)) ≡ false → z ≡ pos 0
none_of z h = (Decides-int_eq z (pos 0)).0 (not_false_true (int_eq z (pos 0)) h)

at_level : (s : HalfPlane) (b : PlaneLimit) (m : Spot) → b ≡ record { plane = s; op = AtMost } → level s m ≤ℤ pos 0 → level b.plane m ≤ℤ pos 0
at_level s b m e h = subst (λ (d : PlaneLimit). level d.plane m ≤ℤ pos 0) (sym e) h

closed_by : (op : RowOp) (s : HalfPlane) (m : Spot) → is_off op (level s m) ≡ false → (b : PlaneLimit) → In b (closed op s) → level b.plane m ≤ℤ pos 0
closed_by Zero s m h b (inl e) = at_level s b m e (let z = none_of (level s m) h in omega (arith, ints))
closed_by Zero s m h b (inr (inl e)) = at_level (opposite s) b m e (let z = none_of (level s m) h in let o = level_opposite s m in omega (arith, ints))
closed_by Zero s m h b (inr (inr i)) = absurd i
closed_by AtMost s m h b (inl e) = at_level s b m e (not_above (level s m) h)
closed_by AtMost s m h b (inr i) = absurd i
closed_by Below s m h b (inl e) = at_level s b m e (not_above (level s m) h)
closed_by Below s m h b (inr i) = absurd i

lies_closed : (bs : List PlaneLimit) (m : Spot) → is_idle bs m ≡ false → LiesInAll (closed_of bs) m
lies_closed [] m h b i = absurd i
lies_closed (d ∷ bs) m h b i = elim (in_either b (closed d.op d.plane) (closed_of bs) i) [
  | inl j ↦ closed_by d.op d.plane m (or_false_left (is_off d.op (level d.plane m)) (is_idle bs m) h) b j
  | inr j ↦ lies_closed bs m (or_false_right (is_off d.op (level d.plane m)) (is_idle bs m) h) b j
]

lies_limits : (ss : List HalfPlane) (m : Spot) → LiesIn ss m → LiesInAll (closed_limits ss) m
lies_limits [] m h b i = absurd i
lies_limits (s ∷ ss) m h b (inl e) = at_level s b m e (h s (inl refl))
lies_limits (s ∷ ss) m h b (inr i) = lies_limits ss m (λ t j. h t (inr j)) b i

pub lies_all : (bs : List PlaneLimit) (w : Frame) (m : Spot) → LiesIn (window_planes w) m → is_idle bs m ≡ false → LiesInAll (closed_of bs ++ closed_limits (window_planes w)) m
lies_all bs w m within h b i = elim (in_either b (closed_of bs) (closed_limits (window_planes w)) i) [ inl j ↦ lies_closed bs m h b j | inr j ↦ lies_limits (window_planes w) m within b j ]

pub lies_read : (bs : List PlaneLimit) (w : Frame) (m : Spot) → LiesIn (window_planes w) m → is_idle bs m ≡ false → (ps : List PlaneLimit) → ps ≡ closed_of bs ++ closed_limits (window_planes w) → LiesInAll ps m
lies_read bs w m within h ps e = subst (λ qs. LiesInAll qs m) (sym e) (lies_all bs w m within h)
