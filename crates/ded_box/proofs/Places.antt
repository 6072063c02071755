-- Loops over two boxes, place by place.
use Rattle.std.proofs.Common.{◌≡◌, ℕ, zero, suc, ◌+◌, ◌<◌, ◌≤◌, Bool, true, false, ◌&&◌, [], ◌∷◌, ◌++◌, length, take, get_or, arith, refl, sym, ap, ◌∙◌, add-one}
use Rattle.std.proofs.Math.Seq.{take-suc}
use Rattle.ded_box.specs.Intervals.{IsInterval, intervals_meet}
use Rattle.ded_box.specs.Boxes.{AreIntervals, boxes_meet, hull, hulls}
use Rattle.ded_box.proofs.Shares.{Interval, Box}

-- boxes of different lengths don't meet
pub other_lengths : (a b : Box) → (length a ≡ length b → ⊥) → false ≡ boxes_meet a b
other_lengths [] [] h = absurd (h refl)
other_lengths [] (j ∷ js) h = refl
other_lengths (i ∷ is) [] h = refl
other_lengths (i ∷ is) (j ∷ js) h = and_false (intervals_meet i j) (boxes_meet is js) (other_lengths is js (λ e. h (ap suc e)))
  where
    and_false : (x y : Bool) → false ≡ y → false ≡ (x && y)
    and_false true y e = e
    and_false false y e = refl

-- what is done, and the next place
pub done_to : (xs : Box) (i : ℕ) (x : Interval) → i < length xs → x ≡ get_or xs i x → take (i + 1) xs ≡ take i xs ++ x ∷ []
done_to xs i x h e = ap (λ k. take k xs) (add-one i) ∙ take-suc xs i x h ∙ ap (λ y. take i xs ++ y ∷ []) (sym e)

-- what holds of all and of one more
pub intervals-push : (xs : Box) (x : Interval) → AreIntervals xs → IsInterval x → AreIntervals (xs ++ x ∷ [])
intervals-push [] x h k = (k, tt)
intervals-push (y ∷ ys) x h k = (h.0, intervals-push ys x h.1 k)

-- one place more
pub hulls_at : (a b : Box) (i : ℕ) (x y : Interval) → i < length a → i < length b → x ≡ get_or a i x → y ≡ get_or b i y → hulls (take (i + 1) a) b ≡ hulls (take i a) b ++ hull x y ∷ []
hulls_at [] b i x y h k e f = absurd (omega (arith, h))
hulls_at (v ∷ a) [] i x y h k e f = absurd (omega (arith, k))
hulls_at (v ∷ a) (w ∷ b) zero x y h k e f = sym (ap (λ z. hull z y ∷ []) e ∙ ap (λ z. hull v z ∷ []) f)
hulls_at (v ∷ a) (w ∷ b) (suc i) x y h k e f =
    ap (λ n. hulls (take n (v ∷ a)) (w ∷ b)) (add-one (suc i))
    ∙ ap (λ n. hull v w ∷ hulls (take n a) b) (sym (add-one i))
    ∙ ap (λ zs. hull v w ∷ zs) (hulls_at a b i x y (omega (arith, h)) (omega (arith, k)) e f)

-- no place more in the second list
pub hulls_past : (a b : Box) (i : ℕ) → length b ≤ i → hulls (take (i + 1) a) b ≡ hulls (take i a) b
hulls_past [] b zero h = refl
hulls_past [] b (suc i) h = ap (λ n. hulls (take n []) b) (add-one (suc i))
hulls_past (v ∷ a) [] zero h = refl
hulls_past (v ∷ a) [] (suc i) h = ap (λ n. hulls (take n (v ∷ a)) []) (add-one (suc i))
hulls_past (v ∷ a) (w ∷ b) zero h = absurd (omega (arith, h))
hulls_past (v ∷ a) (w ∷ b) (suc i) h =
    ap (λ n. hulls (take n (v ∷ a)) (w ∷ b)) (add-one (suc i))
    ∙ ap (λ n. hull v w ∷ hulls (take n a) b) (sym (add-one i))
    ∙ ap (λ zs. hull v w ∷ zs) (hulls_past a b i (omega (arith, h)))
