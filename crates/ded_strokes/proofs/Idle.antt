-- Pieces that are idle between two spots: without them every point there is drawn the same.
use Rattle.std.proofs.Common.{◌≡◌, ◌<◌, Bool, true, false, not, ◌&&◌, ◌||◌, ◌⊎◌, inl, inr, List, [], ◌∷◌, refl, sym, ap, ap₂, ◌∙◌, subst, true≢false, arith}
use Rattle.std.specs.Prelude.{ℤ, pos, ◌+ℤ◌, ◌*ℤ◌, ◌<ℤ◌, int_lt, int_le, unsigned_abs, if◌then◌else◌}
use Rattle.std.specs.List.{list_all, list_any}
use Rattle.std.specs.Ordering.{int_eq}
use Rattle.std.proofs.lemmas.Int.{ints}
use Rattle.ded_num.proofs.Tests.{and_false, same_tests, not_true_false}
use Rattle.ded_num.proofs.Signs.{abs_above, above_pos, abs_positive, above_test, is_positive}
use Rattle.ded_model.specs.declared.row.RowOp.{RowOp}
use Rattle.ded_model.specs.declared.row.RowOp.TheVariants.{Zero, AtMost, Below}
use Rattle.ded_model.specs.Row.{sign_meets}
use Rattle.ded_model.proofs.Rows.{or_right}
use Rattle.ded_model.proofs.Members.{or_split}
use Rattle.ded_polygon.specs.Plane.{Spot, In, IsSameSpot, level}
use Rattle.ded_polygon.proofs.Polynomials.{plus, times, var, identity}
use Rattle.ded_polygon.proofs.Signs.{above_above}
use Rattle.ded_strokes.specs.Bounds.{PlaneLimit, piece_holds, union_holds}
use Rattle.ded_strokes.specs.Near.{Direction, Near, turned, growth, soon, piece_soon}
use Rattle.ded_strokes.specs.Strokes.{between, IsSeam, HasStroke, HaveStroke, parts_levels, level_between}
use Rattle.ded_strokes.specs.Cuts.{LiesBetween}
use Rattle.ded_strokes.specs.Stretches.{is_off, is_idle, IsIdle, AreEnough, keeps_off, misses, near_pieces}
use Rattle.ded_strokes.specs.declared.stretch.Stroke.{Stroke}
use Rattle.ded_strokes.specs.declared.stretch.Stroke.TheVariants.{Seam, Solid, Dashed}
use Rattle.ded_strokes.proofs.Soon.{SameSign, both_below, both_none, both_above, lt_above, eq_below, eq_above, le_above}
use Rattle.ded_strokes.proofs.Between.{between_positive, limit_sign}
use Rattle.ded_strokes.proofs.Cuts.{sign_same}
use Rattle.ded_strokes.proofs.Unions.{near_of, of_near, union_settles}

-- ---- limits that are off
off_meets : (op : RowOp) (z : ℤ) → is_off op z ≡ true → sign_meets op z ≡ false
off_meets Zero z h = not_true_false (int_eq z (pos 0)) h
off_meets AtMost z h = le_above z (is_positive z h)
off_meets Below z h = lt_above z (is_positive z h)

off_soon : (op : RowOp) (z g : ℤ) → is_off op z ≡ true → soon op z g ≡ false
off_soon Zero z g h = ap (λ b. b && int_eq g (pos 0)) (not_true_false (int_eq z (pos 0)) h)
off_soon AtMost z g h = ap₂ (λ b d. b || (d && int_le g (pos 0))) (lt_above z (is_positive z h)) (eq_above z (is_positive z h))
off_soon Below z g h = ap₂ (λ b d. b || (d && int_lt g (pos 0))) (lt_above z (is_positive z h)) (eq_above z (is_positive z h))

not_above : (z : ℤ) → z <ℤ pos 0 → int_lt (pos 0) z ≡ false
not_above z h = grind (arith, ints)

same_off : (op : RowOp) (z y : ℤ) → SameSign z y → is_off op z ≡ is_off op y
same_off Zero z y (both_below h k) = ap not (eq_below z h ∙ sym (eq_below y k))
same_off AtMost z y (both_below h k) = not_above z h ∙ sym (not_above y k)
same_off Below z y (both_below h k) = not_above z h ∙ sym (not_above y k)
same_off op z y (both_none h k) = ap (is_off op) (h ∙ sym k)
same_off Zero z y (both_above h k) = ap not (eq_above z h ∙ sym (eq_above y k))
same_off AtMost z y (both_above h k) = above_test z h ∙ sym (above_test y k)
same_off Below z y (both_above h k) = above_test z h ∙ sym (above_test y k)

-- ---- idle pieces
module _ (m : Spot) where
  -- a test that no limit which is off passes
  none_pass : (test : PlaneLimit → Bool) → ((b : PlaneLimit) → is_off b.op (level b.plane m) ≡ true → test b ≡ false) → (bs : List PlaneLimit) → is_idle bs m ≡ true → list_all test bs ≡ false
  none_pass test fails [] h = absurd (true≢false (sym h))
  none_pass test fails (b ∷ bs) h = elim (or_split (is_off b.op (level b.plane m)) (is_idle bs m) h) [
    | inl e ↦ ap (λ x. x && list_all test bs) (fails b e)
    | inr e ↦ and_false (test b) (list_all test bs) (none_pass test fails bs e)
  ]

  pub idle_holds : (bs : List PlaneLimit) → is_idle bs m ≡ true → piece_holds bs m ≡ false
  idle_holds bs h = none_pass (λ b. sign_meets b.op (level b.plane m)) (λ b e. off_meets b.op (level b.plane m) e) bs h

  pub idle_soon : (w : Direction) (bs : List PlaneLimit) → is_idle bs m ≡ true → piece_soon bs m w ≡ false
  idle_soon w bs h = none_pass (λ b. soon b.op (level b.plane m) (growth b.plane w)) (λ b e. off_soon b.op (level b.plane m) (growth b.plane w) e) bs h

-- ---- where a piece misses a way
module _ (p q : Spot) (hp : pos 0 <ℤ p.den) (hq : pos 0 <ℤ q.den) where
  keeps_is : (b : PlaneLimit) → keeps_off b.op (level b.plane p) (level b.plane q) ≡ true → (m : Spot) → pos 0 <ℤ m.den → LiesBetween p q m → is_off b.op (level b.plane m) ≡ true
  keeps_is b h m hm l =
      let a = first (parts_levels (level b.plane p) (level b.plane q)) (is_off b.op (level_between b p q)) h in
      same_off b.op (level b.plane m) (level b.plane (between p q l.i l.j)) (sign_same b.plane m (between p q l.i l.j) hm (between_positive p q l.i l.j hp hq l.some_i l.some_j) l.is)
      ∙ same_off b.op (level b.plane (between p q l.i l.j)) (level_between b p q) (limit_sign l.i l.j l.some_i l.some_j p q b a.0)
      ∙ a.1
    where
      first : (x y : Bool) → (not x && y) ≡ true → (x ≡ false) × (y ≡ true)
      first true y k = absurd (true≢false (sym k))
      first false y k = (refl, k)

  pub misses_idle : (bs : List PlaneLimit) → misses p q bs ≡ true → IsIdle p q bs
  misses_idle [] h = λ m hm l. h
  misses_idle (b ∷ bs) h = λ m hm l. elim (or_split (keeps_off b.op (level b.plane p) (level b.plane q)) (misses p q bs) h) [
    | inl e ↦ ap (λ x. x || is_idle bs m) (keeps_is b e m hm l)
    | inr e ↦ or_right (is_off b.op (level b.plane m)) (is_idle bs m) (misses_idle bs e m hm l)
  ]

  pub near_enough : (pieces : List (List PlaneLimit)) → AreEnough p q (near_pieces p q pieces) pieces
  near_enough pieces = record { some = of_near_pieces pieces; others = others pieces }
    where
      of_near_pieces : (ps : List (List PlaneLimit)) (bs : List PlaneLimit) → In bs (near_pieces p q ps) → In bs ps
      of_near_pieces [] bs i = i
      of_near_pieces (cs ∷ ps) bs i = by (misses p q cs) i (λ j. of_near_pieces ps bs j)
        where
          by : (t : Bool) → In bs (if t then near_pieces p q ps else cs ∷ near_pieces p q ps) → (In bs (near_pieces p q ps) → In bs ps) → In bs (cs ∷ ps)
          by true j k = inr (k j)
          by false (inl e) k = inl e
          by false (inr j) k = inr (k j)

      others : (ps : List (List PlaneLimit)) (bs : List PlaneLimit) → In bs ps → IsIdle p q bs ⊎ In bs (near_pieces p q ps)
      others [] bs i = absurd i
      others (cs ∷ ps) bs (inl e) = by (misses p q cs) refl
        where
          by : (t : Bool) → misses p q cs ≡ t → IsIdle p q bs ⊎ In bs (if t then near_pieces p q ps else cs ∷ near_pieces p q ps)
          by true k = inl (misses_idle bs (ap (misses p q) e ∙ k))
          by false k = inr (inl e)
      others (cs ∷ ps) bs (inr i) = elim (others ps bs i) [ inl k ↦ inl k | inr k ↦ inr (by (misses p q cs) k) ]
        where
          by : (t : Bool) → In bs (near_pieces p q ps) → In bs (if t then near_pieces p q ps else cs ∷ near_pieces p q ps)
          by true k = k
          by false k = inr k

-- some of some
pub enough_more : (p q : Spot) (few some pieces : List (List PlaneLimit)) → AreEnough p q few some → AreEnough p q some pieces → AreEnough p q few pieces
enough_more p q few some pieces a b = record {
  some = λ bs i. b.some bs (a.some bs i);
  others = λ bs i. elim (b.others bs i) [ inl k ↦ inl k | inr j ↦ a.others bs j ];
}

-- ---- unions at a point between
any_in : (f : List PlaneLimit → Bool) (ps : List (List PlaneLimit)) → list_any f ps ≡ true → (bs : List PlaneLimit) × In bs ps × (f bs ≡ true)
any_in f [] h = absurd (true≢false (sym h))
any_in f (bs ∷ ps) h = elim (or_split (f bs) (list_any f ps) h) [
  | inl e ↦ (bs, inl refl, e)
  | inr e ↦ (let k = any_in f ps e in (k.0, inr k.1, k.2))
]

in_any : (f : List PlaneLimit → Bool) (ps : List (List PlaneLimit)) (bs : List PlaneLimit) → In bs ps → f bs ≡ true → list_any f ps ≡ true
in_any f [] bs i h = absurd i
in_any f (cs ∷ ps) bs (inl e) h = ap (λ x. x || list_any f ps) (ap f (sym e) ∙ h)
in_any f (cs ∷ ps) bs (inr i) h = or_right (f cs) (list_any f ps) (in_any f ps bs i h)

module _ (p q : Spot) (few pieces : List (List PlaneLimit)) (enough : AreEnough p q few pieces) where
  any_same : (f : List PlaneLimit → Bool) → ((bs : List PlaneLimit) → IsIdle p q bs → f bs ≡ false) → list_any f few ≡ list_any f pieces
  any_same f fails =
      same_tests (list_any f few) (list_any f pieces)
      (λ h. let k = any_in f few h in in_any f pieces k.0 (enough.some k.0 k.1) k.2)
      (λ h. let k = any_in f pieces h in elim (enough.others k.0 k.1) [ inl i ↦ absurd (true≢false (sym k.2 ∙ fails k.0 i)) | inr i ↦ in_any f few k.0 i k.2 ])

  module _ (m : Spot) (hm : pos 0 <ℤ m.den) (l : LiesBetween p q m) where
    holds_same : union_holds few m ≡ union_holds pieces m
    holds_same = any_same (λ bs. piece_holds bs m) (λ bs i. idle_holds m bs (i m hm l))

    soon_same : (w : Direction) → list_any (λ bs. piece_soon bs m w) few ≡ list_any (λ bs. piece_soon bs m w) pieces
    soon_same w = any_same (λ bs. piece_soon bs m w) (λ bs i. idle_soon m w bs (i m hm l))

    near_all : (w : Direction) → Near (union_holds few) m w → Near (union_holds pieces) m w
    near_all w h =
        near_of (union_holds pieces) (list_any (λ bs. piece_soon bs m w) pieces) m w (union_settles m w hm pieces)
        (sym (soon_same w) ∙ of_near (union_holds few) (list_any (λ bs. piece_soon bs m w) few) m w (union_settles m w hm few) h)

    near_few : (w : Direction) → Near (union_holds pieces) m w → Near (union_holds few) m w
    near_few w h =
        near_of (union_holds few) (list_any (λ bs. piece_soon bs m w) few) m w (union_settles m w hm few)
        (soon_same w ∙ of_near (union_holds pieces) (list_any (λ bs. piece_soon bs m w) pieces) m w (union_settles m w hm pieces) h)

    seam_all : (w : Direction) → IsSeam few w m → IsSeam pieces w m
    seam_all w s = record { holds = sym holds_same ∙ s.holds; ahead = near_all w s.ahead; behind = near_all (turned w) s.behind }

    seam_few : (w : Direction) → IsSeam pieces w m → IsSeam few w m
    seam_few w s = record { holds = holds_same ∙ s.holds; ahead = near_few w s.ahead; behind = near_few (turned w) s.behind }

    stroke_all : (w : Direction) (s : Stroke) → HasStroke few w m s → HasStroke pieces w m s
    stroke_all w Seam h = seam_all w h
    stroke_all w Solid h = (sym holds_same ∙ h.0, λ k. h.1 (seam_few w k))
    stroke_all w Dashed h = sym holds_same ∙ h

same_self : (m : Spot) → IsSameSpot m m
same_self m = record { x = refl; y = refl }

pub have_all : (p q : Spot) → pos 0 <ℤ p.den → pos 0 <ℤ q.den → (few pieces : List (List PlaneLimit)) → AreEnough p q few pieces → (w : Direction) (s : Stroke) → HaveStroke few w p q s → HaveStroke pieces w p q s
have_all p q hp hq few pieces enough w s h = λ i j hi hj.
    stroke_all p q few pieces enough (between p q i j) (between_positive p q i j hp hq hi hj) (record { i = i; j = j; some_i = hi; some_j = hj; is = same_self (between p q i j) }) w s (h i j hi hj)

-- ---- points between parts of a way
swap : (p q m : Spot) → LiesBetween p q m → LiesBetween q p m
unfolding between
swap p q m l = record {
  i = l.j;
  j = l.i;
  some_i = l.some_j;
  some_j = l.some_i;
  is = record {
    x = ap (λ d. m.x *ℤ d) (other_way (pos l.j *ℤ q.den) (pos l.i *ℤ p.den)) ∙ l.is.x ∙ ap (λ z. z *ℤ m.den) (other_way (pos l.i *ℤ p.x) (pos l.j *ℤ q.x));
    y = ap (λ d. m.y *ℤ d) (other_way (pos l.j *ℤ q.den) (pos l.i *ℤ p.den)) ∙ l.is.y ∙ ap (λ z. z *ℤ m.den) (other_way (pos l.i *ℤ p.y) (pos l.j *ℤ q.y));
  };
}
  where
    other_way : (a b : ℤ) → a +ℤ b ≡ b +ℤ a
    other_way a b = omega (arith, ints)

-- one coordinate of a point between p and c, which lies between p and q
coordinate : (i j k l px pd qx qd cx cd mx md : ℤ) → cx *ℤ (k *ℤ pd +ℤ l *ℤ qd) ≡ (k *ℤ px +ℤ l *ℤ qx) *ℤ cd → mx *ℤ (i *ℤ pd +ℤ j *ℤ cd) ≡ (i *ℤ px +ℤ j *ℤ cx) *ℤ md
    → mx *ℤ ((i *ℤ (k *ℤ pd +ℤ l *ℤ qd) +ℤ (j *ℤ k) *ℤ cd) *ℤ pd +ℤ ((j *ℤ l) *ℤ cd) *ℤ qd)
    ≡ ((i *ℤ (k *ℤ pd +ℤ l *ℤ qd) +ℤ (j *ℤ k) *ℤ cd) *ℤ px +ℤ ((j *ℤ l) *ℤ cd) *ℤ qx) *ℤ md
coordinate i j k l px pd qx qd cx cd mx md hc hm =
    outer i j k l pd qd cd mx
    ∙ ap (λ z. (k *ℤ pd +ℤ l *ℤ qd) *ℤ z) hm
    ∙ middle i j k l px pd qd cx md
    ∙ ap (λ z. ((i *ℤ px) *ℤ md) *ℤ (k *ℤ pd +ℤ l *ℤ qd) +ℤ (j *ℤ md) *ℤ z) hc
    ∙ inner i j k l px pd qx qd cd md
  where
    outer : (i j k l pd qd cd mx : ℤ)
        → mx *ℤ ((i *ℤ (k *ℤ pd +ℤ l *ℤ qd) +ℤ (j *ℤ k) *ℤ cd) *ℤ pd +ℤ ((j *ℤ l) *ℤ cd) *ℤ qd) ≡ (k *ℤ pd +ℤ l *ℤ qd) *ℤ (mx *ℤ (i *ℤ pd +ℤ j *ℤ cd))
    outer i j k l pd qd cd mx =
        identity (i ∷ j ∷ k ∷ l ∷ pd ∷ qd ∷ cd ∷ mx ∷ [])
        (times (var 7)
        (plus
        (times (plus (times (var 0) (plus (times (var 2) (var 4)) (times (var 3) (var 5)))) (times (times (var 1) (var 2)) (var 6))) (var 4))
        (times (times (times (var 1) (var 3)) (var 6)) (var 5))))
        (times (plus (times (var 2) (var 4)) (times (var 3) (var 5))) (times (var 7) (plus (times (var 0) (var 4)) (times (var 1) (var 6)))))
        refl

    middle : (i j k l px pd qd cx md : ℤ) → (k *ℤ pd +ℤ l *ℤ qd) *ℤ ((i *ℤ px +ℤ j *ℤ cx) *ℤ md) ≡ ((i *ℤ px) *ℤ md) *ℤ (k *ℤ pd +ℤ l *ℤ qd) +ℤ (j *ℤ md) *ℤ (cx *ℤ (k *ℤ pd +ℤ l *ℤ qd))
    middle i j k l px pd qd cx md =
        identity (i ∷ j ∷ k ∷ l ∷ px ∷ pd ∷ qd ∷ cx ∷ md ∷ [])
        (times (plus (times (var 2) (var 5)) (times (var 3) (var 6))) (times (plus (times (var 0) (var 4)) (times (var 1) (var 7))) (var 8)))
        (plus
        (times (times (times (var 0) (var 4)) (var 8)) (plus (times (var 2) (var 5)) (times (var 3) (var 6))))
        (times (times (var 1) (var 8)) (times (var 7) (plus (times (var 2) (var 5)) (times (var 3) (var 6))))))
        refl

    inner : (i j k l px pd qx qd cd md : ℤ) → ((i *ℤ px) *ℤ md) *ℤ (k *ℤ pd +ℤ l *ℤ qd) +ℤ (j *ℤ md) *ℤ ((k *ℤ px +ℤ l *ℤ qx) *ℤ cd)
        ≡ ((i *ℤ (k *ℤ pd +ℤ l *ℤ qd) +ℤ (j *ℤ k) *ℤ cd) *ℤ px +ℤ ((j *ℤ l) *ℤ cd) *ℤ qx) *ℤ md
    inner i j k l px pd qx qd cd md =
        identity (i ∷ j ∷ k ∷ l ∷ px ∷ pd ∷ qx ∷ qd ∷ cd ∷ md ∷ [])
        (plus
        (times (times (times (var 0) (var 4)) (var 9)) (plus (times (var 2) (var 5)) (times (var 3) (var 7))))
        (times (times (var 1) (var 9)) (times (plus (times (var 2) (var 4)) (times (var 3) (var 6))) (var 8))))
        (times
        (plus
        (times (plus (times (var 0) (plus (times (var 2) (var 5)) (times (var 3) (var 7)))) (times (times (var 1) (var 2)) (var 8))) (var 4))
        (times (times (times (var 1) (var 3)) (var 8)) (var 6)))
        (var 9))
        refl

-- the spot lies between two others by whole numbers above 0
lies_by : (p q m : Spot) (I J : ℤ) → pos 0 <ℤ I → pos 0 <ℤ J → m.x *ℤ (I *ℤ p.den +ℤ J *ℤ q.den) ≡ (I *ℤ p.x +ℤ J *ℤ q.x) *ℤ m.den
    → m.y *ℤ (I *ℤ p.den +ℤ J *ℤ q.den) ≡ (I *ℤ p.y +ℤ J *ℤ q.y) *ℤ m.den → LiesBetween p q m
unfolding between
lies_by p q m I J hi hj ex ey = record {
  i = unsigned_abs I;
  j = unsigned_abs J;
  some_i = abs_positive I hi;
  some_j = abs_positive J hj;
  is = record {
    x = subst (λ i. m.x *ℤ (i *ℤ p.den +ℤ pos (unsigned_abs J) *ℤ q.den) ≡ (i *ℤ p.x +ℤ pos (unsigned_abs J) *ℤ q.x) *ℤ m.den) (sym (abs_above I hi))
        (subst (λ j. m.x *ℤ (I *ℤ p.den +ℤ j *ℤ q.den) ≡ (I *ℤ p.x +ℤ j *ℤ q.x) *ℤ m.den) (sym (abs_above J hj)) ex);
    y = subst (λ i. m.y *ℤ (i *ℤ p.den +ℤ pos (unsigned_abs J) *ℤ q.den) ≡ (i *ℤ p.y +ℤ pos (unsigned_abs J) *ℤ q.y) *ℤ m.den) (sym (abs_above I hi))
        (subst (λ j. m.y *ℤ (I *ℤ p.den +ℤ j *ℤ q.den) ≡ (I *ℤ p.y +ℤ j *ℤ q.y) *ℤ m.den) (sym (abs_above J hj)) ey);
  };
}

two_above : (a b : ℤ) → pos 0 <ℤ a → pos 0 <ℤ b → pos 0 <ℤ (a +ℤ b)
two_above a b h k = omega (arith, ints)

module _ (p q c : Spot) (hp : pos 0 <ℤ p.den) (hq : pos 0 <ℤ q.den) (hc : pos 0 <ℤ c.den) where
  -- between p and c
  pub lies_before : LiesBetween p q c → (m : Spot) → LiesBetween p c m → LiesBetween p q m
  unfolding between
  lies_before b m l =
      let i = pos l.i in
      let j = pos l.j in
      let k = pos b.i in
      let n = pos b.j in
      let hi = above_pos l.i l.some_i in
      let hj = above_pos l.j l.some_j in
      let hk = above_pos b.i b.some_i in
      let hn = above_pos b.j b.some_j in
      let hd = two_above (k *ℤ p.den) (n *ℤ q.den) (above_above k p.den hk hp) (above_above n q.den hn hq) in
      lies_by p q m (i *ℤ (k *ℤ p.den +ℤ n *ℤ q.den) +ℤ (j *ℤ k) *ℤ c.den) ((j *ℤ n) *ℤ c.den)
      (two_above (i *ℤ (k *ℤ p.den +ℤ n *ℤ q.den)) ((j *ℤ k) *ℤ c.den) (above_above i _ hi hd) (above_above (j *ℤ k) c.den (above_above j k hj hk) hc))
      (above_above (j *ℤ n) c.den (above_above j n hj hn) hc)
      (coordinate i j k n p.x p.den q.x q.den c.x c.den m.x m.den b.is.x l.is.x)
      (coordinate i j k n p.y p.den q.y q.den c.y c.den m.y m.den b.is.y l.is.y)

-- between c and q
pub lies_behind : (p q c : Spot) → pos 0 <ℤ p.den → pos 0 <ℤ q.den → pos 0 <ℤ c.den → LiesBetween p q c → (m : Spot) → LiesBetween c q m → LiesBetween p q m
lies_behind p q c hp hq hc b m l = swap q p m (lies_before q p c hq hp hc (swap p q c b) m (swap c q m l))

pub enough_before : (p q c : Spot) → pos 0 <ℤ p.den → pos 0 <ℤ q.den → pos 0 <ℤ c.den → LiesBetween p q c → (few pieces : List (List PlaneLimit)) → AreEnough p q few pieces → AreEnough p c few pieces
enough_before p q c hp hq hc b few pieces e = record {
  some = e.some;
  others = λ bs i. elim (e.others bs i) [ inl k ↦ inl (λ m hm l. k m hm (lies_before p q c hp hq hc b m l)) | inr j ↦ inr j ];
}

pub enough_behind : (p q c : Spot) → pos 0 <ℤ p.den → pos 0 <ℤ q.den → pos 0 <ℤ c.den → LiesBetween p q c → (few pieces : List (List PlaneLimit)) → AreEnough p q few pieces → AreEnough c q few pieces
enough_behind p q c hp hq hc b few pieces e = record {
  some = e.some;
  others = λ bs i. elim (e.others bs i) [ inl k ↦ inl (λ m hm l. k m hm (lies_behind p q c hp hq hc b m l)) | inr j ↦ inr j ];
}
