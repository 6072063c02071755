-- The line of a combination of two rows, and when its numbers are too long.
--
-- A combination is made of the numbers of two lines up to factors that are not 0, which change no line. The factors of normal
-- rows are 1 or -1, which change no length either.
use Rattle.std.proofs.Common.{◌≡◌, ◌≢◌, ℕ, ◌*◌, Bool, true, false, not, cond, ◌&&◌, ◌||◌, List, [], ◌∷◌, inl, inr, map, nat_lt, arith, refl, sym, ap, ap₂, ◌∙◌}
use Rattle.std.specs.Prelude.{ℤ, pos, negsuc, ◌+ℤ◌, ◌-ℤ◌, ◌*ℤ◌, unsigned_abs, ◌^◌}
use lib.IntN.{neg_ℤ, +ℤ_idl}
use Rattle.std.specs.List.{list_any}
use Rattle.std.specs.Ordering.{int_eq}
use Rattle.std.proofs.lemmas.Int.{unsigned_abs-mul}
use Rattle.std.proofs.lemmas.Bool.Decides.{same_from_decides, Decides-int_eq}
use Rattle.std.proofs.Math.IntN.{*ℤ-zero, neg_ℤ-neg_ℤ}
use Rattle.ded_num.specs.Gcd.{gcd_all}
use Rattle.ded_num.proofs.Ring.{parts, ring, diff_same, mul-add_ℤ}
use Rattle.ded_num.proofs.Signs.{neg_times_first, times_regroup}
use Rattle.ded_model.specs.declared.slot.Slot.{Slot}
use Rattle.ded_model.specs.declared.row.RowOp.{RowOp}
use Rattle.ded_model.specs.declared.row.RowOp.TheVariants.{Zero}
use Rattle.ded_model.specs.Constraint.{LinearConstraint}
use Rattle.ded_model.specs.Point.{same_slot}
use Rattle.ded_model.specs.Coefs.{coef_at, put, put_all, mixed, nonzero, cut}
use Rattle.ded_model.specs.Normal.{IsNormalRow, divisor_of, normal_row}
use Rattle.ded_model.specs.Lines.{Line, In, line_with, row_lines, combination, is_long, products_clash, slots_clash, lines_clash}
use Rattle.ded_model.proofs.Divisors.{abs_divisor, divisor-whole, divisor-whole_constant, divisor-nonzero_first}
use Rattle.ded_model.proofs.LineCoefs.{AllNonzero, nonzero-nonzero}
use Rattle.ded_row.specs.Multiples.{coefs_times}
use Rattle.ded_row.specs.Mixing.{factor, mixed_coefs, mixed_row, mix_of, sum_is_long, long_at, coefs_are_long}
use Rattle.ded_row.proofs.Scaling.{BeginsNonzero, cancel_factor, product_nonzero}
use Rattle.ded_row.proofs.Forms.{coefs_back, row_lines-times, row_lines-normal}
use Rattle.ded_row.proofs.Pieces.{neg_is, normal_gcd}
use Rattle.ded_row.proofs.Mixes.{IsPair, turned_first, turned_second, factors}
use Rattle.ded_model.proofs.LineLengths.{sum_is_difference}

-- ---- multiples of sums

pub times-put : (j : ℤ) (s : Slot) (z : ℤ) (cs : List (Slot × ℤ)) → coefs_times j (put s z cs) ≡ put s (j *ℤ z) (coefs_times j cs)
times-put j s z [] = refl
times-put j s z (c ∷ cs) = go (same_slot c.0 s) (nat_lt s.number c.0.number) (times-put j s z cs)
  where
    go : (b d : Bool) → coefs_times j (put s z cs) ≡ put s (j *ℤ z) (coefs_times j cs)
        → coefs_times j (cond b ((c.0, z +ℤ c.1) ∷ cs) (cond d ((s, z) ∷ c ∷ cs) (c ∷ put s z cs)))
        ≡ cond b ((c.0, j *ℤ z +ℤ j *ℤ c.1) ∷ coefs_times j cs) (cond d ((s, j *ℤ z) ∷ (c.0, j *ℤ c.1) ∷ coefs_times j cs) ((c.0, j *ℤ c.1) ∷ put s (j *ℤ z) (coefs_times j cs)))
    go true d ih = ap (λ y. (c.0, y) ∷ coefs_times j cs) (mul-add_ℤ j z c.1)
    go false true ih = refl
    go false false ih = ap (λ ys. (c.0, j *ℤ c.1) ∷ ys) ih

-- of a sum of multiples
pub times-put_all : (j k : ℤ) (xs ys : List (Slot × ℤ)) → coefs_times j (put_all k xs ys) ≡ put_all (j *ℤ k) xs (coefs_times j ys)
times-put_all j k [] ys = refl
times-put_all j k (x ∷ xs) ys = times-put j x.0 (k *ℤ x.1) (put_all k xs ys) ∙ ap₂ (put x.0) (times_regroup j k x.1) (times-put_all j k xs ys)

-- a sum of multiples of multiples
put_all-times : (k j : ℤ) (xs ys : List (Slot × ℤ)) → put_all k (coefs_times j xs) ys ≡ put_all (k *ℤ j) xs ys
put_all-times k j [] ys = refl
put_all-times k j (x ∷ xs) ys = ap₂ (put x.0) (times_regroup k j x.1) (put_all-times k j xs ys)

-- a multiple without a slot
pub times-cut : (j : ℤ) (s : Slot) (cs : List (Slot × ℤ)) → coefs_times j (cut s cs) ≡ cut s (coefs_times j cs)
times-cut j s [] = refl
times-cut j s (c ∷ cs) = go (same_slot c.0 s) (times-cut j s cs)
  where
    go : (b : Bool) → coefs_times j (cut s cs) ≡ cut s (coefs_times j cs) → coefs_times j (cond b (cut s cs) (c ∷ cut s cs)) ≡ cond b (cut s (coefs_times j cs)) ((c.0, j *ℤ c.1) ∷ cut s (coefs_times j cs))
    go true ih = ih
    go false ih = ap (λ ys. (c.0, j *ℤ c.1) ∷ ys) ih

-- a multiple is 0 where the number is
zero_times : (j z : ℤ) → j ≢ pos 0 → int_eq (j *ℤ z) (pos 0) ≡ int_eq z (pos 0)
zero_times j z n = same_from_decides _ _ (Decides-int_eq (j *ℤ z) (pos 0)) (from_factor, to_factor)
  where
    to_factor : j *ℤ z ≡ pos 0 → int_eq z (pos 0) ≡ true
    to_factor e = (Decides-int_eq z (pos 0)).1 (cancel_factor j z (pos 0) n (e ∙ sym (*ℤ-zero j)))

    from_factor : int_eq z (pos 0) ≡ true → j *ℤ z ≡ pos 0
    from_factor e = ap (λ w. j *ℤ w) ((Decides-int_eq z (pos 0)).0 e) ∙ *ℤ-zero j

pub times-nonzero : (j : ℤ) (cs : List (Slot × ℤ)) → j ≢ pos 0 → coefs_times j (nonzero cs) ≡ nonzero (coefs_times j cs)
times-nonzero j [] n = refl
times-nonzero j (c ∷ cs) n = go (int_eq c.1 (pos 0)) (times-nonzero j cs n) ∙ ap (λ b. cond b (nonzero (coefs_times j cs)) ((c.0, j *ℤ c.1) ∷ nonzero (coefs_times j cs))) (sym (zero_times j c.1 n))
  where
    go : (b : Bool) → coefs_times j (nonzero cs) ≡ nonzero (coefs_times j cs) → coefs_times j (cond b (nonzero cs) (c ∷ nonzero cs)) ≡ cond b (nonzero (coefs_times j cs)) ((c.0, j *ℤ c.1) ∷ nonzero (coefs_times j cs))
    go true ih = ih
    go false ih = ap (λ ys. (c.0, j *ℤ c.1) ∷ ys) ih

-- a multiple of a combination's coefficients
times-mixed : (j : ℤ) (s : Slot) (k : ℤ) (xs : List (Slot × ℤ)) (m : ℤ) (ys : List (Slot × ℤ)) → j ≢ pos 0 → coefs_times j (mixed_coefs s k xs m ys) ≡ mixed_coefs s (j *ℤ k) xs (j *ℤ m) ys
times-mixed j s k xs m ys n =
    times-nonzero j (cut s (mixed k xs m ys)) n ∙ ap nonzero (times-cut j s (mixed k xs m ys)) ∙ ap (λ cs. nonzero (cut s cs)) (times-put_all j k xs (put_all m ys []) ∙ ap (put_all (j *ℤ k) xs) (times-put_all j m ys []))

-- ---- lines of combinations

-- what is not 0 begins so
pub nonzero_begins : (cs : List (Slot × ℤ)) → AllNonzero cs → BeginsNonzero cs
nonzero_begins [] h = tt
nonzero_begins (c ∷ cs) h = h.0

-- the line of a multiple of a combination
line_times : (j : ℤ) (s : Slot) (k : ℤ) (xs : List (Slot × ℤ)) (m : ℤ) (ys : List (Slot × ℤ)) (z : ℤ) → j ≢ pos 0 → line_with (mixed_coefs s (j *ℤ k) xs (j *ℤ m) ys) (j *ℤ z) ≡ line_with (mixed_coefs s k xs m ys) z
line_times j s k xs m ys z n =
    ap (λ cs. line_with cs (j *ℤ z)) (sym (times-mixed j s k xs m ys n))
    ∙ row_lines-times j (record { coefs = mixed_coefs s k xs m ys; constant = z; op = Zero }) n (nonzero_begins (mixed_coefs s k xs m ys) (nonzero-nonzero (cut s (mixed k xs m ys))))

-- the line of a combination, from the parts of the lines
combination_with : Slot → List (Slot × ℤ) → ℤ → List (Slot × ℤ) → ℤ → List Line
combination_with s xs c ys d = line_with (mixed_coefs s (coef_at ys s) xs (neg_ℤ (coef_at xs s)) ys) (coef_at ys s *ℤ c -ℤ coef_at xs s *ℤ d)

turned_difference : (b c a d : ℤ) → neg_ℤ b *ℤ c +ℤ a *ℤ d ≡ neg_ℤ (b *ℤ c -ℤ a *ℤ d)
turned_difference b c a d = rw (parts b, parts c, parts a, parts d) (simp ring (diff_same _ _ _ _ (omega arith)))

pub minus_one : negsuc 0 ≢ pos 0
minus_one e = absurd (omega (arith, ap unsigned_abs e))

-- with either factor turned
mixed_line : (s : Slot) (xs : List (Slot × ℤ)) (c : ℤ) (ys : List (Slot × ℤ)) (d k m : ℤ) → IsPair (coef_at xs s) (coef_at ys s) k m → line_with (mixed_coefs s k xs m ys) (k *ℤ c +ℤ m *ℤ d) ≡ combination_with s xs c ys d
unfolding combination_with
mixed_line s xs c ys d k m (turned_second e f) =
    let a = coef_at xs s in
    let b = coef_at ys s in
    ap₂ (λ u v. line_with (mixed_coefs s u xs v ys) (u *ℤ c +ℤ v *ℤ d)) e f ∙ ap (line_with (mixed_coefs s b xs (neg_ℤ a) ys)) (sum_is_difference b c a d)
mixed_line s xs c ys d k m (turned_first e f) =
    let a = coef_at xs s in
    let b = coef_at ys s in
    ap₂ (λ u v. line_with (mixed_coefs s u xs v ys) (u *ℤ c +ℤ v *ℤ d)) e f
    ∙ ap (line_with (mixed_coefs s (neg_ℤ b) xs a ys)) (turned_difference b c a d ∙ neg_is (b *ℤ c -ℤ a *ℤ d))
    ∙ ap₂ (λ u v. line_with (mixed_coefs s u xs v ys) (negsuc 0 *ℤ (b *ℤ c -ℤ a *ℤ d))) (neg_is b) (sym (neg_ℤ-neg_ℤ a) ∙ neg_is (neg_ℤ a))
    ∙ line_times (negsuc 0) s b xs (neg_ℤ a) ys (b *ℤ c -ℤ a *ℤ d) minus_one

-- the line of a combination of two rows is the combination of the rows
pub mix-line : (s : Slot) (q r : LinearConstraint) → coef_at q.coefs s ≢ pos 0 → coef_at r.coefs s ≢ pos 0 → row_lines (mix_of s q r) ≡ combination s q r
unfolding combination_with
mix-line s q r h l =
    let a = coef_at q.coefs s in
    let b = coef_at r.coefs s in
    let k = factor a b in
    let m = factor (neg_ℤ b) a in
    row_lines-normal (mixed_row s k q m r) (nonzero_begins (mixed_coefs s k q.coefs m r.coefs) (nonzero-nonzero (cut s (mixed k q.coefs m r.coefs))))
    ∙ mixed_line s q.coefs q.constant r.coefs r.constant k m (factors a b h l)

-- ---- numbers that are too long

-- a number with a factor of magnitude 1 is as long
long-times : (g z : ℤ) → unsigned_abs g ≡ 1 → is_long (g *ℤ z) ≡ is_long z
long-times g z e = ap (λ n. not (nat_lt n (2 ^ 127))) (unsigned_abs-mul g z ∙ ap (λ n. n * unsigned_abs z) e ∙ one (unsigned_abs z))
  where
    one : (n : ℕ) → 1 * n ≡ n
    one n = omega arith

-- a negative is as long
long-turned : (z : ℤ) → is_long (neg_ℤ z) ≡ is_long z
long-turned z = ap is_long (neg_is z) ∙ long-times (negsuc 0) z refl

-- the products of the factors are those of the coefficients
long_pair : (a b k m c d : ℤ) → IsPair a b k m → sum_is_long k c m d ≡ products_clash b c a d
long_pair a b k m c d (turned_first e f) =
    ap₂ (λ u v. sum_is_long u c v d) e f
    ∙ ap₂ (λ p q. p || is_long (a *ℤ d) || q) (ap is_long (neg_times_first b c) ∙ long-turned (b *ℤ c)) (ap is_long (turned_difference b c a d) ∙ long-turned (b *ℤ c -ℤ a *ℤ d))
long_pair a b k m c d (turned_second e f) =
    ap₂ (λ u v. sum_is_long u c v d) e f
    ∙ ap₂ (λ p q. is_long (b *ℤ c) || p || q) (ap is_long (neg_times_first a d) ∙ long-turned (a *ℤ d)) (ap is_long (sum_is_difference b c a d))

-- at the slots of a list
long_slots : (s : Slot) (q r : LinearConstraint) (k m : ℤ) (cs : List (Slot × ℤ)) → IsPair (coef_at q.coefs s) (coef_at r.coefs s) k m
    → list_any (λ c. long_at s k q.coefs m r.coefs c.0) cs ≡ slots_clash s q r cs
long_slots s q r k m [] h = refl
long_slots s q r k m (c ∷ cs) h =
    ap₂ (λ p o. (not (same_slot c.0 s) && p) || o) (long_pair (coef_at q.coefs s) (coef_at r.coefs s) k m (coef_at q.coefs c.0) (coef_at r.coefs c.0) h) (long_slots s q r k m cs h)

-- three tests
or_three : (x y z : Bool) → ((x || y) || z) ≡ (x || y || z)
or_three true y z = refl
or_three false y z = refl

-- the numbers of a combination are too long where the rows clash
pub mix-clash : (s : Slot) (q r : LinearConstraint) → coef_at q.coefs s ≢ pos 0 → coef_at r.coefs s ≢ pos 0
    → (coefs_are_long s (factor (coef_at q.coefs s) (coef_at r.coefs s)) q.coefs (factor (neg_ℤ (coef_at r.coefs s)) (coef_at q.coefs s)) r.coefs
    || sum_is_long (factor (coef_at q.coefs s) (coef_at r.coefs s)) q.constant (factor (neg_ℤ (coef_at r.coefs s)) (coef_at q.coefs s)) r.constant) ≡ lines_clash s q r
unfolding lines_clash
mix-clash s q r h l =
    let a = coef_at q.coefs s in
    let b = coef_at r.coefs s in
    let k = factor a b in
    let m = factor (neg_ℤ b) a in
    let p = factors a b h l in
    ap₂ (λ x y. (x || y) || sum_is_long k q.constant m r.constant) (long_slots s q r k m q.coefs p) (long_slots s q r k m r.coefs p)
    ∙ ap (λ z. (slots_clash s q r q.coefs || slots_clash s q r r.coefs) || z) (long_pair a b k m q.constant r.constant p)
    ∙ or_three (slots_clash s q r q.coefs) (slots_clash s q r r.coefs) (products_clash b q.constant a r.constant)

-- ---- rows and their lines

-- a coefficient of a multiple
coef_at-times : (j : ℤ) (cs : List (Slot × ℤ)) (s : Slot) → coef_at (coefs_times j cs) s ≡ j *ℤ coef_at cs s
coef_at-times j [] s = sym (*ℤ-zero j)
coef_at-times j (c ∷ cs) s = ap (λ z. cond (same_slot c.0 s) (j *ℤ c.1) (pos 0) +ℤ z) (coef_at-times j cs s) ∙ go (same_slot c.0 s)
  where
    go : (b : Bool) → cond b (j *ℤ c.1) (pos 0) +ℤ j *ℤ coef_at cs s ≡ j *ℤ (cond b c.1 (pos 0) +ℤ coef_at cs s)
    go true = sym (mul-add_ℤ j c.1 (coef_at cs s))
    go false = +ℤ_idl (j *ℤ coef_at cs s) ∙ ap (λ z. j *ℤ z) (sym (+ℤ_idl (coef_at cs s)))

-- products of multiples
first_product : (h j b : ℤ) → (h *ℤ b) *ℤ j ≡ (h *ℤ j) *ℤ b
first_product h j b = rw (parts h, parts j, parts b) (simp ring (diff_same _ _ _ _ (omega arith)))

second_product : (h j a : ℤ) → neg_ℤ (j *ℤ a) *ℤ h ≡ (h *ℤ j) *ℤ neg_ℤ a
second_product h j a = rw (parts h, parts j, parts a) (simp ring (diff_same _ _ _ _ (omega arith)))

outer_product : (h b j c : ℤ) → (h *ℤ b) *ℤ (j *ℤ c) ≡ (h *ℤ j) *ℤ (b *ℤ c)
outer_product h b j c = rw (parts h, parts b, parts j, parts c) (simp ring (diff_same _ _ _ _ (omega arith)))

inner_product : (h j a d : ℤ) → (j *ℤ a) *ℤ (h *ℤ d) ≡ (h *ℤ j) *ℤ (a *ℤ d)
inner_product h j a d = rw (parts h, parts j, parts a, parts d) (simp ring (diff_same _ _ _ _ (omega arith)))

pub difference_product : (g x y : ℤ) → g *ℤ x -ℤ g *ℤ y ≡ g *ℤ (x -ℤ y)
difference_product g x y = rw (parts g, parts x, parts y) (simp ring (diff_same _ _ _ _ (omega arith)))

-- a combination of multiples is that of the lines
combination_times : (s : Slot) (j h : ℤ) (xs : List (Slot × ℤ)) (c : ℤ) (ys : List (Slot × ℤ)) (d : ℤ) → j ≢ pos 0 → h ≢ pos 0
    → combination_with s (coefs_times j xs) (j *ℤ c) (coefs_times h ys) (h *ℤ d) ≡ combination_with s xs c ys d
unfolding combination_with
combination_times s j h xs c ys d n l =
    let a = coef_at xs s in
    let b = coef_at ys s in
    let g = h *ℤ j in
    ap₂ (λ u v. line_with (mixed_coefs s v (coefs_times j xs) (neg_ℤ u) (coefs_times h ys)) (v *ℤ (j *ℤ c) -ℤ u *ℤ (h *ℤ d))) (coef_at-times j xs s) (coef_at-times h ys s)
    ∙ ap (λ cs. line_with (nonzero (cut s cs)) ((h *ℤ b) *ℤ (j *ℤ c) -ℤ (j *ℤ a) *ℤ (h *ℤ d)))
    (put_all-times (h *ℤ b) j xs (put_all (neg_ℤ (j *ℤ a)) (coefs_times h ys) []) ∙ ap (put_all ((h *ℤ b) *ℤ j) xs) (put_all-times (neg_ℤ (j *ℤ a)) h ys [])
    ∙ ap₂ (λ u v. mixed u xs v ys) (first_product h j b) (second_product h j a))
    ∙ ap (line_with (mixed_coefs s (g *ℤ b) xs (g *ℤ neg_ℤ a) ys)) (ap₂ (λ x y. x -ℤ y) (outer_product h b j c) (inner_product h j a d) ∙ difference_product g (b *ℤ c) (a *ℤ d))
    ∙ line_times g s b xs (neg_ℤ a) ys (b *ℤ c -ℤ a *ℤ d) (product_nonzero h j l n)

-- the numbers of a row are those of its line, times a factor; it is 1 or -1 for a normal row
pub record IsLineOf (q : LinearConstraint) (l : Line) : Type 0 where
  pub times : ℤ
  pub nonzero_times : times ≢ pos 0
  pub coefs : q.coefs ≡ coefs_times times l.coefs
  pub constant : q.constant ≡ times *ℤ l.constant
  pub size : IsNormalRow q → unsigned_abs times ≡ 1

pub line_of : (q : LinearConstraint) (l : Line) → BeginsNonzero q.coefs → In l (row_lines q) → IsLineOf q l
unfolding normal_row
line_of q l h i = go q.op q.constant q.coefs h i
  where
    go : (op : RowOp) (m : ℤ) (cs : List (Slot × ℤ)) → BeginsNonzero cs → In l (line_with cs m) → IsLineOf (record { coefs = cs; constant = m; op = op }) l
    go op m [] h i = absurd i
    go op m (c ∷ cs) h (inr i) = absurd i
    go op m (c ∷ cs) h (inl e) =
        let d = divisor_of Zero m (c ∷ cs) in
        record {
          times = d;
          nonzero_times = divisor-nonzero_first Zero m c cs h;
          coefs = sym (ap (λ (n : Line). coefs_times d n.coefs) e ∙ coefs_back d (c ∷ cs) (divisor-whole Zero m (c ∷ cs)));
          constant = sym (ap (λ (n : Line). d *ℤ n.constant) e ∙ divisor-whole_constant Zero m c cs);
          size = λ n. abs_divisor Zero c.1 (gcd_all (m ∷ map (λ x. x.1) (c ∷ cs))) ∙ normal_gcd op m c cs h n.normal;
        }

-- the combination of two rows is that of their lines
pub lines_combination : (s : Slot) (q r : LinearConstraint) (l m : Line) → BeginsNonzero q.coefs → BeginsNonzero r.coefs → In l (row_lines q) → In m (row_lines r) → combination s q r ≡ combination s l m
unfolding combination_with
lines_combination s q r l m h k i j =
    let x = line_of q l h i in
    let y = line_of r m k j in
    ap₂ (λ xs c. combination_with s xs c r.coefs r.constant) x.coefs x.constant
    ∙ ap₂ (λ ys d. combination_with s (coefs_times x.times l.coefs) (x.times *ℤ l.constant) ys d) y.coefs y.constant
    ∙ combination_times s x.times y.times l.coefs l.constant m.coefs m.constant x.nonzero_times y.nonzero_times

-- products of multiples by 1 or -1 are as long
clash_times : (h j b c a d : ℤ) → unsigned_abs (h *ℤ j) ≡ 1 → products_clash (h *ℤ b) (j *ℤ c) (j *ℤ a) (h *ℤ d) ≡ products_clash b c a d
clash_times h j b c a d e =
    let g = h *ℤ j in
    ap₂ (λ x y. is_long x || is_long y || is_long (x -ℤ y)) (outer_product h b j c) (inner_product h j a d)
    ∙ ap₂ (λ p o. p || o || is_long (g *ℤ (b *ℤ c) -ℤ g *ℤ (a *ℤ d))) (long-times g (b *ℤ c) e) (long-times g (a *ℤ d) e)
    ∙ ap (λ o. is_long (b *ℤ c) || is_long (a *ℤ d) || o) (ap is_long (difference_product g (b *ℤ c) (a *ℤ d)) ∙ long-times g (b *ℤ c -ℤ a *ℤ d) e)

module _ (s : Slot) (q r : LinearConstraint) (l m : Line) (x : IsLineOf q l) (y : IsLineOf r m) (size : unsigned_abs (y.times *ℤ x.times) ≡ 1) where
  -- the coefficients of the rows
  coef_q : (t : Slot) → coef_at q.coefs t ≡ x.times *ℤ coef_at l.coefs t
  coef_q t = ap (λ cs. coef_at cs t) x.coefs ∙ coef_at-times x.times l.coefs t

  coef_r : (t : Slot) → coef_at r.coefs t ≡ y.times *ℤ coef_at m.coefs t
  coef_r t = ap (λ cs. coef_at cs t) y.coefs ∙ coef_at-times y.times m.coefs t

  -- at one slot
  clash_here : (t : Slot) → products_clash (coef_at r.coefs s) (coef_at q.coefs t) (coef_at q.coefs s) (coef_at r.coefs t) ≡ products_clash (coef_at m.coefs s) (coef_at l.coefs t) (coef_at l.coefs s) (coef_at m.coefs t)
  clash_here t =
      ap₂ (λ b c. products_clash b c (coef_at q.coefs s) (coef_at r.coefs t)) (coef_r s) (coef_q t)
      ∙ ap₂ (λ a d. products_clash (y.times *ℤ coef_at m.coefs s) (x.times *ℤ coef_at l.coefs t) a d) (coef_q s) (coef_r t)
      ∙ clash_times y.times x.times (coef_at m.coefs s) (coef_at l.coefs t) (coef_at l.coefs s) (coef_at m.coefs t) size

  -- at the slots of a multiple
  clash_slots : (j : ℤ) (cs : List (Slot × ℤ)) → slots_clash s q r (coefs_times j cs) ≡ slots_clash s l m cs
  clash_slots j [] = refl
  clash_slots j (c ∷ cs) = ap₂ (λ p o. (not (same_slot c.0 s) && p) || o) (clash_here c.0) (clash_slots j cs)

  -- at all of them and the constant
  clash_all : lines_clash s q r ≡ lines_clash s l m
  unfolding lines_clash
  clash_all =
      ap₂ (λ p o. p || o || products_clash (coef_at r.coefs s) q.constant (coef_at q.coefs s) r.constant)
      (ap (slots_clash s q r) x.coefs ∙ clash_slots x.times l.coefs) (ap (slots_clash s q r) y.coefs ∙ clash_slots y.times m.coefs)
      ∙ ap (λ z. slots_clash s l m l.coefs || slots_clash s l m m.coefs || z)
      (ap₂ (λ b c. products_clash b c (coef_at q.coefs s) r.constant) (coef_r s) x.constant
      ∙ ap₂ (λ a d. products_clash (y.times *ℤ coef_at m.coefs s) (x.times *ℤ l.constant) a d) (coef_q s) y.constant
      ∙ clash_times y.times x.times (coef_at m.coefs s) l.constant (coef_at l.coefs s) m.constant size)

-- normal rows clash where their lines do
pub lines_clash_alike : (s : Slot) (q r : LinearConstraint) (l m : Line) → BeginsNonzero q.coefs → BeginsNonzero r.coefs → IsNormalRow q → IsNormalRow r → In l (row_lines q) → In m (row_lines r) → lines_clash s q r ≡ lines_clash s l m
lines_clash_alike s q r l m h k n o i j =
    let x = line_of q l h i in
    let y = line_of r m k j in
    clash_all s q r l m x y (unsigned_abs-mul y.times x.times ∙ ap₂ (λ u v. u * v) (y.size o) (x.size n))
