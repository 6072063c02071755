-- The order of two fractions is that of their whole parts, and where these are equal, that of their rests. Rests that are
-- not 0 stand to each other as their reciprocals do the other way round: the cross product is the same. Where one of them
-- is 0, they stand to each other as their fractions do. So Euclid's steps on both fractions at once decide the order.
use Rattle.std.proofs.Common.{◌≡◌, ◌≢◌, ℕ, true, false, true≢false, suc, zero, ◌+◌, ◌*◌, ◌/◌, ◌%◌, ◌<◌, ◌⊎◌, inl, inr, arith, ap, ap₂, refl, sym, ◌∙◌, Ordering, Less, Equal, Greater}
use Rattle.std.specs.Prelude.{ℤ, pos, negsuc, ◌+ℤ◌, ◌*ℤ◌, ◌<ℤ◌, unsigned_abs}
use Rattle.std.specs.Int.{int_div_euclid, int_rem_euclid}
use Rattle.std.specs.Ordering.{nat_cmp, int_cmp, ordering_then, is_ne, MatchOrdering}
use Rattle.std.specs.Cmp.{nat_cmp_is, int_cmp_is}
use Rattle.std.proofs.lemmas.Nat.{mul-le}
use Rattle.std.proofs.lemmas.Int.{ints}
use borrow.Author.Differences.{up, down}
use Rattle.ded_num.proofs.Ring.{diff, parts, ring_pos, diff_lt, diff_same}

-- a number is its whole quotient by a positive number, that many times, and the rest
pub whole_and_rest_is : (n d : ℤ) → pos 0 <ℤ d → n ≡ int_div_euclid n d *ℤ d +ℤ pos (unsigned_abs (int_rem_euclid n d))
whole_and_rest_is (pos a) (pos b) h = omega (arith, ints)
whole_and_rest_is (negsuc a) (pos b) h = omega (arith, ints)
whole_and_rest_is n (negsuc b) h = omega (arith, ints)

-- which of the three cases of the order of two naturals holds
nat_ranks : (x y : ℕ) → MatchOrdering (nat_cmp x y) (x < y) (x ≡ y) (y < x)
nat_ranks x y = grind arith

-- the order of differences is that of sums
int_cmp-diff : (a b c d : ℕ) → nat_cmp (a + d) (c + b) ≡ int_cmp (diff a b) (diff c d)
int_cmp-diff a b c d = by_rank (nat_cmp (a + d) (c + b)) (nat_ranks (a + d) (c + b))
  where
    by_rank : (o : Ordering) → MatchOrdering o (a + d < c + b) (a + d ≡ c + b) (c + b < a + d) → o ≡ int_cmp (diff a b) (diff c d)
    by_rank Less h = int_cmp_is _ _ Less (diff_lt a b c d h)
    by_rank Equal h = int_cmp_is _ _ Equal (diff_same a b c d h)
    by_rank Greater h = int_cmp_is _ _ Greater (diff_lt c d a b h)

-- the smaller whole part decides
less : (q1 d1 r1 q2 d2 r2 : ℕ) → r1 < d1 → 0 < d2 → q1 < q2 → (q1 * d1 + r1) * d2 < (q2 * d2 + r2) * d1
less q1 d1 r1 q2 d2 r2 proper positive h =
    omega (arith, mul-le (suc q1) (d1 * d2) q2 (d1 * d2) h (omega arith), mul-le (suc r1) d2 d1 d2 proper (omega arith))

-- whole parts first, then the rests
pub nat_cmp-parts : (q1 d1 r1 q2 d2 r2 : ℕ) → r1 < d1 → r2 < d2
    → ordering_then (nat_cmp q1 q2) (nat_cmp (r1 * d2) (r2 * d1)) ≡ nat_cmp ((q1 * d1 + r1) * d2) ((q2 * d2 + r2) * d1)
nat_cmp-parts q1 d1 r1 q2 d2 r2 proper1 proper2 = by_rank (nat_cmp q1 q2) (nat_ranks q1 q2)
  where
    of_rests : (o : Ordering) → MatchOrdering o (r1 * d2 < r2 * d1) (r1 * d2 ≡ r2 * d1) (r2 * d1 < r1 * d2) → q1 ≡ q2
        → MatchOrdering o ((q1 * d1 + r1) * d2 < (q2 * d2 + r2) * d1) ((q1 * d1 + r1) * d2 ≡ (q2 * d2 + r2) * d1) ((q2 * d2 + r2) * d1 < (q1 * d1 + r1) * d2)
    of_rests Less h e = rw e (omega (arith, h))
    of_rests Equal h e = rw e (omega (arith, h))
    of_rests Greater h e = rw e (omega (arith, h))

    by_rank : (o : Ordering) → MatchOrdering o (q1 < q2) (q1 ≡ q2) (q2 < q1)
        → ordering_then o (nat_cmp (r1 * d2) (r2 * d1)) ≡ nat_cmp ((q1 * d1 + r1) * d2) ((q2 * d2 + r2) * d1)
    by_rank Less h = nat_cmp_is _ _ Less (less q1 d1 r1 q2 d2 r2 proper1 (omega arith) h)
    by_rank Equal h = nat_cmp_is _ _ _ (of_rests (nat_cmp (r1 * d2) (r2 * d1)) (nat_ranks (r1 * d2) (r2 * d1)) h)
    by_rank Greater h = nat_cmp_is _ _ Greater (less q2 d2 r2 q1 d1 r1 proper2 (omega arith) h)

-- the cross product of one side, its whole part as a difference
cross-diff : (u v d r e : ℕ) → (diff u v *ℤ pos d +ℤ pos r) *ℤ pos e ≡ diff ((u * d + r) * e) (v * d * e)
cross-diff u v d r e = simp ring_pos (diff_same _ _ _ _ (omega arith))

-- the same where the whole parts may be negative
pub int_cmp-parts : (w1 w2 : ℤ) (d1 r1 d2 r2 : ℕ) → r1 < d1 → r2 < d2
    → ordering_then (int_cmp w1 w2) (nat_cmp (r1 * d2) (r2 * d1))
    ≡ int_cmp ((w1 *ℤ pos d1 +ℤ pos r1) *ℤ pos d2) ((w2 *ℤ pos d2 +ℤ pos r2) *ℤ pos d1)
int_cmp-parts w1 w2 d1 r1 d2 r2 proper1 proper2 = rw (parts w1, parts w2) (of_differences (up w1) (down w1) (up w2) (down w2))
  where
    of_differences : (u1 v1 u2 v2 : ℕ)
        → ordering_then (int_cmp (diff u1 v1) (diff u2 v2)) (nat_cmp (r1 * d2) (r2 * d1))
        ≡ int_cmp ((diff u1 v1 *ℤ pos d1 +ℤ pos r1) *ℤ pos d2) ((diff u2 v2 *ℤ pos d2 +ℤ pos r2) *ℤ pos d1)
    of_differences u1 v1 u2 v2 =
        let left : ((u1 + v2) * d1 + r1) * d2 ≡ (u1 * d1 + r1) * d2 + v2 * d2 * d1 = omega arith in
        let right : ((u2 + v1) * d2 + r2) * d1 ≡ (u2 * d2 + r2) * d1 + v1 * d1 * d2 = omega arith in
        ap (λ o. ordering_then o (nat_cmp (r1 * d2) (r2 * d1))) (sym (int_cmp-diff u1 v1 u2 v2))
        ∙ nat_cmp-parts (u1 + v2) d1 r1 (u2 + v1) d2 r2 proper1 proper2
        ∙ ap₂ nat_cmp left right
        ∙ int_cmp-diff ((u1 * d1 + r1) * d2) (v1 * d1 * d2) ((u2 * d2 + r2) * d1) (v2 * d2 * d1)
        ∙ ap₂ int_cmp (sym (cross-diff u1 v1 d1 r1 d2)) (sym (cross-diff u2 v2 d2 r2 d1))

-- where one of two rests is 0, they stand to each other as their fractions do
pub nat_cmp-at_zero : (d1 r1 d2 r2 : ℕ) → 0 < d1 → 0 < d2 → (r1 ≡ 0) ⊎ (r2 ≡ 0) → nat_cmp r1 r2 ≡ nat_cmp (r1 * d2) (r2 * d1)
nat_cmp-at_zero d1 zero d2 zero positive1 positive2 h = nat_cmp_is (0 * d2) (0 * d1) Equal (omega arith)
nat_cmp-at_zero d1 zero d2 (suc r2) positive1 positive2 h =
    sym (nat_cmp_is 0 (suc r2) Less (omega arith)) ∙ nat_cmp_is (0 * d2) (suc r2 * d1) Less (omega (arith, mul-le 1 1 (suc r2) d1 (omega arith) positive1))
nat_cmp-at_zero d1 (suc r1) d2 zero positive1 positive2 h =
    sym (nat_cmp_is (suc r1) 0 Greater (omega arith)) ∙ nat_cmp_is (suc r1 * d2) (0 * d1) Greater (omega (arith, mul-le 1 1 (suc r1) d2 (omega arith) positive2))
nat_cmp-at_zero d1 (suc r1) d2 (suc r2) positive1 positive2 (inl e) = absurd (omega (arith, e))
nat_cmp-at_zero d1 (suc r1) d2 (suc r2) positive1 positive2 (inr e) = absurd (omega (arith, e))

-- the order of two fractions that are not negative, by quotients and remainders
pub nat_cmp-divided : (n1 d1 n2 d2 : ℕ) → 0 < d1 → 0 < d2
    → ordering_then (nat_cmp (n1 / d1) (n2 / d2)) (nat_cmp (n1 % d1 * d2) (n2 % d2 * d1)) ≡ nat_cmp (n1 * d2) (n2 * d1)
nat_cmp-divided n1 d1 n2 d2 positive1 positive2 =
    let left : n1 / d1 * d1 + n1 % d1 ≡ n1 = omega arith in
    let right : n2 / d2 * d2 + n2 % d2 ≡ n2 = omega arith in
    nat_cmp-parts (n1 / d1) d1 (n1 % d1) (n2 / d2) d2 (n2 % d2) (omega arith) (omega arith) ∙ ap₂ (λ m n. nat_cmp (m * d2) (n * d1)) left right

-- the order of any two fractions, by whole parts and rests
pub int_cmp-divided : (n1 d1 n2 d2 w1 w2 : ℤ) (r1 r2 : ℕ) → n1 ≡ w1 *ℤ d1 +ℤ pos r1 → pos r1 <ℤ d1 → n2 ≡ w2 *ℤ d2 +ℤ pos r2 → pos r2 <ℤ d2
    → ordering_then (int_cmp w1 w2) (nat_cmp (r1 * unsigned_abs d2) (r2 * unsigned_abs d1)) ≡ int_cmp (n1 *ℤ d2) (n2 *ℤ d1)
int_cmp-divided n1 (pos d1) n2 (pos d2) w1 w2 r1 r2 e1 h1 e2 h2 = rw (e1, e2) (int_cmp-parts w1 w2 d1 r1 d2 r2 (omega (arith, ints)) (omega (arith, ints)))
int_cmp-divided n1 (negsuc d1) n2 d2 w1 w2 r1 r2 e1 h1 e2 h2 = absurd (omega (arith, ints))
int_cmp-divided n1 (pos d1) n2 (negsuc d2) w1 w2 r1 r2 e1 h1 e2 h2 = absurd (omega (arith, ints))

-- an order that decides stands
pub then-decided : (o rest : Ordering) → o ≢ Equal → o ≡ ordering_then o rest
then-decided Less rest h = refl
then-decided Equal rest h = absurd (h refl)
then-decided Greater rest h = refl

-- an order that does not decide gives way
pub then-equal : (o rest : Ordering) → false ≡ is_ne o → rest ≡ ordering_then o rest
then-equal Less rest h = absurd (true≢false (sym h))
then-equal Equal rest h = refl
then-equal Greater rest h = absurd (true≢false (sym h))

-- fractions that are not negative: an order of the whole parts that decides is theirs
pub nat_cmp-by_whole : (n1 d1 n2 d2 : ℕ) (o : Ordering) → 0 < d1 → 0 < d2 → o ≡ nat_cmp (n1 / d1) (n2 / d2) → true ≡ is_ne o → o ≡ nat_cmp (n1 * d2) (n2 * d1)
nat_cmp-by_whole n1 d1 n2 d2 o positive1 positive2 of_whole decides =
    then-decided o _ (λ e. true≢false (decides ∙ ap is_ne e)) ∙ ap (λ w. ordering_then w (nat_cmp (n1 % d1 * d2) (n2 % d2 * d1))) of_whole ∙ nat_cmp-divided n1 d1 n2 d2 positive1 positive2

-- and where it does not decide, that of the rests is theirs
pub nat_cmp-by_rests : (n1 d1 n2 d2 : ℕ) (o : Ordering) → 0 < d1 → 0 < d2 → o ≡ nat_cmp (n1 / d1) (n2 / d2) → false ≡ is_ne o
    → nat_cmp (n1 % d1 * d2) (n2 % d2 * d1) ≡ nat_cmp (n1 * d2) (n2 * d1)
nat_cmp-by_rests n1 d1 n2 d2 o positive1 positive2 of_whole gives_way =
    then-equal o _ gives_way ∙ ap (λ w. ordering_then w (nat_cmp (n1 % d1 * d2) (n2 % d2 * d1))) of_whole ∙ nat_cmp-divided n1 d1 n2 d2 positive1 positive2
