-- The bounds of the columns of a heading, one column after another.
use Rattle.std.proofs.Common.{◌≡◌, ℕ, ◌+◌, ◌<◌, Bool, true, false, cond, ◌==◌, List, [], ◌∷◌, ◌++◌, length, arith, refl, sym, ap, ◌∙◌, subst, append_assoc, append-nil}
use Rattle.std.proofs.lemmas.Bool.Decides.{nat_tests}
use Rattle.ded_model.specs.declared.name.Column.{Column}
use Rattle.ded_model.specs.declared.slot.Sort.{Sort}
use Rattle.ded_model.specs.declared.slot.Sort.TheVariants.{Rat, Text}
use Rattle.ded_model.specs.declared.bound.Bound.{Bound}
use Rattle.ded_model.specs.Bound.{lower, upper}
use Rattle.ded_model.specs.Interval.{IsExactBound}
use Rattle.ded_model.specs.Point.{Point, same_sort}
use Rattle.ded_model.specs.Width.{rational_columns}
use Rattle.ded_box.specs.Intervals.{IsInterval}
use Rattle.ded_box.specs.Extents.{BoundsAt, AreBounds}

-- ---- columns

-- with the bounds of the columns from slot n on that are left, these are the bounds of all columns
pub record IsBounded (test : Point → Bool) (all : List Column) (n : ℕ) (left : List Column) (bs : List (Bound × Bound)) : Type 0 where
  pub with : (rest : List (Bound × Bound)) → AreBounds test n left rest → AreBounds test 0 all (bs ++ rest)

-- as many as there are rational columns
pub bounds_count : (test : Point → Bool) (n : ℕ) (cs : List Column) (bs : List (Bound × Bound)) → AreBounds test n cs bs → length bs ≡ rational_columns cs
bounds_count test n [] [] x = refl
bounds_count test n [] (b ∷ bs) x = absurd x
bounds_count test n (c ∷ cs) bs x = at c.sort bs (bounds_count test (n + 1) cs) x
  where
    at : (s : Sort) (bs : List (Bound × Bound)) → ((bs : List (Bound × Bound)) → AreBounds test (n + 1) cs bs → length bs ≡ rational_columns cs)
        → BoundsAt test n s bs (AreBounds test (n + 1) cs) → length bs ≡ cond (same_sort s Rat) 1 0 + rational_columns cs
    at Text bs others x = let e = others bs x in omega (arith, e)
    at Rat [] others x = absurd x
    at Rat (b ∷ bs) others x = let e = others bs x.3 in omega (arith, e)

-- none where there is no bound, and else some
pub none_bounded : (n m k : ℕ) → n ≡ m → k ≡ n → true ≡ (k == 0) → m ≡ 0
none_bounded n m k e l h = grind (arith, nat_tests)

pub some_bounded : (n m k : ℕ) → n ≡ m → k ≡ n → false ≡ (k == 0) → 0 < m
some_bounded n m k e l h = grind (arith, nat_tests)

-- what a column that is rational adds
abbrev pub IsSpanAt : (Point → Bool) → ℕ → Bound × Bound → Type 0
IsSpanAt test n b = IsInterval b × IsExactBound test (record { number = n; sort = Rat }) lower b.0 × IsExactBound test (record { number = n; sort = Rat }) upper b.1

module _ (test : Point → Bool) (all : List Column) where
  pub bounded_none : (bs : List (Bound × Bound)) → bs ≡ [] → IsBounded test all 0 all bs
  bounded_none bs e = record { with = λ rest x. subst (λ xs. AreBounds test 0 all (xs ++ rest)) (sym e) x }

  pub bounded_all : (bs : List (Bound × Bound)) (n : ℕ) (left : List Column) → left ≡ [] → IsBounded test all n left bs → AreBounds test 0 all bs
  bounded_all bs n left e h = subst (AreBounds test 0 all) (append-nil bs) (h.with [] (subst (λ cs. AreBounds test n cs []) (sym e) tt))

  next : (c : Column) (s : Sort) (cs : List Column) (n : ℕ) (bs : List (Bound × Bound)) → c.sort ≡ s → BoundsAt test n s bs (AreBounds test (n + 1) cs) → AreBounds test n (c ∷ cs) bs
  next c s cs n bs e x = subst (λ t. BoundsAt test n t bs (AreBounds test (n + 1) cs)) (sym e) x

  -- a text column
  pub bounded_text : (bs : List (Bound × Bound)) (n m : ℕ) (c : Column) (left cs : List Column) → left ≡ c ∷ cs → c.sort ≡ Text → m ≡ n + 1 → IsBounded test all n left bs → IsBounded test all m cs bs
  bounded_text bs n m c left cs l t e h = record {
    with = λ rest x.
        h.with rest (subst (λ xs. AreBounds test n xs rest) (sym l) (next c Text cs n rest t (subst (λ k. AreBounds test k cs rest) e x)));
  }

  -- a rational one
  pub bounded_more : (bs new : List (Bound × Bound)) (n m : ℕ) (c : Column) (left cs : List Column) (b : Bound × Bound) → left ≡ c ∷ cs → c.sort ≡ Rat → m ≡ n + 1 → new ≡ bs ++ b ∷ [] → IsSpanAt test n b → IsBounded test all n left bs → IsBounded test all m cs new
  bounded_more bs new n m c left cs b l t e w x h = record {
    with = λ rest y.
        subst (AreBounds test 0 all) (sym (ap (λ xs. xs ++ rest) w ∙ append_assoc bs (b ∷ []) rest))
        (h.with (b ∷ rest) (subst (λ xs. AreBounds test n xs (b ∷ rest)) (sym l) (next c Rat cs n (b ∷ rest) t (x.0, x.1, x.2, subst (λ k. AreBounds test k cs rest) e y))));
  }
