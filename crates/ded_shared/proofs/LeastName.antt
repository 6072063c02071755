-- The least name that stands in both lists, as a loop over one of them finds it.
use Rattle.std.proofs.Common.{◌≡◌, ◌≢◌, ◌⊎◌, Bool, true, false, ◌&&◌, ◌||◌, ℕ, ◌+◌, ◌<◌, length, take, get_or, List, [], ◌∷◌, ◌++◌, refl, inl, inr, sym, ap, ◌∙◌, subst, true≢false, ⊎_elim}
use Rattle.std.specs.Prelude.{Option, Some, None, if◌then◌else◌}
use Rattle.std.specs.Str.{bytes_eq}
use Rattle.std.specs.declared.cmp.Ordering.{Ordering}
use Rattle.std.specs.declared.cmp.Ordering.TheVariants.{Less, Equal, Greater}
use Rattle.std.specs.Ordering.{nat_cmp, is_lt, ordering_reverse}
use Rattle.std.specs.Cmp.Lexicographic.{slice_cmp}
use Rattle.std.proofs.lemmas.Cmp.{nat_list_cmp_total}
use Rattle.std.proofs.lemmas.List.{take_more}
use Rattle.std.proofs.lemmas.List.Folds.{list_any-append}
use Rattle.std.proofs.lemmas.Slice.Eq.{bytes_eq-Decides}
use Rattle.ded_weighing.proofs.Shown.{fails}
use Rattle.ded_shared.specs.State.{is_among}
use Rattle.ded_shared.specs.Conflicts.{in_both, NoneInBoth, IsLeastInBoth, is_below}

-- the least one so far, where there is one
abbrev pub LeastOf : List (List ℕ) → List (List ℕ) → Option (List ℕ) → Type 0
LeastOf touched stale None = NoneInBoth touched stale
LeastOf touched stale (Some n) = IsLeastInBoth touched stale n

-- ---- the order

abbrev Before : List ℕ → List ℕ → Type 0
Before m n = slice_cmp nat_cmp m n ≡ Less

reversed : (o : Ordering) → o ≡ ordering_reverse o → o ≢ Less
reversed Less e f = absurd cc
reversed Equal e f = absurd cc
reversed Greater e f = absurd cc

not_itself : (n : List ℕ) → slice_cmp nat_cmp n n ≢ Less
not_itself n = reversed (slice_cmp nat_cmp n n) (nat_list_cmp_total.antisymm n n)

is_less : (o : Ordering) → is_lt o ≡ true → o ≡ Less
is_less Less e = refl
is_less Equal e = absurd (true≢false (sym e))
is_less Greater e = absurd (true≢false (sym e))

not_less : (o : Ordering) → is_lt o ≡ false → o ≢ Less
not_less o e f = true≢false (sym (ap is_lt f) ∙ e)

-- ---- one more name

in_split : (a b s : Bool) → ((a || (b || false)) && s) ≡ true → ((a && s) ≡ true) ⊎ ((b ≡ true) × (s ≡ true))
in_split true b true e = inl refl
in_split true b false e = inl e
in_split false true true e = inr (refl, refl)
in_split false true false e = absurd (true≢false (sym e))
in_split false false s e = absurd (true≢false (sym e))

in_here : (a b s : Bool) → b ≡ true → s ≡ true → ((a || (b || false)) && s) ≡ true
in_here true b s e f = f
in_here false true s e f = f
in_here false false s e f = absurd (true≢false (sym e))

in_there : (a b s : Bool) → (a && s) ≡ true → ((a || (b || false)) && s) ≡ true
in_there true b s e = e
in_there false b s e = absurd (true≢false (sym e))

right_false : (a b : Bool) → b ≡ false → (a && b) ≡ true → ⊥
right_false true b e f = true≢false (sym f ∙ e)
right_false false b e f = true≢false (sym f)

module _ (touched stale : List (List ℕ)) (n : List ℕ) where
  abbrev more : List (List ℕ)
  more = touched ++ n ∷ []

  among_more : (m : List ℕ) → is_among more m ≡ (is_among touched m || (bytes_eq m n || false))
  among_more m = list_any-append (bytes_eq m) touched (n ∷ [])

  in_more : (m : List ℕ) → in_both more stale m ≡ true → (in_both touched stale m ≡ true) ⊎ ((m ≡ n) × (is_among stale m ≡ true))
  in_more m e = ⊎_elim
      (λ (h : in_both touched stale m ≡ true). inl h)
      (λ (h : (bytes_eq m n ≡ true) × (is_among stale m ≡ true)). inr ((bytes_eq-Decides m n).0 h.0, h.1))
      (in_split (is_among touched m) (bytes_eq m n) (is_among stale m) (ap (λ (b : Bool). b && is_among stale m) (sym (among_more m)) ∙ e))

  still_in : (m : List ℕ) → in_both touched stale m ≡ true → in_both more stale m ≡ true
  still_in m e = ap (λ (b : Bool). b && is_among stale m) (among_more m) ∙ in_there (is_among touched m) (bytes_eq m n) (is_among stale m) e

  it_is_in : is_among stale n ≡ true → in_both more stale n ≡ true
  it_is_in s = ap (λ (b : Bool). b && is_among stale n) (among_more n) ∙ in_here (is_among touched n) (bytes_eq n n) (is_among stale n) ((bytes_eq-Decides n n).1 refl) s

  none_smaller : (o : Option (List ℕ)) → LeastOf touched stale o → is_below n o ≡ true → (m : List ℕ) → in_both touched stale m ≡ true → slice_cmp nat_cmp m n ≢ Less
  none_smaller None none below m e f = true≢false (sym e ∙ none m)
  none_smaller (Some k) least below m e f =
      least.least m e (nat_list_cmp_total.trans m n k f (is_less (slice_cmp nat_cmp n k) below))

  -- it is the least one now
  pub least_taken : (o : Option (List ℕ)) → LeastOf touched stale o → is_among stale n ≡ true → is_below n o ≡ true → LeastOf more stale (Some n)
  least_taken o least s below = record {
    both = it_is_in s;
    least = λ m e. ⊎_elim
        (λ (h : in_both touched stale m ≡ true). none_smaller o least below m h)
        (λ (h : (m ≡ n) × (is_among stale m ≡ true)). subst (λ (x : List ℕ). slice_cmp nat_cmp x n ≢ Less) (sym h.0) (not_itself n))
        (in_more m e);
  }

  -- the name isn't in the other list
  pub least_passed : (o : Option (List ℕ)) → LeastOf touched stale o → is_among stale n ≡ false → LeastOf more stale o
  least_passed None none s = λ m. fails (in_both more stale m) (λ e. ⊎_elim
      (λ (h : in_both touched stale m ≡ true). true≢false (sym h ∙ none m))
      (λ (h : (m ≡ n) × (is_among stale m ≡ true)). true≢false (sym h.1 ∙ ap (is_among stale) h.0 ∙ s))
      (in_more m e))
  least_passed (Some k) least s = record {
    both = still_in k least.both;
    least = λ m e. ⊎_elim
        (λ (h : in_both touched stale m ≡ true). least.least m h)
        (λ (h : (m ≡ n) × (is_among stale m ≡ true)). absurd (true≢false (sym h.1 ∙ ap (is_among stale) h.0 ∙ s)))
        (in_more m e);
  }

  -- the name isn't below the least one
  pub least_kept : (o : Option (List ℕ)) → LeastOf touched stale o → is_below n o ≡ false → LeastOf more stale o
  least_kept None none below = absurd (true≢false below)
  least_kept (Some k) least below = record {
    both = still_in k least.both;
    least = λ m e. ⊎_elim
        (λ (h : in_both touched stale m ≡ true). least.least m h)
        (λ (h : (m ≡ n) × (is_among stale m ≡ true)). subst (λ (x : List ℕ). slice_cmp nat_cmp x k ≢ Less) (sym h.0) (not_less (slice_cmp nat_cmp n k) below))
        (in_more m e);
  }

pub least_none : (stale : List (List ℕ)) → LeastOf [] stale None
least_none stale = λ n. refl

module _ (touched stale : List (List ℕ)) (n : List ℕ) (o : Option (List ℕ)) (least : LeastOf touched stale o) where
  step_by : (a b : Bool) → is_among stale n ≡ a → is_below n o ≡ b → LeastOf (touched ++ n ∷ []) stale (if a && b then Some n else o)
  step_by true true e f = least_taken touched stale n o least e f
  step_by true false e f = least_kept touched stale n o least f
  step_by false b e f = least_passed touched stale n o least e

  pub least_step : LeastOf (touched ++ n ∷ []) stale (if is_among stale n && is_below n o then Some n else o)
  least_step = step_by (is_among stale n) (is_below n o) refl refl

-- a step of the loop
pub least_next : (touched stale : List (List ℕ)) (i : ℕ) (n : List ℕ) (o r : Option (List ℕ)) → i < length touched → n ≡ get_or touched i n → LeastOf (take i touched) stale o → r ≡ (if is_among stale n && is_below n o then Some n else o) → LeastOf (take (i + 1) touched) stale r
least_next touched stale i n o r lt is least e =
    let more : take (i + 1) touched ≡ take i touched ++ n ∷ [] = take_more touched i n lt ∙ ap (λ (m : List ℕ). take i touched ++ m ∷ []) (sym is) in
    subst (λ (x : Option (List ℕ)). LeastOf (take (i + 1) touched) stale x) (sym e)
    (subst (λ (l : List (List ℕ)). LeastOf l stale (if is_among stale n && is_below n o then Some n else o)) (sym more)
    (least_step (take i touched) stale n o least))
