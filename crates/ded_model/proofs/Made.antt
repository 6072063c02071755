-- Made names are read as what they are made of, and a name without a parenthesis is not made.
use Rattle.std.proofs.Common.{◌≡◌, ◌≢◌, ℕ, ◌==◌, inl, inr, Bool, true, false, cond, List, [], ◌∷◌, ◌++◌, arith, refl, sym, ap, ◌∙◌, subst, true≢false, Option, Some, None, MatchOption, Bor}
use Rattle.std.specs.Prelude.{codes, option_map}
use Rattle.std.specs.List.{list_any}
use Rattle.std.proofs.lemmas.Bool.Decides.{nat_tests}
use Rattle.ded_model.specs.Made.{closure_name, interior_name, behind, before_last, before_last_of, between, Reading, itself, closure_of, interior_of, reading_by, reading, base_by, base, is_made, is_made_by}
use Rattle.ded_model.proofs.Rows.{or_left, or_right}
use Rattle.ded_model.proofs.Members.{or_split}

none≢some : (m : List ℕ) → ◌≡◌ {A = Option (List ℕ)} None (Some m) → false ≡ true
none≢some m e = ap is_some e
  where
    is_some : Option (List ℕ) → Bool
    is_some None = false
    is_some (Some x) = true

pub same_number : (b c : ℕ) → (b == c) ≡ true → b ≡ c
same_number b c e = grind (arith, nat_tests)

pub number_same : (b : ℕ) → (b == b) ≡ true
number_same b = grind (arith, nat_tests)

some_is : (m n : List ℕ) → ◌≡◌ {A = Option (List ℕ)} (Some m) (Some n) → m ≡ n
some_is m n e = ap (λ o. get o) e
  where
    get : Option (List ℕ) → List ℕ
    get None = []
    get (Some x) = x

-- a name before a last `)`
pub before_last-append : (n : List ℕ) → before_last (n ++ 41 ∷ []) ≡ Some n
before_last-append [] = refl
before_last-append (b ∷ []) = refl
before_last-append (b ∷ c ∷ n) = ap (option_map (λ m. b ∷ m)) (before_last-append (c ∷ n))

-- and back: what is before a last `)`, with it
before_sound : (n m : List ℕ) → before_last n ≡ Some m → n ≡ m ++ 41 ∷ []
before_sound [] m e = absurd (true≢false (sym (none≢some m e)))
before_sound (b ∷ []) m e = by (b == 41) refl e
  where
    by : (t : Bool) → (b == 41) ≡ t → cond t (Some []) None ≡ Some m → b ∷ [] ≡ m ++ 41 ∷ []
    by true t k = ap (λ x. x ∷ []) (same_number b 41 t) ∙ ap (λ x. x ++ 41 ∷ []) (some_is [] m k)
    by false t k = absurd (true≢false (sym (none≢some m k)))
before_sound (b ∷ c ∷ n) m e = by (before_last (c ∷ n)) (λ x k. before_sound (c ∷ n) x k) refl e
  where
    by : (o : Option (List ℕ)) → ((x : List ℕ) → o ≡ Some x → c ∷ n ≡ x ++ 41 ∷ []) → before_last (c ∷ n) ≡ o → option_map (λ x. b ∷ x) o ≡ Some m → b ∷ c ∷ n ≡ m ++ 41 ∷ []
    by None more k f = absurd (true≢false (sym (none≢some m f)))
    by (Some x) more k f = ap (λ l. b ∷ l) (more x refl) ∙ ap (λ l. l ++ 41 ∷ []) (some_is (b ∷ x) m f)

pub before_none : (n : List ℕ) → ((front : List ℕ) → n ≢ front ++ 41 ∷ []) → before_last n ≡ None
before_none n h = by (before_last n) refl
  where
    by : (o : Option (List ℕ)) → before_last n ≡ o → before_last n ≡ None
    by None k = k
    by (Some m) k = absurd (h m (before_sound n m k))

-- what is behind a front, with it, and back
pub behind-append : (fs n : List ℕ) → behind fs (fs ++ n) ≡ Some n
behind-append [] n = refl
behind-append (f ∷ fs) n = ap (λ t. cond t (behind fs (fs ++ n)) None) (number_same f) ∙ behind-append fs n

behind_sound : (fs n m : List ℕ) → behind fs n ≡ Some m → n ≡ fs ++ m
behind_sound [] n m e = some_is n m e
behind_sound (f ∷ fs) [] m e = absurd (true≢false (sym (none≢some m e)))
behind_sound (f ∷ fs) (c ∷ n) m e = by (f == c) refl (λ k. behind_sound fs n m k) e
  where
    by : (t : Bool) → (f == c) ≡ t → (behind fs n ≡ Some m → n ≡ fs ++ m) → cond t (behind fs n) None ≡ Some m → c ∷ n ≡ (f ∷ fs) ++ m
    by true t more k = ap (λ x. x ∷ n) (sym (same_number f c t)) ∙ ap (λ l. f ∷ l) (more k)
    by false t more k = absurd (true≢false (sym (none≢some m k)))

pub behind_none : (fs n : List ℕ) → ((rest : List ℕ) → n ≢ fs ++ rest) → behind fs n ≡ None
behind_none fs n h = by (behind fs n) refl
  where
    by : (o : Option (List ℕ)) → behind fs n ≡ o → behind fs n ≡ None
    by None k = k
    by (Some m) k = absurd (h m (behind_sound fs n m k))

-- what is between a front and a last `)`
pub between_none : (fs n : List ℕ) → behind fs n ≡ None → between fs n ≡ None
between_none fs n e = ap before_last_of e

pub between_some : (fs n m : List ℕ) (o : Option (List ℕ)) → n ≡ fs ++ m → before_last m ≡ o → between fs n ≡ o
between_some fs n m o e f = ap before_last_of (ap (behind fs) e ∙ behind-append fs m) ∙ f

pub between_by : (fs n m : List ℕ) (r : Option (Bor (List ℕ))) → n ≡ fs ++ m → MatchOption r ((front : List ℕ) → m ≢ front ++ 41 ∷ []) (λ x. m ≡ x.now ++ 41 ∷ [])
    → MatchOption r (between fs n ≡ None) (λ x. between fs n ≡ Some x.now)
between_by fs n m None e h = between_some fs n m None e (before_none m h)
between_by fs n m (Some x) e h = between_some fs n m (Some x.now) e (ap before_last h ∙ before_last-append x.now)

-- the name of a closure is read as one
pub reading-closure : (n : List ℕ) → reading (closure_name n) ≡ closure_of n
unfolding reading
reading-closure n = ap (λ o. reading_by o (between (codes "interior(") (closure_name n))) (before_last-append n)

-- and that of an interior
pub reading-interior : (n : List ℕ) → reading (interior_name n) ≡ interior_of n
unfolding reading
reading-interior n = ap (reading_by None) (before_last-append n)

-- what a name is made of
pub base_of_closure : (n m : List ℕ) → between (codes "closure(") n ≡ Some m → m ≡ base n
unfolding reading
base_of_closure n m e = sym (ap (λ o. base_by n (reading_by o (between (codes "interior(") n))) e)

pub base_of_interior : (n m : List ℕ) → between (codes "closure(") n ≡ None → between (codes "interior(") n ≡ Some m → m ≡ base n
unfolding reading
base_of_interior n m e f = sym (ap (λ o. base_by n (reading_by o (between (codes "interior(") n))) e ∙ ap (λ o. base_by n (reading_by None o)) f)

pub base_of_none : (n : List ℕ) → between (codes "closure(") n ≡ None → between (codes "interior(") n ≡ None → n ≡ base n
unfolding reading
base_of_none n e f = sym (ap (λ o. base_by n (reading_by o (between (codes "interior(") n))) e ∙ ap (λ o. base_by n (reading_by None o)) f)

-- what begins with a front has its bytes
abbrev opens : List ℕ → Bool
opens n = list_any (λ b. b == 40) n

front_opens : (fs n m : List ℕ) → behind fs n ≡ Some m → opens fs ≡ true → opens n ≡ true
front_opens [] n m e h = absurd (true≢false (sym h))
front_opens (f ∷ fs) [] m e h = absurd (true≢false (sym (none≢some m e)))
front_opens (f ∷ fs) (c ∷ n) m e h = by (f == c) refl e (λ k i. front_opens fs n m k i)
  where
    by : (b : Bool) → (f == c) ≡ b → cond b (behind fs n) None ≡ Some m → (behind fs n ≡ Some m → opens fs ≡ true → opens n ≡ true) → opens (c ∷ n) ≡ true
    by true t k more = elim (or_split (f == 40) (opens fs) h) [
      | inl a ↦ or_left (c == 40) (opens n) (subst (λ x. (x == 40) ≡ true) (same_number f c t) a)
      | inr a ↦ or_right (c == 40) (opens n) (more k a)
    ]
    by false t k more = absurd (true≢false (sym (none≢some m k)))

not_behind : (fs n : List ℕ) → opens fs ≡ true → opens n ≡ false → behind fs n ≡ None
not_behind fs n h e = by (behind fs n) refl
  where
    by : (o : Option (List ℕ)) → behind fs n ≡ o → behind fs n ≡ None
    by None k = k
    by (Some m) k = absurd (true≢false (sym (front_opens fs n m k h) ∙ e))

-- a name that isn't made is that which it is made of
base_when : (n : List ℕ) (r : Reading) → is_made_by r ≡ false → base_by n r ≡ n
base_when n itself e = refl
base_when n (closure_of m) e = absurd (true≢false e)
base_when n (interior_of m) e = absurd (true≢false e)

pub plain_base : (n : List ℕ) → is_made n ≡ false → base n ≡ n
plain_base n e = base_when n (reading n) e

-- a name without `(` is not made
pub plain_name : (n : List ℕ) → list_any (λ b. b == 40) n ≡ false → is_made n ≡ false
unfolding reading
plain_name n e =
    ap (λ o. is_made_by (reading_by (before_last_of o) (between (codes "interior(") n))) (not_behind (codes "closure(") n refl e)
    ∙ ap (λ o. is_made_by (reading_by None (before_last_of o))) (not_behind (codes "interior(") n refl e)
