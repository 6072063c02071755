-- Numbers of tuples behind the codes of their texts: what is put into a set and taken out, and what is found.
use Rattle.std.proofs.Common.{◌≡◌, ℕ, zero, suc, ◌+◌, ◌^◌, ◌<◌, ◌≤◌, ◌==◌, ◌%◌, Bool, true, false, cond, ◌||◌, Option, Some, None, List, [], ◌∷◌, ◌++◌, length, map, drop, get_or, inl, inr, ◌⊎◌, refl, sym, ap, ◌∙◌, subst, true≢false, arith, append-nil, add-one}
use Rattle.std.specs.BTreeMap.{is_at}
use Rattle.std.specs.BTreeMap.Range.{range_contains, IsLeBy}
use Rattle.std.specs.BTreeSet.{BTreeSet, contains, keys_between}
use Rattle.std.specs.List.{Contains, list_any, filter}
use Rattle.std.specs.List.Sorted.{IsPermutation, IsSorted, IsStrictlyIncreasing}
use Rattle.std.specs.Ordering.{nat_cmp, is_gt}
use Rattle.std.specs.declared.cmp.Ordering.{Ordering}
use Rattle.std.specs.declared.cmp.Ordering.TheVariants.{Less, Equal, Greater}
use Rattle.std.specs.declared.ops.Bound.TheVariants.{Included}
use Rattle.std.proofs.Math.Seq.{drop-cons}
use Rattle.std.proofs.lemmas.Bool.Decides.{nat_tests}
use Rattle.std.proofs.lemmas.Cmp.{nat_cmp_total}
use Rattle.std.proofs.lemmas.Map.Views.{range_contains-from_IsInRange}
use Rattle.std.proofs.lemmas.List.Sorted.{Contains-permutation}
use Rattle.std.proofs.lemmas.List.Kept.{Contains-dedup_nat}
use Rattle.std.proofs.lemmas.Map.Keys.{IsStrictlyIncreasing-dedup}
use Rattle.std.specs.List.{dedup}
use lib.Dec.{eqb, ltb}
use Rattle.ded_num.proofs.Tests.{from_same_texts}
use Rattle.ded_model.specs.declared.name.Column.{Column}
use Rattle.ded_model.specs.declared.slot.Sort.TheVariants.{Text}
use Rattle.ded_model.specs.declared.tuple.ThemeAtom.{ThemeAtom}
use Rattle.ded_model.specs.declared.tuple.ThemeAtom.TheVariants.{EqText, NeText, EqSlot, NeSlot}
use Rattle.ded_model.specs.declared.tuple.BothAtom.TheVariants.{First, Second}
use Rattle.ded_model.specs.Point.{Point, slot, text_at}
use Rattle.ded_model.specs.Row.{Atom, atom_holds, theme_holds, tuple_holds}
use Rattle.ded_model.proofs.Points.{same_slot_is, and_right, and_left}
use Rattle.ded_ranges.specs.Tuples.{is_text_column}
use Rattle.ded_ranges.specs.Windows.{column_text, is_text_met}
use Rattle.ded_hull.proofs.Found.{Has, has_from}
use Rattle.ded_relation.specs.declared.hashing.NameHashing.{NameHashing}
use Rattle.ded_relation.specs.Texts.{is_text, is_text_at, theme_text, atom_text, first_of, text_in, code, key, IsThere, Grows, Keeps, IsGone, HasAll, AreWith}
use Rattle.ded_relation.proofs.Numbers.{key_test}

-- ---- columns

pub text_at_is : (cs : List Column) (i : ℕ) (c : Column) → i < length cs → is_text_at cs i ≡ is_text (get_or cs i c).sort
text_at_is [] i c h = absurd (omega (arith, h))
text_at_is (d ∷ cs) zero c h = refl
text_at_is (d ∷ cs) (suc i) c h = text_at_is cs i c (omega (arith, h))

pub text_at_not : (cs : List Column) (i : ℕ) → length cs ≤ i → is_text_at cs i ≡ false
text_at_not [] i h = refl
text_at_not (d ∷ cs) zero h = absurd (omega (arith, h))
text_at_not (d ∷ cs) (suc i) h = text_at_not cs i (omega (arith, h))

pub not_less : (a b : ℕ) → b ≤ a → ltb a b ≡ false
not_less a b h = grind (arith, nat_tests)

inside : (cs : List Column) (i : ℕ) → is_text_at cs i ≡ true → i < length cs
inside [] i h = absurd (true≢false (sym h))
inside (d ∷ cs) zero h = omega arith
inside (d ∷ cs) (suc i) h = omega (arith, inside cs i h)

-- ---- keys

number_back : (c k : ℕ) → k < 2 ^ 32 → key c k % 2 ^ 32 ≡ k
number_back c k h = omega (arith, h)

-- ---- loops over columns

module _ (hs : NameHashing) (cs : List Column) (t : ℕ × List Atom) where
  abbrev own : ℕ → ℕ
  own j = key (code hs j (text_in j t.1)) t.0

  -- after the first i columns
  pub record PutUp (old s : BTreeSet ℕ) (i : ℕ) : Type 0 where
    pub grows : Grows old s
    pub there : (j : ℕ) → j < i → is_text_at cs j ≡ true → contains nat_cmp s (own j) ≡ true

  pub put_none : (s : BTreeSet ℕ) → PutUp s s 0
  put_none s = record { grows = λ q h. h; there = λ j h. absurd (omega (arith, h)) }

  pub put_more : (old s r : BTreeSet ℕ) (i : ℕ) (c : Column) → i < length cs → PutUp old s i → Grows s r → (is_text (get_or cs i c).sort ≡ true → contains nat_cmp r (own i) ≡ true) → PutUp old r (i + 1)
  put_more old s r i c h p g new = record {
    grows = λ q is. g q (p.grows q is);
    there = λ j lt is. by j is (last j i lt);
  }
    where
      last : (j i : ℕ) → j < i + 1 → j < i ⊎ (j ≡ i)
      last j i h = grind arith

      by : (j : ℕ) → is_text_at cs j ≡ true → j < i ⊎ (j ≡ i) → contains nat_cmp r (own j) ≡ true
      by j is (inl lt) = g (own j) (p.there j lt is)
      by j is (inr e) = subst (λ k. contains nat_cmp r (own k) ≡ true) (sym e) (new (sym (text_at_is cs i c h) ∙ subst (λ k. is_text_at cs k ≡ true) e is))

  pub put_all : (old s : BTreeSet ℕ) (i : ℕ) → length cs ≤ i → t.0 < 2 ^ 32 → PutUp old s i → IsThere hs cs s t
  put_all old s i h fits p = record { fits = fits; keys = λ j is. p.there j (omega (arith, h, inside cs j is)) is }

  pub record TakenUp (old s : BTreeSet ℕ) (i : ℕ) : Type 0 where
    pub keeps : Keeps t.0 old s
    pub gone : (j : ℕ) → j < i → is_text_at cs j ≡ true → contains nat_cmp s (own j) ≡ false

  pub take_none : (s : BTreeSet ℕ) → TakenUp s s 0
  take_none s = record { keeps = λ c k h e is. is; gone = λ j h. absurd (omega (arith, h)) }

  pub take_more : (old s r : BTreeSet ℕ) (i : ℕ) (c : Column) → i < length cs → TakenUp old s i → Grows r s → Keeps t.0 s r → (is_text (get_or cs i c).sort ≡ true → contains nat_cmp r (own i) ≡ false) → TakenUp old r (i + 1)
  take_more old s r i c h p g keeps new = record {
    keeps = λ d k fits e is. keeps d k fits e (p.keeps d k fits e is);
    gone = λ j lt is. by j is (last j i lt);
  }
    where
      last : (j i : ℕ) → j < i + 1 → j < i ⊎ (j ≡ i)
      last j i h = grind arith

      still : (a b : Bool) → (a ≡ true → b ≡ true) → b ≡ false → a ≡ false
      still true b f e = absurd (true≢false (sym (f refl) ∙ e))
      still false b f e = refl

      by : (j : ℕ) → is_text_at cs j ≡ true → j < i ⊎ (j ≡ i) → contains nat_cmp r (own j) ≡ false
      by j is (inl lt) = still (contains nat_cmp r (own j)) (contains nat_cmp s (own j)) (g (own j)) (p.gone j lt is)
      by j is (inr e) = subst (λ k. contains nat_cmp r (own k) ≡ false) (sym e) (new (sym (text_at_is cs i c h) ∙ subst (λ k. is_text_at cs k ≡ true) e is))

  pub take_all : (old s : BTreeSet ℕ) (i : ℕ) → length cs ≤ i → TakenUp old s i → IsGone hs cs s t
  take_all old s i h p = λ j is. p.gone j (omega (arith, h, inside cs j is)) is

-- ---- runs of keys

-- the numbers of keys
abbrev pub numbers : List ℕ → List ℕ
numbers qs = map (λ q. q % 2 ^ 32) qs

-- the keys behind a code
abbrev pub run : ℕ → BTreeSet ℕ → List ℕ
run c s = keys_between nat_cmp (Included (key c 0)) (Included (key c 4294967295)) s

le_by : (a b : ℕ) → a ≤ b → IsLeBy nat_cmp a b
le_by a b h = by (nat_cmp a b) refl
  where
    wrong : (a b : ℕ) → a ≤ b → nat_cmp a b ≡ Greater → ⊥
    wrong a b h e = grind (arith, nat_tests)

    by : (o : Ordering) → nat_cmp a b ≡ o → is_gt o ≡ false
    by Less e = refl
    by Equal e = refl
    by Greater e = absurd (wrong a b h e)

in_run : (c k : ℕ) → k < 2 ^ 32 → range_contains nat_cmp (Included (key c 0)) (Included (key c 4294967295)) (key c k) ≡ true
in_run c k h = range_contains-from_IsInRange nat_cmp_total (Included (key c 0)) (Included (key c 4294967295)) (key c k) (le_by (key c 0) (key c k) (omega arith), le_by (key c k) (key c 4294967295) (omega (arith, h)))

has_number : (c k : ℕ) (qs : List ℕ) → k < 2 ^ 32 → list_any (is_at (nat_cmp (key c k))) qs ≡ true → Has (numbers (filter (range_contains nat_cmp (Included (key c 0)) (Included (key c 4294967295))) qs)) k
has_number c k [] h is = absurd (true≢false (sym is))
has_number c k (q ∷ qs) h is = by (is_at (nat_cmp (key c k)) q) refl is (λ g. has_number c k qs h g)
  where
    same : (x y : ℕ) → (x == y) ≡ true → x ≡ y
    same x y e = grind (arith, nat_tests)

    later : (b : Bool) (xs : List ℕ) → Has (numbers xs) k → Has (numbers (cond b (q ∷ xs) xs)) k
    later true xs g = inr g
    later false xs g = g

    first : (b : Bool) (xs : List ℕ) → b ≡ true → q ≡ key c k → Has (numbers (cond b (q ∷ xs) xs)) k
    first true xs e g = inl (ap (λ x. x % 2 ^ 32) g ∙ number_back c k h)
    first false xs e g = absurd (true≢false (sym e))

    by : (b : Bool) → is_at (nat_cmp (key c k)) q ≡ b → (b || list_any (is_at (nat_cmp (key c k))) qs) ≡ true → (list_any (is_at (nat_cmp (key c k))) qs ≡ true → Has (numbers (filter (range_contains nat_cmp (Included (key c 0)) (Included (key c 4294967295))) qs)) k) → Has (numbers (filter (range_contains nat_cmp (Included (key c 0)) (Included (key c 4294967295))) (q ∷ qs))) k
    by true e g rest =
        let equal : q ≡ key c k = same q (key c k) (sym (key_test (key c k) q) ∙ e) in
        first (range_contains nat_cmp (Included (key c 0)) (Included (key c 4294967295)) q) (filter (range_contains nat_cmp (Included (key c 0)) (Included (key c 4294967295))) qs) (ap (range_contains nat_cmp (Included (key c 0)) (Included (key c 4294967295))) equal ∙ in_run c k h) equal
    by false e g rest = later (range_contains nat_cmp (Included (key c 0)) (Included (key c 4294967295)) q) (filter (range_contains nat_cmp (Included (key c 0)) (Included (key c 4294967295))) qs) (rest g)

has_to : (xs : List ℕ) (k : ℕ) → Has xs k → Contains xs k
has_to [] k h = absurd h
has_to (x ∷ xs) k (inl e) = (zero, omega arith, e)
has_to (x ∷ xs) k (inr h) = let c = has_to xs k h in (suc c.0, omega (arith, c.1), c.2)

has_front : (xs ys : List ℕ) (k : ℕ) → Has xs k → Has (xs ++ ys) k
has_front [] ys k h = absurd h
has_front (x ∷ xs) ys k (inl e) = inl e
has_front (x ∷ xs) ys k (inr h) = inr (has_front xs ys k h)

has_back : (xs ys : List ℕ) (k : ℕ) → Has ys k → Has (xs ++ ys) k
has_back [] ys k h = h
has_back (x ∷ xs) ys k h = inr (has_back xs ys k h)

pub all_pushed : (c : ℕ) (s : BTreeSet ℕ) (old found left : List ℕ) → left ≡ [] → found ++ numbers left ≡ old ++ numbers (run c s) → HasAll s c old found
all_pushed c s old found left none e = record {
  stay = λ k is. subst (λ xs. Contains xs k) (sym all) (has_to (old ++ numbers (run c s)) k (has_front old (numbers (run c s)) k (has_from old k is.0 is.1 is.2)));
  all = λ k h is. subst (λ xs. Contains xs k) (sym all) (has_to (old ++ numbers (run c s)) k (has_back old (numbers (run c s)) k (has_number c k s.keys h is)));
}
  where
    all : found ≡ old ++ numbers (run c s)
    all = sym (append-nil found) ∙ sym (ap (λ xs. found ++ numbers xs) none) ∙ e

-- ---- texts in tuples

module _ (i : ℕ) (all : List Atom) (k : ℕ) (a : Atom) (h : k < length all) (is : a ≡ get_or all k a) (so_far : text_in i (drop k all) ≡ text_in i all) where
  next : drop k all ≡ a ∷ drop (k + 1) all
  next = drop-cons all k a h ∙ ap (λ x. x ∷ drop (suc k) all) (sym is) ∙ ap (λ j. a ∷ drop j all) (sym (add-one k))

  pub text_more : None ≡ atom_text i a → text_in i (drop (k + 1) all) ≡ text_in i all
  text_more n = ap (λ o. first_of o (text_in i (drop (k + 1) all))) n ∙ sym (ap (text_in i) next) ∙ so_far

  pub text_found : (t : List ℕ) → Some t ≡ atom_text i a → Some t ≡ text_in i all
  text_found t n = ap (λ o. first_of o (text_in i (drop (k + 1) all))) n ∙ sym (ap (text_in i) next) ∙ so_far

pub text_none : (i : ℕ) (all : List Atom) (k : ℕ) → length all ≤ k → text_in i (drop k all) ≡ text_in i all → None ≡ text_in i all
text_none i all k h so_far = sym (ap (text_in i) (drop-all all k h)) ∙ so_far
  where
    drop-all : (xs : List Atom) (k : ℕ) → length xs ≤ k → drop k xs ≡ []
    drop-all xs zero h = empty xs h
      where
        empty : (xs : List Atom) → length xs ≤ 0 → xs ≡ []
        empty [] h = refl
        empty (x ∷ xs) h = absurd (omega (arith, h))
    drop-all [] (suc k) h = refl
    drop-all (x ∷ xs) (suc k) h = drop-all xs k (omega (arith, h))

some_same : (t u : List ℕ) → Some t ≡ Some u → t ≡ u
some_same t u e = cc

none_some : (t : List ℕ) → None ≡ Some t → ⊥
none_some t e = cc

-- a text that the tuple fixes stands in its column, wherever it holds
theme_there : (i : ℕ) (a : ThemeAtom) (p : Point) (t : List ℕ) → theme_holds a p ≡ true → theme_text i a ≡ Some t → column_text p i ≡ t
unfolding theme_holds
theme_there i (EqText s u) p t h e = by (is_text_column s i) refl e
  where
    by : (b : Bool) → is_text_column s i ≡ b → cond b (Some u) None ≡ Some t → column_text p i ≡ t
    by true is f = ap (λ s. text_at p (slot s)) (sym (same_slot_is s (record { number = i; sort = Text }) is)) ∙ from_same_texts (text_at p (slot s)) u h ∙ some_same u t f
    by false is f = absurd (none_some t f)
theme_there i (NeText s u) p t h e = absurd (none_some t e)
theme_there i (EqSlot s u) p t h e = absurd (none_some t e)
theme_there i (NeSlot s u) p t h e = absurd (none_some t e)

atom_there : (i : ℕ) (a : Atom) (p : Point) (t : List ℕ) → atom_holds a p ≡ true → atom_text i a ≡ Some t → column_text p i ≡ t
unfolding atom_holds
atom_there i (First r) p t h e = absurd (none_some t e)
atom_there i (Second a) p t h e = theme_there i a p t h e

there : (i : ℕ) (atoms : List Atom) (p : Point) (t : List ℕ) → tuple_holds atoms p ≡ true → text_in i atoms ≡ Some t → column_text p i ≡ t
unfolding tuple_holds
there i [] p t h e = absurd (none_some t e)
there i (a ∷ rest) p t h e = by (atom_text i a) refl e (λ f. there i rest p t (and_right (atom_holds a p) (tuple_holds rest p) h) f)
  where
    by : (o : Option (List ℕ)) → atom_text i a ≡ o → first_of o (text_in i rest) ≡ Some t → (text_in i rest ≡ Some t → column_text p i ≡ t) → column_text p i ≡ t
    by None is f later = later f
    by (Some u) is f later = atom_there i a p t (and_left (atom_holds a p) (tuple_holds rest p) h) (is ∙ f)

-- ---- what is found

-- behind the code of the text, and behind that of none, stand all tuples that may have it
pub found_one : (hs : NameHashing) (cs : List Column) (s : BTreeSet ℕ) (u : ℕ × List ℕ) (none one both sorted ids : List ℕ) → is_text_at cs u.0 ≡ true → HasAll s (code hs u.0 (Some u.1)) none one → HasAll s (code hs u.0 None) one both
    → IsPermutation both sorted → IsSorted nat_cmp sorted → ids ≡ dedup eqb sorted → AreWith hs cs s (u ∷ []) ids
found_one hs cs s u none one both sorted ids text fixed open_ p up is = record {
  ascending = subst IsStrictlyIncreasing (sym is) (IsStrictlyIncreasing-dedup sorted up);
  complete = λ t p there_ holds met. kept t.0 (by t p there_ holds (and_left (is_text_met p u) true met) (text_in u.0 t.1) refl);
}
  where
    kept : (k : ℕ) → Contains both k → Contains ids k
    kept k c = subst (λ xs. Contains xs k) (sym is) (Contains-dedup_nat sorted k (Contains-permutation both sorted k p c))

    by : (t : ℕ × List Atom) (p : Point) → IsThere hs cs s t → tuple_holds t.1 p ≡ true → is_text_met p u ≡ true → (o : Option (List ℕ)) → text_in u.0 t.1 ≡ o → Contains both t.0
    by t p h holds met None e = open_.all t.0 h.fits (subst (λ o. contains nat_cmp s (key (code hs u.0 o) t.0) ≡ true) e (h.keys u.0 text))
    by t p h holds met (Some v) e =
        let same : v ≡ u.1 = sym (there u.0 t.1 p v holds e) ∙ from_same_texts (column_text p u.0) u.1 met in
        open_.stay t.0 (fixed.all t.0 h.fits (subst (λ o. contains nat_cmp s (key (code hs u.0 o) t.0) ≡ true) (e ∙ ap Some same) (h.keys u.0 text)))
