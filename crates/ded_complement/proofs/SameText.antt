-- Conjunctions of a list by the texts to which they fix a slot.
--
-- Where a conjunction fixes the slot to a text, one that fixes it to another text doesn't hold. So at the points of the first one
-- those that hold are among those with its own text and those without one.
use Rattle.std.proofs.Common.{◌≡◌, ℕ, zero, suc, ◌+◌, ◌-◌, ◌<◌, ◌≤◌, Bool, true, false, not, ◌&&◌, ◌||◌, cond, List, [], ◌∷◌, ◌++◌, length, take, drop, get_or, inl, inr, arith, refl, sym, ap, ap₂, ◌∙◌, subst, true≢false, add-one}
use Rattle.std.specs.Prelude.{map, filter, nat_eq, nat_lt, nat_le, Option, Some}
use Rattle.std.specs.List.{AllByRecursion, Contains, list_any, dedup}
use Rattle.std.specs.List.Sorted.{IsPermutation, IsSorted, IsStrictlyIncreasing, IsPartitionPoint, IsNonDecreasingBy}
use Rattle.std.specs.Ordering.{nat_cmp, ordering_index}
use Rattle.std.proofs.lemmas.Cmp.{nat_list_cmp_total, tied_itself}
use Rattle.std.proofs.lemmas.List.Elements.{All-from_recursion, recursion_from_All}
use Rattle.std.proofs.lemmas.Bool.Decides.{nat_tests}
use Rattle.std.proofs.lemmas.List.{get_or-drop, length-drop}
use Rattle.std.proofs.lemmas.List.Kept.{Contains-dedup_nat, Contains-from_dedup}
use Rattle.std.proofs.lemmas.List.Sorted.{All-permutation, Contains-permutation, IsPermutation-sym, list_any-IsPermutation, searchable_from_sorted}
use Rattle.std.proofs.lemmas.Map.Keys.{IsStrictlyIncreasing-dedup}
use Rattle.std.proofs.lemmas.Bool.{false_from_ne_true}
use Rattle.ded_num.proofs.Tests.{same_tests, or_swap}
use Rattle.ded_model.specs.declared.slot.Slot.{Slot}
use Rattle.ded_model.specs.Point.{slot, same_slot, Point, IsPoint, text_at}
use Rattle.ded_model.specs.Cell.{conj_holds}
use Rattle.ded_model.proofs.Bools.{or_assoc}
use Rattle.ded_model.proofs.Points.{and_left, and_right, same_slot_is}
use Rattle.ded_model.proofs.Rows.{or_left, or_right}
use Rattle.ded_model.proofs.Members.{or_split}
use Rattle.ded_genrel.specs.Lists.{conjs_hold}
use Rattle.ded_genrel.proofs.Items.{all-append, all-push}
use Rattle.ded_genrel.proofs.Laws.{conjs_hold-append}
use Rattle.ded_complement.specs.declared.boxed.Boxed.{Boxed}
use Rattle.ded_complement.specs.declared.keys.KeyedPlace.{KeyedPlace}
use Rattle.ded_complement.specs.declared.keys.Keys.{Keys}
use Rattle.ded_complement.specs.declared.parts.BoxedPiece.{BoxedPiece}
use Rattle.ded_complement.specs.Boxed.{conjs_in, IsBoxed}
use Rattle.ded_complement.specs.Parts.{conj_at, conjs_at, ArePlaces, IsSameOutside, IsPart}
use Rattle.ded_complement.specs.Pieces.{all_atoms, IsAmong}
use Rattle.ded_complement.specs.Keys.{rank, IsFixedBy, IsKeyed, keyed_hold, AreSorted, AreKeys, places_with, AreInOrder}
use Rattle.ded_complement.proofs.Cutting.{taken_all}
use Rattle.ded_complement.proofs.Halved.{conj_at-is}
use Rattle.ded_complement.proofs.PieceLaws.{among_left}
use Rattle.std.proofs.Math.Bool.{or-false}
use Rattle.std.proofs.Math.Seq.{take-suc}

-- ---- tests and members

pub under : (b x y : Bool) → (b ≡ true → x ≡ y) → (b && not x) ≡ (b && not y)
under true x y f = ap not (f refl)
under false x y f = refl

module _ {X : Type 0} where
  any_at : (f : X → Bool) (xs : List X) (x : X) (k : ℕ) → k < length xs → get_or xs k x ≡ x → f x ≡ true → list_any f xs ≡ true
  any_at f [] x k lt e t = absurd (omega (arith, lt))
  any_at f (y ∷ xs) x zero lt e t = or_left (f y) (list_any f xs) (ap f e ∙ t)
  any_at f (y ∷ xs) x (suc k) lt e t = or_right (f y) (list_any f xs) (any_at f xs x k (omega (arith, lt)) e t)

  later : (x y : X) (xs : List X) → Contains xs x → Contains (y ∷ xs) x
  later x y xs c = (suc c.0, omega (arith, c.1), c.2)

  -- where one of the list passes the test, one of each list with the same members does
  any_given : (f : X → Bool) (xs ys : List X) → ((x : X) → Contains xs x → Contains ys x) → list_any f xs ≡ true → list_any f ys ≡ true
  any_given f [] ys g t = absurd (true≢false (sym t))
  any_given f (x ∷ xs) ys g t = elim (or_split (f x) (list_any f xs) t) [
    | inl a ↦ (let c = g x (zero, omega arith, refl) in any_at f ys x c.0 c.1 c.2 a)
    | inr b ↦ any_given f xs ys (λ y c. g y (later y x xs c)) b
  ]

  any-append : (f : X → Bool) (xs ys : List X) → list_any f (xs ++ ys) ≡ (list_any f xs || list_any f ys)
  any-append f [] ys = refl
  any-append f (x ∷ xs) ys = ap (λ b. f x || b) (any-append f xs ys) ∙ sym (or_assoc (f x) (list_any f xs) (list_any f ys))

  all_contained : (P : X → Type 0) (xs : List X) (x : X) → AllByRecursion P xs → Contains xs x → P x
  all_contained P [] x a c = absurd (omega (arith, c.1))
  all_contained P (y ∷ xs) x a (zero, lt, e) = subst P e a.0
  all_contained P (y ∷ xs) x a (suc k, lt, e) = all_contained P xs x a.1 (k, omega (arith, lt), e)

  all_from_contained : (P : X → Type 0) (xs : List X) → ((x : X) → Contains xs x → P x) → AllByRecursion P xs
  all_from_contained P [] f = tt
  all_from_contained P (x ∷ xs) f = (f x (zero, omega arith, refl), all_from_contained P xs (λ y c. f y (later y x xs c)))

-- ---- conjunctions at places

module _ {A : Type 0} (h : A → Point → Bool) (bs : List (Boxed A)) where
  -- those at the places hold where one of them does
  hold_at : (js : List ℕ) (p : Point) → conjs_hold h (conjs_at bs js) p ≡ list_any (λ i. conjs_hold h (conj_at bs i) p) js
  hold_at [] p = refl
  hold_at (j ∷ js) p = conjs_hold-append h (conj_at bs j) (conjs_at bs js) p ∙ ap (λ b. conjs_hold h (conj_at bs j) p || b) (hold_at js p)

  pub hold_at-append : (is js : List ℕ) (p : Point) → conjs_hold h (conjs_at bs (is ++ js)) p ≡ (conjs_hold h (conjs_at bs is) p || conjs_hold h (conjs_at bs js) p)
  hold_at-append is js p = hold_at (is ++ js) p ∙ any-append (λ i. conjs_hold h (conj_at bs i) p) is js ∙ ap₂ (λ x y. x || y) (sym (hold_at is p)) (sym (hold_at js p))

  pub hold_at-push : (is js : List ℕ) (i : ℕ) (p : Point) → js ≡ is ++ i ∷ [] → conjs_hold h (conjs_at bs js) p ≡ (conjs_hold h (conjs_at bs is) p || conjs_hold h (conj_at bs i) p)
  hold_at-push is js i p e = ap (λ ks. conjs_hold h (conjs_at bs ks) p) e ∙ hold_at-append is (i ∷ []) p ∙ ap (λ b. conjs_hold h (conjs_at bs is) p || b) (hold_at (i ∷ []) p ∙ or-false (conjs_hold h (conj_at bs i) p))

  pub keyed_hold-push : (es fs : List (KeyedPlace A)) (e : KeyedPlace A) (p : Point) → fs ≡ es ++ e ∷ [] → keyed_hold h bs fs p ≡ (keyed_hold h bs es p || conjs_hold h (conj_at bs e.place) p)
  keyed_hold-push es fs e p k = ap (λ gs. keyed_hold h bs gs p) k ∙ any-append (λ (f : KeyedPlace A). conjs_hold h (conj_at bs f.place) p) es (e ∷ []) ∙ ap (λ b. keyed_hold h bs es p || b) (or-false (conjs_hold h (conj_at bs e.place) p))

  -- each atom of a conjunction holds where it does
  conj_atom : (c : List A) (a : A) (p : Point) → IsAmong c a → conj_holds h c p ≡ true → h a p ≡ true
  conj_atom [] a p i t = absurd i
  conj_atom (x ∷ c) a p (inl e) t = ap (λ z. h z p) e ∙ and_left (h x p) (conj_holds h c p) t
  conj_atom (x ∷ c) a p (inr i) t = conj_atom c a p i (and_right (h x p) (conj_holds h c p) t)

pub place_atom : {A : Type 0} (h : A → Point → Bool) (bs : List (Boxed A)) (i : ℕ) (a : A) (p : Point) → IsAmong (all_atoms (conj_at bs i)) a → conjs_hold h (conj_at bs i) p ≡ true → h a p ≡ true
place_atom h [] i a p k t = absurd k
place_atom h (b ∷ bs) zero a p k t = conj_atom h bs (b.conj.items ++ []) a p k (whole b.conj.items ∙ sym (or-false (conj_holds h b.conj.items p)) ∙ t)
  where
    whole : (c : List _) → conj_holds h (c ++ []) p ≡ conj_holds h c p
    whole [] = refl
    whole (x ∷ c) = ap (λ z. h x p && z) (whole c)
place_atom h (b ∷ bs) (suc i) a p k t = place_atom h bs i a p k t

-- ---- texts

pub rank_self : (t : List ℕ) → rank t t ≡ 1
rank_self t = ap ordering_index (tied_itself nat_list_cmp_total t)

-- whether it is of the text
abbrev pub has_text : {A : Type 0} → List ℕ → KeyedPlace A → Bool
has_text t e = nat_eq (rank e.text.now t) 1

module _ {A : Type 0} (h : A → Point → Bool) (s : Slot) (bs : List (Boxed A)) (t : List ℕ) where
  -- where the slot has the text, a conjunction of another text doesn't hold
  other_text : (e : KeyedPlace A) (p : Point) → IsKeyed h s bs e → text_at p (slot s) ≡ t → has_text t e ≡ false → conjs_hold h (conj_at bs e.place) p ≡ false
  other_text e p k at f = false_from_ne_true (conjs_hold h (conj_at bs e.place) p) (λ b. true≢false (sym (same b) ∙ f))
    where
      own : conjs_hold h (conj_at bs e.place) p ≡ true → e.text.now ≡ t
      own b = sym (k.fixed p (place_atom h bs e.place e.atom.now p k.among b)) ∙ at

      same : conjs_hold h (conj_at bs e.place) p ≡ true → has_text t e ≡ true
      same b = ap (λ x. nat_eq (rank x t) 1) (own b) ∙ ap (λ n. nat_eq n 1) (rank_self t)

  -- so there those of the text hold where those of any do
  text_holds : (es : List (KeyedPlace A)) (p : Point) → AllByRecursion (IsKeyed h s bs) es → text_at p (slot s) ≡ t
      → keyed_hold h bs es p ≡ list_any (λ i. conjs_hold h (conj_at bs i) p) (map (λ e. e.place) (filter (has_text t) es))
  text_holds [] p k at = refl
  text_holds (e ∷ es) p k at = by (has_text t e) refl (text_holds es p k.1 at)
    where
      test : ℕ → Bool
      test i = conjs_hold h (conj_at bs i) p

      by : (b : Bool) → has_text t e ≡ b → keyed_hold h bs es p ≡ list_any test (map (λ f. f.place) (filter (has_text t) es))
          → (test e.place || keyed_hold h bs es p) ≡ list_any test (map (λ f. f.place) (cond b (e ∷ filter (has_text t) es) (filter (has_text t) es)))
      by true f r = ap (λ z. test e.place || z) r
      by false f r = ap (λ z. z || keyed_hold h bs es p) (other_text e p k.0 at f) ∙ r

  -- the places of a text are places of the list
  places_inside : (es : List (KeyedPlace A)) → AllByRecursion (IsKeyed h s bs) es → AllByRecursion (λ i. i < length bs) (map (λ e. e.place) (filter (has_text t) es))
  places_inside [] k = tt
  places_inside (e ∷ es) k = by (has_text t e) (places_inside es k.1)
    where
      by : (b : Bool) → AllByRecursion (λ i. i < length bs) (map (λ f. f.place) (filter (has_text t) es)) → AllByRecursion (λ i. i < length bs) (map (λ f. f.place) (cond b (e ∷ filter (has_text t) es) (filter (has_text t) es)))
      by true r = (k.0.inside, r)
      by false r = r

module _ {A : Type 0} (h : A → Point → Bool) (bs : List (Boxed A)) (cs : List (List A)) (k : Keys A) (are : AreKeys h bs cs k) (t : List ℕ) (js : List ℕ) (order : AreInOrder (places_with t k) js) where
  pub text_places : ArePlaces bs js
  text_places = all_from_contained (λ i. i < length bs) js (λ i c. all_contained (λ j. j < length bs) (places_with t k) i
      (all-append (λ j. j < length bs) (map (λ e. e.place) (filter (has_text t) k.keyed.items)) k.others.items (places_inside h k.slot bs t k.keyed.items are.keyed) are.others) (order.taken i c))

  -- where the slot has the text, those at the places of the text and those without one hold where one of all does
  text_same : (p : Point) → text_at p (slot k.slot) ≡ t → conjs_hold h cs p ≡ conjs_hold h (conjs_at bs js) p
  text_same p at =
      let test = λ (i : ℕ). conjs_hold h (conj_at bs i) p in
      are.all p ∙ ap₂ (λ x y. x || y) (text_holds h k.slot bs t k.keyed.items p are.keyed at) (hold_at h bs k.others.items p)
      ∙ sym (any-append test (map (λ e. e.place) (filter (has_text t) k.keyed.items)) k.others.items)
      ∙ same_tests (list_any test (places_with t k)) (list_any test js) (any_given test (places_with t k) js order.given) (any_given test js (places_with t k) order.taken)
      ∙ sym (hold_at h bs js p)

  -- what of a conjunction with the text is outside of all is what of it is outside of these
  pub text_outside : (c : List A) (ds : List (List A)) → IsSameOutside h c ds cs → ((p : Point) → IsPoint p → conj_holds h c p ≡ true → text_at p (slot k.slot) ≡ t) → IsSameOutside h c ds (conjs_at bs js)
  text_outside c ds same at p i = same p i ∙ under (conj_holds h c p) (conjs_hold h cs p) (conjs_hold h (conjs_at bs js) p) (λ b. text_same p (at p i b))

-- ---- in the order of the texts

module _ {X : Type 0} (f : X → Bool) where
  -- without those at the front that fail the test
  filter_front : (i : ℕ) (xs : List X) → ((k : ℕ) (d : X) → k < i → k < length xs → f (get_or xs k d) ≡ false) → filter f xs ≡ filter f (drop i xs)
  filter_front zero xs g = refl
  filter_front (suc i) [] g = refl
  filter_front (suc i) (x ∷ xs) g = ap (λ b. cond b (x ∷ filter f xs) (filter f xs)) (g zero x (omega arith) (omega arith)) ∙ filter_front i xs (λ k d lt w. g (suc k) d (omega (arith, lt)) (omega (arith, w)))

  -- those at the front pass the test, and no others
  filter_take : (j : ℕ) (xs : List X) → ((k : ℕ) (d : X) → k < j → k < length xs → f (get_or xs k d) ≡ true) → ((k : ℕ) (d : X) → j ≤ k → k < length xs → f (get_or xs k d) ≡ false) → filter f xs ≡ take j xs
  filter_take zero [] g n = refl
  filter_take (suc j) [] g n = refl
  filter_take zero (x ∷ xs) g n =
      ap (λ b. cond b (x ∷ filter f xs) (filter f xs)) (n zero x (omega arith) (omega arith)) ∙ filter_take zero xs (λ k d lt w. absurd (omega (arith, lt))) (λ k d le w. n (suc k) d (omega arith) (omega (arith, w)))
  filter_take (suc j) (x ∷ xs) g n =
      ap (λ b. cond b (x ∷ filter f xs) (filter f xs)) (g zero x (omega arith) (omega arith))
      ∙ ap (λ ys. x ∷ ys) (filter_take j xs (λ k d lt w. g (suc k) d (omega (arith, lt)) (omega (arith, w))) (λ k d le w. n (suc k) d (omega (arith, le)) (omega (arith, w))))

below_one : (n : ℕ) → nat_lt n 1 ≡ true → nat_eq n 1 ≡ false
below_one n h = grind (arith, nat_tests)

just_one : (n : ℕ) → nat_lt n 1 ≡ false → nat_le n 1 ≡ true → nat_eq n 1 ≡ true
just_one n h k = grind (arith, nat_tests)

above_one : (n : ℕ) → nat_le n 1 ≡ false → nat_eq n 1 ≡ false
above_one n h = grind (arith, nat_tests)

module _ {A : Type 0} (t : List ℕ) where
  abbrev pub rank_of : KeyedPlace A → ℕ
  rank_of e = rank e.text.now t

  pub by_rank : (es : List (KeyedPlace A)) → AreSorted es → IsNonDecreasingBy rank_of es
  by_rank es s = searchable_from_sorted nat_list_cmp_total (λ e. e.text.now) es t s

  -- between those before the text and those after it stand those of the text
  pub text_between : (es : List (KeyedPlace A)) (i j : ℕ) → IsPartitionPoint (λ e. nat_lt (rank_of e) 1 ≡ true) (λ e. nat_lt (rank_of e) 1 ≡ false) es i
      → IsPartitionPoint (λ e. nat_le (rank_of e) 1 ≡ true) (λ e. nat_le (rank_of e) 1 ≡ false) (drop i es) j → filter (has_text t) es ≡ take j (drop i es)
  text_between es i j before upto =
      filter_front (has_text t) i es (λ k d lt w. below_one (rank_of (get_or es k d)) (before.0 k d (omega arith) lt))
      ∙ filter_take (has_text t) j (drop i es)
      (λ k d lt w. just_one (rank_of (get_or (drop i es) k d)) (subst (λ e. nat_lt (rank_of e) 1 ≡ false) (sym (get_or-drop i es k d)) (before.1 (i + k) d (omega arith) (inside k w))) (upto.0 k d (omega arith) lt))
      (λ k d le w. above_one (rank_of (get_or (drop i es) k d)) (upto.1 k d le w))
    where
      inside : (k : ℕ) → k < length (drop i es) → i + k < length es
      inside k w = within k (length (drop i es)) (length es) i (length-drop i es) w
        where
          within : (k a b i : ℕ) → a ≡ b - i → k < a → i + k < b
          within k a b i e w = omega arith

-- the rest of a list from a place on
pub rest_is : {X : Type 0} (i : ℕ) (xs : List X) → take (length xs - i) (drop i xs) ≡ drop i xs
rest_is i xs = taken_all (drop i xs) (length xs - i) (whole (length (drop i xs)) (length xs - i) (length-drop i xs))
  where
    whole : (a b : ℕ) → a ≡ b → a ≤ b
    whole a b e = omega arith

-- ---- in order, each once

pub in_order : (is found sorted out : List ℕ) → found ≡ is → IsPermutation found sorted → IsSorted nat_cmp sorted → out ≡ dedup nat_eq sorted → AreInOrder is out
in_order is found sorted out e p s d = record {
  ascending = subst IsStrictlyIncreasing (sym d) (IsStrictlyIncreasing-dedup sorted s);
  given = λ i c. subst (λ xs. Contains xs i) (sym d) (Contains-dedup_nat sorted i (Contains-permutation found sorted i p (subst (λ xs. Contains xs i) (sym e) c)));
  taken = λ i c. subst (λ xs. Contains xs i) e (Contains-permutation sorted found i (IsPermutation-sym found sorted p) (Contains-from_dedup nat_eq sorted i (subst (λ xs. Contains xs i) d c)));
}

-- ---- the keys of a list

-- an atom that fixes the slot
pub fixed_to : {A : Type 0} (h : A → Point → Bool) (fixed : A → Option (Slot × List ℕ)) → ((a : A) (s : Slot) (t : List ℕ) (p : Point) → fixed a ≡ Some (s, t) → h a p ≡ true → text_at p (slot s) ≡ t)
    → (a : A) (s o : Slot) (t : List ℕ) → fixed a ≡ Some (o, t) → same_slot o s ≡ true → IsFixedBy h s a t
fixed_to h fixed law a s o t e k = subst (λ (x : Slot). IsFixedBy h x a t) (same_slot_is o s k) (λ p b. law a o t p e b)

-- where a conjunction with such an atom holds, the slot has the text
pub piece_text : {A : Type 0} (h : A → Point → Bool) (bs : List (Boxed A)) (s : Slot) (c : List A) (a : A) (t : List ℕ) → IsAmong c a → IsFixedBy h s a t → (p : Point) → IsPoint p → conj_holds h c p ≡ true → text_at p (slot s) ≡ t
piece_text h bs s c a t i f p k b = f p (conj_atom h bs c a p i b)

module _ {A : Type 0} (h : A → Point → Bool) (s : Slot) (bs : List (Boxed A)) where
  -- keyed places and others, of which one holds where one of the conjunctions does
  pub record SoFar (cs : List (List A)) (es : List (KeyedPlace A)) (os : List ℕ) : Type 0 where
    pub keyed : AllByRecursion (IsKeyed h s bs) es
    pub others : ArePlaces bs os
    pub all : (p : Point) → conjs_hold h cs p ≡ (keyed_hold h bs es p || conjs_hold h (conjs_at bs os) p)

  pub so_far_none : (es : List (KeyedPlace A)) (os : List ℕ) → es ≡ [] → os ≡ [] → SoFar [] es os
  so_far_none es os e f = subst (λ xs. SoFar [] xs os) (sym e) (subst (SoFar [] []) (sym f) (record { keyed = tt; others = tt; all = λ p. refl }))

  module _ (is : List ℕ) (k : ℕ) (b : Boxed A) (lt : k < length is) (below : get_or is k 0 < length bs) (at : b ≡ get_or bs (get_or is k 0) b) where
    next_hold : (p : Point) → conjs_hold h (conjs_at bs (take (k + 1) is)) p ≡ (conjs_hold h (conjs_at bs (take k is)) p || conjs_hold h (conj_at bs (get_or is k 0)) p)
    next_hold p = hold_at-push h bs (take k is) (take (k + 1) is) (get_or is k 0) p (ap (λ j. take j is) (add-one k) ∙ take-suc is k 0 lt)

    -- one more that fixes the slot
    pub so_far_keyed : (es fs : List (KeyedPlace A)) (os : List ℕ) (e : KeyedPlace A) → fs ≡ es ++ e ∷ [] → e.place ≡ get_or is k 0 → IsAmong b.conj.items e.atom.now → IsFixedBy h s e.atom.now e.text.now
        → SoFar (conjs_at bs (take k is)) es os → SoFar (conjs_at bs (take (k + 1) is)) fs os
    so_far_keyed es fs os e f g i w x =
        let own : IsKeyed h s bs e = record {
          inside = subst (λ j. j < length bs) (sym g) below;
          among = subst (λ j. IsAmong (all_atoms (conj_at bs j)) e.atom.now) (sym g) (subst (λ cs. IsAmong (all_atoms cs) e.atom.now) (sym (conj_at-is bs (get_or is k 0) b below at)) (among_left b.conj.items [] e.atom.now i));
          fixed = w;
        } in
        record {
          keyed = subst (AllByRecursion (IsKeyed h s bs)) (sym f) (all-push (IsKeyed h s bs) es e x.keyed own);
          others = x.others;
          all = λ p. next_hold p ∙ ap (λ z. z || conjs_hold h (conj_at bs (get_or is k 0)) p) (x.all p) ∙ or_swap (keyed_hold h bs es p) (conjs_hold h (conjs_at bs os) p) (conjs_hold h (conj_at bs (get_or is k 0)) p)
              ∙ ap (λ j. (keyed_hold h bs es p || conjs_hold h (conj_at bs j) p) || conjs_hold h (conjs_at bs os) p) (sym g) ∙ ap (λ z. z || conjs_hold h (conjs_at bs os) p) (sym (keyed_hold-push h bs es fs e p f));
        }

    -- one more that isn't seen to fix it
    pub so_far_other : (es : List (KeyedPlace A)) (os ns : List ℕ) → ns ≡ os ++ get_or is k 0 ∷ [] → SoFar (conjs_at bs (take k is)) es os → SoFar (conjs_at bs (take (k + 1) is)) es ns
    so_far_other es os ns f x = record {
      keyed = x.keyed;
      others = subst (ArePlaces bs) (sym f) (all-push (λ i. i < length bs) os (get_or is k 0) x.others below);
      all = λ p. next_hold p ∙ ap (λ z. z || conjs_hold h (conj_at bs (get_or is k 0)) p) (x.all p) ∙ or_assoc (keyed_hold h bs es p) (conjs_hold h (conjs_at bs os) p) (conjs_hold h (conj_at bs (get_or is k 0)) p)
          ∙ ap (λ z. keyed_hold h bs es p || z) (sym (hold_at-push h bs os ns (get_or is k 0) p f));
    }

-- in order they are keys
pub keys_are : {A : Type 0} (h : A → Point → Bool) (bs : List (Boxed A)) (cs : List (List A)) (es : List (KeyedPlace A)) (k : Keys A) → SoFar h k.slot bs cs es k.others.items → IsPermutation es k.keyed.items → AreSorted k.keyed.items → AreKeys h bs cs k
keys_are h bs cs es k x p s = record {
  keyed = recursion_from_All (IsKeyed h k.slot bs) k.keyed.items (All-permutation (IsKeyed h k.slot bs) es k.keyed.items p (All-from_recursion (IsKeyed h k.slot bs) es x.keyed));
  others = x.others;
  all = λ q. x.all q ∙ ap (λ z. z || conjs_hold h (conjs_at bs k.others.items) q) (list_any-IsPermutation (λ (e : KeyedPlace _). conjs_hold h (conj_at bs e.place) q) es k.keyed.items p);
  sorted = s;
}

-- a piece in its box with what is near it
pub part_is : {A : Type 0} (h : A → Point → Bool) (n : A → Type 0) (ss : List Slot) (bs : List (Boxed A)) (r : BoxedPiece A) (c : List A) (is : List ℕ) → r.piece.conj.items ≡ c → IsBoxed h n ss r.piece → ArePlaces bs r.near.items
    → IsSameOutside h c (conjs_in bs) (conjs_at bs is) → IsSameOutside h c (conjs_at bs is) (conjs_at bs r.near.items) → IsPart h n ss bs r
part_is h n ss bs r c is e boxed places x y = record { boxed = boxed; places = places; near = subst (λ d. IsSameOutside h d (conjs_in bs) (conjs_at bs r.near.items)) (sym e) (λ p i. x p i ∙ y p i) }
