-- A join is a meet from which pairs are left out that hold nowhere.
--
-- What a list of some of the pairs mentions, and its lines, are those of all pairs. At a point where a pair holds, the values
-- at the slots lie in the boxes of both conjunctions, so the boxes share them and the pair was picked.
use Rattle.std.proofs.Common.{◌≡◌, ℕ, zero, suc, ◌+◌, ◌<◌, Bool, true, ◌&&◌, List, [], ◌∷◌, ◌++◌, Vec, Global, length, take, get_or, ◌⊎◌, inl, inr, arith, refl, sym, ap, ◌∙◌, subst, true≢false, add-one}
use Rattle.std.proofs.Math.Seq.{take-suc}
use Rattle.std.specs.List.{AllByRecursion, Contains, list_any}
use Rattle.ded_num.proofs.Tests.{same_tests}
use Rattle.ded_model.specs.declared.slot.Slot.{Slot}
use Rattle.ded_model.specs.Point.{Point, IsPoint}
use Rattle.ded_model.specs.Cell.{conj_holds}
use Rattle.ded_model.specs.Lines.{Line, In}
use Rattle.ded_model.proofs.Rows.{or_left, or_right}
use Rattle.ded_model.proofs.Points.{and_left, and_right}
use Rattle.ded_model.proofs.Members.{or_split, In-left, In-right, In-split}
use Rattle.ded_theory.specs.Conjunctions.{conj_mentions, conj_lines}
use Rattle.ded_theory.proofs.Conjunctions.{conj_holds-append}
use Rattle.ded_box.specs.Boxes.{Shared}
use Rattle.ded_genrel.specs.Lists.{conjs_hold, conjs_lines, conjs_of, AreNormal, pairs_with, pairs}
use Rattle.ded_genrel.specs.Operations.{IsMeet}
use Rattle.ded_genrel.proofs.Items.{all-append, conjs_to, normal-at, pairs-push}
use Rattle.ded_genrel.proofs.Laws.{meet_is, conjs_hold-append}
use Rattle.ded_index.specs.declared.entry.BoxEntry.{BoxEntry}
use Rattle.ded_index.specs.Entries.{Box, SomeEntry, AreFound}
use Rattle.ded_genrel.specs.Rounds.{values_at, IsRound, IsBoxOf}
use Rattle.ded_genrel.proofs.Apart.{values_positive}
use Rattle.ded_join.specs.Picks.{IsIndexOf, picked}

-- the conjunction is one of the list
abbrev Among : {A : Type 0} → List A → List (List A) → Type 0
Among c [] = ⊥
Among c (d ∷ cs) = (c ≡ d) ⊎ Among c cs

among-left : {A : Type 0} (c : List A) (xs ys : List (List A)) → Among c xs → Among c (xs ++ ys)
among-left c [] ys h = absurd h
among-left c (x ∷ xs) ys (inl e) = inl e
among-left c (x ∷ xs) ys (inr h) = inr (among-left c xs ys h)

among-right : {A : Type 0} (c : List A) (xs ys : List (List A)) → Among c ys → Among c (xs ++ ys)
among-right c [] ys h = h
among-right c (x ∷ xs) ys h = inr (among-right c xs ys h)

any_among : {A : Type 0} (test : List A → Bool) (c : List A) (cs : List (List A)) → Among c cs → test c ≡ true → list_any test cs ≡ true
any_among test c [] h t = absurd h
any_among test c (d ∷ cs) (inl e) t = or_left (test d) (list_any test cs) (ap test (sym e) ∙ t)
any_among test c (d ∷ cs) (inr h) t = or_right (test d) (list_any test cs) (any_among test c cs h t)

any_of : {A : Type 0} (test : List A → Bool) (all xs : List (List A)) → AllByRecursion (λ c. Among c all) xs → list_any test xs ≡ true → list_any test all ≡ true
any_of test all [] h t = absurd (true≢false (sym t))
any_of test all (x ∷ xs) h t = elim (or_split (test x) (list_any test xs) t) [ inl a ↦ any_among test x all h.0 a | inr b ↦ any_of test all xs h.1 b ]

lines_among : {A : Type 0} (lines : A → List Line) (l : Line) (c : List A) (cs : List (List A)) → Among c cs → In l (conj_lines lines c) → In l (conjs_lines lines cs)
lines_among lines l c [] h i = absurd h
lines_among lines l c (d ∷ cs) (inl e) i = In-left l (conj_lines lines d) (conjs_lines lines cs) (subst (λ z. In l (conj_lines lines z)) e i)
lines_among lines l c (d ∷ cs) (inr h) i = In-right l (conj_lines lines d) (conjs_lines lines cs) (lines_among lines l c cs h i)

lines_of : {A : Type 0} (lines : A → List Line) (l : Line) (all xs : List (List A)) → AllByRecursion (λ c. Among c all) xs → In l (conjs_lines lines xs) → In l (conjs_lines lines all)
lines_of lines l all [] h i = absurd i
lines_of lines l all (x ∷ xs) h i = elim (In-split l (conj_lines lines x) (conjs_lines lines xs) i) [ inl a ↦ lines_among lines l x all h.0 a | inr b ↦ lines_of lines l all xs h.1 b ]

-- some of the conjunctions, which hold where all of them do
pub record IsPart {A : Type 0} (h : A → Point → Bool) (all out : List (List A)) : Type 0 where
  pub among : AllByRecursion (λ c. Among c all) out
  pub holds : (p : Point) → IsPoint p → conjs_hold h all p ≡ true → conjs_hold h out p ≡ true

pub part_none : {A : Type 0} (h : A → Point → Bool) → IsPart h [] []
part_none h = record { among = tt; holds = λ p i t. t }

all_more : {A : Type 0} (xs ys zs : List (List A)) → ((c : List A) → Among c xs → Among c ys) → AllByRecursion (λ c. Among c xs) zs → AllByRecursion (λ c. Among c ys) zs
all_more xs ys [] f h = tt
all_more xs ys (z ∷ zs) f h = (f z h.0, all_more xs ys zs f h.1)

pub part-append : {A : Type 0} (h : A → Point → Bool) (all more out added : List (List A)) → IsPart h all out → IsPart h more added → IsPart h (all ++ more) (out ++ added)
part-append h all more out added x y = record {
  among = all-append (λ c. Among c (all ++ more)) out added (all_more all (all ++ more) out (λ c k. among-left c all more k) x.among) (all_more more (all ++ more) added (λ c k. among-right c all more k) y.among);
  holds = λ p i t. elim (or_split (conjs_hold h all p) (conjs_hold h more p) (sym (conjs_hold-append h all more p) ∙ t)) [
    | inl a ↦ conjs_hold-append h out added p ∙ or_left (conjs_hold h out p) (conjs_hold h added p) (x.holds p i a)
    | inr b ↦ conjs_hold-append h out added p ∙ or_right (conjs_hold h out p) (conjs_hold h added p) (y.holds p i b)
  ];
}

-- a part of all pairs is a meet
pub part_meets : {A : Type 0} (h : A → Point → Bool) (m : A → Slot → Bool) (l : A → List Line) (xs ys out : List (List A)) → IsPart h (pairs xs ys) out → IsMeet h m l xs ys out
part_meets h m l xs ys out x =
    let all = meet_is h m l xs ys (pairs xs ys) refl in record {
      holds = λ p i. same_tests (conjs_hold h out p) (conjs_hold h (pairs xs ys) p) (λ t. any_of (λ c. conj_holds h c p) (pairs xs ys) out x.among t) (x.holds p i) ∙ all.holds p i;
      slots = λ s k. all.slots s (any_of (λ c. conj_mentions m c s) (pairs xs ys) out x.among k);
      lines = λ k i. all.lines k (lines_of l k (pairs xs ys) out x.among i);
    }

-- ---- the pairs that are picked

among_pairs : {A : Type 0} (c : List A) (cs : List (List A)) (j : ℕ) → j < length cs → Among (c ++ get_or cs j []) (pairs_with c cs)
among_pairs c [] j l = absurd (omega (arith, l))
among_pairs c (d ∷ cs) zero l = inl refl
among_pairs c (d ∷ cs) (suc j) l = inr (among_pairs c cs j (omega (arith, l)))

pub picked_among : {A : Type 0} (c : List A) (cs : List (List A)) (js : List ℕ) → AllByRecursion (λ j. j < length cs) js → AllByRecursion (λ x. Among x (pairs_with c cs)) (picked c cs js)
picked_among c cs [] h = tt
picked_among c cs (j ∷ js) h = (among_pairs c cs j h.0, picked_among c cs js h.1)

picked_holds : {A : Type 0} (h : A → Point → Bool) (c : List A) (cs : List (List A)) (js : List ℕ) (p : Point) (j k : ℕ) → k < length js → get_or js k j ≡ j → conj_holds h (c ++ get_or cs j []) p ≡ true → conjs_hold h (picked c cs js) p ≡ true
picked_holds h c cs [] p j k l e t = absurd (omega (arith, l))
picked_holds h c cs (i ∷ js) p j zero l e t = or_left (conj_holds h (c ++ get_or cs i []) p) (conjs_hold h (picked c cs js) p) (ap (λ n. conj_holds h (c ++ get_or cs n []) p) e ∙ t)
picked_holds h c cs (i ∷ js) p j (suc k) l e t = or_right (conj_holds h (c ++ get_or cs i []) p) (conjs_hold h (picked c cs js) p) (picked_holds h c cs js p j k (omega (arith, l)) e t)

-- where some pair holds, one at a place does
record HoldsAt {A : Type 0} (h : A → Point → Bool) (c : List A) (cs : List (List A)) (p : Point) : Type 0 where
  place : ℕ
  inside : place < length cs
  holds : conj_holds h (c ++ get_or cs place []) p ≡ true

later_place : {A : Type 0} (h : A → Point → Bool) (c d : List A) (cs : List (List A)) (p : Point) → HoldsAt h c cs p → HoldsAt h c (d ∷ cs) p
later_place h c d cs p x = record { place = suc x.place; inside = omega (arith, x.inside); holds = x.holds }

holds_at : {A : Type 0} (h : A → Point → Bool) (c : List A) (cs : List (List A)) (p : Point) → conjs_hold h (pairs_with c cs) p ≡ true → HoldsAt h c cs p
holds_at h c [] p t = absurd (true≢false (sym t))
holds_at h c (d ∷ cs) p t = elim (or_split (conj_holds h (c ++ d) p) (conjs_hold h (pairs_with c cs) p) t) [
  | inl a ↦ record { place = zero; inside = omega arith; holds = a }
  | inr b ↦ later_place h c d cs p (holds_at h c cs p b)
]

module _ {A : Type 0} (h : A → Point → Bool) (m : A → Slot → Bool) (l : A → List Line) (ss : List Slot) (c : List A) (cs : List (List A)) (es : List BoxEntry) (x : Box) (js : List ℕ) (index : IsIndexOf h m l ss cs es) (box : IsBoxOf h m l ss c x) (found : AreFound x es js) where
  -- the places that are found are places of conjunctions
  pub places_of : (ks : List ℕ) → ((j : ℕ) → Contains ks j → j < length cs) → AllByRecursion (λ j. j < length cs) ks
  places_of [] f = tt
  places_of (k ∷ ks) f = (f k (zero, omega arith, refl), places_of ks (λ j m. f j (suc m.0, omega (arith, m.1), m.2)))

  inside : (j : ℕ) (ys : List BoxEntry) → SomeEntry (λ e. (e.id ≡ j) × Shared e.bounds x) ys → AllByRecursion (λ e. (e.id < length cs) × IsBoxOf h m l ss (get_or cs e.id []) e.bounds) ys → j < length cs
  inside j [] s w = absurd s
  inside j (y ∷ ys) (inl a) w = subst (λ n. n < length cs) a.0 w.0.0
  inside j (y ∷ ys) (inr b) w = inside j ys b w.1

  pub places : AllByRecursion (λ j. j < length cs) js
  places = places_of js (λ j m. inside j es ((found.exact j).0 m) index.own)

  some_weaker : (P Q : BoxEntry → Type 0) (ys : List BoxEntry) → ((e : BoxEntry) → P e → Q e) → SomeEntry P ys → SomeEntry Q ys
  some_weaker P Q [] f s = absurd s
  some_weaker P Q (y ∷ ys) f (inl a) = inl (f y a)
  some_weaker P Q (y ∷ ys) f (inr b) = inr (some_weaker P Q ys f b)

  pub picked_part : IsPart h (pairs_with c cs) (picked c cs js)
  picked_part = record {
    among = picked_among c cs js places;
    holds = λ p i t.
        let a = holds_at h c cs p t in
        let parts : (conj_holds h c p && conj_holds h (get_or cs a.place []) p) ≡ true = sym (conj_holds-append h c (get_or cs a.place []) p) ∙ a.holds in
        let first = and_left (conj_holds h c p) (conj_holds h (get_or cs a.place []) p) parts in
        let second = and_right (conj_holds h c p) (conj_holds h (get_or cs a.place []) p) parts in
        let near = some_weaker (λ e. (e.id ≡ a.place) × IsRound h ss (get_or cs a.place []) e.bounds) (λ e. (e.id ≡ a.place) × Shared e.bounds x) es
        (λ e r. (r.0, record { values = values_at ss p; positive = values_positive ss p i; first = r.1 p i second; second = box.round p i first })) (index.each a.place a.inside) in
        let m = (found.exact a.place).1 near in
        picked_holds h c cs js p a.place m.0 m.1 m.2 a.holds;
  }

-- the next conjunction
pub joined_more : {A : Type 0} (h : A → Point → Bool) (xs : List (Vec A Global)) (cs : List (List A)) (i : ℕ) (x : Vec A Global) (out next added : List (List A)) → i < length xs → x ≡ get_or xs i x → next ≡ out ++ added
    → IsPart h (pairs (conjs_of (take i xs)) cs) out → IsPart h (pairs_with x.items cs) added → IsPart h (pairs (conjs_of (take (i + 1) xs)) cs) next
joined_more h xs cs i x out next added l e n p q =
    subst (λ all. IsPart h all next) (sym (ap (λ ys. pairs ys cs) (conjs_to xs i x l e) ∙ pairs-push (conjs_of (take i xs)) cs x.items))
    (subst (IsPart h (pairs (conjs_of (take i xs)) cs ++ pairs_with x.items cs)) (sym n) (part-append h (pairs (conjs_of (take i xs)) cs) (pairs_with x.items cs) out added p q))

-- ---- the loop over places

pub picked_more : {A : Type 0} (c : List A) (cs : List (List A)) (js : List ℕ) (i d : ℕ) → i < length js → picked c cs (take (i + 1) js) ≡ picked c cs (take i js) ++ (c ++ get_or cs (get_or js i d) []) ∷ []
picked_more c cs js i d h = ap (picked c cs) (ap (λ k. take k js) (add-one i) ∙ take-suc js i d h) ∙ picked-append (take i js) (get_or js i d)
  where
    picked-append : (ks : List ℕ) (j : ℕ) → picked c cs (ks ++ j ∷ []) ≡ picked c cs ks ++ (c ++ get_or cs j []) ∷ []
    picked-append [] j = refl
    picked-append (k ∷ ks) j = ap (λ xs. (c ++ get_or cs k []) ∷ xs) (picked-append ks j)

pub items_at : {A : Type 0} (xs : List (Vec A Global)) (i : ℕ) (x : Vec A Global) → x ≡ get_or xs i x → i < length xs → x.items ≡ get_or (conjs_of xs) i []
items_at [] i x e h = absurd (omega (arith, h))
items_at (y ∷ xs) zero x e h = ap (λ (z : Vec _ Global). z.items) e
items_at (y ∷ xs) (suc i) x e h = items_at xs i x e (omega (arith, h))

pub normal_of : {A : Type 0} (normal : A → Type 0) (xs : List (Vec A Global)) {i : ℕ} (x : Vec A Global) → x ≡ get_or xs i x → i < length xs → AreNormal normal (conjs_of xs) → AllByRecursion normal x.items
normal_of normal xs {i} x e h n = normal-at normal xs i x h e n

pub conjs_count : {A : Type 0} (xs : List (Vec A Global)) → length (conjs_of xs) ≡ length xs
conjs_count [] = refl
conjs_count (x ∷ xs) = ap suc (conjs_count xs)

pub place_at : (n : ℕ) (js : List ℕ) (i d : ℕ) → i < length js → AllByRecursion (λ j. j < n) js → get_or js i d < n
place_at n [] i d l h = absurd (omega (arith, l))
place_at n (j ∷ js) zero d l h = h.0
place_at n (j ∷ js) (suc i) d l h = place_at n js i d (omega (arith, l)) h.1
