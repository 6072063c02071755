-- What is left of pairs without those that no point satisfies.
--
-- It is an operation like the pairs themselves, and pairs that are near stay so when some of them are left out.
use Rattle.std.proofs.Common.{◌≡◌, ℕ, zero, suc, ◌+◌, ◌-◌, ◌<◌, ◌≤◌, ◌^◌, ◌⊎◌, Bool, ◌&&◌, ◌||◌, List, [], ◌∷◌, ◌++◌, length, min, get_or, inl, inr, arith, refl, sym, ap, ◌∙◌, subst, append_assoc, append-nil}
use Rattle.std.specs.List.{AllPairs, AllByRecursion}
use Rattle.std.specs.List.Sorted.{IsStrictlyIncreasing}
use Rattle.std.proofs.lemmas.List.Elements.{All-from_recursion, recursion_from_All}
use Rattle.std.proofs.lemmas.List.Kept.{AllPairs-cons, AllPairs-from_increasing}
use Rattle.ded_model.specs.declared.slot.Slot.{Slot}
use Rattle.ded_model.specs.Point.{Point}
use Rattle.ded_model.specs.Cell.{conj_holds, HoldsSomewhere}
use Rattle.ded_model.specs.Lines.{Line}
use Rattle.ded_model.proofs.Members.{subset_trans}
use Rattle.ded_theory.specs.Conjunctions.{IsWide}
use Rattle.ded_genrel.specs.Lists.{conjs_hold, conjs_mention, conjs_lines, pairs_with, pairs}
use Rattle.ded_genrel.specs.Operations.{IsOperation, IsMeet, IsInhabitedPart}
use Rattle.ded_genrel.proofs.Laws.{meet_is}
use Rattle.ded_genrel.proofs.Inhabited.{inhabited_none, inhabited_kept, inhabited_dropped}
use Rattle.ded_join.specs.Near.{AreNear, ArePicked, AreNearPairs, AreAllPairs}
use Rattle.ded_join.specs.Picks.{picked}
use Rattle.ded_join.specs.Kept.{AreKept, IsCount, IsKeptMeet}

-- the counts of two lists
pub count-append : {A : Type 0} (xs ys : List (List A)) (a b c : ℕ) → IsCount xs a b → IsCount ys b c → IsCount (xs ++ ys) a c
count-append xs ys a b c e k = k ∙ ap (λ n. min (n + length ys) (2 ^ 64 - 1)) e ∙ sum (length xs) (length ys) a ∙ ap (λ n. min (a + n) (2 ^ 64 - 1)) (sym (long xs ys))
  where
    long : {A : Type 0} (xs ys : List (List A)) → length (xs ++ ys) ≡ length xs + length ys
    long [] ys = omega arith
    long (x ∷ xs) ys = omega (arith, long xs ys)

    sum : (n m a : ℕ) → min (min (a + n) (2 ^ 64 - 1) + m) (2 ^ 64 - 1) ≡ min (a + (n + m)) (2 ^ 64 - 1)
    sum n m a = omega arith

pub count_none : {A : Type 0} (cs : List (List A)) (n : ℕ) → cs ≡ [] → n < 2 ^ 64 → IsCount cs n n
count_none cs n e h = none n h ∙ ap (λ xs. min (n + length xs) (2 ^ 64 - 1)) (sym e)
  where
    none : (n : ℕ) → n < 2 ^ 64 → n ≡ min (n + 0) (2 ^ 64 - 1)
    none n h = omega (arith, h)

pub count_with : {A : Type 0} (c : List A) (cs : List (List A)) (old new : ℕ) → new ≡ min (old + length cs) (2 ^ 64 - 1) → IsCount (pairs_with c cs) old new
count_with c cs old new e = e ∙ ap (λ n. min (old + n) (2 ^ 64 - 1)) (sym (long cs))
  where
    long : (cs : List (List _)) → length (pairs_with c cs) ≡ length cs
    long [] = refl
    long (d ∷ cs) = ap suc (long cs)

pub count_picked : {A : Type 0} (c : List A) (cs : List (List A)) (js : List ℕ) (old new : ℕ) → new ≡ min (old + length js) (2 ^ 64 - 1) → IsCount (picked c cs js) old new
count_picked c cs js old new e = e ∙ ap (λ n. min (old + n) (2 ^ 64 - 1)) (sym (long js))
  where
    long : (js : List ℕ) → length (picked c cs js) ≡ length js
    long [] = refl
    long (j ∷ js) = ap suc (long js)

-- slots are given, and the second list has few enough conjunctions
pub no_whole : {A : Type 0} (ss : List Slot) (xs ys out : List (List A)) → 0 < length ss → length ys < 2 ^ 32 → AreAllPairs ss xs ys out
no_whole ss xs ys out some few = λ h. absurd (neither (length ss) (length ys) some few h)
  where
    neither : (n k : ℕ) → 0 < n → k < 2 ^ 32 → (n ≡ 0) ⊎ (2 ^ 32 ≤ k) → ⊥
    neither n k some few (inl e) = omega (arith, some, e)
    neither n k some few (inr l) = omega (arith, few, l)

-- the first of ascending places comes before the others, which ascend too
pub ascending_tail : (j : ℕ) (js : List ℕ) → AllPairs (λ a b. a < b) (j ∷ js) → AllPairs (λ a b. a < b) js
ascending_tail j js p = λ a b d lt within. p (suc a) (suc b) d (omega (arith, lt)) (omega (arith, within))

pub ascending_head : (j : ℕ) (js : List ℕ) → AllPairs (λ a b. a < b) (j ∷ js) → AllByRecursion (λ b. j < b) js
ascending_head j js p = recursion_from_All (λ b. j < b) js (λ k d within. p zero (suc k) d (omega arith) (omega (arith, within)))

module _ {A : Type 0} (h : A → Point → Bool) (m : A → Slot → Bool) (l : A → List Line) where
  -- what is kept of two lists
  pub kept-append : (xs ys out more : List (List A)) → AreKept h m l xs out → AreKept h m l ys more → AreKept h m l (xs ++ ys) (out ++ more)
  kept-append [] ys out more e k = subst (λ zs. AreKept h m l ys (zs ++ more)) (sym e) k
  kept-append (c ∷ xs) ys out more (inl (n, r)) k = inl (n, kept-append xs ys out more r k)
  kept-append (c ∷ xs) ys out more (inr (rest, e, w, r)) k = inr (rest ++ more, ap (λ zs. zs ++ more) e, w, kept-append xs ys rest more r k)

  -- the part that is kept of each of two lists
  record Split (xs ys out : List (List A)) : Type 0 where
    front : List (List A)
    rest : List (List A)
    list : out ≡ front ++ rest
    first : AreKept h m l xs front
    second : AreKept h m l ys rest

  kept_split : (xs ys out : List (List A)) → AreKept h m l (xs ++ ys) out → Split xs ys out
  kept_split [] ys out k = record { front = []; rest = out; list = refl; first = refl; second = k }
  kept_split (c ∷ xs) ys out (inl (n, r)) = let s = kept_split xs ys out r in record { front = s.front; rest = s.rest; list = s.list; first = inl (n, s.first); second = s.second }
  kept_split (c ∷ xs) ys out (inr (more, e, w, r)) =
      let s = kept_split xs ys more r in
      record { front = c ∷ s.front; rest = s.rest; list = e ∙ ap (λ zs. c ∷ zs) s.list; first = inr (s.front, refl, w, s.first); second = s.second }

  -- ---- what is kept is an operation

  kept_part : (done more out rest : List (List A)) → IsInhabitedPart h m l done out → AreKept h m l more rest → IsInhabitedPart h m l (done ++ more) (out ++ rest)
  kept_part done [] out rest p e = subst (IsInhabitedPart h m l (done ++ [])) (ap (λ zs. out ++ zs) (sym e)) (subst (λ xs. IsInhabitedPart h m l xs (out ++ [])) (sym (append-nil done)) (subst (IsInhabitedPart h m l done) (sym (append-nil out)) p))
  kept_part done (c ∷ more) out rest p (inl (n, r)) =
      subst (λ xs. IsInhabitedPart h m l xs (out ++ rest)) (append_assoc done (c ∷ []) more) (kept_part (done ++ c ∷ []) more out rest (inhabited_dropped h m l done out c n p) r)
  kept_part done (c ∷ more) out rest p (inr (zs, e, w, r)) =
      subst (IsInhabitedPart h m l (done ++ c ∷ more)) (append_assoc out (c ∷ []) zs ∙ ap (λ ys. out ++ ys) (sym e))
      (subst (λ xs. IsInhabitedPart h m l xs ((out ++ c ∷ []) ++ zs)) (append_assoc done (c ∷ []) more) (kept_part (done ++ c ∷ []) more (out ++ c ∷ []) zs (inhabited_kept h m l done out c w p) r))

  pub kept_inhabited : (all out : List (List A)) → AreKept h m l all out → IsInhabitedPart h m l all out
  kept_inhabited all out k = kept_part [] all [] out (inhabited_none h m l) k

  -- without conjunctions that no point satisfies, an operation gives the same
  pub operation_inhabited : (test : Point → Bool) (used : Slot → Bool) (given : List Line) (out part : List (List A)) → IsOperation h m l test used given out → IsInhabitedPart h m l out part → IsOperation h m l test used given part
  operation_inhabited test used given out part o k = record {
    holds = λ p i. k.is.holds p i ∙ o.holds p i;
    slots = λ s u. o.slots s (k.is.slots s u);
    lines = subset_trans (conjs_lines l part) (conjs_lines l out) given k.is.lines o.lines;
  }

  -- ---- pairs that are near

  module _ (ss : List Slot) (c : List A) (cs : List (List A)) where
    abbrev Near : ℕ → Type 0
    Near j = (IsWide m l c → ⊥) → (IsWide m l (get_or cs j []) → ⊥) → AreNear h ss c (get_or cs j [])

    -- the places of what is kept
    record Left (js : List ℕ) (out : List (List A)) : Type 0 where
      places : List ℕ
      above : (i : ℕ) → AllByRecursion (λ j. i < j) js → AllByRecursion (λ j. i < j) places
      ascending : AllPairs (λ i j. i < j) places
      inside : AllByRecursion (λ j. j < length cs) places
      near : AllByRecursion Near places
      list : out ≡ picked c cs places

    left : (js : List ℕ) (out : List (List A)) → AllPairs (λ i j. i < j) js → AllByRecursion (λ j. j < length cs) js → AllByRecursion Near js → AreKept h m l (picked c cs js) out → Left js out
    left [] out p i n e = record { places = []; above = λ a b. tt; ascending = p; inside = tt; near = tt; list = e }
    left (j ∷ js) out p i n (inl (w, k)) =
        let r = left js out (ascending_tail j js p) i.1 n.1 k in
        record { places = r.places; above = λ a b. r.above a b.1; ascending = r.ascending; inside = r.inside; near = r.near; list = r.list }
    left (j ∷ js) out p i n (inr (rest, e, w, k)) =
        let r = left js rest (ascending_tail j js p) i.1 n.1 k in
        record {
          places = j ∷ r.places;
          above = λ a b. (b.0, r.above a b.1);
          ascending = AllPairs-cons (λ a b. a < b) j r.places (All-from_recursion (λ b. j < b) r.places (r.above j (ascending_head j js p))) r.ascending;
          inside = (i.0, r.inside);
          near = (n.0, r.near);
          list = e ∙ ap (λ zs. (c ++ get_or cs j []) ∷ zs) r.list;
        }

    increasing : (js : List ℕ) → AllPairs (λ i j. i < j) js → IsStrictlyIncreasing js
    increasing js p = λ k within. p k (k + 1) 0 (omega arith) within

    picked_kept : (all out : List (List A)) → ArePicked h m l ss c cs all → AreKept h m l all out → ArePicked h m l ss c cs out
    picked_kept all out p k =
        let r = left p.places out (AllPairs-from_increasing p.places p.ascending) p.inside p.near (subst (λ xs. AreKept h m l xs out) p.list k) in
        record { places = r.places; ascending = increasing r.places r.ascending; inside = r.inside; near = r.near; list = r.list }

  pub near_kept : (ss : List Slot) (bs cs all out : List (List A)) → AreNearPairs h m l ss bs cs all → AreKept h m l all out → AreNearPairs h m l ss bs cs out
  near_kept ss [] cs all out e k = subst (λ xs. AreKept h m l xs out) e k
  near_kept ss (b ∷ bs) cs all out (front, rest, e, p, n) k =
      let s = kept_split front rest out (subst (λ xs. AreKept h m l xs out) e k) in
      (s.front, s.rest, s.list, picked_kept ss b cs front s.front p s.first, near_kept ss bs cs rest s.rest n s.second)

  -- all pairs, where no slots are given or the list is too long
  pub all_kept : (ss : List Slot) (xs ys out : List (List A)) (old new : ℕ) → (0 < length ss → length ys < 2 ^ 32 → ⊥) → AreKept h m l (pairs xs ys) out → IsCount (pairs xs ys) old new → IsKeptMeet h m l ss xs ys out old new
  all_kept ss xs ys out old new not_both k n = record { met = pairs xs ys; is = meet_is h m l xs ys (pairs xs ys) refl; near = λ s f. absurd (not_both s f); whole = λ _. refl; kept = k; count = n }

  -- what is kept is a meet
  pub kept_is : (ss : List Slot) (xs ys out : List (List A)) (old new : ℕ) → IsKeptMeet h m l ss xs ys out old new → IsMeet h m l xs ys out
  kept_is ss xs ys out old new r =
      operation_inhabited (λ p. conjs_hold h xs p && conjs_hold h ys p) (λ s. conjs_mention m xs s || conjs_mention m ys s) (conjs_lines l xs ++ conjs_lines l ys) r.met out r.is (kept_inhabited r.met out r.kept)

  pub kept_near : (ss : List Slot) (xs ys out : List (List A)) (old new : ℕ) → IsKeptMeet h m l ss xs ys out old new → 0 < length ss → length ys < 2 ^ 32 → AreNearPairs h m l ss xs ys out
  kept_near ss xs ys out old new r s f = near_kept ss xs ys r.met out (r.near s f) r.kept

  pub kept_hold : (ss : List Slot) (xs ys out : List (List A)) (old new : ℕ) → IsKeptMeet h m l ss xs ys out old new → AllByRecursion (λ c. (IsWide m l c → ⊥) → HoldsSomewhere (conj_holds h c)) out
  kept_hold ss xs ys out old new r = (kept_inhabited r.met out r.kept).kept
