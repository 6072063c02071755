-- What is taken of pairs, over lists one after another.
use Rattle.std.proofs.Common.{◌≡◌, ℕ, ◌+◌, ◌<◌, ◌^◌, Bool, List, [], ◌∷◌, ◌++◌, Vec, Global, length, take, get_or, refl, sym, ap, ap₂, ◌∙◌, subst, append_assoc, append-nil}
use Rattle.ded_model.specs.declared.slot.Slot.{Slot}
use Rattle.ded_model.specs.Point.{Point}
use Rattle.ded_model.specs.Lines.{Line}
use Rattle.ded_genrel.specs.Lists.{conjs_of, pairs_with, pairs}
use Rattle.ded_genrel.specs.Operations.{IsMeet}
use Rattle.ded_genrel.proofs.Items.{pairs-push, pairs_with-append, conjs_to}
use Rattle.ded_join.specs.declared.near.Taken.{Taken}
use Rattle.ded_join.specs.declared.near.Taken.TheVariants.{All, Inhabited}
use Rattle.ded_join.specs.Near.{ArePicked, AreNearPairs}
use Rattle.ded_join.specs.Picks.{picked}
use Rattle.ded_join.specs.Kept.{IsCount, IsKeptMeet}
use Rattle.ded_join.specs.Taken.{AreTaken, AreTakenAfter, IsTakenMeet}
use Rattle.ded_join.proofs.Joined.{IsPart, part_none, part-append, part_meets, picked_more}
use Rattle.ded_join.proofs.Kept.{count-append, count_none, no_whole, kept-append}
use Rattle.ded_join.proofs.Nearness.{near-push}

module _ {A : Type 0} (h : A → Point → Bool) (m : A → Slot → Bool) (l : A → List Line) where
  -- nothing is taken of nothing
  taken_nothing : (taken : Taken) → AreTaken taken h m l [] []
  taken_nothing All = refl
  taken_nothing Inhabited = refl

  -- what is taken of two lists
  taken-append : (taken : Taken) (xs ys out more : List (List A)) → AreTaken taken h m l xs out → AreTaken taken h m l ys more → AreTaken taken h m l (xs ++ ys) (out ++ more)
  taken-append All xs ys out more e k = ap₂ (λ (us vs : List (List A)). us ++ vs) e k
  taken-append Inhabited xs ys out more e k = kept-append h m l xs ys out more e k

  -- ---- at the end of a list

  module _ (taken : Taken) where
    pub taken_none : (out : List (List A)) → AreTakenAfter taken h m l [] out out
    taken_none out = record { added = []; are = taken_nothing taken; list = sym (append-nil out) }

    taken_more : (xs ys old mid new : List (List A)) → AreTakenAfter taken h m l xs old mid → AreTakenAfter taken h m l ys mid new → AreTakenAfter taken h m l (xs ++ ys) old new
    taken_more xs ys old mid new a b = record {
      added = a.added ++ b.added;
      are = taken-append taken xs ys a.added b.added a.are b.are;
      list = b.list ∙ ap (λ zs. zs ++ b.added) a.list ∙ append_assoc old a.added b.added;
    }

    -- the next conjunction of a list, and the next place
    pub taken_to : (c : List A) (xs : List (Vec A Global)) (i : ℕ) (x : Vec A Global) (both old mid new : List (List A)) → i < length xs → x ≡ get_or xs i x → both ≡ (c ++ x.items) ∷ [] → AreTakenAfter taken h m l (pairs_with c (conjs_of (take i xs))) old mid
        → AreTakenAfter taken h m l both mid new → AreTakenAfter taken h m l (pairs_with c (conjs_of (take (i + 1) xs))) old new
    taken_to c xs i x both old mid new lt is e a b =
        subst (λ all. AreTakenAfter taken h m l all old new) (sym (ap (pairs_with c) (conjs_to xs i x lt is) ∙ pairs_with-append c (conjs_of (take i xs)) (x.items ∷ [])))
        (taken_more (pairs_with c (conjs_of (take i xs))) ((c ++ x.items) ∷ []) old mid new a (subst (λ one. AreTakenAfter taken h m l one mid new) e b))

    pub taken_at : (c : List A) (cs : List (List A)) (js : List ℕ) (i d : ℕ) (both old mid new : List (List A)) → i < length js → both ≡ (c ++ get_or cs (get_or js i d) []) ∷ [] → AreTakenAfter taken h m l (picked c cs (take i js)) old mid
        → AreTakenAfter taken h m l both mid new → AreTakenAfter taken h m l (picked c cs (take (i + 1) js)) old new
    taken_at c cs js i d both old mid new lt e a b =
        subst (λ all. AreTakenAfter taken h m l all old new) (sym (picked_more c cs js i d lt))
        (taken_more (picked c cs (take i js)) ((c ++ get_or cs (get_or js i d) []) ∷ []) old mid new a (subst (λ one. AreTakenAfter taken h m l one mid new) e b))

    -- after what is taken of other conjunctions
    pub taken_next : (xs ys out new : List (List A)) → AreTaken taken h m l xs out → AreTakenAfter taken h m l ys out new → AreTaken taken h m l (xs ++ ys) new
    taken_next xs ys out new k a = subst (AreTaken taken h m l (xs ++ ys)) (sym a.list) (taken-append taken xs ys out a.added k a.are)

    -- ---- joins

    -- what is taken of the pairs of the conjunctions so far
    pub record IsTakenSoFar (ss : List Slot) (xs ys out : List (List A)) (old new : ℕ) : Type 0 where
      pub met : List (List A)
      pub part : IsPart h (pairs xs ys) met
      pub near : AreNearPairs h m l ss xs ys met
      pub are : AreTaken taken h m l met out
      pub count : IsCount met old new

    pub so_far_none : (ss : List Slot) (ys out : List (List A)) (n : ℕ) → out ≡ [] → n < 2 ^ 64 → IsTakenSoFar ss [] ys out n n
    so_far_none ss ys out n e k =
        let none : List (List A) = [] in
        record { met = none; part = part_none h; near = refl; are = subst (AreTaken taken h m l []) (sym e) (taken_nothing taken); count = count_none none n refl k }

    pub so_far_more : (ss : List Slot) (xs ys out next : List (List A)) (c : List A) (added : List (List A)) (old mid new : ℕ) → IsTakenSoFar ss xs ys out old mid → IsPart h (pairs_with c ys) added → ArePicked h m l ss c ys added
        → AreTakenAfter taken h m l added out next → IsCount added mid new → IsTakenSoFar ss (xs ++ c ∷ []) ys next old new
    so_far_more ss xs ys out next c added old mid new r p q k n = record {
      met = r.met ++ added;
      part = subst (λ all. IsPart h all (r.met ++ added)) (sym (pairs-push xs ys c)) (part-append h (pairs xs ys) (pairs_with c ys) r.met added r.part p);
      near = near-push h m l ss xs ys r.met c added r.near q;
      are = taken_next r.met added out next r.are k;
      count = count-append r.met added old mid new r.count n;
    }

    pub so_far_done : (ss : List Slot) (xs ys out : List (List A)) (old new : ℕ) → IsTakenSoFar ss xs ys out old new → IsTakenMeet taken h m l ss xs ys out old new
    so_far_done ss xs ys out old new r = record { met = r.met; is = part_meets h m l xs ys r.met r.part; near = r.near; are = r.are; count = r.count }

  -- ---- where all are taken, and where only those are that aren't found to hold nowhere

  module _ (ss : List Slot) (xs ys out : List (List A)) (old new : ℕ) where
    pub all_are : IsTakenMeet All h m l ss xs ys out old new → IsMeet h m l xs ys out
    all_are r = subst (IsMeet h m l xs ys) (sym r.are) r.is

    pub all_near : IsTakenMeet All h m l ss xs ys out old new → AreNearPairs h m l ss xs ys out
    all_near r = subst (AreNearPairs h m l ss xs ys) (sym r.are) r.near

    pub all_count : IsTakenMeet All h m l ss xs ys out old new → IsCount out old new
    all_count r = subst (λ cs. IsCount cs old new) (sym r.are) r.count

    pub inhabited_are : 0 < length ss → length ys < 2 ^ 32 → IsTakenMeet Inhabited h m l ss xs ys out old new → IsKeptMeet h m l ss xs ys out old new
    inhabited_are some few r = record { met = r.met; is = r.is; near = λ _ _. r.near; whole = no_whole ss xs ys r.met some few; kept = r.are; count = r.count }
