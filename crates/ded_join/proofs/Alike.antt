-- Conjunctions without atoms that others of theirs imply, and lists without conjunctions that lie within others, hold alike, are no
-- longer and are inhabited where they were.
use Rattle.std.proofs.Common.{◌≡◌, ◌≤◌, ℕ, ◌+◌, take, Bool, true, false, ◌&&◌, ◌||◌, IsTrue, List, [], ◌∷◌, ◌++◌, length, inl, inr, arith, refl, sym, ap, ◌∙◌, subst}
use Rattle.std.proofs.lemmas.List.{length-append}
use Rattle.ded_model.specs.declared.slot.Slot.{Slot}
use Rattle.ded_model.specs.Point.{Point}
use Rattle.ded_model.specs.Cell.{conj_holds, HoldsSomewhere}
use Rattle.ded_model.specs.Lines.{Line, IsSubset}
use Rattle.ded_model.proofs.Rows.{or_left, or_right}
use Rattle.ded_model.proofs.Members.{In-left, subset_append, subset_refl, subset_trans, or_split}
use Rattle.ded_theory.specs.Conjunctions.{conj_mentions}
use Rattle.ded_theory.proofs.Conjunctions.{conj_holds-append}
use Rattle.ded_genrel.specs.Lists.{conjs_hold, conjs_mention, conjs_lines}
use Rattle.ded_genrel.specs.Operations.{IsMeet}
use Rattle.ded_genrel.proofs.Items.{all-push}
use Rattle.ded_genrel.proofs.Laws.{conjs_hold-append, conjs_mention-append, conjs_lines-append}
use Rattle.ded_complement.specs.Pieces.{IsAlike}
use Rattle.ded_complement.proofs.PieceLaws.{among_front, among_both, among_self, among_trans, all_among_slots, all_among_lines, all_left, all_right}
use Rattle.ded_join.specs.Merged.{IsWithin, IsWithinList, AreAlike, AllInhabited, IsCondensed, AreLeft}
use Rattle.std.proofs.Math.Bool.{or-false}
use Rattle.ded_num.proofs.Tests.{or_swap}
use Rattle.ded_model.proofs.Bools.{or_known}

-- ---- tests

and_within : (a b : Bool) → (a ≡ true → b ≡ true) → a ≡ (a && b)
and_within true b k = sym (k refl)
and_within false b k = refl

or_absorbed : (d a c : Bool) → (d ≡ true → c ≡ true) → ((a || d) || c) ≡ (a || c)
or_absorbed true true c k = refl
or_absorbed true false c k = sym (k refl)
or_absorbed false true c k = refl
or_absorbed false false c k = refl

module _ {A : Type 0} (h : A → Point → Bool) where
  -- ---- conjunctions

  pub alike_none : IsAlike h [] []
  alike_none = record { holds = λ p i. refl; among = tt }

  -- an atom that the others imply
  pub alike_implied : (c : List A) (a : A) → IsWithin h c (a ∷ []) → IsAlike h (c ++ a ∷ []) c
  alike_implied c a k = record {
    holds = λ p i. and_within (conj_holds h c p) (conj_holds h (a ∷ []) p) (k p i) ∙ sym (conj_holds-append h c (a ∷ []) p);
    among = among_front c (a ∷ []) c (among_self c);
  }

  -- one more atom
  pub alike_more : (done kept new : List A) (a : A) → IsAlike h done kept → IsAlike h (kept ++ a ∷ []) new → IsAlike h (done ++ a ∷ []) new
  alike_more done kept new a r q = record {
    holds = λ p i. q.holds p i ∙ conj_holds-append h kept (a ∷ []) p ∙ ap (λ b. b && conj_holds h (a ∷ []) p) (r.holds p i) ∙ sym (conj_holds-append h done (a ∷ []) p);
    among = among_trans (done ++ a ∷ []) (kept ++ a ∷ []) new (among_both done (a ∷ []) kept (a ∷ []) r.among (among_self (a ∷ []))) q.among;
  }

  -- a conjunction lies within one more atom
  pub within_more : (c d : List A) (i : ℕ) (a : A) → take (i + 1) d ≡ take i d ++ a ∷ [] → IsWithin h c (take i d) → IsWithin h c (a ∷ []) → IsWithin h c (take (i + 1) d)
  within_more c d i a e k n p q x = ap (λ xs. conj_holds h xs p) e ∙ conj_holds-append h (take i d) (a ∷ []) p ∙ both (conj_holds h (take i d) p) (conj_holds h (a ∷ []) p) (k p q x) (n p q x)
    where
      both : (b c : Bool) → b ≡ true → c ≡ true → (b && c) ≡ true
      both b c e f = ap (λ x. x && c) e ∙ f

-- ---- lengths and inhabited conjunctions

-- one more at the end of a list that is no longer
longer_by_one : {A : Type 0} (xs ys : List A) (x y : A) → length ys ≤ length xs → length (ys ++ y ∷ []) ≤ length (xs ++ x ∷ [])
longer_by_one xs ys x y k = omega (arith, k, length-append xs (x ∷ []), length-append ys (y ∷ []))

no_longer_front : {A : Type 0} (xs ys : List A) (x : A) → length ys ≤ length xs → length ys ≤ length (xs ++ x ∷ [])
no_longer_front xs ys x k = omega (arith, k, length-append xs (x ∷ []))

at_most_trans : (a b c : ℕ) → a ≤ b → b ≤ c → a ≤ c
at_most_trans a b c i j = omega (arith, i, j)

module _ {A : Type 0} (h : A → Point → Bool) where
  inhabited_front : (cs : List (List A)) (c : List A) → AllInhabited h (cs ++ c ∷ []) → AllInhabited h cs
  inhabited_front cs c = all_left (λ d. HoldsSomewhere (conj_holds h d)) cs (c ∷ [])

  inhabited_last : (cs : List (List A)) (c : List A) → AllInhabited h (cs ++ c ∷ []) → HoldsSomewhere (conj_holds h c)
  inhabited_last cs c k = (all_right (λ d. HoldsSomewhere (conj_holds h d)) cs (c ∷ []) k).0

  inhabited_push : (cs : List (List A)) (c : List A) → AllInhabited h cs → HoldsSomewhere (conj_holds h c) → AllInhabited h (cs ++ c ∷ [])
  inhabited_push cs c = all-push (λ d. HoldsSomewhere (conj_holds h d)) cs c

  inhabited_alike : (c d : List A) → IsAlike h c d → HoldsSomewhere (conj_holds h c) → HoldsSomewhere (conj_holds h d)
  inhabited_alike c d k w = (w.0, w.1, subst IsTrue (sym (k.holds w.0 w.1)) w.2)

module _ {A : Type 0} (h : A → Point → Bool) (m : A → Slot → Bool) (l : A → List Line) where
  -- ---- slots and lines of two lists

  all_mention_grow : (xs ys us vs : List (List A)) → ((s : Slot) → conjs_mention m xs s ≡ true → conjs_mention m us s ≡ true) → ((s : Slot) → conjs_mention m ys s ≡ true → conjs_mention m vs s ≡ true)
      → (s : Slot) → conjs_mention m (xs ++ ys) s ≡ true → conjs_mention m (us ++ vs) s ≡ true
  all_mention_grow xs ys us vs f g s e = conjs_mention-append m us vs s ∙ elim (or_split (conjs_mention m xs s) (conjs_mention m ys s) (sym (conjs_mention-append m xs ys s) ∙ e)) [
    | inl a ↦ or_left (conjs_mention m us s) (conjs_mention m vs s) (f s a)
    | inr b ↦ or_right (conjs_mention m us s) (conjs_mention m vs s) (g s b)
  ]

  all_lines_grow : (xs ys us vs : List (List A)) → IsSubset (conjs_lines l xs) (conjs_lines l us) → IsSubset (conjs_lines l ys) (conjs_lines l vs) → IsSubset (conjs_lines l (xs ++ ys)) (conjs_lines l (us ++ vs))
  all_lines_grow xs ys us vs f g = subst (λ ls. IsSubset ls (conjs_lines l (us ++ vs))) (sym (conjs_lines-append l xs ys)) (subst (IsSubset (conjs_lines l xs ++ conjs_lines l ys)) (sym (conjs_lines-append l us vs))
      (subset_append (conjs_lines l xs) (conjs_lines l ys) (conjs_lines l us) (conjs_lines l vs) f g))

  -- the same, where the second list stands at the end
  mentions_front : (xs us vs : List (List A)) → ((s : Slot) → conjs_mention m xs s ≡ true → conjs_mention m us s ≡ true) → (s : Slot) → conjs_mention m xs s ≡ true → conjs_mention m (us ++ vs) s ≡ true
  mentions_front xs us vs f s e = conjs_mention-append m us vs s ∙ or_left (conjs_mention m us s) (conjs_mention m vs s) (f s e)

  lines_front : (xs us vs : List (List A)) → IsSubset (conjs_lines l xs) (conjs_lines l us) → IsSubset (conjs_lines l xs) (conjs_lines l (us ++ vs))
  lines_front xs us vs f = subst (IsSubset (conjs_lines l xs)) (sym (conjs_lines-append l us vs)) (λ x i. In-left x (conjs_lines l us) (conjs_lines l vs) (f x i))

  -- ---- lists

  pub list_none : IsCondensed h m l [] []
  list_none = record { alike = record { holds = λ p i. refl; slots = λ s e. e; lines = λ x i. i }; no_more = omega arith; inhabited = λ k. k }

  -- one more conjunction, and what is alike
  alike_list : (done out new : List (List A)) (c d : List A) → AreAlike h m l done out → IsAlike h c d → AreAlike h m l (out ++ d ∷ []) new → AreAlike h m l (done ++ c ∷ []) new
  alike_list done out new c d r k q = record {
    holds = λ p i. q.holds p i ∙ conjs_hold-append h out (d ∷ []) p ∙ ap (λ b. b || conjs_hold h (d ∷ []) p) (r.holds p i) ∙ ap (λ b. conjs_hold h done p || (b || false)) (k.holds p i) ∙ sym (conjs_hold-append h done (c ∷ []) p);
    slots = λ s e. all_mention_grow out (d ∷ []) done (c ∷ []) r.slots (λ t f. elim (or_split (conj_mentions m d t) false f) [
      | inl a ↦ or_left (conj_mentions m c t) false (all_among_slots m c d t k.among a)
      | inr b ↦ or_right (conj_mentions m c t) false b
    ]) s (q.slots s e);
    lines = subset_trans _ _ _ q.lines (all_lines_grow out (d ∷ []) done (c ∷ []) r.lines (subset_append _ [] _ [] (all_among_lines l c d k.among) (subset_refl [])));
  }

  pub list_more : (done out new : List (List A)) (c d : List A) → IsCondensed h m l done out → IsAlike h c d → IsCondensed h m l (out ++ d ∷ []) new → IsCondensed h m l (done ++ c ∷ []) new
  list_more done out new c d r k q = record {
    alike = alike_list done out new c d r.alike k q.alike;
    no_more = at_most_trans (length new) (length (out ++ d ∷ [])) (length (done ++ c ∷ [])) q.no_more (longer_by_one done out c d r.no_more);
    inhabited = λ all. q.inhabited (inhabited_push h out d (r.inhabited (inhabited_front h done c all)) (inhabited_alike h c d k (inhabited_last h done c all)));
  }

  -- one that lies within the others
  alike_within : (cs : List (List A)) (c : List A) → IsWithinList h c cs → AreAlike h m l (cs ++ c ∷ []) cs
  alike_within cs c k = record {
    holds = λ p i. or_known (conjs_hold h cs p) (conjs_hold h (c ∷ []) p) (λ e. k p i (sym (or-false (conj_holds h c p)) ∙ e)) ∙ sym (conjs_hold-append h cs (c ∷ []) p);
    slots = mentions_front cs cs (c ∷ []) (λ s e. e);
    lines = lines_front cs cs (c ∷ []) (subset_refl _);
  }

  pub list_within : (cs : List (List A)) (c : List A) → IsWithinList h c cs → IsCondensed h m l (cs ++ c ∷ []) cs
  list_within cs c k = record { alike = alike_within cs c k; no_more = no_longer_front cs cs c (omega arith); inhabited = inhabited_front h cs c }

  -- ---- what is left beside a conjunction

  pub left_none : (c : List A) → AreLeft h m l c [] []
  left_none c = record { holds = λ p i. refl; slots = λ s e. e; lines = λ x i. i; no_more = omega arith; inhabited = λ k. k }

  pub left_kept : (c : List A) (cs ds : List (List A)) (d : List A) → AreLeft h m l c cs ds → AreLeft h m l c (cs ++ d ∷ []) (ds ++ d ∷ [])
  left_kept c cs ds d r = record {
    holds = λ p i. ap (λ b. b || conj_holds h c p) (conjs_hold-append h ds (d ∷ []) p) ∙ or_swap (conjs_hold h ds p) (conjs_hold h (d ∷ []) p) (conj_holds h c p) ∙ ap (λ b. b || conjs_hold h (d ∷ []) p) (r.holds p i)
        ∙ sym (or_swap (conjs_hold h cs p) (conjs_hold h (d ∷ []) p) (conj_holds h c p)) ∙ ap (λ b. b || conj_holds h c p) (sym (conjs_hold-append h cs (d ∷ []) p));
    slots = all_mention_grow ds (d ∷ []) cs (d ∷ []) r.slots (λ s e. e);
    lines = all_lines_grow ds (d ∷ []) cs (d ∷ []) r.lines (subset_refl _);
    no_more = longer_by_one cs ds d d r.no_more;
    inhabited = λ all. inhabited_push h ds d (r.inhabited (inhabited_front h cs d all)) (inhabited_last h cs d all);
  }

  pub left_dropped : (c : List A) (cs ds : List (List A)) (d : List A) → IsWithin h d c → AreLeft h m l c cs ds → AreLeft h m l c (cs ++ d ∷ []) ds
  left_dropped c cs ds d k r = record {
    holds = λ p i. r.holds p i ∙ sym (or_absorbed (conjs_hold h (d ∷ []) p) (conjs_hold h cs p) (conj_holds h c p) (λ e. k p i (sym (or-false (conj_holds h d p)) ∙ e))) ∙ ap (λ b. b || conj_holds h c p) (sym (conjs_hold-append h cs (d ∷ []) p));
    slots = mentions_front ds cs (d ∷ []) r.slots;
    lines = lines_front ds cs (d ∷ []) r.lines;
    no_more = no_longer_front cs ds d r.no_more;
    inhabited = λ all. r.inhabited (inhabited_front h cs d all);
  }

  -- with the conjunction itself
  alike_with : (c : List A) (cs ds : List (List A)) → AreLeft h m l c cs ds → AreAlike h m l (cs ++ c ∷ []) (ds ++ c ∷ [])
  alike_with c cs ds r = record {
    holds = λ p i. conjs_hold-append h ds (c ∷ []) p ∙ with_one (conjs_hold h ds p) (conjs_hold h cs p) (conj_holds h c p) (r.holds p i) ∙ sym (conjs_hold-append h cs (c ∷ []) p);
    slots = all_mention_grow ds (c ∷ []) cs (c ∷ []) r.slots (λ s k. k);
    lines = all_lines_grow ds (c ∷ []) cs (c ∷ []) r.lines (subset_refl _);
  }
    where
      with_one : (a b c : Bool) → (a || c) ≡ (b || c) → (a || (c || false)) ≡ (b || (c || false))
      with_one a b true e = e
      with_one a b false e = e

  pub left_with : (c : List A) (cs ds new : List (List A)) → new ≡ ds ++ c ∷ [] → AreLeft h m l c cs ds → IsCondensed h m l (cs ++ c ∷ []) new
  left_with c cs ds new e r = subst (IsCondensed h m l (cs ++ c ∷ [])) (sym e) (record {
    alike = alike_with c cs ds r;
    no_more = longer_by_one cs ds c c r.no_more;
    inhabited = λ all. inhabited_push h ds c (r.inhabited (inhabited_front h cs c all)) (inhabited_last h cs c all);
  })

  -- ---- meets

  pub meet_alike : (xs ys out new : List (List A)) → IsMeet h m l xs ys out → AreAlike h m l out new → IsMeet h m l xs ys new
  meet_alike xs ys out new r q = record {
    holds = λ p i. q.holds p i ∙ r.holds p i;
    slots = λ s e. r.slots s (q.slots s e);
    lines = subset_trans _ _ _ q.lines r.lines;
  }
