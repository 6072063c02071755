-- The lists of marked views that reach a relation, taken out one after another.
use Rattle.std.proofs.Common.{◌≡◌, ℕ, Bool, true, false, Option, Some, None, List, [], ◌∷◌, ◌++◌, refl, sym, ap, ◌∙◌, subst, true≢false, bytes_eq}
use Rattle.std.specs.List.{AllByRecursion}
use Rattle.std.specs.Option.{option_map}
use Rattle.std.proofs.lemmas.Bool.{false_from_ne_true, or_parts}
use Rattle.ded_model.specs.Catalogue.{Catalogue}
use Rattle.ded_genrel.proofs.Items.{all-push}
use Rattle.ded_algebra.specs.declared.given.GivenRelation.{GivenRelation}
use Rattle.ded_algebra.specs.Given.{given_under, without_name}
use Rattle.ded_database.specs.declared.mark.Mark.{Mark}
use Rattle.ded_views.specs.Reaching.{reaches}
use Rattle.ded_database.specs.Held.{IsHeld, held_under, is_marked}
use Rattle.ded_database.specs.Renewed.{AreLeft, AreTaken, with_taken}
use Rattle.ded_database.proofs.NamesOfMarks.{marked_more, marked_before, marked_other}
use Rattle.ded_database.proofs.Under.{other_left, own_left, all_left_over, has_left, other_more, own_more, unheld, under_named}
use Rattle.ded_model.proofs.Bools.{bytes_eq-refl}
use Rattle.ded_query.proofs.GivenNames.{same_name}

-- a name that reaches the relation isn't one that doesn't
pub other_reach : (c : Catalogue) (n v m : List ℕ) → reaches c v n ≡ false → reaches c m n ≡ true → bytes_eq v m ≡ false
other_reach c n v m r s = false_from_ne_true (bytes_eq v m) (λ e. true≢false (sym s ∙ ap (λ k. reaches c k n) (same_name v m e) ∙ r))

-- ---- what is left

pub left_none : (c : Catalogue) (n : List ℕ) (held : List GivenRelation) → AllByRecursion (IsHeld c) held → AreLeft c n held held
left_none c n held k = record { right = k; others = λ v r. refl; fewer = λ v h. h }

pub left_more : (c : Catalogue) (n m : List ℕ) (old held : List GivenRelation) → reaches c m n ≡ true → AreLeft c n old held → AreLeft c n old (without_name m held)
left_more c n m old held s k = record {
  right = all_left_over (IsHeld c) m held k.right;
  others = λ v r. ap (option_map (λ (x : GivenRelation). x.tuples)) (other_left v m held (other_reach c n v m r s)) ∙ k.others v r;
  fewer = λ v h. k.fewer v (has_left v m held h);
}

-- ---- what is taken

pub taken_none : (c : Catalogue) (n : List ℕ) (held : List GivenRelation) → AllByRecursion (IsHeld c) held → AreTaken c n [] held held []
taken_none c n held k = record {
  left = left_none c n held k;
  aside = tt;
  gone = λ v m r. absurd (true≢false (sym m));
  taken = λ v m r. absurd (true≢false (sym m));
  rest = λ v m. refl;
  apart = λ v m. refl;
}

-- a mark that doesn't reach the relation
pub taken_skip : (c : Catalogue) (n : List ℕ) (done : List Mark) (m : Mark) (old held stale : List GivenRelation) → reaches c m.name n ≡ false → AreTaken c n done old held stale → AreTaken c n (done ++ m ∷ []) old held stale
taken_skip c n done m old held stale s k = record {
  left = k.left;
  aside = k.aside;
  gone = λ v e r. k.gone v (before v e r) r;
  taken = λ v e r. k.taken v (before v e r) r;
  rest = λ v e. k.rest v (unmarked v e);
  apart = λ v e. k.apart v (unmarked v e);
}
  where
    before : (v : List ℕ) → is_marked (done ++ m ∷ []) v ≡ true → reaches c v n ≡ true → is_marked done v ≡ true
    before v e r = marked_before c n done m v s e r

    unmarked : (v : List ℕ) → is_marked (done ++ m ∷ []) v ≡ false → is_marked done v ≡ false
    unmarked v e = (or_parts (is_marked done v) (bytes_eq v m.name) (sym (marked_more done m v) ∙ e)).0

-- the stale lists with one more where one was held
stale_more : (c : Catalogue) (m : List ℕ) (held stale : List GivenRelation) (o : Option GivenRelation) → given_under m held ≡ o → AllByRecursion (IsHeld c) held → AllByRecursion (IsHeld c) stale
    → AllByRecursion (IsHeld c) (with_taken stale o)
stale_more c m held stale None e k l = l
stale_more c m held stale (Some r) e k l = all-push (IsHeld c) stale r l (under_named (IsHeld c) m held r e k).1

stale_own : (c : Catalogue) (m : List ℕ) (held stale : List GivenRelation) (o : Option GivenRelation) → given_under m held ≡ o → AllByRecursion (IsHeld c) held → held_under stale m ≡ None
    → held_under (with_taken stale o) m ≡ option_map (λ (r : GivenRelation). r.tuples) o
stale_own c m held stale None e k l = l
stale_own c m held stale (Some r) e k l =
    ap (option_map (λ (x : GivenRelation). x.tuples)) (own_more m stale r (ap (bytes_eq m) (under_named (IsHeld c) m held r e k).0 ∙ bytes_eq-refl m) (unheld _ l))

stale_other : (c : Catalogue) (m v : List ℕ) (held stale : List GivenRelation) (o : Option GivenRelation) → given_under m held ≡ o → AllByRecursion (IsHeld c) held → bytes_eq v m ≡ false
    → held_under (with_taken stale o) v ≡ held_under stale v
stale_other c m v held stale None e k l = refl
stale_other c m v held stale (Some r) e k l =
    ap (option_map (λ (x : GivenRelation). x.tuples)) (other_more v stale r (ap (bytes_eq v) (under_named (IsHeld c) m held r e k).0 ∙ l))

-- a mark that reaches it
pub taken_more : (c : Catalogue) (n : List ℕ) (done : List Mark) (m : Mark) (old held stale : List GivenRelation) → reaches c m.name n ≡ true → is_marked done m.name ≡ false → AreTaken c n done old held stale
    → AreTaken c n (done ++ m ∷ []) old (without_name m.name held) (with_taken stale (given_under m.name held))
taken_more c n done m old held stale s a k = record {
  left = left_more c n m.name old held s k.left;
  aside = stale_more c m.name held stale (given_under m.name held) refl k.left.right k.aside;
  gone = λ v e r. gone v e r (bytes_eq v m.name) refl;
  taken = λ v e r. taken v e r (bytes_eq v m.name) refl;
  rest = λ v e.
      let parts = or_parts (is_marked done v) (bytes_eq v m.name) (sym (marked_more done m v) ∙ e) in
      ap (option_map (λ (x : GivenRelation). x.tuples)) (other_left v m.name held parts.1) ∙ k.rest v parts.0;
  apart = λ v e.
      let parts = or_parts (is_marked done v) (bytes_eq v m.name) (sym (marked_more done m v) ∙ e) in
      stale_other c m.name v held stale (given_under m.name held) refl k.left.right parts.1 ∙ k.apart v parts.0;
}
  where
    before : (v : List ℕ) → is_marked (done ++ m ∷ []) v ≡ true → bytes_eq v m.name ≡ false → is_marked done v ≡ true
    before v e f = marked_other done m v e f

    gone : (v : List ℕ) → is_marked (done ++ m ∷ []) v ≡ true → reaches c v n ≡ true → (b : Bool) → bytes_eq v m.name ≡ b → held_under (without_name m.name held) v ≡ None
    gone v e r true f = subst (λ j. held_under (without_name m.name held) j ≡ None) (same_name v m.name f) (ap (option_map (λ (x : GivenRelation). x.tuples)) (own_left m.name held))
    gone v e r false f = ap (option_map (λ (x : GivenRelation). x.tuples)) (other_left v m.name held f) ∙ k.gone v (before v e f) r

    taken : (v : List ℕ) → is_marked (done ++ m ∷ []) v ≡ true → reaches c v n ≡ true → (b : Bool) → bytes_eq v m.name ≡ b → held_under (with_taken stale (given_under m.name held)) v ≡ held_under old v
    taken v e r true f = subst (λ j. held_under (with_taken stale (given_under m.name held)) j ≡ held_under old j) (same_name v m.name f)
        (stale_own c m.name held stale (given_under m.name held) refl k.left.right (k.apart m.name a) ∙ k.rest m.name a)
    taken v e r false f = stale_other c m.name v held stale (given_under m.name held) refl k.left.right f ∙ k.taken v (before v e f) r
