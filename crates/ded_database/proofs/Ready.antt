-- The lists made anew, before a relation is changed and after it.
use Rattle.std.proofs.Common.{◌≡◌, ℕ, Bool, true, false, not, is_some, length, take, Option, Some, Result, Ok, Err, List, [], refl, sym, ap, ◌∙◌, subst, true≢false, append-nil}
use Rattle.std.specs.Prelude.{OnErr}
use Rattle.std.specs.List.{AllByRecursion}
use Rattle.std.proofs.lemmas.Bool.{false_from_ne_true}
use Rattle.std.proofs.lemmas.Option.{same_Some}
use Rattle.ded_model.specs.Row.{Atom}
use Rattle.ded_model.specs.Catalogue.{Catalogue}
use Rattle.ded_genrel.proofs.Items.{all_weaker}
use Rattle.ded_algebra.specs.declared.given.GivenRelation.{GivenRelation}
use Rattle.ded_algebra.specs.Given.{has_name}
use Rattle.ded_database.specs.declared.mark.Mark.{Mark}
use Rattle.ded_database.specs.Marks.{IsMark, IsOnceIn}
use Rattle.ded_views.specs.Reaching.{reaches}
use Rattle.ded_database.specs.Held.{IsHeld, IsUpheld, held_under, is_marked}
use Rattle.ded_database.specs.Renewed.{AreLeft, AreTaken, AreRenewed}
use Rattle.ded_database.specs.Upkeep.{LeavesOthers, IsLonger, IsReady}
use Rattle.ded_database.proofs.ListsStaying.{HasOthers, others_stay, all_stay}
use Rattle.ded_database.proofs.Under.{nameless, unnamed, named, each_named, named_each}
use Rattle.ded_query.proofs.Gathered.{front_kept}

-- what is so anyway is so where there is an error
pub on_err_always : {A E : Type 0} (P : Type 0) (r : Result A E) → P → OnErr r P
on_err_always P (Ok a) p = tt
on_err_always P (Err e) p = p

-- a name that is held alike is there alike
there_alike : (v : List ℕ) (rs ss : List GivenRelation) → held_under rs v ≡ held_under ss v → has_name v rs ≡ true → has_name v ss ≡ true
there_alike v rs ss e h = by (has_name v ss) refl
  where
    by : (b : Bool) → has_name v ss ≡ b → has_name v ss ≡ true
    by true f = f
    by false f = absurd (true≢false (sym h ∙ nameless v rs (e ∙ unnamed v ss f)))

module _ (c : Catalogue) (n : List ℕ) (ms : List Mark) (old : List GivenRelation) (u : IsUpheld c ms old) where
  marked_left : (held : List GivenRelation) → AreLeft c n old held → (v : List ℕ) → has_name v held ≡ true → is_marked ms v ≡ true
  marked_left held k v h = named_each (λ j. is_marked ms j ≡ true) old v u.marked (k.fewer v h)

  -- what is left is right over the catalogue before
  pub upheld_left : (held : List GivenRelation) → AreLeft c n old held → IsUpheld c ms held
  upheld_left held k = record { marks = u.marks; apart = u.apart; held = k.right; marked = each_named (λ v. is_marked ms v ≡ true) held (marked_left held k) }

  module _ (held stale : List GivenRelation) (k : AreTaken c n ms old held stale) where
    -- none is left that reaches the relation
    unreached : (v : List ℕ) → has_name v held ≡ true → reaches c v n ≡ false
    unreached v h = false_from_ne_true (reaches c v n) (λ r. true≢false (sym h ∙ nameless v held (k.gone v (marked_left held k.left v h) r)))

    -- so what is left is right over the catalogue after too
    pub held_after : (d : Catalogue) → HasOthers c d n → AllByRecursion (IsHeld d) held
    held_after d x =
        all_stay c d x.formed_before x.formed_after (λ m. not (reaches c m n)) (others_stay c d n x) held (each_named (λ v. not (reaches c v n) ≡ true) held (λ v h. ap not (unreached v h))) k.left.right

    pub ready : (d : Catalogue) (t : Option (List Atom)) (left new : List GivenRelation) (count : ℕ) → count ≡ length held → AreRenewed c d n ms t stale left held new → IsReady c d n t ms old new count
    ready d t left new count is r = record {
      marked = each_named (λ v. is_marked ms v ≡ true) new marked;
      right = r.right;
      kept = record { tight = r.tight; others = λ v s. r.others v s ∙ k.left.others v s };
      adds = λ s v ts us o p q. longer s v ts us o p q (reaches c v n) refl;
      others = subst (IsUpheld c ms) (sym same) (upheld_left held k.left);
      left = subst (LeavesOthers c n old) (sym same) k.left.others;
    }
      where
        same : take count new ≡ held
        same = ap (λ i. take i new) is ∙ front_kept held new r.front

        marked : (v : List ℕ) → has_name v new ≡ true → is_marked ms v ≡ true
        marked v h = by (is_marked ms v) refl
          where
            by : (b : Bool) → is_marked ms v ≡ b → is_marked ms v ≡ true
            by true e = e
            by false e = marked_left held k.left v (there_alike v new held (r.rest v e) h)

        longer : is_some t ≡ true → (v : List ℕ) (ts us : List (List Atom)) → IsOnceIn c v n → held_under old v ≡ Some ts → held_under new v ≡ Some us → (b : Bool) → reaches c v n ≡ b → IsLonger ts us
        longer s v ts us o p q true e =
            let m = named_each (λ j. is_marked ms j ≡ true) old v u.marked (named v old ts p) in
            r.longer v ts us s m e o (k.taken v m e ∙ p) q
        longer s v ts us o p q false e = record { more = []; is = same_Some us ts (sym q ∙ r.others v e ∙ k.left.others v e ∙ p) ∙ sym (append-nil ts) }

-- over the catalogue after the change
pub upheld_after : (c d : Catalogue) (n : List ℕ) (t : Option (List Atom)) (ms : List Mark) (old new : List GivenRelation) (count : ℕ) → ((m : Mark) → IsMark c m → IsMark d m) → IsUpheld c ms old → IsReady c d n t ms old new count
    → IsUpheld d ms new
upheld_after c d n t ms old new count lasting u r = record { marks = all_weaker (IsMark c) (IsMark d) ms lasting u.marks; apart = u.apart; held = r.right; marked = r.marked }
