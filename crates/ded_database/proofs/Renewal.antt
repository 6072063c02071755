-- The lists of views made anew, one after another.
use Rattle.std.proofs.Common.{◌≡◌, ℕ, Bool, true, false, is_some, Option, Some, List, [], ◌∷◌, ◌++◌, refl, sym, ap, ◌∙◌, subst, true≢false, bytes_eq, append-nil}
use Rattle.std.specs.List.{AllByRecursion}
use Rattle.std.specs.Option.{option_map}
use Rattle.std.proofs.lemmas.Bool.{or_parts}
use Rattle.std.proofs.lemmas.Option.{same_Some, none-some}
use Rattle.ded_model.specs.declared.name.Column.{Column}
use Rattle.ded_model.specs.Row.{Atom}
use Rattle.ded_model.specs.Catalogue.{Catalogue, view}
use Rattle.ded_model.specs.Entries.{entry_of}
use Rattle.ded_model.specs.Form.{Form}
use Rattle.ded_model.specs.Known.{IsWellFormed}
use Rattle.ded_model.specs.Measure.{Measure, measures, IsTight}
use Rattle.ded_genrel.proofs.Items.{all-push}
use Rattle.ded_algebra.specs.declared.given.GivenRelation.{GivenRelation}
use Rattle.ded_algebra.specs.Given.{without_name, has_name}
use Rattle.ded_algebra.proofs.Taken.{none_under}
use Rattle.ded_database.specs.declared.mark.Mark.{Mark}
use Rattle.ded_database.specs.Marks.{IsOnceIn}
use Rattle.ded_views.specs.Reaching.{reaches}
use Rattle.ded_views.proofs.Views.{name_measure}
use Rattle.ded_query.specs.Gathering.{IsGivenAs, IsViewOf}
use Rattle.ded_database.specs.Held.{IsHeld, held_under, is_marked}
use Rattle.ded_database.specs.Renewed.{IsRenewed, AreRenewed}
use Rattle.ded_database.specs.Upkeep.{IsTightView, IsLonger}
use Rattle.ded_database.proofs.NamesOfMarks.{marked_more, marked_before, marked_other}
use Rattle.ded_database.proofs.Removal.{other_reach}
use Rattle.ded_database.proofs.Under.{other_left, all_left_over, other_more, own_more, unnamed}
use Rattle.ded_query.proofs.Gathered.{front_none, front_more}
use Rattle.ded_model.proofs.Bools.{bytes_eq-refl}
use Rattle.ded_query.proofs.GivenNames.{same_name}

-- ---- the front

-- ---- of one view

module _ (c d : Catalogue) (n v : List ℕ) (t : Option (List Atom)) (list : Option (List (List Atom))) (held : List GivenRelation) (right : AllByRecursion (IsHeld d) held) (new : has_name v held ≡ false) where
  -- its list is made
  pub renewed_made : (r : GivenRelation) (ts : List (List Atom)) (now : List GivenRelation) → now ≡ held ++ r ∷ [] → IsGivenAs d v r × (r.tuples ≡ ts) → IsViewOf d v ts
      → ((us : List (List Atom)) → is_some t ≡ true → IsOnceIn c v n → list ≡ Some us → IsLonger us ts) → IsRenewed c d n v t list held now
  renewed_made r ts now e g k longer = record {
    front = record { more = r ∷ []; is = e };
    right = subst (AllByRecursion (IsHeld d)) (sym e)
        (all-push (IsHeld d) held r right (record { given = g.0.of; view = subst (λ m. IsViewOf d m r.tuples) (sym g.0.name) (subst (IsViewOf d v) (sym g.1) k) }));
    others = λ w f. ap (λ l. held_under l w) e ∙ ap (option_map (λ (x : GivenRelation). x.tuples)) (other_more w held r (ap (bytes_eq w) g.0.name ∙ f));
    tight = λ i. ap is_some under;
    longer = λ us ws a b f h. subst (IsLonger us) (sym g.1 ∙ same_Some r.tuples ws (sym under ∙ h)) (longer us a b f);
  }
    where
      under : held_under now v ≡ Some r.tuples
      under = ap (λ l. held_under l v) e ∙ ap (option_map (λ (x : GivenRelation). x.tuples)) (own_more v held r (ap (bytes_eq v) g.0.name ∙ bytes_eq-refl v) (none_under v held new))

  -- its list is too wide
  pub renewed_wide : (now : List GivenRelation) → now ≡ held → (IsTightView d v → ⊥) → IsRenewed c d n v t list held now
  renewed_wide now e wide = record {
    front = record { more = []; is = e ∙ sym (append-nil held) };
    right = subst (AllByRecursion (IsHeld d)) (sym e) right;
    others = λ w f. ap (λ l. held_under l w) e;
    tight = λ i. absurd (wide i);
    longer = λ us ws a b f h. absurd (none-some ws (sym (unnamed v held new) ∙ sym (ap (λ l. held_under l v) e) ∙ h));
  }

-- a tight view doesn't clash
pub tight_clash : (d : Catalogue) (v own : List ℕ) (h : List Column) (f : Form) → IsWellFormed d → entry_of d.entries v ≡ Some (view own h f) → (measures d v).clash ≡ true → IsTightView d v → ⊥
unfolding IsTight measures
tight_clash d v own h f w e k t = true≢false (sym k ∙ ap (λ (m : Measure). m.clash) (name_measure d w v (view own h f) e) ∙ t own h f e)

-- ---- of one after another

module _ (c d : Catalogue) (n : List ℕ) (t : Option (List Atom)) (stale held : List GivenRelation) where
  pub all_none : AllByRecursion (IsHeld d) held → AllByRecursion (IsHeld c) stale → AreRenewed c d n [] t stale stale held held
  all_none k l = record {
    front = front_none held;
    right = k;
    aside = l;
    waiting = λ v m. refl;
    rest = λ v m. refl;
    others = λ v r. refl;
    tight = λ v m r i. absurd (true≢false (sym m));
    longer = λ v ts us a m r b e f. absurd (true≢false (sym m));
  }

  -- a mark that doesn't reach the relation
  pub all_skip : (done : List Mark) (m : Mark) (left now : List GivenRelation) → reaches c m.name n ≡ false → AreRenewed c d n done t stale left held now → AreRenewed c d n (done ++ m ∷ []) t stale left held now
  all_skip done m left now s k = record {
    front = k.front;
    right = k.right;
    aside = k.aside;
    waiting = λ v e. k.waiting v (unmarked v e);
    rest = λ v e. k.rest v (unmarked v e);
    others = k.others;
    tight = λ v e r i. k.tight v (before v e r) r i;
    longer = λ v ts us a e r b f g. k.longer v ts us a (before v e r) r b f g;
  }
    where
      before : (v : List ℕ) → is_marked (done ++ m ∷ []) v ≡ true → reaches c v n ≡ true → is_marked done v ≡ true
      before v e r = marked_before c n done m v s e r

      unmarked : (v : List ℕ) → is_marked (done ++ m ∷ []) v ≡ false → is_marked done v ≡ false
      unmarked v e = (or_parts (is_marked done v) (bytes_eq v m.name) (sym (marked_more done m v) ∙ e)).0

  -- one that reaches it
  pub all_more : (done : List Mark) (m : Mark) (left now new : List GivenRelation) → reaches c m.name n ≡ true → is_marked done m.name ≡ false → AreRenewed c d n done t stale left held now
      → IsRenewed c d n m.name t (held_under left m.name) now new → AreRenewed c d n (done ++ m ∷ []) t stale (without_name m.name left) held new
  all_more done m left now new s a k x = record {
    front = front_more held now new k.front x.front;
    right = x.right;
    aside = all_left_over (IsHeld c) m.name left k.aside;
    waiting = λ v e.
        let parts = or_parts (is_marked done v) (bytes_eq v m.name) (sym (marked_more done m v) ∙ e) in
        ap (option_map (λ (y : GivenRelation). y.tuples)) (other_left v m.name left parts.1) ∙ k.waiting v parts.0;
    rest = λ v e.
        let parts = or_parts (is_marked done v) (bytes_eq v m.name) (sym (marked_more done m v) ∙ e) in
        x.others v parts.1 ∙ k.rest v parts.0;
    others = λ v r. x.others v (other_reach c n v m.name r s) ∙ k.others v r;
    tight = λ v e r i. tight v e r i (bytes_eq v m.name) refl;
    longer = λ v ts us b e r o f g. longer v ts us b e r o f g (bytes_eq v m.name) refl;
  }
    where
      before : (v : List ℕ) → is_marked (done ++ m ∷ []) v ≡ true → bytes_eq v m.name ≡ false → is_marked done v ≡ true
      before v e f = marked_other done m v e f

      tight : (v : List ℕ) → is_marked (done ++ m ∷ []) v ≡ true → reaches c v n ≡ true → IsTightView d v → (b : Bool) → bytes_eq v m.name ≡ b → is_some (held_under new v) ≡ true
      tight v e r i true f = subst (λ j. is_some (held_under new j) ≡ true) (same_name v m.name f) (x.tight (subst (IsTightView d) (sym (same_name v m.name f)) i))
      tight v e r i false f = ap is_some (x.others v f) ∙ k.tight v (before v e f) r i

      longer : (v : List ℕ) (ts us : List (List Atom)) → is_some t ≡ true → is_marked (done ++ m ∷ []) v ≡ true → reaches c v n ≡ true → IsOnceIn c v n → held_under stale v ≡ Some ts → held_under new v ≡ Some us
          → (b : Bool) → bytes_eq v m.name ≡ b → IsLonger ts us
      longer v ts us b e r o p q true f =
          let same = sym (same_name v m.name f) in
          x.longer ts us b (subst (λ j. IsOnceIn c j n) same o) (k.waiting m.name a ∙ subst (λ j. held_under stale j ≡ Some ts) same p) (subst (λ j. held_under new j ≡ Some us) same q)
      longer v ts us b e r o p q false f = k.longer v ts us b (before v e f) r o p (sym (x.others v f) ∙ q)
