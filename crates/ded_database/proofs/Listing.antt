-- The list that is held of a view, and what it says.
use Rattle.std.proofs.Common.{◌≡◌, ℕ, Bool, true, false, ◌||◌, ◌⊎◌, inl, inr, is_some, Option, Some, None, Result, Ok, Err, cond, map, List, [], ◌∷◌, ◌++◌, length, refl, sym, ap, ◌∙◌, subst, true≢false, bytes_eq}
use Rattle.std.specs.Prelude.{◌↔◌, IsTrue, IfSome, OnOk, OnErr}
use Rattle.std.proofs.Math.Bool.{or-false}
use Rattle.std.specs.List.{AllByRecursion}
use Rattle.std.specs.Option.{option_map}
use Rattle.ded_model.specs.Row.{Atom, tuples_hold}
use Rattle.ded_model.specs.Catalogue.{Entry, Catalogue, relation, view, tuples_of, at_slots, at_names, Holds}
use Rattle.ded_model.specs.Entries.{known, entry_of, relation_in, view_in, columns_in}
use Rattle.ded_model.proofs.Rows.{or_left, or_right}
use Rattle.ded_model.specs.Known.{IsWellFormed, IsTupleOver}
use Rattle.ded_model.specs.Lines.{IsSubset, tuples_lines}
use Rattle.ded_model.specs.Measure.{measures, goal_lines}
use Rattle.ded_model.proofs.Members.{or_split}
use Rattle.ded_sorts.specs.Causes.{is_view_with}
use Rattle.ded_sorts.proofs.KnownEntries.{columns_there, view_there}
use Rattle.ded_algebra.specs.declared.given.GivenRelation.{GivenRelation}
use Rattle.ded_algebra.specs.Evaluation.{given_tuples}
use Rattle.ded_algebra.specs.Given.{given_entry, given_catalogue, given_under, has_name}
use Rattle.ded_query.proofs.Arguments.{byte_arguments, arguments_long}
use Rattle.ded_model.proofs.Made.{plain_base}
use Rattle.ded_algebra.proofs.Taken.{none_under}
use Rattle.ded_views.proofs.Views.{view_means, plain_there}
use Rattle.ded_database.specs.declared.mark.Mark.{Mark}
use Rattle.ded_database.specs.Held.{IsHeld, IsListOf, held_under, is_marked}
use Rattle.ded_database.specs.Upkeep.{IsTightView}
use Rattle.ded_database.proofs.Renewal.{tight_clash}
use Rattle.ded_database.proofs.Under.{named_each, under_named, other_more, own_more, nameless, unnamed}
use Rattle.ded_database.specs.Keeping.{IsMarkedWith, IsListedWith}
use Rattle.ded_model.proofs.Bools.{bytes_eq-refl}
use Rattle.ded_algebra.proofs.Names.{tuples-unnumbered}
use Rattle.ded_query.proofs.GivenNames.{same_name}

-- what is held of a view holds exactly where the view's formula does
pub list_of : (c : Catalogue) → IsWellFormed c → (r : GivenRelation) → IsHeld c r → IsListOf c r.name r.tuples
list_of c w r k =
    let v = k.view.view in
    let plain = plain_base r.name (plain_there c w r.name (view v.own v.columns v.formula) v.entry) in
    let same : v.columns ≡ r.heading = sym (columns_there c r.name (view v.own v.columns v.formula) w v.entry) ∙ ap (columns_in c) (sym plain) ∙ k.given.columns in
    record {
      own = v.own;
      columns = v.columns;
      formula = v.formula;
      entry = v.entry;
      over = subst (λ h. AllByRecursion (IsTupleOver h) r.tuples) (sym same) k.given.over;
      holds = λ d xs i a.
          let given = k.given.means d xs i (byte_arguments v.columns xs a) (arguments_long v.columns xs a ∙ ap length same) in
          let means = view_means c w r.name v.own v.columns v.formula v.entry d xs in
          subst (λ h. IsTrue (tuples_hold r.tuples (record { den = d; coords = at_slots 0 h xs })) ↔ Holds c v.formula (record { den = d; coords = at_names v.columns xs })) (sym same)
          (λ s. means.0 (given.1 s), λ s. given.0 (means.1 s));
      lines = subst (λ g. IsSubset (tuples_lines r.tuples) (goal_lines (measures c) g)) v.goal k.view.evaluated.lines;
    }

-- of what is held under the name
pub listed : (c : Catalogue) → IsWellFormed c → (n : List ℕ) (rs : List GivenRelation) (o : Option (List (List Atom))) → o ≡ held_under rs n → AllByRecursion (IsHeld c) rs → IfSome o (IsListOf c n)
listed c w n rs o e k = subst (λ x. IfSome x (IsListOf c n)) (sym e) (by (given_under n rs) refl)
  where
    by : (g : Option GivenRelation) → given_under n rs ≡ g → IfSome (option_map (λ (r : GivenRelation). r.tuples) g) (IsListOf c n)
    by None f = tt
    by (Some r) f = let found = under_named (IsHeld c) n rs r f k in subst (λ m. IsListOf c m r.tuples) found.0 (list_of c w r found.1)

-- and its view is marked
pub marked_held : (n : List ℕ) (ms : List Mark) (rs : List GivenRelation) (o : Option (List (List Atom))) → o ≡ held_under rs n → AllByRecursion (λ (r : GivenRelation). is_marked ms r.name ≡ true) rs
    → IfSome o (λ ts. is_marked ms n ≡ true)
marked_held n ms rs o e k = subst (λ x. IfSome x (λ ts. is_marked ms n ≡ true)) (sym e) (by (given_under n rs) refl)
  where
    by : (g : Option GivenRelation) → given_under n rs ≡ g → IfSome (option_map (λ (r : GivenRelation). r.tuples) g) (λ ts. is_marked ms n ≡ true)
    by None f = tt
    by (Some r) f = let found = under_named (λ (x : GivenRelation). is_marked ms x.name ≡ true) n rs r f k in subst (λ m. is_marked ms m ≡ true) found.0 found.1

-- ---- a list more

-- a view isn't tight where it clashes
pub clash_untight : (c : Catalogue) → IsWellFormed c → (n : List ℕ) → is_view_with (known c n) ≡ true → (measures c n).clash ≡ true → IsTightView c n → ⊥
clash_untight c w n v k t = by (entry_of c.entries n) refl
  where
    by : (o : Option Entry) → entry_of c.entries n ≡ o → ⊥
    by None e = true≢false (sym (view_there c n w v) ∙ ap (λ o. is_some (view_in o)) e)
    by (Some (relation m h i ts)) e = true≢false (sym (view_there c n w v) ∙ ap (λ o. is_some (view_in o)) e)
    by (Some (view m h f)) e = tight_clash c n m h f w e k t

-- where a name is there, a list is held
held_there : (v : List ℕ) (rs : List GivenRelation) → has_name v rs ≡ true → is_some (held_under rs v) ≡ true
held_there v rs h = by (held_under rs v) refl
  where
    by : (o : Option (List (List Atom))) → held_under rs v ≡ o → is_some o ≡ true
    by None e = absurd (true≢false (sym h ∙ nameless v rs e))
    by (Some ts) e = refl

module _ (c : Catalogue) (n : List ℕ) (held : List GivenRelation) where
  pub listed_there : has_name n held ≡ true → IsListedWith c n held held
  listed_there h = record { tight = λ i. held_there n held h; present = λ i. refl; others = λ m e. refl }

  pub listed_more : (r : GivenRelation) (new : List GivenRelation) → has_name n held ≡ false → r.name ≡ n → new ≡ held ++ r ∷ [] → IsListedWith c n held new
  listed_more r new h named e = record {
    tight = λ i. ap (λ rs. is_some (held_under rs n)) e ∙ ap (λ o. is_some (option_map (λ (x : GivenRelation). x.tuples) o)) (own_more n held r (ap (bytes_eq n) named ∙ bytes_eq-refl n) (none_under n held h));
    present = λ i. absurd (true≢false (sym i ∙ ap is_some (unnamed n held h)));
    others = λ m f. ap (λ rs. held_under rs m) e ∙ ap (option_map (λ (x : GivenRelation). x.tuples)) (other_more m held r (ap (bytes_eq m) named ∙ f));
  }

  pub listed_none : (new : List GivenRelation) → new ≡ held → (IsTightView c n → ⊥) → IsListedWith c n held new
  listed_none new e wide = record { tight = λ i. absurd (wide i); present = λ i. e; others = λ m f. ap (λ rs. held_under rs m) e }

  -- a name that is there then was there before, or is the view's
  pub names_added : {A E : Type 0} (a : Result A E) (r : GivenRelation) (new : List GivenRelation) → r.name ≡ n → OnOk a (new ≡ held ++ r ∷ []) → OnErr a (new ≡ held) → (m : List ℕ) → has_name m new ≡ true
      → (has_name m held ≡ true) ⊎ (m ≡ n)
  names_added (Ok a) r new named ok err m h =
      elim (or_split (has_name m held) (bytes_eq m r.name) (sym (has_more held) ∙ ap (has_name m) (sym ok) ∙ h)) [ inl e ↦ inl e | inr e ↦ inr (sym (same_name m r.name e) ∙ named) ]
    where
      has_more : (rs : List GivenRelation) → has_name m (rs ++ r ∷ []) ≡ (has_name m rs || bytes_eq m r.name)
      has_more [] = or-false (bytes_eq m r.name)
      has_more (x ∷ rs) = by (bytes_eq m x.name) (has_more rs)
        where
          by : (b : Bool) → has_name m (rs ++ r ∷ []) ≡ (has_name m rs || bytes_eq m r.name) → (b || has_name m (rs ++ r ∷ [])) ≡ ((b || has_name m rs) || bytes_eq m r.name)
          by true next = refl
          by false next = next
  names_added (Err x) r new named ok err m h = inl (ap (has_name m) (sym err) ∙ h)

-- ---- what a call tells

-- a view that had a list before, or is the one that is marked, is marked then
pub marked_after : (n : List ℕ) (old new : List Mark) (rs : List GivenRelation) → IsMarkedWith n old new → AllByRecursion (λ (r : GivenRelation). is_marked old r.name ≡ true) rs → (v : List ℕ)
    → (has_name v rs ≡ true) ⊎ (v ≡ n) → is_marked new v ≡ true
marked_after n old new rs k h v (inl e) = k v ∙ or_right (bytes_eq v n) (is_marked old v) (named_each (λ m. is_marked old m ≡ true) rs v h e)
marked_after n old new rs k h v (inr e) = k v ∙ or_left (bytes_eq v n) (is_marked old v) (ap (bytes_eq v) (sym e) ∙ bytes_eq-refl v)

pub of_mapped : {A B : Type 0} (f : A → B) (o : Option A) (P : B → Type 0) → IfSome (option_map f o) P → IfSome o (λ x. P (f x))
of_mapped f None P h = tt
of_mapped f (Some x) P h = h

-- the tuples that are given under a name are those that are held
pub given_held : (n : List ℕ) (rs : List GivenRelation) → given_tuples (given_catalogue rs) n ≡ held_under rs n
given_held n [] = refl
given_held n (r ∷ rs) = by (bytes_eq n r.name) (given_held n rs)
  where
    by : (b : Bool) → given_tuples (given_catalogue rs) n ≡ held_under rs n
        → option_map tuples_of (relation_in (cond b (Some (given_entry r)) (entry_of (map given_entry rs) n))) ≡ option_map (λ (x : GivenRelation). x.tuples) (cond b (Some r) (given_under n rs))
    by true next = ap Some (tuples-unnumbered r.tuples)
    by false next = next
