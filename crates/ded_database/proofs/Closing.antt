-- Closed lists of names, as a name is added with what it reaches.
use Rattle.std.proofs.Common.{◌≡◌, ℕ, ◌||◌, true, inl, inr, List, [], ◌∷◌, ◌++◌, Option, Some, None, is_some, refl, sym, ap, ◌∙◌, subst, true≢false, bytes_eq}
use Rattle.std.specs.Prelude.{◌⊎◌}
use Rattle.std.specs.Cmp.{both_ways}
use Rattle.std.specs.Option.{option_map}
use Rattle.std.proofs.Math.Bool.{or-false}
use Rattle.std.proofs.lemmas.List.Folds.{list_any-append}
use Rattle.std.proofs.lemmas.Option.{none-some}
use Rattle.std.proofs.lemmas.Slice.Eq.{bytes_eq-Decides}
use Rattle.ded_model.specs.Catalogue.{Entry, relation, view, Catalogue}
use Rattle.ded_model.specs.Entries.{known, entry_of, view_in}
use Rattle.ded_model.specs.Form.{uses}
use Rattle.ded_model.specs.Goal.{GoalForm}
use Rattle.ded_model.specs.Known.{IsWellFormed}
use Rattle.ded_model.specs.Made.{base}
use Rattle.ded_model.specs.Slotted.{goal_of}
use Rattle.ded_model.specs.Uses.{goal_uses}
use Rattle.ded_model.proofs.Members.{or_split}
use Rattle.ded_model.proofs.Rows.{or_left, or_right}
use Rattle.ded_views.specs.Reaching.{reaches}
use Rattle.ded_views.proofs.GoalNames.{goal_names, speaks_used}
use Rattle.ded_views.proofs.Placing.{unknown}
use Rattle.ded_views.proofs.ViewGoals.{IsGoalOfView, reached_by_used}
use Rattle.ded_views.proofs.Views.{relation_reaches, view_reaches, used_reaches}
use Rattle.ded_database.specs.Closed.{has, IsClosed, IsReachedAfter, AreReachedAfter}
use Rattle.ded_model.proofs.Bools.{bytes_eq-refl}

-- one name more
has_more : (ns : List (List ℕ)) (n m : List ℕ) → has (ns ++ n ∷ []) m ≡ (has ns m || bytes_eq m n)
has_more ns n m = list_any-append (bytes_eq m) ns (n ∷ []) ∙ ap (λ b. has ns m || b) (or-false (bytes_eq m n))

-- a goal of a view uses the names of its formula
pub used_by_goal : (c : Catalogue) (n : List ℕ) (g : GoalForm) (v : IsGoalOfView c n g) (m : List ℕ) → goal_uses m g ≡ uses m v.formula
used_by_goal c n g v m = ap (goal_uses m) v.goal ∙ goal_names v.columns v.formula m

module _ (c : Catalogue) where
  -- nothing is added where the name stands there
  pub reached_before : (n : List ℕ) (old : List (List ℕ)) → IsClosed c old → has old n ≡ true → IsReachedAfter c n old old
  reached_before n old k h = record {
    closed = k;
    all = λ m. both_ways (has old m) (has old m || reaches c n m) (or_left (has old m) (reaches c n m)) (λ e. elim (or_split (has old m) (reaches c n m) e) [ inl f ↦ f | inr f ↦ k n m h f ]);
  }

  module _ (n : List ℕ) (old mid : List (List ℕ)) (closed : IsClosed c mid) (kept : (m : List ℕ) → has old m ≡ true → has mid m ≡ true)
      (more : (m : List ℕ) → reaches c n m ≡ true → (bytes_eq n m ≡ true) ⊎ (has mid m ≡ true)) (only : (m : List ℕ) → has mid m ≡ true → (has old m ≡ true) ⊎ (reaches c n m ≡ true))
      (itself : reaches c n n ≡ true) where
    -- with the name at the end
    first : (m : List ℕ) → has mid m ≡ true → has (mid ++ n ∷ []) m ≡ true
    first m h = has_more mid n m ∙ or_left (has mid m) (bytes_eq m n) h

    last : (m : List ℕ) → bytes_eq n m ≡ true → has (mid ++ n ∷ []) m ≡ true
    last m h = has_more mid n m ∙ or_right (has mid m) (bytes_eq m n) (ap (bytes_eq m) ((bytes_eq-Decides n m).0 h) ∙ bytes_eq-refl m)

    reached : (m : List ℕ) → reaches c n m ≡ true → has (mid ++ n ∷ []) m ≡ true
    reached m r = elim (more m r) [ inl e ↦ last m e | inr e ↦ first m e ]

    -- the names behind which the name stands, and the name
    pub reached_last : IsReachedAfter c n old (mid ++ n ∷ [])
    reached_last = record {
      closed = λ k m h r. elim (or_split (has mid k) (bytes_eq k n) (sym (has_more mid n k) ∙ h)) [
        | inl e ↦ first m (closed k m e r)
        | inr e ↦ reached m (subst (λ x. reaches c x m ≡ true) ((bytes_eq-Decides k n).0 e) r)
      ];
      all = λ m. both_ways (has (mid ++ n ∷ []) m) (has old m || reaches c n m)
          (λ h. elim (or_split (has mid m) (bytes_eq m n) (sym (has_more mid n m) ∙ h)) [
            | inl e ↦ elim (only m e) [ inl f ↦ or_left (has old m) (reaches c n m) f | inr f ↦ or_right (has old m) (reaches c n m) f ]
            | inr e ↦ or_right (has old m) (reaches c n m) (subst (λ x. reaches c n x ≡ true) (sym ((bytes_eq-Decides m n).0 e)) itself)
          ])
          (λ h. elim (or_split (has old m) (reaches c n m) h) [ inl e ↦ first m (kept m e) | inr e ↦ reached m e ]);
    }

  -- a view stands behind what its goal's names reach
  pub reached_view : IsWellFormed c → (n : List ℕ) (g : GoalForm) (old mid : List (List ℕ)) → IsGoalOfView c n g → AreReachedAfter c g old mid → IsReachedAfter c n old (mid ++ n ∷ [])
  reached_view w n g old mid v a =
      let is : (m : List ℕ) → reaches c n m ≡ _ = view_reaches c w n v.own v.columns v.formula v.entry in
      reached_last n old mid a.closed a.kept
      (λ m r. elim (or_split (bytes_eq n m) _ (sym (is m) ∙ r)) [
        | inl e ↦ inl e
        | inr e ↦ let u = reached_by_used (reaches c) m v.formula e in inr (a.more m (record { name = u.name; used = used_by_goal c n g v u.name ∙ u.used; reaches = u.reaches }))
      ])
      (λ m h. elim (a.only m h) [
        | inl e ↦ inl e
        | inr u ↦ inr (used_reaches c w n v.own v.columns v.formula v.entry (base u.name) m (speaks_used v.formula u.name (sym (used_by_goal c n g v u.name) ∙ u.used)) u.reaches)
      ])
      (is n ∙ or_left (bytes_eq n n) _ (bytes_eq-refl n))

  -- a name that is defined and has no goal of a view reaches itself alone
  pub reached_relation : IsWellFormed c → (n : List ℕ) (old : List (List ℕ)) → IsClosed c old → is_some (known c n) ≡ true → None ≡ option_map (λ v. goal_of v.0 v.1) (view_in (entry_of c.entries n))
      → IsReachedAfter c n old (old ++ n ∷ [])
  reached_relation w n old k d e = by (entry_of c.entries n) refl e
    where
      by : (o : Option Entry) → entry_of c.entries n ≡ o → None ≡ option_map (λ v. goal_of v.0 v.1) (view_in o) → IsReachedAfter c n old (old ++ n ∷ [])
      by None f e = absurd (true≢false (sym d ∙ ap is_some (unknown c n f)))
      by (Some (view m h x)) f e = absurd (none-some (goal_of h x) e)
      by (Some (relation m h i ts)) f e =
          let is = relation_reaches c w n m h i ts f in
          reached_last n old old k (λ m h. h) (λ m r. inl (sym (is m) ∙ r)) (λ m h. inl h) (is n ∙ bytes_eq-refl n)
