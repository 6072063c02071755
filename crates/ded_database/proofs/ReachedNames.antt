-- What the names of a goal reach, added name after name.
use Rattle.std.proofs.Common.{◌≡◌, ℕ, ◌+◌, ◌<◌, ◌≤◌, arith, ◌||◌, true, inl, inr, List, [], take, length, get_or, sym, ap, ◌∙◌, bytes_eq}
use Rattle.std.specs.List.{list_any}
use Rattle.std.proofs.Math.Bool.{or_assoc, or-false}
use Rattle.std.proofs.lemmas.List.Folds.{list_any_more, list_any_at}
use Rattle.ded_model.specs.Catalogue.{Catalogue}
use Rattle.ded_model.specs.Entries.{known}
use Rattle.ded_model.specs.Goal.{GoalForm}
use Rattle.ded_model.specs.Known.{IsWellFormed, level_with}
use Rattle.ded_model.specs.Made.{base}
use Rattle.ded_model.specs.Uses.{goal_uses}
use Rattle.ded_model.proofs.Members.{or_split}
use Rattle.ded_model.proofs.Rows.{or_left, or_right}
use Rattle.ded_views.specs.Reaching.{reaches}
use Rattle.ded_views.proofs.GoalNames.{speaks_used}
use Rattle.ded_views.proofs.Named.{some_named, named_passes}
use Rattle.ded_views.proofs.ViewGoals.{IsGoalOfView}
use Rattle.ded_views.proofs.ViewNames.{used_known}
use Rattle.ded_views.proofs.Views.{view_accepted, name_level, lesser_level}
use Rattle.ded_database.specs.Closed.{has, IsClosed, IsReachedAfter, ReachesFrom, AreReachedAfter, AreUsedBelow}
use Rattle.ded_database.proofs.Closing.{used_by_goal}
use Rattle.ded_model.proofs.Bools.{bytes_eq-refl}

-- ---- levels

-- the names that a view's goal uses are made of defined ones, which have levels below its own
pub used_below : (c : Catalogue) → IsWellFormed c → (n : List ℕ) (g : GoalForm) (level : ℕ) → IsGoalOfView c n g → level_with (known c n) ≤ level → AreUsedBelow c g level
used_below c w n g level v l = λ m u.
    let used = sym (used_by_goal c n g v m) ∙ u in
    let spoken = speaks_used v.formula m used in
    let less = lesser_level c w n v.own v.columns v.formula v.entry (base m) spoken in
    (used_known (known c) v.formula (base m) (view_accepted c w n v.own v.columns v.formula v.entry).known spoken, omega arith)

-- and below 17
pub used_below_all : (c : Catalogue) → IsWellFormed c → (n : List ℕ) (g : GoalForm) → IsGoalOfView c n g → AreUsedBelow c g 17
used_below_all c w n g v = λ m u. let a = used_below c w n g 16 v (name_level c w n) m u in (a.0, omega arith)

-- ---- names

-- closed, with what the names of the list reach besides
pub record AreReachedFrom (c : Catalogue) (names old new : List (List ℕ)) : Type 0 where
  pub closed : IsClosed c new
  pub all : (m : List ℕ) → has new m ≡ (has old m || list_any (λ n. reaches c (base n) m) names)

pub reached_none : (c : Catalogue) (old : List (List ℕ)) → IsClosed c old → AreReachedFrom c [] old old
reached_none c old k = record { closed = k; all = λ m. sym (or-false (has old m)) }

-- one name more
pub reached_more : (c : Catalogue) (names : List (List ℕ)) (i : ℕ) (n : List ℕ) (old mid new : List (List ℕ)) → i < length names → n ≡ get_or names i n → AreReachedFrom c (take i names) old mid → IsReachedAfter c (base n) mid new
    → AreReachedFrom c (take (i + 1) names) old new
reached_more c names i n old mid new l e f a = record {
  closed = a.closed;
  all = λ m.
      a.all m
      ∙ ap (λ b. b || reaches c (base n) m) (f.all m)
      ∙ or_assoc (has old m) (list_any (λ k. reaches c (base k) m) (take i names)) (reaches c (base n) m)
      ∙ ap (λ b. has old m || b) (ap (λ k. list_any (λ j. reaches c (base j) m) (take i names) || reaches c (base k) m) e ∙ sym (list_any_more (λ k. reaches c (base k) m) names i n l));
}

-- a name of the list stands there
pub named_there : (names : List (List ℕ)) (i : ℕ) (n : List ℕ) → i < length names → n ≡ get_or names i n → list_any (bytes_eq n) names ≡ true
named_there names i n l e = list_any_at (bytes_eq n) names i n l (sym (ap (bytes_eq n) e) ∙ bytes_eq-refl n)

-- of all names of a goal
pub reached_all : (c : Catalogue) (g : GoalForm) (names old new : List (List ℕ)) → ((n : List ℕ) → goal_uses n g ≡ list_any (bytes_eq n) names) → AreReachedFrom c names old new → AreReachedAfter c g old new
reached_all c g names old new u f = record {
  closed = f.closed;
  kept = λ m h. f.all m ∙ or_left (has old m) _ h;
  more = λ m r. f.all m ∙ or_right (has old m) _ (named_passes (λ n. reaches c (base n) m) names r.name (sym (u r.name) ∙ r.used) r.reaches);
  only = λ m h. elim (or_split (has old m) (list_any (λ n. reaches c (base n) m) names) (sym (f.all m) ∙ h)) [
    | inl e ↦ inl e
    | inr e ↦ inr (some_named (λ n. reaches c (base n) m) names (ReachesFrom c g m) (λ n i r. record { name = n; used = u n ∙ i; reaches = r }) e)
  ];
}
