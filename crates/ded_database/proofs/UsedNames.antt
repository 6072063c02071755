-- The names that a goal uses, each with what it reaches.
use Rattle.std.proofs.Common.{◌≡◌, ℕ, ◌||◌, List, [], ◌∷◌, ◌++◌, map, refl, sym, ap, ◌∙◌, subst, bytes_eq}
use Rattle.std.specs.List.{list_any, AllByRecursion}
use Rattle.std.proofs.lemmas.List.{map-append}
use Rattle.ded_model.specs.Catalogue.{Catalogue}
use Rattle.ded_model.specs.Goal.{GoalForm}
use Rattle.ded_model.specs.Made.{base}
use Rattle.ded_model.specs.Uses.{goal_uses}
use Rattle.ded_views.specs.Reaching.{reaches}
use Rattle.ded_database.specs.declared.mark.NameReach.{NameReach}
use Rattle.ded_database.specs.Closed.{has, IsReachedAfter}

-- it has what its name is made of reaches
abbrev pub IsReach : Catalogue → NameReach → Type 0
IsReach c u = (n : List ℕ) → has u.reached.items n ≡ reaches c (base u.name) n

-- of a list that was empty
pub reached_alone : (c : Catalogue) (n : List ℕ) (old new : List (List ℕ)) → old ≡ [] → IsReachedAfter c n old new → (m : List ℕ) → has new m ≡ reaches c n m
reached_alone c n old new e a m = a.all m ∙ ap (λ ns. has ns m || reaches c n m) e

-- one for each of the names, in order
pub record AreUses (c : Catalogue) (names : List (List ℕ)) (us : List NameReach) : Type 0 where
  pub named : map (λ (u : NameReach). u.name) us ≡ names
  pub reached : AllByRecursion (IsReach c) us

pub uses_none : (c : Catalogue) (us : List NameReach) → us ≡ [] → AreUses c [] us
uses_none c us e = subst (AreUses c []) (sym e) (record { named = refl; reached = tt })

-- one more
all_more : (c : Catalogue) (us : List NameReach) (u : NameReach) → AllByRecursion (IsReach c) us → IsReach c u → AllByRecursion (IsReach c) (us ++ u ∷ [])
all_more c [] u k h = (h, tt)
all_more c (v ∷ us) u k h = (k.0, all_more c us u k.1 h)

pub uses_more : (c : Catalogue) (names : List (List ℕ)) (us new : List NameReach) (u : NameReach) → new ≡ us ++ u ∷ [] → AreUses c names us → IsReach c u → AreUses c (names ++ u.name ∷ []) new
uses_more c names us new u e a h =
    subst (AreUses c (names ++ u.name ∷ [])) (sym e)
    (record { named = map-append (λ (v : NameReach). v.name) us (u ∷ []) ∙ ap (λ ns. ns ++ u.name ∷ []) a.named; reached = all_more c us u a.reached h })

-- of all names of the goal
any_named : (us : List NameReach) (n : List ℕ) → list_any (bytes_eq n) (map (λ (u : NameReach). u.name) us) ≡ list_any (λ (u : NameReach). bytes_eq n u.name) us
any_named [] n = refl
any_named (u ∷ us) n = ap (λ b. bytes_eq n u.name || b) (any_named us n)

pub uses_all : (c : Catalogue) (g : GoalForm) (names : List (List ℕ)) (us : List NameReach) → ((n : List ℕ) → goal_uses n g ≡ list_any (bytes_eq n) names) → AreUses c names us
    → (n : List ℕ) → goal_uses n g ≡ list_any (λ (u : NameReach). bytes_eq n u.name) us
uses_all c g names us all a n = all n ∙ ap (list_any (bytes_eq n)) (sym a.named) ∙ any_named us n
