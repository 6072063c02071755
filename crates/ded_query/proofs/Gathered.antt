-- What is gathered, name by name.
use Rattle.std.proofs.Common.{◌≡◌, ℕ, ◌+◌, ◌<◌, ◌≤◌, true, is_some, List, [], ◌∷◌, ◌++◌, Result, Ok, Err, None, take, length, get_or, refl, sym, ap, ◌∙◌, subst, append_assoc, append-nil}
use Rattle.std.specs.Prelude.{OnOk, OnErr}
use Rattle.std.specs.List.{AllByRecursion, list_any}
use Rattle.std.proofs.Math.Seq.{take-append_seam}
use Rattle.std.proofs.lemmas.List.{take_more}
use Rattle.std.specs.Str.{bytes_eq}
use Rattle.ded_model.specs.Catalogue.{Catalogue}
use Rattle.ded_model.specs.Entries.{known}
use Rattle.ded_model.specs.Goal.{GoalForm}
use Rattle.ded_model.specs.Known.{level_with}
use Rattle.ded_model.specs.Logic.{AllAtoms}
use Rattle.ded_model.specs.Made.{base}
use Rattle.ded_model.specs.Measure.{measures, goal_clashes}
use Rattle.ded_model.specs.PlanForm.{PlanForm}
use Rattle.ded_model.specs.Uses.{plan_uses}
use Rattle.ded_genrel.proofs.Items.{all-push, all_weaker}
use Rattle.ded_algebra.specs.Compiled.{ComesFrom}
use Rattle.ded_plan.specs.Planned.{IsPlanned}
use Rattle.ded_plan.specs.Plans.{IsScanOf}
use Rattle.ded_views.proofs.Atoms.{all_weaker as each_atom}
use Rattle.ded_algebra.specs.declared.given.GivenRelation.{GivenRelation}
use Rattle.ded_algebra.specs.Given.{has_name}
use Rattle.ded_views.proofs.Clashing.{plan_clashing}
use Rattle.ded_views.proofs.GoalNames.{speaks_used}
use Rattle.ded_query.specs.Gathering.{IsGivenOf, IsGathered, IsFront, IsPosed}
use Rattle.ded_query.specs.Over.{over_relations}
use Rattle.ded_query.proofs.Posed.{posed_atom}
use Rattle.ded_query.proofs.Names.{scanned_used, used_known}
use Rattle.ded_query.proofs.Standing.{still_there}
use Rattle.ded_views.proofs.Named.{all_named, some_named}

pub gathered_none : (c : Catalogue) (rs : List GivenRelation) → AllByRecursion (IsGivenOf c) rs → IsGathered c rs rs
gathered_none c rs k = record { of = k; kept = λ n h. h }

pub gathered_more : (c : Catalogue) (old mid new : List GivenRelation) → IsGathered c old mid → IsGathered c mid new → IsGathered c old new
gathered_more c old mid new g h = record { of = h.of; kept = λ n x. h.kept n (g.kept n x) }

-- ---- the front

pub front_none : (rs : List GivenRelation) → IsFront rs rs
front_none rs = record { more = []; is = sym (append-nil rs) }

pub front_same : (old new : List GivenRelation) → new ≡ old → IsFront old new
front_same old new e = record { more = []; is = e ∙ sym (append-nil old) }

pub front_more : (old mid new : List GivenRelation) → IsFront old mid → IsFront mid new → IsFront old new
front_more old mid new f g = record { more = f.more ++ g.more; is = g.is ∙ ap (λ l. l ++ g.more) f.is ∙ append_assoc old f.more g.more }

-- after a relation was added or not
pub front_added : {A E : Type 0} (r : Result A E) (old new : List GivenRelation) (x : GivenRelation) → OnOk r (new ≡ old ++ x ∷ []) → OnErr r (new ≡ old) → IsFront old new
front_added (Ok a) old new x ok err = record { more = x ∷ []; is = ok }
front_added (Err e) old new x ok err = front_same old new err

-- the first ones are those that were given before
pub front_kept : (old new : List GivenRelation) → IsFront old new → take (length old) new ≡ old
front_kept old new f = ap (take (length old)) f.is ∙ take-append_seam old f.more

-- ---- names

-- one name more
pub named_more : (c : Catalogue) (names : List (List ℕ)) (i : ℕ) (n : List ℕ) (mid new : List GivenRelation) → i < length names → n ≡ get_or names i n → IsGathered c mid new
    → has_name n (over_relations c None new) ≡ true → AllByRecursion (λ m. has_name m (over_relations c None mid) ≡ true) (take i names)
    → AllByRecursion (λ m. has_name m (over_relations c None new) ≡ true) (take (i + 1) names)
named_more c names i n mid new l e g h k =
    subst (AllByRecursion (λ m. has_name m (over_relations c None new) ≡ true)) (sym (take_more names i n l))
    (all-push (λ m. has_name m (over_relations c None new) ≡ true) (take i names) (get_or names i n)
    (all_weaker (λ m. has_name m (over_relations c None mid) ≡ true) (λ m. has_name m (over_relations c None new) ≡ true) (take i names) (λ m x. still_there c None None mid new m (g.kept m) refl x) k)
    (subst (λ m. has_name m (over_relations c None new) ≡ true) e h))

module _ (c : Catalogue) (g : GoalForm) (plan : PlanForm) (level : ℕ) (p : IsPosed c g level) (k : IsPlanned g plan) where
  -- the scans of the plan are of names that the formula uses
  pub posed_scans : AllAtoms (IsScanOf c p.formula) plan
  posed_scans = each_atom (ComesFrom g) (IsScanOf c p.formula) (posed_atom c g level p) plan k.atoms

  pub posed_known : (names : List (List ℕ)) → ((n : List ℕ) → plan_uses n plan ≡ list_any (bytes_eq n) names) → AllByRecursion (λ n. is_some (known c (base n)) ≡ true) names
  posed_known names all = all_named (λ n. is_some (known c (base n)) ≡ true) names (λ n e. used_known (known c) p.formula n p.question.accepted.known (scanned_used c p.formula plan n posed_scans (all n ∙ e)))

  pub posed_levels : (names : List (List ℕ)) → ((n : List ℕ) → plan_uses n plan ≡ list_any (bytes_eq n) names) → AllByRecursion (λ n. level_with (known c (base n)) ≤ level) names
  posed_levels names all = all_named (λ n. level_with (known c (base n)) ≤ level) names (λ n e. p.levels (base n) (speaks_used p.formula n (scanned_used c p.formula plan n posed_scans (all n ∙ e))))

  -- a name that clashes makes the goal clash
  pub posed_clash : (names : List (List ℕ)) → ((n : List ℕ) → plan_uses n plan ≡ list_any (bytes_eq n) names) → list_any (λ n. (measures c n).clash) names ≡ true → goal_clashes (measures c) g ≡ true
  posed_clash names all e = some_named (λ n. (measures c n).clash) names (goal_clashes (measures c) g ≡ true) (λ n i h. k.clashes (measures c) (plan_clashing (measures c) plan n (all n ∙ i) h)) e
