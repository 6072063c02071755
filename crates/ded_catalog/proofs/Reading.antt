-- What a catalogue answers, over the table that it has.
use Rattle.std.proofs.Common.{◌≡◌, ℕ, false, ◌||◌, List, [], ◌∷◌, map, Option, None, Some, refl, sym, ap, ◌∙◌, subst, bytes_eq, is_none, IfSome}
use Rattle.std.specs.List.{list_any}
use Rattle.std.specs.Map.{lookup}
use Rattle.std.specs.Option.{option_map}
use Rattle.std.proofs.lemmas.Option.{none-some, same_Some}
use Rattle.ded_model.specs.Form.{form}
use Rattle.ded_model.specs.Goal.{goal_form}
use Rattle.ded_model.specs.Logic.{some_atom}
use Rattle.ded_model.specs.LongRows.{is_long_atom}
use Rattle.ded_model.specs.Plain.{IsPlain}
use Rattle.ded_model.specs.Slotted.{goal_of}
use Rattle.ded_model.specs.Entries.{entry_of, stored_in, relation_in, view_in, known, entry_uses}
use Rattle.ded_relation.specs.Hashing.{keyed}
use Rattle.ded_relation.specs.declared.relation.Relation.{Relation}
use Rattle.ded_catalog.specs.declared.stored.Stored.{Stored}
use Rattle.ded_catalog.specs.declared.stored.View.{View}
use Rattle.ded_catalog.specs.declared.stored.Stored.TheVariants as stored
use Rattle.ded_catalog.specs.Conditions.{IsKept, AreKept}
use Rattle.ded_catalog.specs.Mentions.{AreMentions}
use Rattle.ded_catalog.specs.State.{Table, entry_form, entry_forms, catalogue_of, known_with, relation_at, view_at, heading_at, stored_uses}
use Rattle.ded_catalog.proofs.Calls.{is_known, at-kept}
use Rattle.ded_catalog.proofs.Lookups.{split, entry_of-lookup}

heading_known : (o : Option Stored) → heading_at o ≡ option_map (λ k. k.columns) (known_with o None)
heading_known None = refl
heading_known (Some (stored.Relation r)) = refl
heading_known (Some (stored.View v)) = refl

tuples_at : (n : List ℕ) (o : Option Stored) → option_map (λ r. r.tuples.entries) (relation_at o) ≡ relation_in (option_map (entry_form n) o)
tuples_at n None = refl
tuples_at n (Some (stored.Relation r)) = refl
tuples_at n (Some (stored.View v)) = refl

formula_at : (n : List ℕ) (o : Option Stored) → option_map (λ v. form v.formula) (view_at o) ≡ option_map (λ v. v.1) (view_in (option_map (entry_form n) o))
formula_at n None = refl
formula_at n (Some (stored.Relation r)) = refl
formula_at n (Some (stored.View v)) = refl

no_view_at : (n : List ℕ) (o : Option Stored) → is_none (view_at o) ≡ is_none (view_in (option_map (entry_form n) o))
no_view_at n None = refl
no_view_at n (Some (stored.Relation r)) = refl
no_view_at n (Some (stored.View v)) = refl

-- a relation that is found stands there
pub relation_found : (o : Option Stored) (r : Relation) → Some r ≡ relation_at o → o ≡ Some (stored.Relation r)
relation_found None r h = absurd (none-some r (sym h))
relation_found (Some (stored.Relation s)) r h = ap (λ x. Some (stored.Relation x)) (sym (same_Some r s h))
relation_found (Some (stored.View v)) r h = absurd (none-some r (sym h))

-- where none is found there are no tuples
pub none_stored : (n : List ℕ) (o : Option Stored) → None ≡ relation_at o → stored_in (option_map (entry_form n) o) ≡ []
none_stored n None h = refl
none_stored n (Some (stored.Relation s)) h = absurd (none-some s h)
none_stored n (Some (stored.View v)) h = refl

module _ (limit : ℕ) (es : List (List ℕ × Stored)) (n : List ℕ) (kept : IsKept limit es) where
  abbrev t : Table
  t = record { limit = limit; names = es; hashing = keyed (0, 0) }

  -- the heading
  pub heading_there : heading_at (lookup (bytes_eq n) es) ≡ option_map (λ k. k.columns) (known (catalogue_of t) n)
  heading_there = heading_known (lookup (bytes_eq n) es) ∙ ap (option_map (λ k. k.columns)) (sym (is_known limit es n kept))

  -- the tuples
  pub tuples_there : option_map (λ r. r.tuples.entries) (relation_at (lookup (bytes_eq n) es)) ≡ relation_in (entry_of (catalogue_of t).entries n)
  tuples_there = tuples_at n (lookup (bytes_eq n) es) ∙ ap relation_in (sym (entry_of-lookup n es))

  -- none where no relation is found
  pub none_there : None ≡ relation_at (lookup (bytes_eq n) es) → stored_in (entry_of (catalogue_of t).entries n) ≡ []
  none_there h = ap stored_in (entry_of-lookup n es) ∙ none_stored n (lookup (bytes_eq n) es) h

  -- the formula
  pub formula_there : option_map (λ v. form v.formula) (view_at (lookup (bytes_eq n) es)) ≡ option_map (λ v. v.1) (view_in (entry_of (catalogue_of t).entries n))
  formula_there = formula_at n (lookup (bytes_eq n) es) ∙ ap (λ e. option_map (λ v. v.1) (view_in e)) (sym (entry_of-lookup n es))

  short_at : (o : Option Stored) → lookup (bytes_eq n) es ≡ o → (v : View) → view_at o ≡ Some v → IsPlain (form v.formula) × (some_atom is_long_atom (form v.formula) ≡ false)
  short_at None e v h = absurd (none-some v h)
  short_at (Some (stored.Relation r)) e v h = absurd (none-some v h)
  short_at (Some (stored.View w)) e v h =
      let s = split n (stored.View w) es e in
      let at = at-kept limit n (stored.View w) s.before s.after (λ m. None) (subst (AreKept limit (λ m. None)) s.was kept.entries) in
      subst (λ (x : View). IsPlain (form x.formula) × (some_atom is_long_atom (form x.formula) ≡ false)) (same_Some w v h) (at.2.2, at.2.3)

  -- the formula of a view is plain and short
  pub short_there : (v : View) → view_at (lookup (bytes_eq n) es) ≡ Some v → IsPlain (form v.formula) × (some_atom is_long_atom (form v.formula) ≡ false)
  short_there = short_at (lookup (bytes_eq n) es) refl

  mentions_at : (o : Option Stored) → lookup (bytes_eq n) es ≡ o → (v : View) → view_at o ≡ Some v → IfSome (view_in (option_map (entry_form n) o)) (λ w. AreMentions v.mentions.items w.1)
  mentions_at None e v h = absurd (none-some v h)
  mentions_at (Some (stored.Relation r)) e v h = absurd (none-some v h)
  mentions_at (Some (stored.View w)) e v h =
      let s = split n (stored.View w) es e in
      let at = at-kept limit n (stored.View w) s.before s.after (λ m. None) (subst (AreKept limit (λ m. None)) s.was kept.entries) in
      subst (λ (x : View). AreMentions x.mentions.items (form w.formula)) (same_Some w v h) at.2.4

  -- the names that the formula of a view speaks of
  pub mentions_there : (v : View) → view_at (lookup (bytes_eq n) es) ≡ Some v → IfSome (view_in (entry_of (catalogue_of t).entries n)) (λ w. AreMentions v.mentions.items w.1)
  mentions_there v h = subst (λ e. IfSome (view_in e) (λ w. AreMentions v.mentions.items w.1)) (sym (entry_of-lookup n es)) (mentions_at (lookup (bytes_eq n) es) refl v h)

  -- whether it is no view
  pub no_view_there : is_none (view_at (lookup (bytes_eq n) es)) ≡ is_none (view_in (entry_of (catalogue_of t).entries n))
  no_view_there = no_view_at n (lookup (bytes_eq n) es) ∙ ap (λ e. is_none (view_in e)) (sym (entry_of-lookup n es))

  goal_at : (o : Option Stored) → lookup (bytes_eq n) es ≡ o → option_map (λ v. goal_form v.goal) (view_at o) ≡ option_map (λ v. goal_of v.0 v.1) (view_in (option_map (entry_form n) o))
  goal_at None e = refl
  goal_at (Some (stored.Relation r)) e = refl
  goal_at (Some (stored.View v)) e =
      let s = split n (stored.View v) es e in
      let at = at-kept limit n (stored.View v) s.before s.after (λ m. None) (subst (AreKept limit (λ m. None)) s.was kept.entries) in
      ap Some at.2.1

  -- the goal
  pub goal_there : option_map (λ v. goal_form v.goal) (view_at (lookup (bytes_eq n) es)) ≡ option_map (λ v. goal_of v.0 v.1) (view_in (entry_of (catalogue_of t).entries n))
  goal_there = goal_at (lookup (bytes_eq n) es) refl ∙ ap (λ e. option_map (λ v. goal_of v.0 v.1) (view_in e)) (sym (entry_of-lookup n es))

-- ---- uses

uses_form : (n k : List ℕ) (s : Stored) → stored_uses n s ≡ entry_uses n (entry_form k s)
uses_form n k (stored.Relation r) = refl
uses_form n k (stored.View v) = refl

pub uses_there : (n : List ℕ) (es : List (List ℕ × Stored)) → list_any (stored_uses n) (map (λ e. e.1) es) ≡ list_any (entry_uses n) (entry_forms es)
uses_there n [] = refl
uses_there n (e ∷ es) = λ i. uses_form n e.0 e.1 i || uses_there n es i
