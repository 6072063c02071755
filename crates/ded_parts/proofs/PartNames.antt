-- What the names of a part mean beside those of the whole.
use Rattle.std.proofs.Common.{◌≡◌, ℕ, Bool, true, false, not, ◌&&◌, List, Option, Some, None, refl, sym, ap, ◌∙◌, subst, true≢false, bytes_eq}
use Rattle.std.specs.Prelude.{◌↔◌, IsTrue}
use Rattle.std.proofs.lemmas.Option.{none-some}
use Rattle.std.proofs.lemmas.Slice.Eq.{bytes_eq-Decides}
use Rattle.ded_num.proofs.Tests.{bytes_eq-swap}
use Rattle.ded_model.proofs.Alike.{PlanHolds-alike}
use Rattle.ded_model.specs.declared.name.Column.{Column}
use Rattle.ded_model.specs.Catalogue.{Entry, relation, view, Catalogue, tuples_of, at_slots, meaning, PlanHolds}
use Rattle.ded_model.specs.Entries.{entry_of, stored_in, view_in, tuples_in, columns_in}
use Rattle.ded_model.specs.Known.{IsWellFormed}
use Rattle.ded_model.specs.Made.{base}
use Rattle.ded_model.specs.PlanForm.{PlanAtom, scan, rows, PlanForm}
use Rattle.ded_model.specs.Point.{Point}
use Rattle.ded_model.specs.Row.{Atom, tuples_hold}
use Rattle.ded_model.specs.Uses.{MeansAlike, plan_atom_uses, plan_uses}
use Rattle.ded_model.specs.Value.{Argument}
use Rattle.ded_sorts.proofs.KnownEntries.{columns_there}
use Rattle.ded_views.specs.Reaching.{reaches}
use Rattle.ded_views.proofs.Atoms.{all_where_none, some_with}
use Rattle.ded_views.proofs.Changing.{changed, entry_there}
use Rattle.ded_views.proofs.Placing.{unreached}
use Rattle.ded_views.proofs.Unaffected.{unaffected_meaning}
use Rattle.ded_views.proofs.Views.{relation_means, relation_reaches}
use Rattle.ded_parts.specs.Distributing.{is_made_scan, scans_made}
use Rattle.ded_parts.specs.Parts.{IsPart, IsApartFrom, ReachesByName, ScansNoView}

-- ---- names that don't reach the relation

-- a name that doesn't reach the relation means the same over a part
pub same_in_part : (d : Catalogue) → IsWellFormed d → (n : List ℕ) (c : Catalogue) → IsPart d n c → (m : List ℕ) → reaches d (base m) n ≡ false → MeansAlike d c m
same_in_part d w n c x m e =
    unaffected_meaning d c w x.formed (λ k. not (reaches d k n)) (changed d c n x.columns x.inserts x.own_inserts x.tuples x.own_tuples x.changes w) m (ap not e)

-- so a plan that scans no other names holds alike
pub plan_apart : (d c : Catalogue) (n : List ℕ) (f : PlanForm) → IsWellFormed d → IsPart d n c → IsApartFrom d n f → (p : Point) → PlanHolds d f p ↔ PlanHolds c f p
plan_apart d c n f w x h p = PlanHolds-alike d c f p (λ m u. same_in_part d w n c x m (h m u))

-- of a plan without views no other name reaches the relation
pub reached_by_name : (d : Catalogue) (n : List ℕ) (f : PlanForm) → IsWellFormed d → ScansNoView d f → ReachesByName d n f
reached_by_name d n f w h m u other = by (entry_of d.entries (base m)) refl (h m u)
  where
    by : (o : Option Entry) → entry_of d.entries (base m) ≡ o → view_in o ≡ None → reaches d (base m) n ≡ false
    by None e v = ap (λ R. R n) (unreached d (base m) e)
    by (Some (relation k g i ts)) e v = relation_reaches d w (base m) k g i ts e n ∙ bytes_eq-swap (base m) n ∙ other
    by (Some (view k g a)) e v = absurd (none-some (g, a) (sym v))

-- a plan that scans neither closure nor interior of a name scans no other name that is made of it
pub not_made : (n : List ℕ) (f : PlanForm) → scans_made n f ≡ false → (m : List ℕ) → plan_uses m f ≡ true → bytes_eq n m ≡ false → bytes_eq n (base m) ≡ false
not_made n f h m u other = by (bytes_eq n (base m)) (bytes_eq n m) other unmade
  where
    step : (a : PlanAtom) → is_made_scan n a ≡ false → plan_atom_uses m a ≡ true → (bytes_eq n (base m) && not (bytes_eq n m)) ≡ false
    step (scan k ss) e s = subst (λ x. (bytes_eq n (base x) && not (bytes_eq n x)) ≡ false) (sym ((bytes_eq-Decides m k).0 s)) e
    step (rows t) e s = absurd (true≢false (sym s))

    unmade : (bytes_eq n (base m) && not (bytes_eq n m)) ≡ false
    unmade = some_with (plan_atom_uses m) (λ a. is_made_scan n a ≡ false) ((bytes_eq n (base m) && not (bytes_eq n m)) ≡ false) step f (all_where_none (is_made_scan n) (λ a. is_made_scan n a ≡ false) (λ a e. e) f h) u

    by : (a b : Bool) → b ≡ false → (a && not b) ≡ false → a ≡ false
    by true true e k = absurd (true≢false e)
    by true false e k = k
    by false b e k = refl

-- ---- the relation itself

-- it holds where one of its tuples does
own_holds : (c : Catalogue) → IsWellFormed c → (n : List ℕ) (h : List Column) (i : ℕ) (ts : List (ℕ × List Atom)) → entry_of c.entries n ≡ Some (relation n h i ts)
    → (den : ℕ) (xs : List Argument) → meaning c n den xs ↔ IsTrue (tuples_hold (tuples_of (tuples_in c n)) (record { den = den; coords = at_slots 0 (columns_in c n) xs }))
own_holds c w n h i ts e den xs =
    subst (λ us. meaning c n den xs ↔ IsTrue (tuples_hold (tuples_of us) (record { den = den; coords = at_slots 0 (columns_in c n) xs }))) (sym (ap stored_in e))
    (subst (λ g. meaning c n den xs ↔ IsTrue (tuples_hold (tuples_of ts) (record { den = den; coords = at_slots 0 g xs }))) (sym (columns_there c n (relation n h i ts) w e))
    (relation_means c w n n h i ts e den xs))

module _ (d : Catalogue) (w : IsWellFormed d) (n : List ℕ) (c : Catalogue) (x : IsPart d n c) where
  -- the relation stands over the whole
  pub there : entry_of d.entries n ≡ Some (relation n x.columns x.inserts x.tuples)
  there = entry_there d x.changes.before x.changes.after (relation n x.columns x.inserts x.tuples) n w x.changes.was refl

  -- and over the part
  own_there : entry_of c.entries n ≡ Some (relation n x.columns x.own_inserts x.own_tuples)
  own_there = entry_there c x.changes.before x.changes.after (relation n x.columns x.own_inserts x.own_tuples) n x.formed (ap (λ y. y.entries) x.changes.is) refl

  -- with the same columns
  same_columns : columns_in c n ≡ columns_in d n
  same_columns = columns_there c n (relation n x.columns x.own_inserts x.own_tuples) x.formed own_there ∙ sym (columns_there d n (relation n x.columns x.inserts x.tuples) w there)

  -- over the whole, which has a part
  pub whole_holds : (den : ℕ) (xs : List Argument) → meaning d n den xs ↔ IsTrue (tuples_hold (tuples_of (tuples_in d n)) (record { den = den; coords = at_slots 0 (columns_in d n) xs }))
  whole_holds = own_holds d w n x.columns x.inserts x.tuples there

  -- over a part, with the columns that it has over the whole
  pub part_holds : (den : ℕ) (xs : List Argument) → meaning c n den xs ↔ IsTrue (tuples_hold (tuples_of (tuples_in c n)) (record { den = den; coords = at_slots 0 (columns_in d n) xs }))
  part_holds den xs = subst (λ g. meaning c n den xs ↔ IsTrue (tuples_hold (tuples_of (tuples_in c n)) (record { den = den; coords = at_slots 0 g xs }))) same_columns
      (own_holds c x.formed n x.columns x.own_inserts x.own_tuples own_there den xs)
