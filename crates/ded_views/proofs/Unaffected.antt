-- Names that a change doesn't touch mean the same, have the same measures, are known alike and reach the same.
--
-- By induction on the level of the name over the first catalogue: a view with the same entry over both uses names of lesser levels, among
-- the same names.
use Rattle.std.proofs.Common.{◌≡◌, ℕ, zero, suc, ◌<◌, arith, Bool, true, ◌||◌, List, Option, Some, None, refl, sym, ap, ◌∙◌, subst, bytes_eq}
use Rattle.std.specs.Prelude.{◌↔◌}
use Rattle.ded_model.specs.declared.name.Column.{Column}
use Rattle.ded_model.specs.Row.{Atom}
use Rattle.ded_model.specs.Value.{Argument}
use Rattle.ded_model.specs.Catalogue.{Entry, relation, view, Catalogue, at_names, stored}
use Rattle.ded_model.specs.Entries.{known, entry_of}
use Rattle.ded_model.specs.Form.{Form, speaks_of}
use Rattle.ded_model.specs.Known.{IsWellFormed, level_with}
use Rattle.ded_model.specs.Measure.{stored_measures, measures}
use Rattle.ded_model.specs.Made.{reading, base}
use Rattle.ded_model.specs.Width.{rational_columns}
use Rattle.ded_model.proofs.Entries.{alike_names, measure_as-same}
use Rattle.ded_model.specs.Uses.{MeansAlike}
use Rattle.ded_model.proofs.Alike.{Holds-alike}
use Rattle.ded_views.specs.Reaching.{reaches}
use Rattle.ded_views.specs.Unaffected.{AreUnaffected}
use Rattle.ded_views.proofs.Placing.{unknown, meaningless, unmeasured, unreached}
use Rattle.ded_views.proofs.ViewNames.{level_of_used, reach_of_used}
use Rattle.ded_views.proofs.GoalNames.{with_columns, speaks_used, measure_of_spoken}
use Rattle.ded_views.proofs.Views.{relation_stored, view_stored, stored_measure, name_known, lesser_level, relation_reaches, view_reaches}

-- all of a name is the same over both
pub record IsSameName (c d : Catalogue) (n : List ℕ) : Type 0 where
  pub means : (den : ℕ) (xs : List Argument) → stored c n den xs ↔ stored d n den xs
  pub measured : stored_measures d n ≡ stored_measures c n
  pub knows : known d n ≡ known c n
  pub reached : (m : List ℕ) → reaches d n m ≡ reaches c n m

-- a name that isn't defined
undefined : (c d : Catalogue) (n : List ℕ) → entry_of c.entries n ≡ None → entry_of d.entries n ≡ None → IsSameName c d n
undefined c d n e e' = record {
  means = λ den xs. subst (λ (g : ℕ → List Argument → Type 0). stored c n den xs ↔ g den xs) (meaningless c n e ∙ sym (meaningless d n e')) (λ s. s, λ s. s);
  measured = unmeasured d n e' ∙ sym (unmeasured c n e);
  knows = unknown d n e' ∙ sym (unknown c n e);
  reached = λ m. ap (λ t. t m) (unreached d n e' ∙ sym (unreached c n e));
}

module _ (c d : Catalogue) (w : IsWellFormed c) (v : IsWellFormed d) where
  -- a relation
  related : (n m : List ℕ) (h : List Column) (i : ℕ) (ts : List (ℕ × List Atom)) → entry_of c.entries n ≡ Some (relation m h i ts) → entry_of d.entries n ≡ Some (relation m h i ts)
      → IsSameName c d n
  related n m h i ts e e' = record {
    means = λ den xs.
        let a = relation_stored c w n m h i ts e den xs in
        let b = relation_stored d v n m h i ts e' den xs in
        (λ s. b.1 (a.0 s), λ s. a.1 (b.0 s));
    measured = stored_measure d v n (relation m h i ts) e' ∙ sym (stored_measure c w n (relation m h i ts) e);
    knows = name_known d v n (relation m h i ts) e' ∙ sym (name_known c w n (relation m h i ts) e);
    reached = λ r. relation_reaches d v n m h i ts e' r ∙ sym (relation_reaches c w n m h i ts e r);
  }

  -- a view, where the names that it uses are the same
  viewed : (n m : List ℕ) (h : List Column) (f : Form) → entry_of c.entries n ≡ Some (view m h f) → entry_of d.entries n ≡ Some (view m h f)
      → ((k : List ℕ) → speaks_of k f ≡ true → IsSameName c d k) → IsSameName c d n
  viewed n m h f e e' same = record {
    means = λ den xs.
        let a = view_stored c w n m h f e den xs in
        let b = view_stored d v n m h f e' den xs in
        let alike = Holds-alike c d f (record { den = den; coords = at_names h xs }) (λ k u. alike_names c d k (same (base k) (speaks_used f k u)).means) in
        (λ s. b.1 (alike.0 (a.0 s)), λ s. a.1 (alike.1 (b.0 s)));
    measured =
        stored_measure d v n (view m h f) e'
        ∙ ap (with_columns (rational_columns h)) (measure_of_spoken (stored_measures c) (stored_measures d) h f (λ k u. (same k u).measured))
        ∙ sym (stored_measure c w n (view m h f) e);
    knows =
        name_known d v n (view m h f) e'
        ∙ ap (λ l. Some (record { is_view = true; columns = h; level = l })) (level_of_used (known c) (known d) f (λ k u. (same k u).knows))
        ∙ sym (name_known c w n (view m h f) e);
    reached = λ r.
        view_reaches d v n m h f e' r
        ∙ ap (λ b. bytes_eq n r || b) (reach_of_used (reaches c) (reaches d) r f (λ k u. (same k u).reached r))
        ∙ sym (view_reaches c w n m h f e r);
  }

  module _ (among : List ℕ → Bool) (u : AreUnaffected c d among) where
    -- a name of a level below the bound
    by_level : (bound : ℕ) (n : List ℕ) → level_with (known c n) < bound → among n ≡ true → IsSameName c d n
    by_level zero n l a = absurd (omega arith)
    by_level (suc bound) n l a = by (by_level bound) (entry_of c.entries n) refl
      where
        by : ((k : List ℕ) → level_with (known c k) < bound → among k ≡ true → IsSameName c d k) → (o : Option Entry) → entry_of c.entries n ≡ o → IsSameName c d n
        by lesser None e = undefined c d n e (u.same n a ∙ e)
        by lesser (Some (relation m h i ts)) e = related n m h i ts e (u.same n a ∙ e)
        by lesser (Some (view m h f)) e =
            viewed n m h f e (u.same n a ∙ e)
            (λ k used. lesser k (below (level_with (known c k)) (level_with (known c n)) bound (lesser_level c w n m h f e k used) l) (u.closed n m k h f a e used))
          where
            below : (x y z : ℕ) → x < y → y < suc z → x < z
            below x y z p q = omega arith

    pub unaffected : (n : List ℕ) → among n ≡ true → IsSameName c d n
    unaffected n a = by_level (suc (level_with (known c n))) n (omega arith) a

    -- a name that is made of such a one means the same, and has the same measures
    pub unaffected_meaning : (n : List ℕ) → among (base n) ≡ true → MeansAlike c d n
    unaffected_meaning n a = alike_names c d n (unaffected (base n) a).means

    pub unaffected_measure : (n : List ℕ) → among (base n) ≡ true → measures d n ≡ measures c n
    unfolding measures
    unaffected_measure n a = measure_as-same (stored_measures d) (stored_measures c) n (reading n) (unaffected (base n) a).measured
