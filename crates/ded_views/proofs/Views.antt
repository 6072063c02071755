-- What a catalogue has of a name is that of its entry, read over the whole catalogue.
use Rattle.std.proofs.Common.{◌≡◌, ℕ, suc, ◌≤◌, ◌<◌, arith, true, false, ◌||◌, bytes_eq, true≢false, List, [], ◌∷◌, Option, Some, None, refl, sym, ap, ap₂, ◌∙◌, subst}
use Rattle.std.specs.Prelude.{◌↔◌, IsTrue}
use Rattle.std.specs.List.{AllByRecursion}
use Rattle.std.proofs.lemmas.Slice.Eq.{bytes_eq-Decides}
use Rattle.std.proofs.Math.Nat.{le_refl}
use Rattle.ded_model.specs.declared.name.Column.{Column}
use Rattle.ded_model.specs.Row.{Atom, tuples_hold}
use Rattle.ded_model.specs.Value.{Argument}
use Rattle.ded_model.specs.Catalogue.{Entry, relation, view, Catalogue, tuples_of, at_slots, at_names, stored, meaning, Holds}
use Rattle.ded_model.specs.Made.{base, is_made}
use Rattle.ded_model.specs.Width.{rational_columns}
use Rattle.ded_model.proofs.Entries.{meaning-plain, measure-plain}
use Rattle.ded_model.specs.Entries.{known, entry_of}
use Rattle.ded_model.specs.Form.{Form, FormAtom, compare, member, speaks_of, atom_speaks_of}
use Rattle.ded_model.specs.Known.{KnownNames, IsAccepted, IsTupleOver, AreStored, IsEntryOver, IsWellFormed, entry_known, atom_level, level_with}
use Rattle.ded_model.specs.Logic.{some_atom}
use Rattle.ded_model.specs.Measure.{stored_measures, measures, entry_measure}
use Rattle.ded_model.proofs.Rows.{or_right}
use Rattle.ded_views.specs.Reaching.{atom_reaches, reaches}
use Rattle.ded_views.proofs.Placing.{entry_read, unknown}
use Rattle.ded_views.proofs.Atoms.{at_most_greatest, some_passes}
use Rattle.ded_views.proofs.ViewNames.{holds_alike, accepted, used_known, level_same, reach_of_used}
use Rattle.ded_views.proofs.GoalNames.{with_columns, measure_same}

-- ---- what it means

-- of an entry
pub relation_stored : (c : Catalogue) → IsWellFormed c → (n m : List ℕ) (h : List Column) (i : ℕ) (ts : List (ℕ × List Atom)) → entry_of c.entries n ≡ Some (relation m h i ts)
    → (d : ℕ) (xs : List Argument) → stored c n d xs ↔ IsTrue (tuples_hold (tuples_of ts) (record { den = d; coords = at_slots 0 h xs }))
relation_stored c w n m h i ts e d xs =
    let r = entry_read c w n (relation m h i ts) e in
    subst (λ (f : ℕ → List Argument → Type 0). f d xs ↔ IsTrue (tuples_hold (tuples_of ts) (record { den = d; coords = at_slots 0 h xs }))) (sym r.own_meaning) (λ s. s, λ s. s)

pub view_stored : (c : Catalogue) → IsWellFormed c → (n m : List ℕ) (h : List Column) (f : Form) → entry_of c.entries n ≡ Some (view m h f)
    → (d : ℕ) (xs : List Argument) → stored c n d xs ↔ Holds c f (record { den = d; coords = at_names h xs })
unfolding meaning
view_stored c w n m h f e d xs =
    let r = entry_read c w n (view m h f) e in
    let alike = holds_alike r.K r.I (stored c) r.kept_meaning f r.over.0.known (record { den = d; coords = at_names h xs }) in
    subst (λ (g : ℕ → List Argument → Type 0). g d xs ↔ Holds c f (record { den = d; coords = at_names h xs })) (sym r.own_meaning) (alike.1, alike.0)

-- its name is not made of another one
pub plain_there : (c : Catalogue) → IsWellFormed c → (n : List ℕ) (e : Entry) → entry_of c.entries n ≡ Some e → is_made n ≡ false
plain_there c w n e h = (entry_read c w n e h).plain

pub both_ways : (A B C : Type 0) → A ↔ B → B ↔ C → A ↔ C
both_ways A B C f g = (λ a. g.0 (f.0 a), λ c. f.1 (g.1 c))

pub relation_means : (c : Catalogue) → IsWellFormed c → (n m : List ℕ) (h : List Column) (i : ℕ) (ts : List (ℕ × List Atom)) → entry_of c.entries n ≡ Some (relation m h i ts)
    → (d : ℕ) (xs : List Argument) → meaning c n d xs ↔ IsTrue (tuples_hold (tuples_of ts) (record { den = d; coords = at_slots 0 h xs }))
relation_means c w n m h i ts e d xs = both_ways _ _ _ (meaning-plain c n d xs (plain_there c w n (relation m h i ts) e)) (relation_stored c w n m h i ts e d xs)

pub view_means : (c : Catalogue) → IsWellFormed c → (n m : List ℕ) (h : List Column) (f : Form) → entry_of c.entries n ≡ Some (view m h f)
    → (d : ℕ) (xs : List Argument) → meaning c n d xs ↔ Holds c f (record { den = d; coords = at_names h xs })
view_means c w n m h f e d xs = both_ways _ _ _ (meaning-plain c n d xs (plain_there c w n (view m h f) e)) (view_stored c w n m h f e d xs)

-- ---- what is measured and known of it

pub stored_measure : (c : Catalogue) → IsWellFormed c → (n : List ℕ) (e : Entry) → entry_of c.entries n ≡ Some e → stored_measures c n ≡ entry_measure (stored_measures c) e
stored_measure c w n (relation m h i ts) e = (entry_read c w n (relation m h i ts) e).own_measure
stored_measure c w n (view m h f) e =
    let r = entry_read c w n (view m h f) e in
    r.own_measure ∙ sym (ap (with_columns (rational_columns h)) (measure_same r.K r.M (stored_measures c) r.kept_measure h f r.over.0.known))

pub name_measure : (c : Catalogue) → IsWellFormed c → (n : List ℕ) (e : Entry) → entry_of c.entries n ≡ Some e → measures c n ≡ entry_measure (stored_measures c) e
name_measure c w n e h = measure-plain c n (plain_there c w n e h) ∙ stored_measure c w n e h

pub name_known : (c : Catalogue) → IsWellFormed c → (n : List ℕ) (e : Entry) → entry_of c.entries n ≡ Some e → known c n ≡ Some (entry_known (known c) e)
name_known c w n (relation m h i ts) e = (entry_read c w n (relation m h i ts) e).own_known
name_known c w n (view m h f) e =
    let r = entry_read c w n (view m h f) e in
    r.own_known ∙ ap (λ l. Some (record { is_view = true; columns = h; level = l })) (sym (level_same r.K (known c) r.kept_known f r.over.0.known))

-- ---- what it reaches

pub relation_reaches : (c : Catalogue) → IsWellFormed c → (n m : List ℕ) (h : List Column) (i : ℕ) (ts : List (ℕ × List Atom)) → entry_of c.entries n ≡ Some (relation m h i ts)
    → (r : List ℕ) → reaches c n r ≡ bytes_eq n r
relation_reaches c w n m h i ts e r = let read = entry_read c w n (relation m h i ts) e in ap (λ t. t r) read.own_reach ∙ ap (λ k. bytes_eq k r) (sym read.named)

pub view_reaches : (c : Catalogue) → IsWellFormed c → (n m : List ℕ) (h : List Column) (f : Form) → entry_of c.entries n ≡ Some (view m h f)
    → (r : List ℕ) → reaches c n r ≡ (bytes_eq n r || some_atom (atom_reaches (reaches c) r) f)
view_reaches c w n m h f e r =
    let read = entry_read c w n (view m h f) e in
    let over = reach_of_used read.R (reaches c) r f (λ k u. ap (λ t. t r) (read.kept_reach k (used_known read.K f k read.over.0.known u))) in
    ap (λ t. t r) read.own_reach ∙ ap₂ (λ k b. bytes_eq k r || b) (sym read.named) (sym over)

-- a view reaches what the names do that its formula uses
pub used_reaches : (c : Catalogue) → IsWellFormed c → (n m : List ℕ) (h : List Column) (f : Form) → entry_of c.entries n ≡ Some (view m h f)
    → (k r : List ℕ) → speaks_of k f ≡ true → reaches c k r ≡ true → reaches c n r ≡ true
used_reaches c w n m h f e k r u t = view_reaches c w n m h f e r ∙ or_right (bytes_eq n r) _ (some_passes (atom_speaks_of k) (atom_reaches (reaches c) r) step f u)
  where
    step : (a : FormAtom) → atom_speaks_of k a ≡ true → atom_reaches (reaches c) r a ≡ true
    step (compare l op r') h = absurd (true≢false (sym h))
    step (member j ts) h = subst (λ x. reaches c x r ≡ true) ((bytes_eq-Decides k (base j)).0 h) t

-- ---- well formed entries

pub stored_over : (h : List Column) (inserts m : ℕ) (ts : List (ℕ × List Atom)) → AreStored h inserts m ts → AllByRecursion (IsTupleOver h) (tuples_of ts)
stored_over h inserts m [] s = tt
stored_over h inserts m (t ∷ ts) s = (s.2, stored_over h inserts t.0 ts s.4)

pub tuples_over : (c : Catalogue) → IsWellFormed c → (n m : List ℕ) (h : List Column) (i : ℕ) (ts : List (ℕ × List Atom)) → entry_of c.entries n ≡ Some (relation m h i ts)
    → AllByRecursion (IsTupleOver h) (tuples_of ts)
tuples_over c w n m h i ts e = stored_over h i 0 ts (entry_read c w n (relation m h i ts) e).over.0

pub view_accepted : (c : Catalogue) → IsWellFormed c → (n m : List ℕ) (h : List Column) (f : Form) → entry_of c.entries n ≡ Some (view m h f) → IsAccepted (known c) h f
view_accepted c w n m h f e = let r = entry_read c w n (view m h f) e in accepted r.K (known c) r.kept_known h f r.over.0

entry_level : (limit : ℕ) (K : KnownNames) (e : Entry) → IsEntryOver limit K e → level_with (Some (entry_known K e)) ≤ 16
entry_level limit K (relation n h m ts) w = omega arith
entry_level limit K (view n h f) w = w.1

pub name_level : (c : Catalogue) → IsWellFormed c → (n : List ℕ) → level_with (known c n) ≤ 16
name_level c w n = by (entry_of c.entries n) refl
  where
    by : (o : Option Entry) → entry_of c.entries n ≡ o → level_with (known c n) ≤ 16
    by None e = subst (λ k. level_with k ≤ 16) (sym (unknown c n e)) (omega arith)
    by (Some e) h = let r = entry_read c w n e h in subst (λ k. level_with k ≤ 16) (sym r.own_known) (entry_level c.limit r.K e r.over)

pub lesser_level : (c : Catalogue) → IsWellFormed c → (n m : List ℕ) (h : List Column) (f : Form) → entry_of c.entries n ≡ Some (view m h f)
    → (k : List ℕ) → speaks_of k f ≡ true → level_with (known c k) < level_with (known c n)
lesser_level c w n m h f e k u =
    subst (λ o. level_with (known c k) < level_with o) (sym (name_known c w n (view m h f) e))
    (below _ _ (at_most_greatest (atom_level (known c)) (atom_speaks_of k) (level_with (known c k)) step f u))
  where
    step : (a : FormAtom) → atom_speaks_of k a ≡ true → level_with (known c k) ≤ atom_level (known c) a
    step (compare l op r) h = absurd (true≢false (sym h))
    step (member j ts) h = subst (λ x. level_with (known c k) ≤ level_with (known c x)) ((bytes_eq-Decides k (base j)).0 h) (le_refl _)

    below : (x y : ℕ) → x ≤ y → x < suc y
    below x y h = omega arith
