-- What the names of given relations mean and measure.
use Rattle.std.proofs.Common.{◌≡◌, ℕ, Bool, true, false, cond, ◌||◌, Option, Some, None, List, [], ◌∷◌, refl, sym, ap, ◌∙◌, subst, true≢false, bytes_eq}
use Rattle.std.specs.Prelude.{◌↔◌, IsTrue}
use Rattle.std.specs.List.{list_any, AllByRecursion}
use Rattle.std.specs.Option.{option_map}
use Rattle.std.proofs.lemmas.Option.{same_Some, none-some}
use Rattle.std.proofs.lemmas.Slice.Eq.{bytes_eq-Decides}
use Rattle.ded_model.specs.declared.slot.Slot.{Slot}
use Rattle.ded_model.specs.declared.name.Column.{Column}
use Rattle.ded_model.specs.Row.{Atom, tuples_hold}
use Rattle.ded_model.specs.Known.{IsTupleOver}
use Rattle.ded_model.specs.Normal.{IsNormalTuple}
use Rattle.ded_model.specs.Value.{Argument, Meaning}
use Rattle.ded_model.specs.Lines.{Line, tuples_lines}
use Rattle.ded_model.specs.Catalogue.{Entry, relation, view, Catalogue, entry_name, tuples_of, at_slots, with_entry, meaning_from, stored}
use Rattle.ded_model.specs.Measure.{Measures, with_measure, measures_from, stored_measures}
use Rattle.ded_model.specs.Entries.{entry_of, relation_in}
use Rattle.ded_ranges.specs.declared.window.Window.{Window}
use Rattle.ded_ranges.specs.Windows.{IsNear, AreLent}
use Rattle.ded_ranges.proofs.Near.{near_all}
use Rattle.ded_genrel.proofs.Items.{all_weaker}
use Rattle.ded_algebra.specs.Evaluation.{AreGiven, HaveSorts, IsScannedFrom, given_tuples}

-- a name that no entry has
none_there : (n : List ℕ) (es : List Entry) → list_any (λ e. bytes_eq n (entry_name e)) es ≡ false → entry_of es n ≡ None
none_there n [] h = refl
none_there n (e ∷ es) h = go (bytes_eq n (entry_name e)) h (none_there n es)
  where
    go : (b : Bool) → (b || list_any (λ e. bytes_eq n (entry_name e)) es) ≡ false → (list_any (λ e. bytes_eq n (entry_name e)) es ≡ false → entry_of es n ≡ None) → cond b (Some e) (entry_of es n) ≡ None
    go true k ih = absurd (true≢false k)
    go false k ih = ih k

-- no other entry has the name of the first one
alone : (n m : List ℕ) (es : List Entry) → bytes_eq n m ≡ true → list_any (λ e. bytes_eq m (entry_name e)) es ≡ false → entry_of es n ≡ None
alone n m es e h = none_there n es (ap (λ x. list_any (λ e. bytes_eq x (entry_name e)) es) ((bytes_eq-Decides n m).0 e) ∙ h)

-- ---- what a name means

-- what holds of arguments, by the entry; P where there is none
abbrev holds_in : Option Entry → Type 0 → ℕ → List Argument → Type 0
holds_in None P den xs = P
holds_in (Some (relation n h m ts)) P den xs = IsTrue (tuples_hold (tuples_of ts) (record { den = den; coords = at_slots 0 h xs }))
holds_in (Some (view n h f)) P den xs = ⊥

means_from : (es : List Entry) → AreGiven es → (I : Meaning) (n : List ℕ) (den : ℕ) (xs : List Argument) → meaning_from I es n den xs ↔ holds_in (entry_of es n) (I n den xs) den xs
means_from [] g I n den xs = (λ x. x, λ x. x)
means_from (view m h f ∷ es) g I n den xs = absurd g
means_from (relation m h i ts ∷ es) g I n den xs =
    let e = relation m h i ts in
    go (bytes_eq n m) refl (means_from es g.1 (with_entry I e) n den xs)
  where
    go : (b : Bool) → bytes_eq n m ≡ b → meaning_from (with_entry I (relation m h i ts)) es n den xs ↔ holds_in (entry_of es n) (with_entry I (relation m h i ts) n den xs) den xs
        → meaning_from (with_entry I (relation m h i ts)) es n den xs ↔ holds_in (cond b (Some (relation m h i ts)) (entry_of es n)) (I n den xs) den xs
    go true e ih =
        subst (λ P. meaning_from (with_entry I (relation m h i ts)) es n den xs ↔ P) (ap (λ o. holds_in o (with_entry I (relation m h i ts) n den xs) den xs) (alone n m es e g.0) ∙ rw e refl) ih
    go false e ih =
        subst (λ P. meaning_from (with_entry I (relation m h i ts)) es n den xs ↔ holds_in (entry_of es n) P den xs) (rw e refl) ih

-- ---- its lines

abbrev lines_in : Option Entry → List Line → List Line
lines_in None ls = ls
lines_in (Some (relation n h m ts)) ls = tuples_lines (tuples_of ts)
lines_in (Some (view n h f)) ls = ls

lines_from : (es : List Entry) → AreGiven es → (M : Measures) (n : List ℕ) → (measures_from M es n).lines ≡ lines_in (entry_of es n) (M n).lines
lines_from [] g M n = refl
lines_from (view m h f ∷ es) g M n = absurd g
lines_from (relation m h i ts ∷ es) g M n = go (bytes_eq n m) refl (lines_from es g.1 (with_measure M (relation m h i ts)) n)
  where
    go : (b : Bool) → bytes_eq n m ≡ b → (measures_from (with_measure M (relation m h i ts)) es n).lines ≡ lines_in (entry_of es n) (with_measure M (relation m h i ts) n).lines
        → (measures_from (with_measure M (relation m h i ts)) es n).lines ≡ lines_in (cond b (Some (relation m h i ts)) (entry_of es n)) (M n).lines
    go true e ih = ih ∙ ap (λ o. lines_in o (with_measure M (relation m h i ts) n).lines) (alone n m es e g.0) ∙ rw e refl
    go false e ih = ih ∙ ap (lines_in (entry_of es n)) (rw e refl)

-- ---- of a name that is given

-- its tuples are over columns of the slots' sorts, it holds where one of them does, and it has their lines
pub record IsFound (Reads : Atom → Type 0) (c : Catalogue) (n : List ℕ) (ss : List Slot) (ts : List (List Atom)) : Type 1 where
  pub heading : List Column
  pub sorts : HaveSorts heading ss
  pub over : AllByRecursion (λ t. IsTupleOver heading t × AllByRecursion Reads t) ts
  pub means : (den : ℕ) (xs : List Argument) → stored c n den xs ↔ IsTrue (tuples_hold ts (record { den = den; coords = at_slots 0 heading xs }))
  pub lines : (stored_measures c n).lines ≡ tuples_lines ts

pub found : (Reads : Atom → Type 0) (c : Catalogue) (n : List ℕ) (ss : List Slot) (ts : List (List Atom)) → AreGiven c.entries → IsScannedFrom Reads (entry_of c.entries n) ss → given_tuples c n ≡ Some ts → IsFound Reads c n ss ts
unfolding stored stored_measures
found Reads c n ss ts g s e = go (entry_of c.entries n) refl s e
  where
    go : (o : Option Entry) → entry_of c.entries n ≡ o → IsScannedFrom Reads o ss → option_map tuples_of (relation_in o) ≡ Some ts → IsFound Reads c n ss ts
    go None f k i = absurd k
    go (Some (view m h x)) f k i = absurd k
    go (Some (relation m h j us)) f k i =
        let same : tuples_of us ≡ ts = same_Some (tuples_of us) ts i in
        subst (IsFound Reads c n ss) same (record {
          heading = h;
          sorts = k.0;
          over = k.1;
          means = λ den xs. subst (λ (o : Option Entry). stored c n den xs ↔ holds_in o ⊥ den xs) f (means_from c.entries g (λ n d ys. ⊥) n den xs);
          lines = lines_from c.entries g (λ n. record { b = 0; rank = 0; lines = []; clash = false; columns = 0 }) n ∙ ap (λ o. lines_in o []) f;
        })

-- a name that a plan scans is given
not_given : (Reads : Atom → Type 0) (c : Catalogue) (n : List ℕ) (ss : List Slot) → IsScannedFrom Reads (entry_of c.entries n) ss → given_tuples c n ≡ None → ⊥
not_given Reads c n ss s e = go (entry_of c.entries n) s e
  where
    go : (o : Option Entry) → IsScannedFrom Reads o ss → option_map tuples_of (relation_in o) ≡ None → ⊥
    go None k i = k
    go (Some (view m h x)) k i = k
    go (Some (relation m h j us)) k i = none-some (tuples_of us) (sym i)

-- the tuples that are lent of the relation of a name are all but some that hold nowhere in the window
pub record IsLent (Reads : Atom → Type 0) (c : Catalogue) (n : List ℕ) (ss : List Slot) (w : Window) (us : List (List Atom)) : Type 1 where
  pub all : List (List Atom)
  pub found : IsFound Reads c n ss all
  pub near : IsNear w us all

pub lent_found : (Reads : Atom → Type 0) (c : Catalogue) (n : List ℕ) (ss : List Slot) (w : Window) (us : List (List Atom)) (o : Option (List (List Atom))) → o ≡ Some us
    → AreGiven c.entries → IsScannedFrom Reads (entry_of c.entries n) ss → AreLent w o (given_tuples c n) → IsLent Reads c n ss w us
lent_found Reads c n ss w us o e g s a = go (given_tuples c n) refl (subst (λ (x : Option (List (List Atom))). AreLent w x (given_tuples c n)) e a)
  where
    go : (x : Option (List (List Atom))) → given_tuples c n ≡ x → AreLent w (Some us) x → IsLent Reads c n ss w us
    go None f k = absurd k
    go (Some ts) f k = record { all = ts; found = found Reads c n ss ts g s f; near = k }

-- their atoms are read
pub lent_reads : (Reads : Atom → Type 0) (c : Catalogue) (n : List ℕ) (ss : List Slot) (w : Window) (us : List (List Atom)) → IsLent Reads c n ss w us → AllByRecursion (λ t. AllByRecursion Reads t) us
lent_reads Reads c n ss w us k = near_all w (λ t. AllByRecursion Reads t) us k.all k.near (all_weaker (λ t. IsTupleOver k.found.heading t × AllByRecursion Reads t) (λ t. AllByRecursion Reads t) k.all (λ t j. j.1) k.found.over)

-- they are normal
pub lent_normal : (Reads : Atom → Type 0) (c : Catalogue) (n : List ℕ) (ss : List Slot) (w : Window) (us : List (List Atom)) → IsLent Reads c n ss w us → AllByRecursion IsNormalTuple us
lent_normal Reads c n ss w us k = near_all w IsNormalTuple us k.all k.near (all_weaker (λ t. IsTupleOver k.found.heading t × AllByRecursion Reads t) IsNormalTuple k.all (λ t j. j.0.normal) k.found.over)

-- a name that a plan scans is lent
pub not_lent : (Reads : Atom → Type 0) (c : Catalogue) (n : List ℕ) (ss : List Slot) (w : Window) (o : Option (List (List Atom))) → o ≡ None → IsScannedFrom Reads (entry_of c.entries n) ss → AreLent w o (given_tuples c n) → ⊥
not_lent Reads c n ss w o e s a = go (given_tuples c n) refl (subst (λ (x : Option (List (List Atom))). AreLent w x (given_tuples c n)) e a)
  where
    go : (x : Option (List (List Atom))) → given_tuples c n ≡ x → AreLent w None x → ⊥
    go None f k = not_given Reads c n ss s f
    go (Some ts) f k = k
