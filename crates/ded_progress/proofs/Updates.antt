-- Accepted commands that change a catalogue change it.
use Rattle.std.proofs.Common.{◌≡◌, ◌+◌, ◌==◌, ℕ, Bool, true, false, not, List, [], ◌∷◌, ◌++◌, ⊎_elim, refl, sym, ap, ◌∙◌, subst, true≢false, bytes_eq}
use Rattle.std.specs.Prelude.{Option, Some, None, is_some, is_none, ◌||◌, if◌then◌else◌}
use Rattle.std.specs.List.{list_any}
use Rattle.std.proofs.lemmas.Bool.{not-false}
use Rattle.std.proofs.lemmas.Bool.Decides.{eqb_tells}
use Rattle.std.proofs.lemmas.Slice.Eq.{bytes_eq-Decides}
use Rattle.ded_model.specs.declared.command.Refusal.TheVariants.{Unknown, Kind, NoTuple}
use Rattle.ded_model.specs.declared.name.Column.{Column}
use Rattle.ded_model.specs.Catalogue.{Entry, Catalogue, entry_name}
use Rattle.ded_model.specs.Catalogue as entry
use Rattle.ded_model.specs.Command.{relation, insert, delete, drop, view}
use Rattle.ded_model.specs.Entries.{entry_of, stored_in, relation_in, known, columns_in, tuples_in}
use Rattle.ded_model.specs.Form.{Form, FormAtom}
use Rattle.ded_model.specs.Known.{Known, IsWellFormed}
use Rattle.ded_model.specs.Logic.{Logics}
use Rattle.ded_model.specs.Row.{Atom}
use Rattle.ded_model.specs.Slotted.{tuple_of}
use Rattle.ded_sorts.specs.Causes.{is_view_with, is_relation_with}
use Rattle.ded_sorts.specs.Checks.{forms_of}
use Rattle.ded_sorts.proofs.KnownEntries.{KnownFrom, known_entry, relation_there}
use Rattle.ded_terminals.proofs.Binds.{some_same}
use Rattle.ded_session.specs.Carrying.{NoCause}
use Rattle.ded_session.specs.Replies.{done, number}
use Rattle.ded_progress.specs.Progress.{IsDone}

-- ---- the entry of a name

-- the entry stands in the list, and has the name
pub record IsThere (es : List Entry) (n : List ℕ) (e : Entry) : Type 0 where
  pub before : List Entry
  pub after : List Entry
  pub was : es ≡ before ++ e ∷ after
  pub named : entry_name e ≡ n

nothing : {A : Type 0} (x : A) → None ≡ Some x → ⊥
nothing x e = cc

pub there : (es : List Entry) (n : List ℕ) (e : Entry) → entry_of es n ≡ Some e → IsThere es n e
there [] n e h = absurd (nothing e h)
there (d ∷ es) n e h = by (bytes_eq n (entry_name d)) refl (there es n e)
  where
    by : (b : Bool) → bytes_eq n (entry_name d) ≡ b → (entry_of es n ≡ Some e → IsThere es n e) → IsThere (d ∷ es) n e
    by true f next =
        let same : d ≡ e = some_same d e (sym (ap (λ (b : Bool). if b then Some d else entry_of es n) f) ∙ h) in
        record { before = []; after = es; was = ap (λ (x : Entry). x ∷ es) same; named = ap entry_name (sym same) ∙ sym ((bytes_eq-Decides n (entry_name d)).0 f) }
    by false f next =
        let s = next (sym (ap (λ (b : Bool). if b then Some d else entry_of es n) f) ∙ h) in
        record { before = d ∷ s.before; after = s.after; was = ap (λ (xs : List Entry). d ∷ xs) s.was; named = s.named }

-- ---- a tuple of a number

pub record IsNumbered (ts : List (ℕ × List Atom)) (k : ℕ) : Type 0 where
  pub before : List (ℕ × List Atom)
  pub tuple : List Atom
  pub after : List (ℕ × List Atom)
  pub was : ts ≡ before ++ (k, tuple) ∷ after

numbered : (ts : List (ℕ × List Atom)) (k : ℕ) → list_any (λ t. t.0 == k) ts ≡ true → IsNumbered ts k
numbered [] k h = absurd (true≢false (sym h))
numbered (t ∷ ts) k h = by (t.0 == k) refl (numbered ts k)
  where
    by : (b : Bool) → (t.0 == k) ≡ b → (list_any (λ u. u.0 == k) ts ≡ true → IsNumbered ts k) → IsNumbered (t ∷ ts) k
    by true e next =
        let same : t.0 ≡ k = ⊎_elim (λ f. f.1) (λ f. absurd (true≢false (sym e ∙ f.0))) (eqb_tells t.0 k) in
        record { before = []; tuple = t.1; after = ts; was = ap (λ (i : ℕ). (i, t.1) ∷ ts) same }
    by false e next =
        let s = next (sym (ap (λ (b : Bool). b || list_any (λ u. u.0 == k) ts) e) ∙ h) in
        record { before = t ∷ s.before; tuple = s.tuple; after = s.after; was = ap (λ (us : List (ℕ × List Atom)). t ∷ us) s.was }

-- ---- commands

relation_of : (k : Option Known) → is_none k ≡ false → is_view_with k ≡ false → is_relation_with k ≡ true
relation_of None e f = absurd (true≢false e)
relation_of (Some k) e f = ap not f

module _ (c : Catalogue) where
  pub relation_done : (n : List ℕ) (h : List Column) → IsDone c (relation n h)
  relation_done n h = record { reply = done; next = record c { entries = c.entries ++ entry.relation n h 0 [] ∷ [] }; does = refl; answer = refl }

  pub view_done : (n : List ℕ) (h : List Column) (f : Form) → IsDone c (view n h f)
  view_done n h f = record { reply = done; next = record c { entries = c.entries ++ entry.view n h f ∷ [] }; does = refl; answer = refl }

  module _ (w : IsWellFormed c) (n : List ℕ) where
    insert_by : (fs : Logics FormAtom) (o : Option Entry) → entry_of c.entries n ≡ o → is_some (relation_in o) ≡ true → IsDone c (insert n fs)
    insert_by fs None e s = absurd (true≢false (sym s))
    insert_by fs (Some (entry.view m h f)) e s = absurd (true≢false (sym s))
    insert_by fs (Some (entry.relation m h i ts)) e s =
        let p = there c.entries n (entry.relation m h i ts) e in
        let t = tuple_of (columns_in c n) (forms_of fs) in
        record {
          reply = number (i + 1);
          next = record c { entries = p.before ++ entry.relation n h (i + 1) (ts ++ (i + 1, t) ∷ []) ∷ p.after };
          does = record {
            columns = h;
            inserts = i;
            present = ts;
            number = refl;
            changes = record {
              before = p.before;
              after = p.after;
              was = subst (λ (k : List ℕ). c.entries ≡ p.before ++ entry.relation k h i ts ∷ p.after) p.named p.was;
              is = refl;
              named = refl;
            };
          };
          answer = refl;
        }

    pub insert_done : (fs : Logics FormAtom) → NoCause c (insert n fs) → IsDone c (insert n fs)
    insert_done fs none = insert_by fs (entry_of c.entries n) refl (relation_there c n w (relation_of (known c n) (none Unknown) (none Kind)))

    delete_by : (k : ℕ) (o : Option Entry) → entry_of c.entries n ≡ o → list_any (λ t. t.0 == k) (stored_in o) ≡ true → IsDone c (delete n k)
    delete_by k None e s = absurd (true≢false (sym s))
    delete_by k (Some (entry.view m h f)) e s = absurd (true≢false (sym s))
    delete_by k (Some (entry.relation m h i ts)) e s =
        let p = there c.entries n (entry.relation m h i ts) e in
        let t = numbered ts k s in
        record {
          reply = done;
          next = record c { entries = p.before ++ entry.relation n h i (t.before ++ t.after) ∷ p.after };
          does = record {
            columns = h;
            inserts = i;
            before = t.before;
            tuple = t.tuple;
            after = t.after;
            changes = record {
              before = p.before;
              after = p.after;
              was = subst (λ (us : List (ℕ × List Atom)). c.entries ≡ p.before ++ entry.relation n h i us ∷ p.after) t.was
                  (subst (λ (j : List ℕ). c.entries ≡ p.before ++ entry.relation j h i ts ∷ p.after) p.named p.was);
              is = refl;
              named = refl;
            };
          };
          answer = refl;
        }

    pub delete_done : (k : ℕ) → NoCause c (delete n k) → IsDone c (delete n k)
    delete_done k none = delete_by k (entry_of c.entries n) refl (not-false (list_any (λ t. t.0 == k) (tuples_in c n)) (none NoTuple))

    drop_by : (o : Option Entry) → entry_of c.entries n ≡ o → KnownFrom o None (known c n) → is_none (known c n) ≡ false → IsDone c (drop n)
    drop_by None e k s = absurd (true≢false (sym (ap is_none k) ∙ s))
    drop_by (Some d) e k s =
        let p = there c.entries n d e in
        record {
          reply = done;
          next = record c { entries = p.before ++ p.after };
          does = record { before = p.before; old = d; after = p.after; was = p.was; is = refl; named = p.named };
          answer = refl;
        }

    pub drop_done : NoCause c (drop n) → IsDone c (drop n)
    drop_done none = drop_by (entry_of c.entries n) refl (known_entry c n w) (none Unknown)
