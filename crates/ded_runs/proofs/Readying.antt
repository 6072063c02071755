-- What was read and is well formed can be read again.
use Rattle.std.proofs.Common.{◌≡◌, ◌≤◌, ℕ, false, List, [], ◌∷◌, ◌++◌, subst, sym}
use Rattle.std.specs.List.{AllByRecursion}
use Rattle.ded_model.specs.declared.command.Language.{Language}
use Rattle.ded_model.specs.declared.name.Column.{Column}
use Rattle.ded_model.specs.Catalogue.{Entry, relation, view}
use Rattle.ded_model.specs.Command as command
use Rattle.ded_model.specs.Form.{Form}
use Rattle.ded_model.specs.Known.{KnownNames, IsAccepted, IsTupleOver, AreStored, AreEntriesOver, with_known, level_of, has_twice, has_unbound, has_missorted, scope_of}
use Rattle.ded_model.specs.Logic.{every_of, some_below}
use Rattle.ded_model.specs.Plain.{IsPlain}
use Rattle.ded_model.specs.Row.{Atom}
use Rattle.ded_model.specs.Slotted.{tuple_of}
use Rattle.ded_model.specs.Width.{tuple_length}
use Rattle.ded_sorts.specs.Causes.{is_rational_inequality}
use Rattle.ded_sorts.specs.Checks.{forms_of}
use Rattle.ded_syntax.specs.Spelling.{IsRead}
use Rattle.ded_reread.specs.Formulas.{restored, restored_tuple}
use Rattle.ded_reread.specs.Words.{TupleHasTexts}
use Rattle.ded_reread.specs.ScriptWords.{IsName, IsText, IsHeading}
use Rattle.ded_reread.specs.Lines.{relation_text, insert_text, view_text, IsLine}
use Rattle.ded_runs.specs.Read.{WasEntryRead}
use Rattle.ded_runs.proofs.Cutting.{AreLines}
use Rattle.ded_runs.proofs.Items.{Item, insert_items, items}
use Rattle.ded_runs.proofs.Running.{AreReadyTuples, AreReady}
use Rattle.ded_runs.proofs.Views.{read_plain}

-- what the laws below say of lines and of what is read back
pub record Laws : Type 0 where
  pub words : (l : Language) (bytes n : List ℕ) (h : List Column) → IsRead l bytes (command.relation n h) → IsName n × IsHeading h
  pub relations : (n : List ℕ) (h : List Column) → IsName n → IsHeading h → IsLine (relation_text n h) (command.relation n h)
  pub inserts : (n : List ℕ) (h : List Column) (t : List Atom) → IsName n → IsHeading h → has_twice h ≡ false → IsTupleOver h t → tuple_length t ≤ 63 → TupleHasTexts IsText t
      → IsLine (insert_text n h t) (command.insert n (restored_tuple h t))
  pub views : (K : KnownNames) (l : Language) (bytes n : List ℕ) (h : List Column) (f : Form) → IsRead l bytes (command.view n h f) → IsAccepted K h f → IsLine (view_text n h f) (command.view n h (restored h f))
  pub accepted : (K : KnownNames) (h : List Column) (f : Form) → IsAccepted K h f → IsPlain f → IsAccepted K h (restored h f)
  pub level : (K : KnownNames) (h : List Column) (f : Form) → level_of K (restored h f) ≡ level_of K f
  pub same : (h : List Column) (t : List Atom) → has_twice h ≡ false → IsTupleOver h t → tuple_of h (forms_of (restored_tuple h t)) ≡ t
  pub bound : (h : List Column) (t : List Atom) → has_twice h ≡ false → IsTupleOver h t → has_unbound h (every_of (restored_tuple h t)) ≡ false
  pub sorted : (K : KnownNames) (h : List Column) (t : List Atom) → has_twice h ≡ false → IsTupleOver h t → has_missorted K h (every_of (restored_tuple h t)) ≡ false
  pub equalities : (h : List Column) (t : List Atom) → has_twice h ≡ false → IsTupleOver h t → some_below is_rational_inequality (scope_of h) (every_of (restored_tuple h t)) ≡ false

module _ (laws : Laws) where
  ready_tuples : (n : List ℕ) (h : List Column) (m k : ℕ) (ts : List (ℕ × List Atom)) → IsName n → IsHeading h → has_twice h ≡ false → AreStored h m k ts
      → AllByRecursion (λ (t : ℕ × List Atom). TupleHasTexts IsText t.1) ts → AreReadyTuples n h ts
  ready_tuples n h m k [] name heading once s p = tt
  ready_tuples n h m k (t ∷ ts) name heading once s p = (
    record {
      line = laws.inserts n h t.1 name heading once s.2 s.3 p.0;
      same = laws.same h t.1 once s.2;
      bound = laws.bound h t.1 once s.2;
      sorted = λ K. laws.sorted K h t.1 once s.2;
      equalities = laws.equalities h t.1 once s.2;
    },
    ready_tuples n h m t.0 ts name heading once s.4 p.1,
  )

  pub ready_entries : (limit : ℕ) (K : KnownNames) (es : List Entry) → AreEntriesOver limit K es → AllByRecursion WasEntryRead es → AreReady limit K es
  ready_entries limit K [] w r = tt
  ready_entries limit K (relation n h m ts ∷ es) w r =
      let words = laws.words r.0.0.language r.0.0.bytes n h r.0.0.read in (
        record {
          new = w.0.0;
          few = r.0.2;
          once = r.0.1;
          room = w.1.1;
          line = laws.relations n h words.0 words.1;
          tuples = ready_tuples n h m 0 ts words.0 words.1 r.0.1 w.1.0 r.0.3;
        },
        ready_entries limit (with_known K (relation n h m ts)) es w.2 r.1,
      )
  ready_entries limit K (view n h f ∷ es) w r = (
    record {
      new = w.0.0;
      accepted = laws.accepted K h f w.1.0 (read_plain n h f r.0);
      level = subst (λ l. l ≤ 16) (sym (laws.level K h f)) w.1.1;
      line = laws.views K r.0.language r.0.bytes n h f r.0.read w.1.0;
    },
    ready_entries limit (with_known K (view n h f)) es w.2 r.1,
  )

-- ---- the lines of all of them

both_lines : (is js : List Item) → AreLines is → AreLines js → AreLines (is ++ js)
both_lines [] js p q = q
both_lines (i ∷ is) js p q = (p.0, both_lines is js p.1 q)

insert_lines : (n : List ℕ) (h : List Column) (ts : List (ℕ × List Atom)) → AreReadyTuples n h ts → AreLines (insert_items n h ts)
insert_lines n h [] r = tt
insert_lines n h (t ∷ ts) r = (r.0.line, insert_lines n h ts r.1)

pub ready_lines : (limit : ℕ) (K : KnownNames) (es : List Entry) → AreReady limit K es → AreLines (items es)
ready_lines limit K [] r = tt
ready_lines limit K (relation n h m ts ∷ es) r =
    (r.0.line, both_lines (insert_items n h ts) (items es) (insert_lines n h ts r.0.tuples) (ready_lines limit (with_known K (relation n h m ts)) es r.1))
ready_lines limit K (view n h f ∷ es) r = (r.0.line, ready_lines limit (with_known K (view n h f)) es r.1)
