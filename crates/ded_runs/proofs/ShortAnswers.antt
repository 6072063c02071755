-- The numbers in answers over a catalogue whose rows are short have at most 127 digits, and those of stored tuples at most 63.
use Rattle.std.proofs.Common.{◌≡◌, ◌≤◌, ℕ, Bool, true, false, Some, None, List, [], ◌∷◌, arith, bytes_eq, sym, subst}
use Rattle.std.specs.Prelude.{if◌then◌else◌}
use Rattle.std.specs.List.{AllByRecursion}
use Rattle.ded_lex.specs.Pieces.{Statement, Whole}
use Rattle.ded_lex.specs.Pieces as pieces
use Rattle.ded_model.specs.declared.command.Language.{Language}
use Rattle.ded_model.specs.declared.name.Column.{Column}
use Rattle.ded_model.specs.Catalogue.{Entry, Catalogue, entry_name}
use Rattle.ded_model.specs.Catalogue as entry
use Rattle.ded_model.specs.Command.{CommandForm, query, show}
use Rattle.ded_model.specs.Entries.{entry_of, known, stored_in}
use Rattle.ded_model.specs.Form.{Form}
use Rattle.ded_model.specs.Known.{KnownNames, AreStored, IsAccepted, IsEntryOver, AreEntriesOver, IsTupleOver, IsWellFormed, with_known}
use Rattle.ded_model.specs.Lines.{AreWithin, tuples_lines}
use Rattle.ded_model.specs.Logic.{some_atom}
use Rattle.ded_model.specs.LongRows.{is_long_atom, has_long_row}
use Rattle.ded_model.specs.Measure.{measures, goal_lines}
use Rattle.ded_model.specs.Normal.{IsNormalTuple}
use Rattle.ded_model.specs.Plain.{IsPlain, IsPlainCommand}
use Rattle.ded_model.specs.Row.{Atom}
use Rattle.ded_model.specs.ShortRows.{HasShortRows}
use Rattle.ded_model.specs.Slotted.{goal_of}
use Rattle.ded_model.specs.Width.{tuple_length, tuples_length}
use Rattle.ded_session.specs.Replies.{tuples, stored}
use Rattle.ded_session.specs.Steps.{Does, Step}
use Rattle.ded_session.proofs.StepLemmas.{read_short, read_plain, accepted_read}
use Rattle.ded_session.proofs.WideQuestions.{HasNone, none, queried}

-- ---- what the laws of lines say

pub record Lengths : Type 0 where
  pub lines : (c : Catalogue) → IsWellFormed c → AllByRecursion HasShortRows c.entries → (h : List Column) (f : Form) → IsAccepted (known c) h f
      → IsPlain f → some_atom is_long_atom f ≡ false → AreWithin 127 (goal_lines (measures c) (goal_of h f))
  pub rows : (ts : List (List Atom)) (b : ℕ) → AllByRecursion IsNormalTuple ts → AreWithin b (tuples_lines ts) → tuples_length ts ≤ b

-- ---- answers

-- the tuples have at most 127 digits
abbrev pub AreShort : List (List Atom) → Type 0
AreShort ts = AllByRecursion (λ t. tuple_length t ≤ 127) ts

normal_tuples : (h : List Column) (ts : List (List Atom)) → AllByRecursion (IsTupleOver h) ts → AllByRecursion IsNormalTuple ts
normal_tuples h [] o = tt
normal_tuples h (t ∷ ts) o = (o.0.normal, normal_tuples h ts o.1)

each_short : (ts : List (List Atom)) → tuples_length ts ≤ 127 → AreShort ts
each_short [] h = tt
each_short (t ∷ ts) h = (omega (arith, h), each_short ts (omega (arith, h)))

module _ (laws : Lengths) (c : Catalogue) (w : IsWellFormed c) (views : AllByRecursion HasShortRows c.entries) where
  short : (x : CommandForm) (h : List Column) (ts : List (List Atom)) (d : Catalogue) → HasNone c x → IsPlainCommand x → has_long_row x ≡ false → Does x c (tuples h ts) d → AreShort ts
  short (query k f) h ts d n p s does =
      each_short ts (laws.rows ts 127 (normal_tuples k ts does.1.over) (λ l i. laws.lines c w views k f (queried c k f n) p s l (does.1.lines l i)))
  short _ h ts d n p s does = absurd does

  pub short_answers : (language : Language) (s : Statement) (h : List Column) (ts : List (List Atom)) (d : Catalogue) → Step language c s (tuples h ts) d → AreShort ts
  short_answers language (Whole bytes) h ts d a =
      let is = accepted_read language bytes c (λ x. Does x c (tuples h ts) d) a in
      short a.command h ts d (none language bytes c (λ x. Does x c (tuples h ts) d) a) (read_plain language bytes a.command is) (read_short language bytes a.command is) a.so
  short_answers language (pieces.Unfinished rest) h ts d a = absurd a

-- ---- stored tuples

-- they have at most 63 digits
abbrev pub AreShortStored : List (ℕ × List Atom) → Type 0
AreShortStored ts = AllByRecursion (λ t. tuple_length t.1 ≤ 63) ts

stored_short : (h : List Column) (inserts m : ℕ) (ts : List (ℕ × List Atom)) → AreStored h inserts m ts → AreShortStored ts
stored_short h inserts m [] s = tt
stored_short h inserts m (t ∷ ts) s = (s.3, stored_short h inserts t.0 ts s.4)

entry_short : (limit : ℕ) (K : KnownNames) (e : Entry) → IsEntryOver limit K e → AreShortStored (stored_in (Some e))
entry_short limit K (entry.relation n h i ts) o = stored_short h i 0 ts o.0
entry_short limit K (entry.view n h f) o = tt

entries_short : (limit : ℕ) (K : KnownNames) (es : List Entry) (n : List ℕ) → AreEntriesOver limit K es → AreShortStored (stored_in (entry_of es n))
entries_short limit K [] n w = tt
entries_short limit K (e ∷ es) n w = by (bytes_eq n (entry_name e)) (entry_short limit K e w.1) (entries_short limit (with_known K e) es n w.2)
  where
    by : (b : Bool) → AreShortStored (stored_in (Some e)) → AreShortStored (stored_in (entry_of es n)) → AreShortStored (stored_in (if b then Some e else entry_of es n))
    by true h k = h
    by false h k = k

module _ (c : Catalogue) (w : IsWellFormed c) where
  shown : (x : CommandForm) (h : List Column) (ts : List (ℕ × List Atom)) (d : Catalogue) → Does x c (stored h ts) d → AreShortStored ts
  shown (show n) h ts d does = subst AreShortStored (sym does.1) (entries_short c.limit (λ m. None) c.entries n w)
  shown _ h ts d does = absurd does

  pub short_stored : (language : Language) (s : Statement) (h : List Column) (ts : List (ℕ × List Atom)) (d : Catalogue) → Step language c s (stored h ts) d → AreShortStored ts
  short_stored language (Whole bytes) h ts d a = shown a.command h ts d a.so
  short_stored language (pieces.Unfinished rest) h ts d a = absurd a
