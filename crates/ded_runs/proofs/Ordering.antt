-- Orderly questions over a catalogue whose entries were read.
use Rattle.std.proofs.Common.{◌≡◌, false, List, [], ◌∷◌}
use Rattle.std.specs.List.{AllByRecursion}
use Rattle.ded_lex.specs.Pieces.{Statement, Whole}
use Rattle.ded_lex.specs.Pieces as pieces
use Rattle.ded_model.specs.declared.command.Language.{Language}
use Rattle.ded_model.specs.declared.command.Refusal.TheVariants.{Wide}
use Rattle.ded_model.specs.declared.name.Column.{Column}
use Rattle.ded_model.specs.Catalogue.{Entry, Catalogue}
use Rattle.ded_model.specs.Catalogue as entry
use Rattle.ded_model.specs.Command.{CommandForm, ask, query, box_of}
use Rattle.ded_model.specs.Command as command
use Rattle.ded_model.specs.Entries.{known}
use Rattle.ded_model.specs.Form.{Form}
use Rattle.ded_model.specs.Known.{IsAccepted, IsWellFormed}
use Rattle.ded_model.specs.Logic.{some_atom}
use Rattle.ded_model.specs.LongRows.{is_long_atom, has_long_row}
use Rattle.ded_model.specs.Measure.{IsTight}
use Rattle.ded_model.specs.Plain.{IsPlain, IsPlainCommand}
use Rattle.ded_model.specs.Row.{Atom}
use Rattle.ded_model.specs.ShortRows.{HasShortRows}
use Rattle.ded_width.specs.Orderly.{IsOrderly, IsShortReach}
use Rattle.ded_session.specs.Replies.{tuples, refused}
use Rattle.ded_session.specs.Steps.{Does, MayBeWide, Accepts, Step}
use Rattle.ded_session.proofs.StepLemmas.{read_short, read_plain, accepted_read}
use Rattle.ded_session.proofs.WideQuestions.{HasNone, none, asked, queried}
use Rattle.ded_runs.specs.Orderly.{IsOrderlyQuestion, IsOrderlyAnswer}
use Rattle.ded_runs.specs.Read.{WasEntryRead, WasCatalogueRead}

-- ---- entries

pub short_views : (es : List Entry) → AllByRecursion WasEntryRead es → AllByRecursion HasShortRows es
short_views [] r = tt
short_views (entry.relation n h m ts ∷ es) r = (tt, short_views es r.1)
short_views (entry.view n h f ∷ es) r =
    let x = command.view n h f in
    ((read_plain r.0.language r.0.bytes x r.0.read, read_short r.0.language r.0.bytes x r.0.read), short_views es r.1)

-- ---- what the laws of orderly formulas say

pub record Laws : Type 0 where
  pub tight : (c : Catalogue) → IsWellFormed c → (h : List Column) (f : Form) → IsAccepted (known c) h f → IsOrderly c h f → IsShortReach c h f → IsTight c h f
  pub short : (c : Catalogue) → IsWellFormed c → AllByRecursion HasShortRows c.entries → (h : List Column) (f : Form) → IsAccepted (known c) h f
      → IsPlain f → some_atom is_long_atom f ≡ false → IsShortReach c h f

module _ (laws : Laws) (c : Catalogue) (w : IsWellFormed c) (read : WasCatalogueRead c) where
  reach : (h : List Column) (f : Form) → IsAccepted (known c) h f → IsPlain f → some_atom is_long_atom f ≡ false → IsShortReach c h f
  reach = laws.short c w (short_views c.entries read)

  tight : (h : List Column) (f : Form) → IsAccepted (known c) h f → IsPlain f → some_atom is_long_atom f ≡ false → IsOrderly c h f → IsTight c h f
  tight h f a p s o = laws.tight c w h f a o (reach h f a p s)

  not_wide : (x : CommandForm) → HasNone c x → IsPlainCommand x → has_long_row x ≡ false → MayBeWide x c → IsOrderlyQuestion x c → ⊥
  not_wide (ask f) n p s m o = m (tight [] f (asked c f n) p s o)
  not_wide (query h f) n p s m o = m (tight h f (queried c h f n) p s o)
  not_wide (box_of n) h p s m o = m.1 o
  not_wide _ n p s m o = absurd o

  pub orderly_narrow : (language : Language) (s : Statement) (d : Catalogue) → Step language c s (refused Wide) d → Accepts language s c (λ x. IsOrderlyQuestion x c → ⊥)
  orderly_narrow language (Whole bytes) d p =
      let a = p.0 in
      let is = accepted_read language bytes c (λ x. MayBeWide x c) a in
      record {
        none = a.none;
        command = a.command;
        depth = a.depth;
        spells = a.spells;
        so = not_wide a.command (none language bytes c (λ x. MayBeWide x c) a) (read_plain language bytes a.command is) (read_short language bytes a.command is) a.so;
      }
  orderly_narrow language (pieces.Unfinished rest) d p = absurd p.0

  answers : (x : CommandForm) (h : List Column) (ts : List (List Atom)) (d : Catalogue) → HasNone c x → IsPlainCommand x → has_long_row x ≡ false → Does x c (tuples h ts) d → IsOrderlyAnswer x c ts
  answers (query k f) h ts d n p s does = λ o. does.1.orderly o (reach k f (queried c k f n) p s)
  answers _ h ts d n p s does = absurd does

  pub orderly_answers : (language : Language) (s : Statement) (h : List Column) (ts : List (List Atom)) (d : Catalogue) → Step language c s (tuples h ts) d
      → Accepts language s c (λ x. IsOrderlyAnswer x c ts)
  orderly_answers language (Whole bytes) h ts d a =
      let is = accepted_read language bytes c (λ x. Does x c (tuples h ts) d) a in
      record {
        none = a.none;
        command = a.command;
        depth = a.depth;
        spells = a.spells;
        so = answers a.command h ts d (none language bytes c (λ x. Does x c (tuples h ts) d) a) (read_plain language bytes a.command is) (read_short language bytes a.command is) a.so;
      }
  orderly_answers language (pieces.Unfinished rest) h ts d a = absurd a
