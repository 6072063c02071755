-- The statement by which the lines of a reply are checked again.
use Rattle.std.specs.Prelude.{◌≡◌, ℕ, List}
use Rattle.ded_lex.specs.Pieces.{Whole}
use Rattle.ded_model.specs.declared.certificate.Entry.{Entry}
use Rattle.ded_model.specs.declared.command.Language.{Language}
use Rattle.ded_model.specs.Catalogue.{Catalogue}
use Rattle.ded_model.specs.Command.{disjoint}
use Rattle.ded_print.specs.Certificates.{apart_text}
use Rattle.ded_syntax.specs.Spelling.{Spells}
use Rattle.ded_session.specs.Replies.{apart}
use Rattle.ded_session.specs.Steps.{Step}
use Rattle.ded_runs.specs.Lines.{HasLines, AreBlanks, verify_text}

-- A statement that spells `disjoint` of the two names was answered by these certificates over the catalogue, and the piece is `verify`
-- of the names and of the lines of the reply's text.
pub record IsRecheck (language : Language) (c : Catalogue) (n m : List ℕ) (es : List Entry) (piece : List ℕ) : Type 0 where
  pub bytes : List ℕ
  pub depth : ℕ
  pub spells : Spells language bytes (disjoint n m) depth
  pub after : Catalogue
  pub step : Step language c (Whole bytes) (apart es) after
  pub lines : List (List ℕ)
  pub has : HasLines (apart_text es) lines
  pub blanks : List ℕ
  pub blank : AreBlanks blanks
  pub is : piece ≡ verify_text blanks n m lines
