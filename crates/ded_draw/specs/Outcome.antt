-- What a run that draws leaves in its source and its sink.
use Rattle.std.specs.Prelude.{◌≡◌, ◌<◌, ◌≤◌, ℕ, Bool, ◌||◌, List, Option, length}
use Rattle.std.specs.Io.KnownBytes.{Appends, Consumes, IsAtEnd}
use Rattle.ded_io.specs.Devices.{Sent}
use Rattle.ded_dialogue.specs.Forms.{GivesAll}
use Rattle.ded_lex.specs.Pieces.{Statement, AreStatements}
use Rattle.ded_drawing.specs.Drawings.{IsDrawing}
use Rattle.ded_drawing.specs.declared.drawing.Drawing.{Drawing}
use Rattle.ded_drawing.specs.declared.style.Style.{Style}
use Rattle.ded_run.specs.OneSession.{MayReply, Standing, opening}
use Rattle.ded_session.specs.Replies.{ReplyForm, some_refusal}
use Rattle.ded_svg.specs.Pictures.{svg_text}
use Rattle.ded_draw.specs.Gathering.{told}

-- Some bytes were taken, which are the whole input and at most so many, the statements in them got these replies, and this is the drawing
-- of what these tell.
pub record IsDrawn (limit input_limit : ℕ) (style : Style) (input left : Option (List ℕ)) (drawing : Drawing) (refused : Bool) : Type 0 where
  pub taken : List ℕ
  pub takes : Consumes input left taken
  pub read : IsAtEnd left
  pub within : length taken ≤ input_limit
  pub statements : List Statement
  pub cut : AreStatements taken statements
  pub replies : List ReplyForm
  pub last : Standing
  pub steps : GivesAll MayReply (opening limit) statements replies last
  pub drawn : IsDrawing style (told replies) drawing
  pub refuses : some_refusal replies || drawing.wide ≡ refused

-- More than so many bytes were taken.
pub record IsOverlong (input_limit : ℕ) (input left : Option (List ℕ)) : Type 0 where
  pub taken : List ℕ
  pub takes : Consumes input left taken
  pub more : input_limit < length taken

-- The text of the picture of what these replies tell was written; some statement was refused, or a tuple isn't drawn, as `refused` says.
pub record Written (style : Style) (replies : List ReplyForm) (before : Bool) (contents now : Option (List ℕ)) (refused : Bool) : Type 0 where
  pub drawing : Drawing
  pub drawn : IsDrawing style replies drawing
  pub refuses : before || drawing.wide ≡ refused
  pub written : Appends contents now (svg_text drawing.picture)

-- Or a front of it.
pub record HalfWritten (style : Style) (replies : List ReplyForm) (before : Bool) (contents now : Option (List ℕ)) : Type 0 where
  pub drawing : Drawing
  pub drawn : IsDrawing style replies drawing
  pub unwritten : List ℕ
  pub written : Sent contents now (svg_text drawing.picture) unwritten

-- ---- of a script

-- and the text of its picture was written
pub record Pictured (limit input_limit : ℕ) (style : Style) (input left contents now : Option (List ℕ)) (refused : Bool) : Type 0 where
  pub drawing : Drawing
  pub is : IsDrawn limit input_limit style input left drawing refused
  pub written : Appends contents now (svg_text drawing.picture)

-- or a front of it, where the sink failed
pub record HalfPictured (limit input_limit : ℕ) (style : Style) (input left contents now : Option (List ℕ)) : Type 0 where
  pub drawing : Drawing
  pub refused : Bool
  pub is : IsDrawn limit input_limit style input left drawing refused
  pub unwritten : List ℕ
  pub written : Sent contents now (svg_text drawing.picture) unwritten
