-- The made script: rectangles in a grid, bands along its diagonals, and questions about where they meet.
use Rattle.std.specs.Prelude.{◌≡◌, ℕ, zero, suc, ◌+◌, ◌-◌, ◌*◌, List, [], ◌∷◌, ◌++◌, Bool, Option, length, map, codes}
use Rattle.std.specs.List.{flat_map}
use Rattle.std.specs.Io.KnownBytes.{Appends}
use Rattle.ded_io.specs.Devices.{Sent}
use Rattle.ded_model.specs.Catalogue.{Catalogue}
use Rattle.ded_print.specs.Numbers.{number_text}
use Rattle.ded_session.specs.Replies.{ReplyForm, some_refusal}
use Rattle.ded_session.specs.Runs.{Run}
use Rattle.ded_session.specs.Texts.{texts}

-- the numbers below n, from 0
abbrev pub below : ℕ → List ℕ
below zero = []
below (suc n) = below n ++ n ∷ []

-- texts one after another
abbrev pub joined : List (List ℕ) → List ℕ
joined parts = flat_map (λ part. part) parts

-- ---- its statements, without their `;`

-- the parts of the statement that inserts the rectangle in row j and column i, with sides of length 10
abbrev pub land_parts : ℕ → ℕ → List (List ℕ)
land_parts j i =
    codes "insert Land { n = 'r" ∷ number_text j ∷ codes "c" ∷ number_text i
    ∷ codes "', x >= " ∷ number_text (10 * i) ∷ codes ", x <= " ∷ number_text (10 * i + 10)
    ∷ codes ", y >= " ∷ number_text (10 * j) ∷ codes ", y <= " ∷ number_text (10 * j + 10) ∷ codes " }" ∷ []

-- the statement that inserts this rectangle
abbrev pub land_insert : ℕ → ℕ → List ℕ
land_insert j i = joined (land_parts j i)

-- the parts of the statement that inserts band k, of width 1
abbrev pub road_parts : ℕ → List (List ℕ)
road_parts k =
    codes "insert Road { k = 's" ∷ number_text k
    ∷ codes "', y - x >= " ∷ number_text (10 * k) ∷ codes ", y - x <= " ∷ number_text (10 * k + 1) ∷ codes " }" ∷ []

-- the statement that inserts this band
abbrev pub road_insert : ℕ → List ℕ
road_insert k = joined (road_parts k)

-- the rectangles of row j
abbrev pub land_row : ℕ → ℕ → List (List ℕ)
land_row n j = map (land_insert j) (below n)

-- two relations, row by row the n rectangles of each of n rows, n bands, and a view
unfoldable pub made_setup : ℕ → List (List ℕ)
made_setup n =
    (codes "relation Land(n text, x, y)" ∷ codes "relation Road(k text, x, y)" ∷ [])
    ++ flat_map (land_row n) (below n)
    ++ map road_insert (below n)
    ++ codes "view Cross(n text, k text) := exists x exists y (Land(n, x, y) and Road(k, x, y))" ∷ []

-- the parts of the question whether the last row's first rectangle and the last band meet
abbrev pub corner_parts : ℕ → List (List ℕ)
corner_parts n = codes "ask Cross('r" ∷ number_text (n - 1) ∷ codes "c0', 's" ∷ number_text (n - 1) ∷ codes "')" ∷ []

-- the question whether they meet
abbrev pub corner_question : ℕ → List ℕ
corner_question n = joined (corner_parts n)

-- the parts of the question whether the first row's last rectangle and the first band meet
abbrev pub other_corner_parts : ℕ → List (List ℕ)
other_corner_parts n = codes "ask Cross('r0c" ∷ number_text (n - 1) ∷ codes "', 's0')" ∷ []

-- the question whether they meet
abbrev pub other_corner_question : ℕ → List ℕ
other_corner_question n = joined (other_corner_parts n)

-- whether any meet, those two, and the bounds of both relations
unfoldable pub made_questions : ℕ → List (List ℕ)
made_questions n =
    codes "ask exists n text exists k text (Cross(n, k))"
    ∷ corner_question n
    ∷ other_corner_question n
    ∷ codes "box Land"
    ∷ codes "box Road"
    ∷ []

-- a statement with its `;`, on a line of its own
abbrev pub line : List ℕ → List ℕ
line statement = statement ++ codes ";\n"

-- all statements so, in order
abbrev pub lines : List (List ℕ) → List ℕ
lines statements = flat_map line statements

-- the made script of this size: what sets it up, and then the questions
abbrev pub made_script : ℕ → List ℕ
made_script n = lines (made_setup n ++ made_questions n)

-- ---- a run over it

-- Each statement has its reply, and the texts of the replies to the questions were written.
pub record Made (limit size : ℕ) (contents now : Option (List ℕ)) (refused : Bool) : Type 0 where
  pub setup : List ReplyForm
  pub questions : List ReplyForm
  pub last : Catalogue
  pub run : Run limit (made_script size) (setup ++ questions) last
  pub counted : length setup ≡ length (made_setup size)
  pub written : Appends contents now (texts questions)
  pub refuses : some_refusal (setup ++ questions) ≡ refused

-- Of the texts of the replies to the questions a front was written.
pub record HalfMade (limit size : ℕ) (contents now : Option (List ℕ)) : Type 0 where
  pub setup : List ReplyForm
  pub questions : List ReplyForm
  pub last : Catalogue
  pub run : Run limit (made_script size) (setup ++ questions) last
  pub counted : length setup ≡ length (made_setup size)
  pub unwritten : List ℕ
  pub written : Sent contents now (texts questions) unwritten
