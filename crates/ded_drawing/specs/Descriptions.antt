-- The lines of a picture's description.
use Rattle.std.specs.Prelude.{ℕ, ◌+◌, ◌==◌, Bool, false, List, [], ◌∷◌, ◌++◌, is_none, codes, if◌then◌else◌}
use Rattle.ded_print.specs.Numbers.{number_text}
use Rattle.ded_session.specs.Replies.{ReplyForm, tuples, stored}
use Rattle.ded_session.specs.Texts.{text_of}
use Rattle.ded_figures.specs.Axes.{axes_of}
use Rattle.ded_figures.specs.declared.axes.Look.{Look}

-- ---- counts

-- words and a count
abbrev pub counted_text : List ℕ → ℕ → List ℕ
counted_text words n = words ++ number_text n

-- the reply has tuples, and lacks the columns
abbrev pub is_unseen : Look → ReplyForm → Bool
is_unseen look (tuples h ts) = is_none (axes_of look h)
is_unseen look (stored h ts) = is_none (axes_of look h)
is_unseen look reply = false

-- 1 where it is so, and else 0
abbrev pub counted : Bool → ℕ
counted b = if b then 1 else 0

-- how many of the replies have tuples, and lack the columns
abbrev pub unseen_in : Look → List ReplyForm → ℕ
unseen_in look [] = 0
unseen_in look (r ∷ rs) = counted (is_unseen look r) + unseen_in look rs

-- ---- lines

-- with the last line, unless it is empty
abbrev pub with_last : List (List ℕ) → List ℕ → List (List ℕ)
with_last lines [] = lines
with_last lines (b ∷ bs) = lines ++ (b ∷ bs) ∷ []

-- with the lines that the bytes are cut into at line feeds (10), the first of which begins so
abbrev pub lines_from : List (List ℕ) → List ℕ → List ℕ → List (List ℕ)
lines_from lines line [] = with_last lines line
lines_from lines line (b ∷ bs) = if b == 10 then lines_from (lines ++ line ∷ []) [] bs else lines_from lines (line ++ b ∷ []) bs

-- the lines of a reply without tuples
abbrev pub lines_of : ReplyForm → List (List ℕ)
lines_of (tuples h ts) = []
lines_of (stored h ts) = []
lines_of reply = lines_from [] [] (text_of reply)

-- those of all replies
abbrev pub lines_told : List ReplyForm → List (List ℕ)
lines_told [] = []
lines_told (r ∷ rs) = lines_of r ++ lines_told rs

-- how many tuples are drawn and how many are too long, how many answers lack the columns, and what is told besides
abbrev pub description : Look → ℕ → ℕ → List ReplyForm → List (List ℕ)
description look drawn wide replies =
    (counted_text (codes "tuples drawn: ") drawn ∷ counted_text (codes "tuples too long to be drawn: ") wide ∷ counted_text (codes "answers without two such columns: ") (unseen_in look replies) ∷ [])
    ++ lines_told replies
