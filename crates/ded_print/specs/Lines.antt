-- Lines, and the replies that are one line.
use Rattle.std.specs.Prelude.{ℕ, Bool, true, false, List, [], ◌∷◌, ◌++◌, length, codes, ◌==◌, if◌then◌else◌}
use Rattle.std.specs.List.{flat_map}
use Rattle.ded_model.specs.declared.command.Refusal.{Refusal}
use Rattle.ded_model.specs.Refusals.{refusal_number, refusal_word}
use Rattle.ded_print.specs.Numbers.{number_text}

-- the bytes and a line feed
abbrev pub line_text : List ℕ → List ℕ
line_text bytes = bytes ++ 10 ∷ []

-- one line after another
abbrev pub lines_text : List (List ℕ) → List ℕ
lines_text lines = flat_map line_text lines

-- a line of the kind of reply and, as a text, the count of the lines after it, these lines, and `end`
abbrev pub counted_text : List ℕ → List ℕ → List (List ℕ) → List ℕ
counted_text kind count lines = line_text (kind ++ (32 ∷ count)) ++ (lines_text lines ++ line_text (codes "end"))

-- `dump K`, where K is the count of the script's lines, and these
abbrev pub script_text : List (List ℕ) → List ℕ
script_text lines = counted_text (codes "dump") (number_text (length lines)) lines

-- `ok`
abbrev pub done_text : List ℕ
done_text = line_text (codes "ok")

-- `yes` or `no`
abbrev pub truth_line : Bool → List ℕ
truth_line true = codes "yes"
truth_line false = codes "no"

-- the line `yes` or `no`
abbrev pub truth_text : Bool → List ℕ
truth_text b = line_text (truth_line b)

-- `tuple K`, where K is the number that a tuple was given
abbrev pub number_reply_line : ℕ → List ℕ
number_reply_line k = codes "tuple " ++ number_text k

-- the line `tuple K`
abbrev pub number_reply_text : ℕ → List ℕ
number_reply_text k = line_text (number_reply_line k)

-- `meet I J`, the numbers of two tuples with a common point
abbrev pub meeting_line : ℕ → ℕ → List ℕ
meeting_line i j = codes "meet " ++ (number_text i ++ (32 ∷ number_text j))

-- the line `meet I J`
abbrev pub meeting_text : ℕ → ℕ → List ℕ
meeting_text i j = line_text (meeting_line i j)

-- `refused N word`
abbrev pub refusal_line : Refusal → List ℕ
refusal_line r = codes "refused " ++ (number_text (refusal_number r) ++ (32 ∷ refusal_word r))

-- the line `refused N word`
abbrev pub refusal_text : Refusal → List ℕ
refusal_text r = line_text (refusal_line r)

-- ---- the replies of one line

-- a reply of one line: that it is done, yes or no, a tuple's number, the numbers of two tuples that meet, or a refusal
pub data LineReply : Type 0 where
  done : LineReply
  truth : Bool → LineReply
  numbered : ℕ → LineReply
  met : ℕ → ℕ → LineReply
  refused : Refusal → LineReply

-- the bytes of a reply's line, without its line feed
abbrev pub reply_line : LineReply → List ℕ
reply_line done = codes "ok"
reply_line (truth b) = truth_line b
reply_line (numbered k) = number_reply_line k
reply_line (met i j) = meeting_line i j
reply_line (refused r) = refusal_line r

-- a reply as a line
abbrev pub reply_text : LineReply → List ℕ
reply_text reply = line_text (reply_line reply)

-- no line feed stands in the bytes
abbrev pub is_one_line : List ℕ → Bool
is_one_line [] = true
is_one_line (b ∷ bs) = if b == 10 then false else is_one_line bs
