-- The lines of a reply, and the statement that is made of them.
use Rattle.std.specs.Prelude.{◌≡◌, ℕ, true, List, [], ◌∷◌, ◌++◌, codes}
use Rattle.std.specs.List.{AllByRecursion}
use Rattle.ded_lex.specs.Gaps.{blank_byte}
use Rattle.ded_lex.specs.Lexemes.{Each}
use Rattle.ded_print.specs.Lines.{line_text, lines_text, is_one_line}

-- The text is a first line, these lines, and `end`. No line has a line feed before its end.
pub record HasLines (text : List ℕ) (lines : List (List ℕ)) : Type 0 where
  pub first : List ℕ
  pub is : text ≡ line_text first ++ (lines_text lines ++ line_text (codes "end"))
  pub one : is_one_line first ≡ true
  pub each : AllByRecursion (λ line. is_one_line line ≡ true) lines

-- spaces, tabs, line feeds and carriage returns
abbrev pub AreBlanks : List ℕ → Type 0
AreBlanks = Each blank_byte

-- each line behind a comma, and the brace behind all; these blanks stand before and behind each line
abbrev pub later_lines : List ℕ → List (List ℕ) → List ℕ
later_lines blanks [] = codes "}"
later_lines blanks (line ∷ lines) = codes "," ++ (blanks ++ (line ++ (blanks ++ later_lines blanks lines)))

-- the lines with a comma between each and the next, and the brace behind them
abbrev pub closed_lines : List ℕ → List (List ℕ) → List ℕ
closed_lines blanks [] = codes "}"
closed_lines blanks (line ∷ lines) = line ++ (blanks ++ later_lines blanks lines)

-- `verify`, two names, and the lines in braces, with a comma between each and the next, and these blanks before and behind each
abbrev pub verify_text : List ℕ → List ℕ → List ℕ → List (List ℕ) → List ℕ
verify_text blanks n m lines = blanks ++ (codes "verify " ++ (n ++ (codes " " ++ (m ++ (codes " {" ++ (blanks ++ closed_lines blanks lines))))))
