-- The tables of answers and of stored tuples.
use Rattle.std.specs.Prelude.{◌≡◌, ℕ, List, [], ◌∷◌, ◌++◌, length, codes}
use Rattle.ded_model.specs.declared.name.Column.{Column}
use Rattle.ded_model.specs.Row.{Atom}
use Rattle.ded_print.specs.Lines.{counted_text}
use Rattle.ded_print.specs.Numbers.{number_text}
use Rattle.ded_print.specs.Plans.{sort_text}
use Rattle.ded_cells.specs.declared.extent.Extent.{Extent}
use Rattle.ded_cells.specs.Extents.{IsExtent}
use Rattle.ded_cells.specs.Lines.{tuple_text}

-- the columns as they are declared, the first one after `lead`, each later one after a tab
abbrev pub titles_text : List ℕ → List Column → List ℕ
titles_text lead [] = []
titles_text lead (c ∷ cs) = lead ++ (c.name ++ (sort_text c.sort ++ titles_text (9 ∷ []) cs))

-- The line is that of the tuple with its exact bounds, or with those that are told as too wide.
pub record IsTupleLine (h : List Column) (lead : List ℕ) (atoms : List Atom) (line : List ℕ) : Type 0 where
  pub extent : Extent
  pub is_extent : IsExtent h atoms extent
  pub is : line ≡ tuple_text h lead atoms extent

-- the line of a stored tuple begins with its number
pub record IsStoredLine (h : List Column) (t : ℕ × List Atom) (line : List ℕ) : Type 0 where
  pub behind : List ℕ
  pub is_behind : IsTupleLine h (9 ∷ []) t.1 behind
  pub is : line ≡ number_text t.0 ++ behind

-- the line of a tuple of an answer has nothing before its cells
abbrev pub IsAnswerLine : List Column → List Atom → List ℕ → Type 0
IsAnswerLine h t line = IsTupleLine h [] t line

-- one line for each, in order
abbrev pub AreLines : {A : Type 0} → (A → List ℕ → Type 0) → List A → List (List ℕ) → Type 0
AreLines IsLine [] [] = Unit {0}
AreLines IsLine [] (l ∷ ls) = ⊥
AreLines IsLine (x ∷ xs) [] = ⊥
AreLines IsLine (x ∷ xs) (l ∷ ls) = IsLine x l × AreLines IsLine xs ls

-- The text is the kind and the count, a line of titles, a line for each tuple, and `end`.
pub record IsTable {A : Type 0} (kind titles : List ℕ) (IsLine : A → List ℕ → Type 0) (tuples : List A) (text : List ℕ) : Type 0 where
  pub lines : List (List ℕ)
  pub are : AreLines IsLine tuples lines
  pub is : text ≡ counted_text kind (number_text (length tuples)) (titles ∷ lines)

-- `answer K` and the columns
abbrev pub IsAnswerTable : List Column → List (List Atom) → List ℕ → Type 0
IsAnswerTable h tuples text = IsTable (codes "answer") (titles_text [] h) (IsAnswerLine h) tuples text

-- `tuples K`, and before the columns that of the numbers
abbrev pub IsStoredTable : List Column → List (ℕ × List Atom) → List ℕ → Type 0
IsStoredTable h stored text = IsTable (codes "tuples") (codes "tuple" ++ titles_text (9 ∷ []) h) (IsStoredLine h) stored text
