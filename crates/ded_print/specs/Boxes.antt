-- How the bounds of a relation are written.
use Rattle.std.specs.Prelude.{ℕ, List, [], ◌∷◌, ◌++◌, codes, if◌then◌else◌}
use Rattle.ded_model.specs.declared.bound.Bound.{Bound}
use Rattle.ded_model.specs.declared.bound.Bound.TheVariants.{Infinite, Excluded, Included}
use Rattle.ded_model.specs.declared.bound.BoxReply.{BoxReply}
use Rattle.ded_model.specs.declared.bound.BoxReply.TheVariants.{Nowhere, NoRational, Spans}
use Rattle.ded_model.specs.declared.name.Column.{Column}
use Rattle.ded_model.specs.declared.slot.Sort.TheVariants.{Rat}
use Rattle.ded_model.specs.Point.{same_sort}
use Rattle.ded_print.specs.Lines.{line_text, lines_text}
use Rattle.ded_print.specs.Numbers.{fraction_text}

-- a lower bound: its fraction after a square bracket where it is attained, else after a parenthesis; `(-inf` for none
abbrev pub lower_text : Bound → List ℕ
lower_text Infinite = codes "(-inf"
lower_text (Excluded f) = codes "(" ++ fraction_text f
lower_text (Included f) = codes "[" ++ fraction_text f

-- an upper bound: its fraction before a square bracket where it is attained, else before a parenthesis; `inf)` for none
abbrev pub upper_text : Bound → List ℕ
upper_text Infinite = codes "inf)"
upper_text (Excluded f) = fraction_text f ++ codes ")"
upper_text (Included f) = fraction_text f ++ codes "]"

-- a column's name, ` in `, the lower bound, `, `, and the upper bound
abbrev pub span_line : List ℕ → Bound × Bound → List ℕ
span_line name span = name ++ (codes " in " ++ (lower_text span.0 ++ (codes ", " ++ upper_text span.1)))

-- the names of the rational columns, in order
abbrev pub rational_names : List Column → List (List ℕ)
rational_names [] = []
rational_names (c ∷ cs) = if same_sort c.sort Rat then (c.name ∷ rational_names cs) else rational_names cs

-- each name with its bounds
abbrev pub span_lines : List (List ℕ) → List (Bound × Bound) → List (List ℕ)
span_lines [] spans = []
span_lines (name ∷ names) [] = []
span_lines (name ∷ names) (span ∷ spans) = span_line name span ∷ span_lines names spans

-- one line for each rational column in order of the heading
abbrev pub spans_text : List Column → List (Bound × Bound) → List ℕ
spans_text columns spans = lines_text (span_lines (rational_names columns) spans)

-- `empty` where the relation has no point, `no rational column` where it has one and no rational column
abbrev pub box_text : List Column → BoxReply → List ℕ
box_text columns Nowhere = line_text (codes "empty")
box_text columns NoRational = line_text (codes "no rational column")
box_text columns (Spans spans) = spans_text columns spans
