-- Markup as a tree, and its text. Names of elements and attributes are written as they are, all else is escaped.
use Rattle.std.specs.Prelude.{ℕ, List, [], ◌∷◌, ◌++◌, codes}
use Rattle.ded_svg.specs.Escaping.{escape}

-- nothing, a text, the end of a line, an element with its name, its attributes and its content, and one thing after another
pub data Markup : Type 0 where
  empty : Markup
  character_data : List ℕ → Markup
  line_end : Markup
  element : List ℕ → List (List ℕ × List ℕ) → Markup → Markup
  sequence : Markup → Markup → Markup

-- ` name="value"`
unfoldable pub attribute_text : List ℕ → List ℕ → List ℕ
attribute_text name value = 32 ∷ (name ++ (codes "=\"" ++ (escape value ++ (34 ∷ []))))

-- attributes before what follows them
abbrev pub attributes_before : List (List ℕ × List ℕ) → List ℕ → List ℕ
attributes_before [] rest = rest
attributes_before (a ∷ more) rest = attribute_text a.0 a.1 ++ attributes_before more rest

-- an element takes a start tag and an end tag, and the end of the line
abbrev pub markup_text : Markup → List ℕ
markup_text empty = []
markup_text (character_data words) = escape words
markup_text line_end = 10 ∷ []
markup_text (element name attributes content) = 60 ∷ (name ++ attributes_before attributes (62 ∷ (markup_text content ++ (codes "</" ++ (name ++ codes ">\n")))))
markup_text (sequence first second) = markup_text first ++ markup_text second
