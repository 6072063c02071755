-- A colour for each first text, by the place of the text.
use Rattle.std.specs.Prelude.{ℕ, ◌+◌, List, [], ◌∷◌, codes}
use Rattle.std.specs.Str.{bytes_eq}
use Rattle.indexmap.specs.IndexSet.{insert_key}
use Rattle.ded_figures.specs.declared.sight.Sight.{Sight}
use Rattle.ded_figures.specs.declared.sight.Sight.TheVariants.{Nowhere, Wide, Seen}
use Rattle.ded_svg.specs.declared.picture.LegendEntry.{LegendEntry}

-- with the first text of what there is to be drawn at the end, if it is new
abbrev pub with_label : List (List ℕ) → Sight → List (List ℕ)
with_label labels Nowhere = labels
with_label labels Wide = labels
with_label labels (Seen f) = insert_key bytes_eq labels f.label

-- with those of all in turn
abbrev pub labels_from : List (List ℕ) → List Sight → List (List ℕ)
labels_from labels [] = labels
labels_from labels (s ∷ ss) = labels_from (with_label labels s) ss

-- the first texts, each once, in the order in which they come
abbrev pub labels_in : List Sight → List (List ℕ)
labels_in ss = labels_from [] ss

-- what stands in the legend for a text
abbrev pub words_of : List ℕ → List ℕ
words_of [] = codes "(no text)"
words_of (b ∷ bs) = b ∷ bs

-- the entries of the legend, for the colours from this number on
abbrev pub entries_of : ℕ → List (List ℕ) → List LegendEntry
entries_of n [] = []
entries_of n (l ∷ ls) = record { colour = n; words = words_of l } ∷ entries_of (n + 1) ls
