-- Catalogues that differ in the tuples of their relations, of which the one has at least the lines of the other.
use Rattle.std.specs.Prelude.{◌≡◌, ◌≤◌, List, [], ◌∷◌}
use Rattle.ded_model.specs.Catalogue.{Entry, relation, view, tuples_of}
use Rattle.ded_model.specs.Lines.{IsSubset, tuples_lines}
use Rattle.ded_model.specs.Width.{tuples_length}

-- the second entry is a relation of the same name and heading whose tuples have at least the lines and the length of
-- those of the first, or it is the same view
abbrev pub HasMoreLines : Entry → Entry → Type 0
HasMoreLines (relation n h m ts) (relation n' h' m' ts') =
    (n ≡ n') × (h ≡ h') × IsSubset (tuples_lines (tuples_of ts)) (tuples_lines (tuples_of ts')) × (tuples_length (tuples_of ts) ≤ tuples_length (tuples_of ts'))
HasMoreLines (relation n h m ts) (view n' h' f') = ⊥
HasMoreLines (view n h f) (relation n' h' m' ts') = ⊥
HasMoreLines (view n h f) (view n' h' f') = (n ≡ n') × (h ≡ h') × (f ≡ f')

-- lists of the same length, where each entry of the second has at least the lines of the one at its place in the first
abbrev pub HaveMoreLines : List Entry → List Entry → Type 0
HaveMoreLines [] [] = Unit {0}
HaveMoreLines [] (d ∷ ds) = ⊥
HaveMoreLines (e ∷ es) [] = ⊥
HaveMoreLines (e ∷ es) (d ∷ ds) = HasMoreLines e d × HaveMoreLines es ds
