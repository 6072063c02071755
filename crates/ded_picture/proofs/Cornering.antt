-- Corners of figures, one after another.
use Rattle.std.proofs.Common.{◌≡◌, ℕ, ◌+◌, ◌<◌, ◌≤◌, List, [], ◌∷◌, ◌++◌, inl, inr, length, drop, get_or, refl, sym, ap, ◌∙◌, subst, append_assoc}
use Rattle.std.proofs.lemmas.List.{append-nil, drop_all}
use Rattle.ded_polygon.specs.Corners.{AreCorners}
use Rattle.ded_polygon.specs.Plane.{Spot}
use Rattle.ded_print.proofs.Plans.{left_after}
use Rattle.ded_figures.specs.Figure.{Figure}
use Rattle.ded_figures.specs.declared.sight.Sight.{Sight}
use Rattle.ded_figures.specs.declared.sight.Sight.TheVariants.{Nowhere, Wide, Seen}
use Rattle.ded_picture.specs.Parts.{IsTooLong}
use Rattle.ded_picture.specs.Windowing.{AddsCorners, AddsFor, AreCornersIn}

-- the corners of those that are left complete those of all
abbrev pub Goes : List Sight → List Sight → List Spot → Type 0
Goes whole left found = (more : List Spot) → AreCornersIn left more → AreCornersIn whole (found ++ more)

pub goes_first : (whole : List Sight) → Goes whole whole []
goes_first whole more a = a

pub goes_next : (whole ss : List Sight) (i : ℕ) (s : Sight) (found next : List Spot) → i < length ss → s ≡ get_or ss i s → Goes whole (drop i ss) found → AddsFor s found next → Goes whole (drop (i + 1) ss) next
goes_next whole ss i s found next there is goes adds = by s adds (subst (λ (l : List Sight). Goes whole l found) (left_after ss i s there is) goes)
  where
    by : (s : Sight) → AddsFor s found next → Goes whole (s ∷ drop (i + 1) ss) found → Goes whole (drop (i + 1) ss) next
    by Nowhere same g = λ more a. subst (λ (l : List Spot). AreCornersIn whole (l ++ more)) (sym same) (g more a)
    by Wide same g = λ more a. subst (λ (l : List Spot). AreCornersIn whole (l ++ more)) (sym same) (g more a)
    by (Seen f) a g = λ more b.
        subst (AreCornersIn whole) (sym (append_assoc found a.added more) ∙ ap (λ (l : List Spot). l ++ more) (sym a.is)) (g (a.added ++ more) (a.added, more, refl, a.corners, b))

pub goes_last : (whole ss : List Sight) (i : ℕ) (found : List Spot) → length ss ≤ i → Goes whole (drop i ss) found → AreCornersIn whole found
goes_last whole ss i found end goes = subst (AreCornersIn whole) (append-nil found) (goes [] (subst (λ (l : List Sight). AreCornersIn l []) (sym (drop_all i ss end)) refl))

pub adds_some : (f : Figure) (old new more : List Spot) → AreCorners f.axes.x f.axes.y f.rows more → new ≡ old ++ more → AddsCorners f old new
adds_some f old new more are e = record { added = more; corners = inl are; is = e }

pub adds_none : (f : Figure) (old : List Spot) → IsTooLong f → AddsCorners f old old
adds_none f old long = record { added = []; corners = inr (long, refl); is = sym (append-nil old) }
