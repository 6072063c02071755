-- What there is to be drawn of replies.
use Rattle.std.specs.Prelude.{◌≡◌, List, [], ◌∷◌, ◌++◌, Option, None, Some}
use Rattle.ded_model.specs.declared.name.Column.{Column}
use Rattle.ded_model.specs.Catalogue.{tuples_of}
use Rattle.ded_model.specs.Row.{Atom}
use Rattle.ded_session.specs.Replies.{ReplyForm, tuples, stored}
use Rattle.ded_figures.specs.declared.axes.Look.{Look}
use Rattle.ded_figures.specs.declared.sight.Sight.{Sight}
use Rattle.ded_figures.specs.Axes.{Axes, axes_of}
use Rattle.ded_figures.specs.Sights.{AreSights}

-- over these columns of a heading, if it has them
abbrev pub AreSightsOver : Option Axes → List Column → List (List Atom) → List Sight → Type 0
AreSightsOver None h ts ss = ss ≡ []
AreSightsOver (Some axes) h ts ss = AreSights axes h ts ss

-- what there is to be drawn of a reply: of each of its tuples, in order
abbrev pub AreSightsIn : Look → ReplyForm → List Sight → Type 0
AreSightsIn look (tuples h ts) ss = AreSightsOver (axes_of look h) h ts ss
AreSightsIn look (stored h ts) ss = AreSightsOver (axes_of look h) h (tuples_of ts) ss
AreSightsIn look reply ss = ss ≡ []

-- of each of the replies, in order
abbrev pub AreAllSights : Look → List ReplyForm → List Sight → Type 0
AreAllSights look [] ss = ss ≡ []
AreAllSights look (r ∷ rs) ss = (front : List Sight) × (back : List Sight) × (ss ≡ front ++ back) × AreSightsIn look r front × AreAllSights look rs back

-- what there is to be drawn of a reply stands behind the old ones
pub record AddsSights (look : Look) (r : ReplyForm) (old new : List Sight) : Type 0 where
  pub added : List Sight
  pub sights : AreSightsIn look r added
  pub is : new ≡ old ++ added
