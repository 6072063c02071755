-- The extent of tuples, one tuple after another.
use Rattle.std.proofs.Common.{◌≡◌, Bool, ◌||◌, List, [], ◌∷◌, ◌++◌, refl, sym, subst}
use Rattle.ded_model.specs.declared.name.Column.{Column}
use Rattle.ded_model.specs.declared.bound.BoxReply.{BoxReply}
use Rattle.ded_model.specs.declared.bound.BoxReply.TheVariants.{Nowhere}
use Rattle.ded_model.specs.Cell.{conj_holds}
use Rattle.ded_model.specs.Point.{Point}
use Rattle.ded_model.specs.Row.{Atom, row_holds, theme_holds, tuple_holds, tuples_hold}
use Rattle.ded_model.proofs.TupleLists.{tuples_hold-push}
use Rattle.ded_theory.specs.Both.{by_kind}
use Rattle.ded_theory.proofs.Shared.{holds_alike}
use Rattle.ded_box.specs.Extents.{IsBox, covering}
use Rattle.ded_box.proofs.Extended.{box-same, box-either}

-- no tuple
pub extent_none : (h : List Column) → IsBox (tuples_hold []) h Nowhere
unfolding tuples_hold
extent_none h p i = refl

-- the box of the atoms is that of the tuple
pub tuple_box : (h : List Column) (t : List Atom) (r : BoxReply) → IsBox (conj_holds (by_kind row_holds theme_holds) t) h r → IsBox (tuple_holds t) h r
tuple_box h t r x = box-same (conj_holds (by_kind row_holds theme_holds) t) (tuple_holds t) (λ p i. holds_alike t p) h r x

-- points and those of one tuple
pub extent_either : (h : List Column) (t : List Atom) (test : Point → Bool) (r q s : BoxReply) → s ≡ covering r q → IsBox (tuple_holds t) h q → IsBox test h r → IsBox (λ p. test p || tuple_holds t p) h s
extent_either h t test r q s e x y = subst (IsBox (λ p. test p || tuple_holds t p) h) (sym e) (box-either test (tuple_holds t) h r q y x)

-- one tuple more
pub extent_more : (h : List Column) (ts us : List (List Atom)) (t : List Atom) (r : BoxReply) → us ≡ ts ++ t ∷ [] → IsBox (λ p. tuples_hold ts p || tuple_holds t p) h r → IsBox (tuples_hold us) h r
extent_more h ts us t r e x = subst (λ vs. IsBox (tuples_hold vs) h r) (sym e)
    (box-same (λ p. tuples_hold ts p || tuple_holds t p) (tuples_hold (ts ++ t ∷ [])) (λ p i. sym (tuples_hold-push ts t p)) h r x)
