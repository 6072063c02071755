use Rattle.std.proofs.Common.{◌≡◌, true, ap, ◌∙◌, subst}
use Rattle.std.specs.Prelude.{IfSome}
use Rattle.std.specs.Option.{option_map}
use Rattle.ded_catalog.specs.State.{catalogue_of}
use Rattle.ded_database.specs.Held.{IsListOf, held_under, is_marked}
use Rattle.ded_database.specs.State.{State, catalogue_at, is_kept}
use Rattle.ded_database.proofs.Listing.{given_held, of_mapped, listed, marked_held}
use Rattle.ded_database.proofs.database.Database.kept.Goals as goal

pub returns-clause-held : goal.returns-clause-held
returns-clause-held c = c.tuples.ensures ∙ given_held c.args.name.now c.self.inside.held ∙ ap (λ (s : State). held_under s.held c.args.name.now) c.self.view_is

pub returns-clause-list : goal.returns-clause-list
returns-clause-list c =
    let n = c.args.name.now in
    let b = catalogue_of c.self.inside.catalogue in
    subst (λ (s : State). IfSome c.tuples.result (λ ts. IsListOf (catalogue_at s) n ts.now)) c.self.view_is
    (of_mapped (λ ts. ts.now) c.tuples.result (IsListOf b n)
    (listed b c.formed.ensures n c.self.inside.held (option_map (λ ts. ts.now) c.tuples.result) (c.tuples.ensures ∙ given_held n c.self.inside.held) c.self.invariant.held))

pub returns-clause-marked : goal.returns-clause-marked
returns-clause-marked c =
    let n = c.args.name.now in
    subst (λ (s : State). IfSome c.tuples.result (λ ts. is_kept s n ≡ true)) c.self.view_is
    (of_mapped (λ ts. ts.now) c.tuples.result (λ ts. is_marked c.self.inside.marks.items n ≡ true)
    (marked_held n c.self.inside.marks.items c.self.inside.held (option_map (λ ts. ts.now) c.tuples.result) (c.tuples.ensures ∙ given_held n c.self.inside.held) c.self.invariant.marked))
