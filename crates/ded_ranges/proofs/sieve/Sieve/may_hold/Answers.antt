use Rattle.std.proofs.Common.{◌≡◌, ◌∙◌, sym, ap, ap₂, subst}
use Rattle.std.specs.Prelude.{ℕ, List}
use Rattle.ded_model.specs.Row.{Atom}
use Rattle.ded_model.specs.Normal.{IsNormalTuple}
use Rattle.ded_ranges.specs.declared.window.Window.{Window}
use Rattle.ded_ranges.specs.Tuples.{IsReachOf, tuple_may_hold}
use Rattle.ded_ranges.specs.Windows.{is_within}
use Rattle.ded_ranges.proofs.Columns.{missed}
use Rattle.ded_ranges.proofs.sieve.Sieve.may_hold.Goals as goal

pub returns : goal.returns
returns c =
    let normal : IsNormalTuple c.args.tuple.now = subst IsNormalTuple c.tuple.view_is c.tuple.invariant in
    let reach : IsReachOf c.self.inside.reach (is_within c.args.self.now) = subst (λ (w : Window). IsReachOf c.self.inside.reach (is_within w)) c.self.view_is c.self.invariant in
    let texts : c.deref.result.now ≡ c.args.self.now.texts.items = c.deref.ensures.value ∙ ap (λ (w : Window). w.texts.items) c.self.view_is in
    let atoms : c.deref-2.result.now ≡ c.args.tuple.now = c.deref-2.ensures.value ∙ c.tuple.view_is in
    let is : c.atoms_may_hold.result ≡ tuple_may_hold c.self.inside.reach c.args.self.now.texts.items c.args.tuple.now = c.atoms_may_hold.ensures ∙ ap₂ (λ (us : List (ℕ × List ℕ)) (xs : List Atom). tuple_may_hold c.self.inside.reach us xs) texts atoms in
    λ e. missed c.args.self.now c.self.inside.reach c.args.tuple.now reach normal (sym is ∙ e)
