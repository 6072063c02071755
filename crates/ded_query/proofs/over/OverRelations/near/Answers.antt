use Rattle.std.proofs.Common.{◌≡◌, true, false, None, sym, ◌∙◌, subst, true≢false}
use Rattle.std.specs.Prelude.{IfOk}
use Rattle.std.specs.Option.{option_map}
use Rattle.ded_catalog.specs.Snapshots.{snapshot_of}
use Rattle.ded_ranges.specs.Windows.{AreLent}
use Rattle.ded_packed.specs.Lent.{lent}
use Rattle.ded_algebra.specs.Given.{has_name}
use Rattle.ded_catalog.proofs.LentTuples.{no_steps}
use Rattle.ded_query.proofs.Standing.{found_given, found_hidden, found_stored}
use Rattle.ded_query.proofs.over.OverRelations.near.Goals as goal

pub returns-then-has-clause-found : goal.returns-then-has-clause-found
returns-then-has-clause-found g c =
    let o = c.args.self.now in
    subst (λ ts. IfOk c.near.result (λ o. AreLent c.args.window.now (option_map (λ us. lent us.items) o) ts))
    (sym (found_given (snapshot_of o.snapshot.now) (option_map (λ n. n.now) o.hidden) o.given.now c.args.name.now (sym c.has.ensures ∙ c.if-has.true))) c.near.ensures.found

pub returns-then-hides-clause-found : goal.returns-then-hides-clause-found
returns-then-hides-clause-found g c =
    let o = c.args.self.now in
    subst (AreLent c.args.window.now None)
    (sym (found_hidden (snapshot_of o.snapshot.now) (option_map (λ n. n.now) o.hidden) o.given.now c.args.name.now (sym c.has.ensures ∙ c.if-has.false) (sym c.hides.ensures ∙ c.if-hides.true))) tt

pub returns-else-hides-clause-found : goal.returns-else-hides-clause-found
returns-else-hides-clause-found g c =
    let o = c.args.self.now in
    subst (λ ts. IfOk c.near-else-hides.result (λ o. AreLent c.args.window.now (option_map (λ us. lent us.items) o) ts))
    (sym (found_stored (snapshot_of o.snapshot.now) (option_map (λ n. n.now) o.hidden) o.given.now c.args.name.now c.formed.ensures (sym c.has.ensures ∙ c.if-has.false) (sym c.hides.ensures ∙ c.if-hides.false))) c.near-else-hides.ensures.found

pub returns-then-has-clause-steps : goal.returns-then-has-clause-steps
returns-then-has-clause-steps g c =
    let has : has_name c.args.name.now c.args.self.now.given.now ≡ true = sym c.has.ensures ∙ c.if-has.true in
    record { given = λ e. c.near.ensures.steps; stored = λ f. absurd (true≢false (sym has ∙ f)) }

pub returns-then-has-clause-read : goal.returns-then-has-clause-read
returns-then-has-clause-read g c = c.near.ensures.read

pub returns-then-hides-clause-steps : goal.returns-then-hides-clause-steps
returns-then-hides-clause-steps g c =
    let has : has_name c.args.name.now c.args.self.now.given.now ≡ false = sym c.has.ensures ∙ c.if-has.false in
    record { given = λ e. absurd (true≢false (sym e ∙ has)); stored = λ f. no_steps c.args.self.now.snapshot.now c.args.name.now c.args.window.now c.args.steps.now }

pub returns-else-hides-clause-steps : goal.returns-else-hides-clause-steps
returns-else-hides-clause-steps g c =
    let has : has_name c.args.name.now c.args.self.now.given.now ≡ false = sym c.has.ensures ∙ c.if-has.false in
    record { given = λ e. absurd (true≢false (sym e ∙ has)); stored = λ f. c.near-else-hides.ensures.steps }

pub returns-else-hides-clause-read : goal.returns-else-hides-clause-read
returns-else-hides-clause-read g c = c.near-else-hides.ensures.read
