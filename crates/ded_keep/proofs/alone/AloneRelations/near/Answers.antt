use Rattle.std.proofs.Common.{◌≡◌, true, false, bytes_eq, Some, sym, ◌∙◌, subst, true≢false}
use Rattle.std.specs.Prelude.{IfOk}
use Rattle.std.specs.Option.{option_map}
use Rattle.ded_ranges.specs.Windows.{AreLent}
use Rattle.ded_packed.specs.Lent.{lent}
use Rattle.ded_keep.proofs.AloneMeanings.{own_tuples, other_tuples}
use Rattle.ded_keep.proofs.alone.AloneRelations.near.Goals as goal

pub returns-in_ok-near_among-clause-found : goal.returns-in_ok-near_among-clause-found
returns-in_ok-near_among-clause-found g c =
    let a = c.args.self.now in
    subst (AreLent c.args.window.now (Some (lent c.in_ok-near_among.field-0.items)))
    (sym (own_tuples (g.R.Relations.catalogue a.others.now) a.name.now a.heading.now a.tuples.now c.args.name.now (sym c.is_same.ensures ∙ c.if-is_same.true))) c.in_ok-near_among.ensures.found

pub returns-else-is_same-clause-found : goal.returns-else-is_same-clause-found
returns-else-is_same-clause-found g c =
    let a = c.args.self.now in
    subst (λ ts. IfOk c.near.result (λ o. AreLent c.args.window.now (option_map (λ us. lent us.items) o) ts))
    (sym (other_tuples (g.R.Relations.catalogue a.others.now) a.name.now a.heading.now a.tuples.now c.args.name.now (sym c.is_same.ensures ∙ c.if-is_same.false))) c.near.ensures.found

pub returns-in_ok-near_among-clause-steps : goal.returns-in_ok-near_among-clause-steps
returns-in_ok-near_among-clause-steps g c =
    let own : bytes_eq c.args.name.now c.args.self.now.name.now ≡ true = sym c.is_same.ensures ∙ c.if-is_same.true in
    record { here = λ e. c.near_among.ensures.steps; there = λ f. absurd (true≢false (sym own ∙ f)) }

pub returns-in_err-near_among-clause-steps : goal.returns-in_err-near_among-clause-steps
returns-in_err-near_among-clause-steps g c =
    let own : bytes_eq c.args.name.now c.args.self.now.name.now ≡ true = sym c.is_same.ensures ∙ c.if-is_same.true in
    record { here = λ e. c.near_among.ensures.steps; there = λ f. absurd (true≢false (sym own ∙ f)) }

pub returns-else-is_same-clause-steps : goal.returns-else-is_same-clause-steps
returns-else-is_same-clause-steps g c =
    let own : bytes_eq c.args.name.now c.args.self.now.name.now ≡ false = sym c.is_same.ensures ∙ c.if-is_same.false in
    record { here = λ e. absurd (true≢false (sym e ∙ own)); there = λ f. c.near.ensures.steps }

pub returns-else-is_same-clause-read : goal.returns-else-is_same-clause-read
returns-else-is_same-clause-read g c = c.near.ensures.read
