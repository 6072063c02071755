use Rattle.std.proofs.Common.{rules, ◌≡◌, ◌∙◌, ◌∷◌, [], length, sym, ap, SFits}
use Rattle.std.specs.Int.{w128}
use Rattle.std.proofs.lemmas.Int.{to_z-of_z}
use Rattle.ded_ranges.specs.Limits.{Term}
use Rattle.ded_ranges.proofs.Around.{one_may_be}
use Rattle.ded_ranges.proofs.Terms.{only, one_term}
use Rattle.ded_ranges.proofs.window.narrow_by_limit.Goals as goal

pub returns-then-len-eq1-clause-lies : goal.returns-then-len-eq1-clause-lies
returns-then-len-eq1-clause-lies c =
    let k : SFits w128 c.args.limit.now.constant = search rules in
    let a : SFits w128 c.index.result.now.1 = search rules in
    let ts = c.args.limit.now.terms.items in
    let count : length ts ≡ 1 = search rules in
    let one : ts ≡ c.index.result.now ∷ [] = only ts c.index.result.now count ∙ ap (λ (t : Term). t ∷ []) (sym c.index.ensures) in
    let own = simp to_z-of_z at c.narrow_to_term.ensures.lies in
    λ v d l h. own v d l (one_term ts c.index.result.now c.args.limit.now.constant c.args.limit.now.op v d one h)

pub returns-then-len-eq1-clause-around : goal.returns-then-len-eq1-clause-around
returns-then-len-eq1-clause-around c =
    let k : SFits w128 c.args.limit.now.constant = search rules in
    let a : SFits w128 c.index.result.now.1 = search rules in
    let ts = c.args.limit.now.terms.items in
    let count : length ts ≡ 1 = search rules in
    let one : ts ≡ c.index.result.now ∷ [] = only ts c.index.result.now count ∙ ap (λ (t : Term). t ∷ []) (sym c.index.ensures) in
    let own = simp to_z-of_z at c.narrow_to_term.ensures.around in
    λ rs o h. own rs o (one_may_be rs ts c.index.result.now c.args.limit.now.constant c.args.limit.now.op one h)
