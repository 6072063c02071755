use Rattle.std.proofs.Common.{◌≡◌, false}
use Rattle.std.proofs.lemmas.Result.{IfOk-weaker}
use Rattle.ded_model.specs.Lines.{lines_clash}
use Rattle.ded_row.specs.Mixing.{mix_of}
use Rattle.ded_elimination.proofs.mixing.CheckedCombinationMixing.mix.Goals as goal

pub mix-requires-clause-above : goal.mix-requires-clause-above
mix-requires-clause-above c = c.requires.above

pub mix-requires-clause-below : goal.mix-requires-clause-below
mix-requires-clause-below c = c.requires.below

pub returns-clause-value : goal.returns-clause-value
returns-clause-value c = c.mix.ensures.value

pub returns-clause-rows : goal.returns-clause-rows
returns-clause-rows c = IfOk-weaker c.mix.result (λ r. r ≡ mix_of c.args.slot c.args.r1.now c.args.r2.now) _ (λ r e. tt) c.mix.ensures.value

pub returns-clause-short : goal.returns-clause-short
returns-clause-short c = IfOk-weaker c.mix.result (λ r. lines_clash c.args.slot c.args.r1.now c.args.r2.now ≡ false) _ (λ r e l i. e) c.mix.ensures.short

pub returns-clause-wide : goal.returns-clause-wide
returns-clause-wide c = c.mix.ensures.wide
