use Rattle.std.proofs.Common.{◌≡◌, false, rules}
use Rattle.std.proofs.lemmas.Result.{IfOk-weaker}
use Rattle.ded_model.specs.Lines.{Line, In, row_lines, lines_clash}
use Rattle.ded_elimination.proofs.equality.settled.Goals as goal

pub returns-then-a-gt0-clause-short : goal.returns-then-a-gt0-clause-short
returns-then-a-gt0-clause-short g c =
    IfOk-weaker c.mix.result (λ r. (l : Line) → In l (row_lines r) → lines_clash c.args.slot c.args.row.now c.args.equal.now ≡ false) _
    (λ r f l i. let short : lines_clash c.args.slot c.args.row.now c.args.equal.now ≡ false = f l i in search rules) c.mix.ensures.short

pub returns-else-a-gt0-clause-short : goal.returns-else-a-gt0-clause-short
returns-else-a-gt0-clause-short g c =
    IfOk-weaker c.mix-else-a-gt0.result (λ r. (l : Line) → In l (row_lines r) → lines_clash c.args.slot c.args.equal.now c.args.row.now ≡ false) _
    (λ r f l i. let short : lines_clash c.args.slot c.args.equal.now c.args.row.now ≡ false = f l i in search rules) c.mix-else-a-gt0.ensures.short
