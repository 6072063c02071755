-- One more line was put.
use Rattle.std.proofs.Common.{ℕ, List, subst}
use Rattle.std.proofs.lemmas.List.{map-id}
use Rattle.ded_print.specs.Gathering.{output, Puts}
use Rattle.ded_print.specs.Lines.{lines_text}
use Rattle.ded_print.proofs.Answers.{next_line, last_line}
use Rattle.ded_print.proofs.script.put_lines.Goals as goal

pub loop-line-preserved : goal.loop-line-preserved
loop-line-preserved g c =
    let start = output (g.K.Sink.contents c.args.sink.now) (g.K.Sink.faults c.args.sink.now) c.args.gathered.now in
    let now = output (g.K.Sink.contents c.loop-line.sink) (g.K.Sink.faults c.loop-line.sink) c.loop-line.gathered in
    let next = output (g.K.Sink.contents c.put_line.new.sink) (g.K.Sink.faults c.put_line.new.sink) c.put_line.new.gathered in
    next_line (λ (line : List ℕ). line) start now next c.args.lines.now c.args.lines.now c.loop-line.line-index c.line-item.result c.loop-line-test.true c.line-item.is c.loop-line.invariant c.put_line.ensures

pub returns : goal.returns
returns g c =
    let start = output (g.K.Sink.contents c.args.sink.now) (g.K.Sink.faults c.args.sink.now) c.args.gathered.now in
    let now = output (g.K.Sink.contents c.loop-line.sink) (g.K.Sink.faults c.loop-line.sink) c.loop-line.gathered in
    subst (λ lines. Puts start now (lines_text lines)) (map-id c.args.lines.now)
    (last_line (λ (line : List ℕ). line) start now c.args.lines.now c.args.lines.now c.loop-line.line-index c.loop-line-test.false c.loop-line.invariant)
