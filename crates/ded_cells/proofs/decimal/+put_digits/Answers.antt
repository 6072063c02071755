-- No digit is left to put, or one was put and the others follow.
use Rattle.ded_cells.proofs.Digits.{nothing_left, nothing_behind, more_digits}
use Rattle.ded_cells.proofs.decimal.+put_digits.Goals as goal
use Rattle.ded_cells.proofs.decimal.+put_digits.Goals.{then-left-eq0-via-then-left-eq0, then-left-eq0-via-else-left-eq0+then-rest-eq0}

pub returns-then-left-eq0 : goal.returns-then-left-eq0
returns-then-left-eq0 t c = elim c.then-left-eq0.branch [
  | then-left-eq0-via-then-left-eq0 w ↦ nothing_left c.args.text.now c.args.left c.args.rest c.args.den w.if-left-eq0.true
  | then-left-eq0-via-else-left-eq0+then-rest-eq0 w ↦ nothing_behind c.args.text.now c.args.left c.args.rest c.args.den w.if-rest-eq0.true
]

pub returns : goal.returns
returns t c =
    more_digits c.put_digits.result c.args.text.now c.put.new.self c.put_digits.new.text c.digit.result c.args.left c.args.rest c.args.den
    c.if-left-eq0.false c.if-rest-eq0.false c.digit.ensures c.in_ok-put.ensures c.put_digits.ensures
