use Rattle.std.proofs.Common.{get_or, sym, subst, ◌∙◌, arith, Fits, w8}
use Rattle.ded_model.specs.Point.{AllBytes}
use Rattle.ded_readback.proofs.Loops.{next_byte, bytes_push}
use Rattle.ded_readback.proofs.theme.unquoted.Goals as goal

pub loop-i-preserved-then-byte-closed : goal.loop-i-preserved-then-byte-closed
loop-i-preserved-then-byte-closed c = record {
  same = next_byte _ _ _ _ _ c.loop-i-test.true c.if-byte-closed.true c.in_ok-push.ensures.items ∙ c.loop-i.invariant.same;
  each = subst AllBytes (sym c.in_ok-push.ensures.items) (bytes_push c.loop-i.text.items _ c.loop-i.invariant.each (let k : Fits w8 (get_or c.args.bytes.now c.loop-i.i 0) = c.type_inv.bytes c.loop-i.i in omega (arith, k)));
}
