-- The bytes wait, or what waits is sent before them.
use Rattle.std.proofs.Common.{[]}
use Rattle.ded_print.proofs.Gathering.{puts_both, kept, unkept, still_none, direct}
use Rattle.ded_print.proofs.gathered.Gathered.put.Goals as goal

pub returns-then-keep : goal.returns-then-keep
returns-then-keep g c = kept _ _ _ _ _ _ _ _ c.if-keep.true c.keep.ensures.pending c.keep.ensures.sent

pub returns-then-keep-2 : goal.returns-then-keep-2
returns-then-keep-2 g c =
    unkept _ _ _ _ _ _ _ _ _ _ c.if-keep.false c.keep.ensures.pending c.keep.ensures.sent
    (puts_both _ _ _ [] c.args.bytes.now c.flush.ensures.puts (kept _ _ _ _ _ _ _ _ c.if-keep-2.true c.keep-2.ensures.pending c.keep-2.ensures.sent))

pub returns : goal.returns
returns g c =
    unkept _ _ _ _ _ _ _ _ _ _ c.if-keep.false c.keep.ensures.pending c.keep.ensures.sent
    (puts_both _ _ _ [] c.args.bytes.now c.flush.ensures.puts
    (unkept _ _ _ _ _ _ _ _ _ _ c.if-keep-2.false c.keep-2.ensures.pending c.keep-2.ensures.sent
    (direct _ _ _ _ _ _ _ _ (still_none _ _ _ _ c.if-keep-2.false c.keep-2.ensures.pending c.flush.ensures.none) c.send_after-self.ensures)))
