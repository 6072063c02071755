use Rattle.std.proofs.Common.{arith, sym, ap, ◌∙◌, ℕ, take}
use Rattle.ded_lex.proofs.Feeding.{more_short, more_long, cut_here, kept_whole, fed_nothing}
use Rattle.ded_lex.specs.Splits.{Since, ended_piece}
use Rattle.ded_lex.proofs.splitter.Splitter.feed.Goals as goal

pub returns-then-self-ge-STATEMENT_BYTES-clause-more : goal.returns-then-self-ge-STATEMENT_BYTES-clause-more
unfolding Since ended_piece
returns-then-self-ge-STATEMENT_BYTES-clause-more c = λ is bytes f.
    more_long _ _ _ _ _ _ _ _ c.if-self-ge-STATEMENT_BYTES.true (sym c.in-Some.ensures) c.is_still_blank-self.ensures f

pub returns-else-self-ge-STATEMENT_BYTES-clause-more : goal.returns-else-self-ge-STATEMENT_BYTES-clause-more
unfolding Since ended_piece
returns-else-self-ge-STATEMENT_BYTES-clause-more c = λ is bytes f.
    more_short _ _ _ _ _ _ _ _ (omega (arith, c.args.self.now.room, c.args.self.now.kept.ok.0)) c.if-self-ge-STATEMENT_BYTES.false (sym c.in-Some.ensures) c.is_still_blank-self.ensures f

pub returns-then-long-clause-ended_long : goal.returns-then-long-clause-ended_long
unfolding Since ended_piece
returns-then-long-clause-ended_long c = λ is bytes f.
    (cut_here _ _ _ _ _ _ (sym c.in-None.ensures) f, omega (arith, f.counts, c.if-long.true), fed_nothing _)

pub returns-else-long-clause-ended : goal.returns-else-long-clause-ended
unfolding Since ended_piece
returns-else-long-clause-ended c = λ is bytes f.
    let short = kept_whole _ _ _ _ _ c.if-long.false f in
    (cut_here _ _ _ _ _ _ (sym c.in-None.ensures) f, short.0, ap (λ (n : ℕ). take n c.args.self.now.kept.items) c.min-self.ensures ∙ short.1, fed_nothing _)
