use Rattle.ded_runs.proofs.OneReply.{one_reply}
use Rattle.ded_runs.proofs.Ordering.{short_views}
use Rattle.ded_runs.proofs.laws.one_reply.Goals as goal

pub returns-clause-run : goal.returns-clause-run
returns-clause-run g = λ limit script replies c run l s reply other d e.
    one_reply (record { lines = g.short_lines.ensures.short; rows = g.tuple_lengths.ensures.rows }) c (g.formed_catalogues.ensures.run limit script replies c run) (g.plain_names.ensures.run limit script replies c run)
    (short_views c.entries (g.read_catalogues.ensures.run limit script replies c run)) l s d e reply other

pub returns-clause-step : goal.returns-clause-step
returns-clause-step g = λ l c d e s reply other xs ys formed names views.
    one_reply (record { lines = g.short_lines.ensures.short; rows = g.tuple_lengths.ensures.rows }) c formed names views l s d e reply other xs ys
