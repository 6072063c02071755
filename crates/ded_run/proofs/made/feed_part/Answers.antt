-- The text that the library gives of a number is fed.
use Rattle.std.proofs.Common.{rules, ◌∙◌, ◌<◌, ◌^◌, sym, ap}
use Rattle.ded_print.proofs.Decimals.{decimal_is}
use Rattle.ded_run.specs.Parts.{part_bytes}
use Rattle.ded_run.proofs.made.feed_part.Goals as goal

pub returns-in-Number-clause-grows : goal.returns-in-Number-clause-grows
returns-in-Number-clause-grows g c =
    let small : c.in-Number.number < 10 ^ 64 = search rules in
    rw (c.as_bytes.ensures.value ∙ c.format.ensures.text ∙ decimal_is c.in-Number.number small ∙ sym (ap part_bytes c.in-Number.is)) at c.feed-in-Number.ensures.grows

pub returns-in-Number-clause-breaks : goal.returns-in-Number-clause-breaks
returns-in-Number-clause-breaks g c =
    let small : c.in-Number.number < 10 ^ 64 = search rules in
    rw (c.as_bytes.ensures.value ∙ c.format.ensures.text ∙ decimal_is c.in-Number.number small ∙ sym (ap part_bytes c.in-Number.is)) at c.feed-in-Number.ensures.breaks
