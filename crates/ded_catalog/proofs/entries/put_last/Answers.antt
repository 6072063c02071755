use Rattle.std.proofs.Common.{◌<◌, ◌^◌, ap, ◌∙◌, subst, bytes_eq}
use Rattle.lru.specs.LruCache.{demoted}
use Rattle.ded_catalog.proofs.WithoutUsers.{put_at_end}
use Rattle.ded_catalog.proofs.entries.put_last.Goals as goal

pub returns-in-Ok-clause-ok : goal.returns-in-Ok-clause-ok
returns-in-Ok-clause-ok c =
    ap (λ l. l.entries) c.demote.ensures.entries
    ∙ (λ i. demoted (bytes_eq (c.requires.key i)) (c.in-Ok.ensures.entries i).entries)
    ∙ put_at_end c.args.linked.now c.args.name c.args.entry c.requires.cap (subst (λ k. k < 2 ^ 63) c.len.ensures.len c.len.ensures.fits) c.requires.new
