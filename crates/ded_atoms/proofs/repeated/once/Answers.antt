use Rattle.std.proofs.Common.{◌≡◌, arith, [], sym, ap, subst, ◌∙◌}
use Rattle.std.specs.List.{IsDistinct}
use Rattle.std.proofs.lemmas.Iterator.{items_from_drains}
use Rattle.std.proofs.lemmas.Iterator.Adapters.{YieldsList-from_vec}
use Rattle.std.proofs.lemmas.List.{map-id}
use Rattle.indexmap.specs.IndexSet.{insert_all}
use Rattle.indexmap.proofs.CallerLemmas.{Drains-YieldsInOrder}
use Rattle.ded_atoms.proofs.Once.{short_once, short_distinct}
use Rattle.ded_atoms.proofs.repeated.once.Goals as goal

pub returns : goal.returns
returns g c =
    let ran = c.in_ok-once.ensures.ran in
    let all : ran.1 ≡ c.args.list.items = sym (map-id ran.1) ∙ items_from_drains ran.1 ran.3 (YieldsList-from_vec c.args.list.items ran.2.0 (ran.2.1 ∙ c.args.list.ok.0)) in
    let gone = c.in_ok-list.ensures.ran in
    let listed = Drains-YieldsInOrder _ _ gone.0 gone.1 gone.2.2 ((gone.3.2 tt).0, (gone.3.0, gone.3.1, (gone.3.2 tt).1)) ∙ gone.2.0 in
    let same : c.in_ok-list.list.items ≡ c.in_ok-once.once.keys = gone.4.0 ∙ listed in
    record {
      kept = same ∙ ran.4.0 ∙ ap (insert_all g.A.PartialEq.eq []) all;
      once = subst (IsDistinct g.A.PartialEq.eq) (sym same) ran.4.1.1;
    }

pub returns-then-len-lt2-clause-kept : goal.returns-then-len-lt2-clause-kept
returns-then-len-lt2-clause-kept g c = short_once g.A.PartialEq.eq c.args.list.items (omega (arith, c.if-len-lt2.true, c.len.ensures, c.args.list.ok.0))

pub returns-then-len-lt2-clause-once : goal.returns-then-len-lt2-clause-once
returns-then-len-lt2-clause-once g c = short_distinct g.A.PartialEq.eq c.args.list.items (omega (arith, c.if-len-lt2.true, c.len.ensures, c.args.list.ok.0))
