use Rattle.std.proofs.Common.{◌≤◌, ◌<◌, ◌++◌, ◌&&◌, length, take, drop, arith, add-one, ap, sym, ◌∙◌, subst}
use Rattle.ded_reduce.specs.Reductions.{MayBeOpen, IsNeeded, IsImplied, IsSifted}
use Rattle.ded_reduce.proofs.Sifting.{sifting_none, sifting_removed, sifting_kept, sifting_open, sifting_all}
use Rattle.ded_reduce.proofs.superfluous.sift.Goals as goal

pub loop-index-init : goal.loop-index-init
loop-index-init g c = sifting_none g.T.Theory.decides g.T.Theory.holds g.T.Theory.mentions g.T.Theory.lines g.T.Theory.normal c.args.is_open c.args.conj.now.items c.requires.normal

pub loop-index-preserved-in-Empty : goal.loop-index-preserved-in-Empty
loop-index-preserved-in-Empty g c =
    let within : c.loop-index.index < length c.loop-index.conj.items = omega (arith, c.loop-index.conj.ok.0, c.len.ensures) in
    sifting_removed g.T.Theory.decides g.T.Theory.holds g.T.Theory.mentions g.T.Theory.lines g.T.Theory.normal c.args.is_open c.args.conj.now.items c.loop-index.conj.items c.remove.new.self.items c.loop-index.index c.loop-index.removed c.loop-index.unsure c.remove.result within c.remove.ensures.value
    (c.remove.ensures.by_index.2 ∙ ap (λ n. take c.loop-index.index c.loop-index.conj.items ++ drop n c.loop-index.conj.items) (add-one c.loop-index.index))
    (subst (λ xs. IsImplied g.T.Theory.holds xs c.loop-index.index) c.deref.ensures.value (c.in_ok-left_out.ensures.implied c.in-Empty.is)) c.loop-index.invariant

pub loop-index-preserved-in-Inhabited : goal.loop-index-preserved-in-Inhabited
loop-index-preserved-in-Inhabited g c =
    sifting_kept g.T.Theory.decides g.T.Theory.holds g.T.Theory.mentions g.T.Theory.lines g.T.Theory.normal c.args.is_open c.args.conj.now.items c.loop-index.conj.items c.loop-index.index c.loop-index.removed c.loop-index.unsure
    (subst (λ xs. IsNeeded g.T.Theory.holds xs c.loop-index.index) c.deref.ensures.value (c.in_ok-left_out.ensures.needed c.in-Inhabited.is)) c.loop-index.invariant

pub loop-index-preserved : goal.loop-index-preserved
loop-index-preserved g c =
    sifting_open g.T.Theory.decides g.T.Theory.holds g.T.Theory.mentions g.T.Theory.lines g.T.Theory.normal c.args.is_open c.args.conj.now.items c.loop-index.conj.items c.loop-index.index c.loop-index.removed c.loop-index.unsure
    (subst (λ xs. MayBeOpen g.T.Theory.decides g.T.Theory.mentions g.T.Theory.lines xs) c.deref.ensures.value (c.in_ok-left_out.ensures.open c.in-Unknown.is)) c.loop-index.invariant

pub returns-then-removed : goal.returns-then-removed
returns-then-removed g c =
    let all : length c.loop-index.conj.items ≤ c.loop-index.index = omega (arith, c.loop-index.conj.ok.0, c.len.ensures) in
    subst (λ b. IsSifted g.T.Theory.decides g.T.Theory.holds g.T.Theory.mentions g.T.Theory.lines g.T.Theory.normal c.args.is_open c.args.conj.now.items c.loop-index.conj.items (b && c.loop-index.unsure)) c.if-removed.true
    (sifting_all g.T.Theory.decides g.T.Theory.holds g.T.Theory.mentions g.T.Theory.lines g.T.Theory.normal c.args.is_open c.args.conj.now.items c.loop-index.conj.items c.loop-index.index c.loop-index.removed c.loop-index.unsure all c.loop-index.invariant)

pub returns-else-removed : goal.returns-else-removed
returns-else-removed g c =
    let all : length c.loop-index.conj.items ≤ c.loop-index.index = omega (arith, c.loop-index.conj.ok.0, c.len.ensures) in
    subst (λ b. IsSifted g.T.Theory.decides g.T.Theory.holds g.T.Theory.mentions g.T.Theory.lines g.T.Theory.normal c.args.is_open c.args.conj.now.items c.loop-index.conj.items b) (ap (λ b. b && c.loop-index.unsure) c.if-removed.false ∙ sym c.if-removed.false)
    (sifting_all g.T.Theory.decides g.T.Theory.holds g.T.Theory.mentions g.T.Theory.lines g.T.Theory.normal c.args.is_open c.args.conj.now.items c.loop-index.conj.items c.loop-index.index c.loop-index.removed c.loop-index.unsure all c.loop-index.invariant)
