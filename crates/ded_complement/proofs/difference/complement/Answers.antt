use Rattle.std.proofs.Common.{IfSome, ◌∙◌, ap, sym, subst}
use Rattle.std.proofs.lemmas.Result.{IfOk-weaker}
use Rattle.ded_complement.specs.Boxed.{conjs_in}
use Rattle.ded_complement.specs.Keys.{AreKeys}
use Rattle.ded_complement.proofs.Cutting.{AreOutside, complement_is}
use Rattle.ded_complement.proofs.difference.complement.Goals as goal

pub outside-requires-clause-keys : goal.outside-requires-clause-keys
outside-requires-clause-keys g c =
    subst (λ bs. IfSome c.in_ok-keys.keys (λ k. AreKeys g.T.Theory.holds bs (conjs_in bs) k)) (c.deref-2.ensures.value ∙ sym c.deref-3.ensures.value) c.in_ok-keys.ensures

pub returns-clause-is : goal.returns-clause-is
returns-clause-is g c =
    let h = g.T.Theory.holds in
    let m = g.T.Theory.mentions in
    let l = g.T.Theory.lines in
    let cell = g.T.Theory.cell in
    let all = ap conjs_in c.deref-3.ensures.value ∙ c.in_ok-boxed.ensures.same in
    IfOk-weaker c.outside.result _ _ (λ out k. (complement_is h m l cell g.met.T.Theory.cells_tell c.args.rel.now out c.new.result.items c.new.ensures.items (subst (λ ts. AreOutside h m l cell c.new.result.items ts out) all k)).is) c.outside.ensures

pub returns-clause-disjoint : goal.returns-clause-disjoint
returns-clause-disjoint g c =
    let h = g.T.Theory.holds in
    let m = g.T.Theory.mentions in
    let l = g.T.Theory.lines in
    let cell = g.T.Theory.cell in
    let all = ap conjs_in c.deref-3.ensures.value ∙ c.in_ok-boxed.ensures.same in
    IfOk-weaker c.outside.result _ _ (λ out k. (complement_is h m l cell g.met.T.Theory.cells_tell c.args.rel.now out c.new.result.items c.new.ensures.items (subst (λ ts. AreOutside h m l cell c.new.result.items ts out) all k)).disjoint) c.outside.ensures

pub returns-clause-cells : goal.returns-clause-cells
returns-clause-cells g c =
    let h = g.T.Theory.holds in
    let m = g.T.Theory.mentions in
    let l = g.T.Theory.lines in
    let cell = g.T.Theory.cell in
    let all = ap conjs_in c.deref-3.ensures.value ∙ c.in_ok-boxed.ensures.same in
    IfOk-weaker c.outside.result _ _ (λ out k. (complement_is h m l cell g.met.T.Theory.cells_tell c.args.rel.now out c.new.result.items c.new.ensures.items (subst (λ ts. AreOutside h m l cell c.new.result.items ts out) all k)).cells) c.outside.ensures

pub returns-clause-inhabited : goal.returns-clause-inhabited
returns-clause-inhabited g c =
    let h = g.T.Theory.holds in
    let m = g.T.Theory.mentions in
    let l = g.T.Theory.lines in
    let cell = g.T.Theory.cell in
    let all = ap conjs_in c.deref-3.ensures.value ∙ c.in_ok-boxed.ensures.same in
    IfOk-weaker c.outside.result _ _ (λ out k. (complement_is h m l cell g.met.T.Theory.cells_tell c.args.rel.now out c.new.result.items c.new.ensures.items (subst (λ ts. AreOutside h m l cell c.new.result.items ts out) all k)).inhabited) c.outside.ensures

pub returns-clause-made : goal.returns-clause-made
returns-clause-made g c =
    let h = g.T.Theory.holds in
    let m = g.T.Theory.mentions in
    let l = g.T.Theory.lines in
    let cell = g.T.Theory.cell in
    let all = ap conjs_in c.deref-3.ensures.value ∙ c.in_ok-boxed.ensures.same in
    IfOk-weaker c.outside.result _ _ (λ out k. (complement_is h m l cell g.met.T.Theory.cells_tell c.args.rel.now out c.new.result.items c.new.ensures.items (subst (λ ts. AreOutside h m l cell c.new.result.items ts out) all k)).made) c.outside.ensures
