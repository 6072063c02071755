use Rattle.std.proofs.Common.{◌∙◌}
use Rattle.std.proofs.lemmas.Result.{IfOk-weaker}
use Rattle.ded_reduce.proofs.Sifting.{one_nowhere, one_somewhere, one_open, two_nowhere, first_somewhere, first_open, second_somewhere, second_open}
use Rattle.ded_reduce.proofs.superfluous.some_point_outside.Goals as goal

pub returns-in-One-clause-implied : goal.returns-in-One-clause-implied
returns-in-One-clause-implied g c =
    let n = c.in_ok-only.ensures in
    IfOk-weaker c.together.result _ _ (λ v k e. one_nowhere g.T.Theory.decides g.T.Theory.holds g.T.Theory.mentions g.T.Theory.lines c.args.others.items c.args.atom.now c.in-One.only c.in_ok-only.field-0 c.in-One.is (record { holds = n.holds; slots = n.slots; lines = n.lines }) (k e)) c.together.ensures.implied

pub returns-in-One-clause-needed : goal.returns-in-One-clause-needed
returns-in-One-clause-needed g c =
    let n = c.in_ok-only.ensures in
    IfOk-weaker c.together.result _ _ (λ v k e. one_somewhere g.T.Theory.decides g.T.Theory.holds g.T.Theory.mentions g.T.Theory.lines c.args.others.items c.args.atom.now c.in-One.only c.in_ok-only.field-0 c.in-One.is (record { holds = n.holds; slots = n.slots; lines = n.lines }) (k e)) c.together.ensures.needed

pub returns-in-One-clause-open : goal.returns-in-One-clause-open
returns-in-One-clause-open g c =
    let n = c.in_ok-only.ensures in
    IfOk-weaker c.together.result _ _ (λ v k e. one_open g.T.Theory.decides g.T.Theory.holds g.T.Theory.mentions g.T.Theory.lines c.args.others.items c.args.atom.now c.in-One.only c.in_ok-only.field-0 c.in-One.is (record { holds = n.holds; slots = n.slots; lines = n.lines }) (k e)) c.together.ensures.open

pub returns-in-Empty-clause-implied : goal.returns-in-Empty-clause-implied
returns-in-Empty-clause-implied g c =
    let n = c.in_ok-only.ensures in
    IfOk-weaker c.together-in-Empty.result _ _ (λ v k e. two_nowhere g.T.Theory.decides g.T.Theory.holds g.T.Theory.mentions g.T.Theory.lines c.args.others.items c.in_ok-copies-in-Two.copies.items c.args.atom.now c.in-Two.first c.in-Two.second c.in_ok-only.field-0 c.in-Two.is
    (c.in_ok-copies-in-Two.ensures ∙ c.deref.ensures.value) (record { holds = n.holds; slots = n.slots; lines = n.lines }) (c.in_ok-together-in-Two.ensures.implied c.in-Empty.is) (k e)) c.together-in-Empty.ensures.implied

pub returns-in-Empty-clause-needed : goal.returns-in-Empty-clause-needed
returns-in-Empty-clause-needed g c =
    let n = c.in_ok-only.ensures in
    IfOk-weaker c.together-in-Empty.result _ _ (λ v k e. second_somewhere g.T.Theory.decides g.T.Theory.holds g.T.Theory.mentions g.T.Theory.lines c.args.others.items c.args.atom.now c.in-Two.first c.in-Two.second c.in_ok-only.field-0 c.in-Two.is (record { holds = n.holds; slots = n.slots; lines = n.lines }) (k e)) c.together-in-Empty.ensures.needed

pub returns-in-Empty-clause-open : goal.returns-in-Empty-clause-open
returns-in-Empty-clause-open g c =
    let n = c.in_ok-only.ensures in
    IfOk-weaker c.together-in-Empty.result _ _ (λ v k e. second_open g.T.Theory.decides g.T.Theory.holds g.T.Theory.mentions g.T.Theory.lines c.args.others.items c.args.atom.now c.in-Two.first c.in-Two.second c.in_ok-only.field-0 c.in-Two.is (record { holds = n.holds; slots = n.slots; lines = n.lines }) (k e)) c.together-in-Empty.ensures.open

pub returns-in-Inhabited-clause-needed : goal.returns-in-Inhabited-clause-needed
returns-in-Inhabited-clause-needed g c =
    let n = c.in_ok-only.ensures in
    λ e. first_somewhere g.T.Theory.decides g.T.Theory.holds g.T.Theory.mentions g.T.Theory.lines c.args.others.items c.in_ok-copies-in-Two.copies.items c.args.atom.now c.in-Two.first c.in-Two.second c.in_ok-only.field-0 c.in-Two.is (c.in_ok-copies-in-Two.ensures ∙ c.deref.ensures.value)
    (record { holds = n.holds; slots = n.slots; lines = n.lines }) (c.in_ok-together-in-Two.ensures.needed c.in-Inhabited.is)

pub returns-in-Unknown-clause-open : goal.returns-in-Unknown-clause-open
returns-in-Unknown-clause-open g c =
    let n = c.in_ok-only.ensures in
    λ e. first_open g.T.Theory.decides g.T.Theory.holds g.T.Theory.mentions g.T.Theory.lines c.args.others.items c.in_ok-copies-in-Two.copies.items c.args.atom.now c.in-Two.first c.in-Two.second c.in_ok-only.field-0 c.in-Two.is (c.in_ok-copies-in-Two.ensures ∙ c.deref.ensures.value)
    (record { holds = n.holds; slots = n.slots; lines = n.lines }) (c.in_ok-together-in-Two.ensures.open c.in-Unknown.is)
