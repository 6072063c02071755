use Rattle.std.proofs.Common.{◌≡◌, ◌+◌, true, length, get_or, arith, refl, sym, ap, subst, inl, Err}
use Rattle.std.proofs.lemmas.Result.{err_from_is_err_and}
use Rattle.ded_model.specs.declared.memory.Refused.TheVariants.{Wide}
use Rattle.ded_elimination.specs.declared.keeping.Kept.{Kept}
use Rattle.ded_elimination.specs.Adding.{Adds, OfFirst, HoldExtended}
use Rattle.ded_elimination.specs.Equalities.{SettledHolds}
use Rattle.ded_elimination.proofs.Additions.{adds_weaker, adds_more, adds_skip, adds_stop}
use Rattle.ded_elimination.proofs.Conjunctions.{In-at}
use Rattle.ded_elimination.proofs.Exactness.{equality_at, equality_exact}
use Rattle.ded_elimination.proofs.equality.by_equality.Goals as goal
use Rattle.ded_elimination.proofs.equality.by_equality.Goals.{else-i-place-via-then-i-place+in_ok-add_settled+else-not-branch, else-i-place-via-else-i-place}

pub returns-in_err-add_settled-clause-never_wide : goal.returns-in_err-add_settled-clause-never_wide
returns-in_err-add_settled-clause-never_wide g c = λ d i.
    let p = err_from_is_err_and c.from_residual.result c.from_residual.ensures.1 in
    let is : c.in_err-add_settled.field-0.0 ≡ Wide = cc (p.1, p.2, i) in
    c.in_err-add_settled.ensures.never_wide d (ap Err is)

pub returns-in_err-add_settled-clause-wide : goal.returns-in_err-add_settled-clause-wide
returns-in_err-add_settled-clause-wide g c = λ i.
    let p = err_from_is_err_and c.from_residual.result c.from_residual.ensures.1 in
    let is : c.in_err-add_settled.field-0.0 ≡ Wide = cc (p.1, p.2, i) in
    let rows = c.args.rows.now in
    c.in_err-add_settled.ensures.wide (ap Err is) rows c.requires.normal (In-at rows c.args.place c.index-rows-place.result c.requires.equality.1.inside c.index-rows-place.is)
    (In-at rows c.loop-i.i c.index-rows-i.result (omega arith) c.index-rows-i.is)

pub returns-then-not-branch-clause-adds : goal.returns-then-not-branch-clause-adds
returns-then-not-branch-clause-adds g c =
    let s = c.args.slot in
    let rows = c.args.rows.now in
    let e = c.index-rows-place.result in
    let x = c.index-rows-i.result in
    let step = subst (λ b. Adds g.M.Mixing.rows s rows (SettledHolds s e x) c.loop-i.out.rows.items b c.add_settled.new.out.rows.items) c.if-not-branch.true
    (c.in_ok-add_settled.ensures.adds rows c.requires.normal (In-at rows c.args.place e c.requires.equality.1.inside c.index-rows-place.is) (In-at rows c.loop-i.i x (omega arith) c.index-rows-i.is)) in
    adds_stop g.M.Mixing.rows s rows (OfFirst (SettledHolds s e) rows c.loop-i.i) (SettledHolds s e x) (HoldExtended s rows) c.args.out.now.rows.items c.loop-i.out.rows.items c.add_settled.new.out.rows.items c.loop-i.invariant step

pub loop-i-preserved : goal.loop-i-preserved
loop-i-preserved g c =
    let s = c.args.slot in
    let rows = c.args.rows.now in
    let e = c.index-rows-place.result in
    let x = c.index-rows-i.result in
    let old = c.args.out.now.rows.items in
    let asked = OfFirst (SettledHolds s e) rows (c.loop-i.i + 1) in
    elim c.else-i-place.branch [
      | else-i-place-via-then-i-place+in_ok-add_settled+else-not-branch w ↦
          let items : c.else-i-place.out.rows.items ≡ w.add_settled.new.out.rows.items = ap (λ (v : Kept). v.rows.items) w.out-is in
          let step = subst (λ b. Adds g.M.Mixing.rows s rows (SettledHolds s e x) c.loop-i.out.rows.items b w.add_settled.new.out.rows.items) w.if-not-branch.false
          (w.in_ok-add_settled.ensures.adds rows c.requires.normal (In-at rows c.args.place e c.requires.equality.1.inside c.index-rows-place.is) (In-at rows c.loop-i.i x (omega arith) c.index-rows-i.is)) in
          subst (Adds g.M.Mixing.rows s rows asked old true) (sym items)
          (adds_more g.M.Mixing.rows s rows (SettledHolds s e) rows c.loop-i.i x old c.loop-i.out.rows.items true w.add_settled.new.out.rows.items (omega arith) c.index-rows-i.is c.loop-i.invariant step)
      | else-i-place-via-else-i-place w ↦
          let items : c.else-i-place.out.rows.items ≡ c.loop-i.out.rows.items = ap (λ (v : Kept). v.rows.items) w.out-is in
          let same : c.args.place ≡ c.loop-i.i = omega (arith, w.if-i-place.false) in
          subst (Adds g.M.Mixing.rows s rows asked old true) (sym items)
          (adds_skip g.M.Mixing.rows s rows (SettledHolds s e) rows c.loop-i.i e old c.loop-i.out.rows.items (omega arith) (subst (λ n. e ≡ get_or rows n e) same c.index-rows-place.is) (λ p h. inl refl) c.loop-i.invariant)
    ]

pub returns-clause-adds : goal.returns-clause-adds
returns-clause-adds g c =
    let s = c.args.slot in
    let rows = c.args.rows.now in
    let e = c.index-rows-place.result in
    let is = equality_at s rows c.args.place e c.requires.equality c.index-rows-place.is in
    let all : c.loop-i.i ≡ length rows = omega (arith, c.loop-i-test.false, c.loop-i.auto.i-end) in
    adds_weaker g.M.Mixing.rows s rows (OfFirst (SettledHolds s e) rows (length rows)) (HoldExtended s rows) c.args.out.now.rows.items true c.loop-i.out.rows.items
    (subst (λ n. Adds g.M.Mixing.rows s rows (OfFirst (SettledHolds s e) rows n) c.args.out.now.rows.items true c.loop-i.out.rows.items) all c.loop-i.invariant)
    (λ p h f. equality_exact s rows c.requires.normal p h e (In-at rows c.args.place e c.requires.equality.1.inside c.index-rows-place.is) is.0 is.1 f)
