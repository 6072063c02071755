use Rattle.std.proofs.Common.{◌≡◌, ◌+◌, ◌++◌, ◌∷◌, [], rules, arith, refl, sym, ap, ◌∙◌, length-append}
use Rattle.std.proofs.lemmas.Bool.{false≢true}
use Rattle.std.proofs.lemmas.Option.{same_Some}
use Rattle.sqlite_exec.proofs.CheckLemmas.{from_no_key}
use Rattle.ded_journal.specs.Statements.{statement_row, text_in}
use Rattle.ded_journal.proofs.Rows.{row_there, rows_longer}
use Rattle.ded_journal.proofs.inspecting.count.Goals as goal

pub rows-init : goal.rows-init
rows-init g c =
    let all = (g.S.Store.view c.args.store.now).trees 0 in
    let placed = rw (c.new-row.ensures, from_no_key) at c.in_ok-seek.ensures.ok in
    (λ clean. ([], all, ap (λ v. v.cursors 0) (placed clean), refl, refl), c.in_ok-seek.ensures.live, λ clean. rw (placed clean), search rules)

pub returns-then-not-is_same-clause-ok : goal.returns-then-not-is_same-clause-ok
returns-then-not-is_same-clause-ok g c clean list is =
    let was = c.rows.invariant.0 (omega (arith, c.next.ensures.quiet.clean)) in
    let step = rw c.if-not-branch.false at (c.in_ok-next.ensures.ok clean) in
    let row = c.next.new.row in
    let left : was.1 ≡ row ∷ step.0 = same_Some _ _ (sym was.2 ∙ step.1) in
    let written : c.lay.new.row ≡ statement_row (c.rows.number + 1) (text_in row) = search rules in
    let there = row_there 1 was.0 list row step.0 (sym (rw left at was.3) ∙ is) in
    false≢true (c.if-not-is_same.ensures.1 (there ∙ ap (λ n. statement_row n (text_in row)) (omega (arith, was.4)) ∙ sym written))

pub rows-preserved : goal.rows-preserved
rows-preserved g c = (
  λ clean.
      let was = c.rows.invariant.0 (omega (arith, c.next.ensures.quiet.clean)) in
      let step = rw c.if-not-branch.false at (c.in_ok-next.ensures.ok clean) in
      let row = c.next.new.row in
      let left : was.1 ≡ row ∷ step.0 = same_Some _ _ (sym was.2 ∙ step.1) in
      let again : row ≡ statement_row (c.rows.number + 1) (text_in row) = search rules in (
        was.0 ++ text_in row ∷ [],
        step.0,
        ap (λ v. v.cursors 0) step.2,
        (rw left at was.3) ∙ rows_longer 1 (c.rows.number + 1) was.0 row step.0 (omega (arith, was.4)) again,
        omega (arith, was.4, length-append was.0 (text_in row ∷ [])),
      ),
  search rules,
  search rules,
  search rules,
)
