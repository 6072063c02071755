use Rattle.std.proofs.Common.{◌∙◌, sym, subst, length}
use Rattle.ded_model.specs.Cell.{conj_holds}
use Rattle.ded_model.specs.Width.{rational_columns}
use Rattle.ded_theory.specs.Verdicts.{IsVerdict}
use Rattle.ded_atoms.proofs.Bounded.{bounds_count, none_bounded, some_bounded}
use Rattle.ded_atoms.proofs.extents.conj_extent.Goals as goal

pub returns-then-is_empty-clause-is : goal.returns-then-is_empty-clause-is
returns-then-is_empty-clause-is g c =
    let list = c.in_ok-list-in-Inhabited.list in
    let count = bounds_count (conj_holds g.T.Theory.holds c.args.atoms.now) 0 c.args.columns.now list.items c.in_ok-list-in-Inhabited.ensures.is in (
      subst (IsVerdict g.T.Theory.holds g.T.Theory.mentions g.T.Theory.lines c.args.atoms.now) c.in-Inhabited.is c.in_ok-refute.ensures.verdict,
      none_bounded (length list.items) (rational_columns c.args.columns.now) list.len count list.ok.0 (sym c.if-is_empty.true ∙ c.is_empty.ensures),
    )

pub returns-else-is_empty-clause-is : goal.returns-else-is_empty-clause-is
returns-else-is_empty-clause-is g c =
    let list = c.in_ok-list-in-Inhabited.list in
    let count = bounds_count (conj_holds g.T.Theory.holds c.args.atoms.now) 0 c.args.columns.now list.items c.in_ok-list-in-Inhabited.ensures.is in (
      subst (IsVerdict g.T.Theory.holds g.T.Theory.mentions g.T.Theory.lines c.args.atoms.now) c.in-Inhabited.is c.in_ok-refute.ensures.verdict,
      some_bounded (length list.items) (rational_columns c.args.columns.now) list.len count list.ok.0 (sym c.if-is_empty.false ∙ c.is_empty.ensures),
      c.in_ok-list-in-Inhabited.ensures.is,
    )
