use Rattle.std.proofs.Common.{◌≡◌, true, ◌∙◌, sym, ap}
use Rattle.std.specs.Prelude.{not}
use Rattle.ded_model.specs.declared.slot.Slot.{Slot}
use Rattle.ded_model.specs.Point.{Point}
use Rattle.ded_model.specs.Negation.{some_piece_holds, both_pieces_hold}
use Rattle.ded_theory.specs.Both.{by_kind, IsByKind}
use Rattle.ded_theory.proofs.Pieces.{first_some, first_both, first_related, second_some, second_both, second_related}
use Rattle.ded_theory.proofs.both.BothTheory.negate.Goals as goal

pub returns-in_ok-negate-in-First-clause-holds : goal.returns-in_ok-negate-in-First-clause-holds
returns-in_ok-negate-in-First-clause-holds g c = λ p d.
    ap (λ n. some_piece_holds (by_kind g.A.Theory.holds g.B.Theory.holds) n p) c.first_pieces.ensures
    ∙ first_some g.A.Theory.holds g.B.Theory.holds c.in_ok-negate-in-First.field-0 p
    ∙ c.in_ok-negate-in-First.ensures.holds p d
    ∙ ap (λ a. not (by_kind g.A.Theory.holds g.B.Theory.holds a p)) (sym c.in-First.is)

pub returns-in_ok-negate-in-First-clause-disjoint : goal.returns-in_ok-negate-in-First-clause-disjoint
returns-in_ok-negate-in-First-clause-disjoint g c = λ p d.
    ap (λ n. both_pieces_hold (by_kind g.A.Theory.holds g.B.Theory.holds) n p) c.first_pieces.ensures
    ∙ first_both g.A.Theory.holds g.B.Theory.holds c.in_ok-negate-in-First.field-0 p
    ∙ c.in_ok-negate-in-First.ensures.disjoint p d

pub returns-in_ok-negate-in-First-clause-normal : goal.returns-in_ok-negate-in-First-clause-normal
returns-in_ok-negate-in-First-clause-normal g c =
    first_related (λ x. IsByKind g.A.Theory.normal g.B.Theory.normal)
    c.args.atom.now c.in-First.first c.in_ok-negate-in-First.field-0 c.first_pieces.result c.in-First.is c.first_pieces.ensures c.in_ok-negate-in-First.ensures.normal

pub returns-in_ok-negate-in-First-clause-slots : goal.returns-in_ok-negate-in-First-clause-slots
returns-in_ok-negate-in-First-clause-slots g c =
    first_related (λ x a. (s : Slot) → by_kind g.A.Theory.mentions g.B.Theory.mentions a s ≡ true → by_kind g.A.Theory.mentions g.B.Theory.mentions x s ≡ true)
    c.args.atom.now c.in-First.first c.in_ok-negate-in-First.field-0 c.first_pieces.result c.in-First.is c.first_pieces.ensures c.in_ok-negate-in-First.ensures.slots

pub returns-in_ok-negate-in-First-clause-lines : goal.returns-in_ok-negate-in-First-clause-lines
returns-in_ok-negate-in-First-clause-lines g c =
    first_related (λ x a. by_kind g.A.Theory.lines g.B.Theory.lines a ≡ by_kind g.A.Theory.lines g.B.Theory.lines x)
    c.args.atom.now c.in-First.first c.in_ok-negate-in-First.field-0 c.first_pieces.result c.in-First.is c.first_pieces.ensures c.in_ok-negate-in-First.ensures.lines

pub returns-in_ok-negate-in-First-clause-cells : goal.returns-in_ok-negate-in-First-clause-cells
returns-in_ok-negate-in-First-clause-cells g c =
    first_related (λ x a. (p q : Point) → by_kind g.A.Theory.cell g.B.Theory.cell x p ≡ by_kind g.A.Theory.cell g.B.Theory.cell x q → by_kind g.A.Theory.cell g.B.Theory.cell a p ≡ by_kind g.A.Theory.cell g.B.Theory.cell a q)
    c.args.atom.now c.in-First.first c.in_ok-negate-in-First.field-0 c.first_pieces.result c.in-First.is c.first_pieces.ensures c.in_ok-negate-in-First.ensures.cells

pub returns-in_ok-negate-in-Second-clause-holds : goal.returns-in_ok-negate-in-Second-clause-holds
returns-in_ok-negate-in-Second-clause-holds g c = λ p d.
    ap (λ n. some_piece_holds (by_kind g.A.Theory.holds g.B.Theory.holds) n p) c.second_pieces.ensures
    ∙ second_some g.A.Theory.holds g.B.Theory.holds c.in_ok-negate-in-Second.field-0 p
    ∙ c.in_ok-negate-in-Second.ensures.holds p d
    ∙ ap (λ a. not (by_kind g.A.Theory.holds g.B.Theory.holds a p)) (sym c.in-Second.is)

pub returns-in_ok-negate-in-Second-clause-disjoint : goal.returns-in_ok-negate-in-Second-clause-disjoint
returns-in_ok-negate-in-Second-clause-disjoint g c = λ p d.
    ap (λ n. both_pieces_hold (by_kind g.A.Theory.holds g.B.Theory.holds) n p) c.second_pieces.ensures
    ∙ second_both g.A.Theory.holds g.B.Theory.holds c.in_ok-negate-in-Second.field-0 p
    ∙ c.in_ok-negate-in-Second.ensures.disjoint p d

pub returns-in_ok-negate-in-Second-clause-normal : goal.returns-in_ok-negate-in-Second-clause-normal
returns-in_ok-negate-in-Second-clause-normal g c =
    second_related (λ x. IsByKind g.A.Theory.normal g.B.Theory.normal)
    c.args.atom.now c.in-Second.second c.in_ok-negate-in-Second.field-0 c.second_pieces.result c.in-Second.is c.second_pieces.ensures c.in_ok-negate-in-Second.ensures.normal

pub returns-in_ok-negate-in-Second-clause-slots : goal.returns-in_ok-negate-in-Second-clause-slots
returns-in_ok-negate-in-Second-clause-slots g c =
    second_related (λ x a. (s : Slot) → by_kind g.A.Theory.mentions g.B.Theory.mentions a s ≡ true → by_kind g.A.Theory.mentions g.B.Theory.mentions x s ≡ true)
    c.args.atom.now c.in-Second.second c.in_ok-negate-in-Second.field-0 c.second_pieces.result c.in-Second.is c.second_pieces.ensures c.in_ok-negate-in-Second.ensures.slots

pub returns-in_ok-negate-in-Second-clause-lines : goal.returns-in_ok-negate-in-Second-clause-lines
returns-in_ok-negate-in-Second-clause-lines g c =
    second_related (λ x a. by_kind g.A.Theory.lines g.B.Theory.lines a ≡ by_kind g.A.Theory.lines g.B.Theory.lines x)
    c.args.atom.now c.in-Second.second c.in_ok-negate-in-Second.field-0 c.second_pieces.result c.in-Second.is c.second_pieces.ensures c.in_ok-negate-in-Second.ensures.lines

pub returns-in_ok-negate-in-Second-clause-cells : goal.returns-in_ok-negate-in-Second-clause-cells
returns-in_ok-negate-in-Second-clause-cells g c =
    second_related (λ x a. (p q : Point) → by_kind g.A.Theory.cell g.B.Theory.cell x p ≡ by_kind g.A.Theory.cell g.B.Theory.cell x q → by_kind g.A.Theory.cell g.B.Theory.cell a p ≡ by_kind g.A.Theory.cell g.B.Theory.cell a q)
    c.args.atom.now c.in-Second.second c.in_ok-negate-in-Second.field-0 c.second_pieces.result c.in-Second.is c.second_pieces.ensures c.in_ok-negate-in-Second.ensures.cells
