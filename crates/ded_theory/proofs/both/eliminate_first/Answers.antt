use Rattle.std.proofs.Common.{◌≡◌, true, ◌∙◌, sym, ap, subst, Err}
use Rattle.std.specs.List.{AllByRecursion}
use Rattle.ded_model.specs.declared.slot.Sort.TheVariants.{Rat, Text}
use Rattle.ded_model.specs.declared.memory.Refused.TheVariants.{Wide}
use Rattle.ded_model.specs.Lines.{clash_at}
use Rattle.ded_model.proofs.Members.{clash-grows}
use Rattle.ded_theory.specs.declared.answers.Eliminated.TheVariants.{Never, Conj}
use Rattle.ded_theory.specs.Conjunctions.{conj_lines}
use Rattle.ded_theory.specs.Eliminations.{IsElimination}
use Rattle.std.proofs.lemmas.Result.{err_from_is_err_and}
use Rattle.ded_theory.specs.Both.{by_kind, firsts}
use Rattle.ded_theory.proofs.TwoKinds.{firsts_normal, first_lines}
use Rattle.ded_theory.proofs.PartLaws.{IsOfSort, only_rational, only_texts, never_first, conj_first}
use Rattle.ded_theory.proofs.both.eliminate_first.Goals as goal
use Rattle.ded_theory.proofs.both.eliminate_first.Given.{Over}

first_laws : (g : Over) → IsOfSort g.A.Theory.holds g.A.Theory.mentions g.A.Theory.lines g.A.Theory.normal Rat
first_laws g = record {
  respects = g.met.A.Theory.respects;
  sort = λ a t n m. only_rational g.A.Theory.owned g.met.A.OfNumbers.no_texts t.sort (g.met.A.Theory.owned_slots a t n m);
  line_slots = g.met.A.Theory.line_slots;
}

second_laws : (g : Over) → IsOfSort g.B.Theory.holds g.B.Theory.mentions g.B.Theory.lines g.B.Theory.normal Text
second_laws g = record {
  respects = g.met.B.Theory.respects;
  sort = λ a t n m. only_texts g.B.Theory.owned g.met.B.OfTexts.no_numbers t.sort (g.met.B.Theory.owned_slots a t n m);
  line_slots = g.met.B.Theory.line_slots;
}

pub eliminate-requires : goal.eliminate-requires
eliminate-requires g c = record { normal = subst (AllByRecursion g.A.Theory.normal) (sym (c.deref.ensures.value ∙ c.in_ok-first.ensures)) (firsts_normal g.A.Theory.normal g.B.Theory.normal c.args.atoms.now c.requires.normal) }

pub returns-in_err-eliminate-clause-never_wide : goal.returns-in_err-eliminate-clause-never_wide
returns-in_err-eliminate-clause-never_wide g c = λ d e.
    let p = err_from_is_err_and c.from_residual-in_err-eliminate.result c.from_residual-in_err-eliminate.ensures.1 in
    let is : c.in_err-eliminate.field-0.0 ≡ Wide = cc (p.1, p.2, e) in
    c.in_err-eliminate.ensures.never_wide d (ap Err is)

pub returns-in_err-eliminate-clause-wide : goal.returns-in_err-eliminate-clause-wide
returns-in_err-eliminate-clause-wide g c = λ e.
    let p = err_from_is_err_and c.from_residual-in_err-eliminate.result c.from_residual-in_err-eliminate.ensures.1 in
    let is : c.in_err-eliminate.field-0.0 ≡ Wide = cc (p.1, p.2, e) in
    clash-grows c.args.slot (conj_lines g.A.Theory.lines (firsts c.args.atoms.now)) (conj_lines (by_kind g.A.Theory.lines g.B.Theory.lines) c.args.atoms.now) (first_lines g.A.Theory.lines g.B.Theory.lines c.args.atoms.now)
    (subst (λ xs. clash_at c.args.slot (conj_lines g.A.Theory.lines xs) ≡ true) (c.deref.ensures.value ∙ c.in_ok-first.ensures) (c.in_err-eliminate.ensures.wide (ap Err is)))

pub returns-in-Never-clause-is : goal.returns-in-Never-clause-is
returns-in-Never-clause-is g c =
    let e = c.in_ok-eliminate.ensures in
    never_first g.A.Theory.holds g.A.Theory.mentions g.A.Theory.lines g.A.Theory.normal (first_laws g) g.B.Theory.holds g.B.Theory.mentions g.B.Theory.lines g.B.Theory.normal (second_laws g) c.args.atoms.now c.args.slot c.requires.sort c.requires.normal
    (subst (λ xs. IsElimination g.A.Theory.holds g.A.Theory.mentions g.A.Theory.lines g.A.Theory.normal xs c.args.slot Never) (c.deref.ensures.value ∙ c.in_ok-first.ensures)
    (subst (IsElimination g.A.Theory.holds g.A.Theory.mentions g.A.Theory.lines g.A.Theory.normal c.deref.result.now c.args.slot) c.in-Never.is (record { holds = e.holds; normal = e.normal; slots = e.slots; lines = e.lines })))

pub returns-clause-is : goal.returns-clause-is
returns-clause-is g c =
    let e = c.in_ok-eliminate.ensures in
    conj_first g.A.Theory.holds g.A.Theory.mentions g.A.Theory.lines g.A.Theory.normal (first_laws g) g.B.Theory.holds g.B.Theory.mentions g.B.Theory.lines g.B.Theory.normal (second_laws g) c.args.atoms.now c.args.slot c.requires.sort c.requires.normal c.in-Conj.first c.in_ok-joined-in-Conj.field-0
    (subst (λ xs. IsElimination g.A.Theory.holds g.A.Theory.mentions g.A.Theory.lines g.A.Theory.normal xs c.args.slot (Conj c.in-Conj.first)) (c.deref.ensures.value ∙ c.in_ok-first.ensures)
    (subst (IsElimination g.A.Theory.holds g.A.Theory.mentions g.A.Theory.lines g.A.Theory.normal c.deref.result.now c.args.slot) c.in-Conj.is (record { holds = e.holds; normal = e.normal; slots = e.slots; lines = e.lines })))
    (c.in_ok-joined-in-Conj.ensures.first) (c.in_ok-joined-in-Conj.ensures.second ∙ c.in_ok-second-in-Conj.ensures)
