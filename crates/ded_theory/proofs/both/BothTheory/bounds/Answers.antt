use Rattle.std.proofs.Common.{◌∙◌, sym, subst}
use Rattle.std.specs.List.{AllByRecursion}
use Rattle.ded_model.specs.declared.slot.Sort.TheVariants.{Rat, Text}
use Rattle.ded_theory.specs.declared.answers.Verdict.TheVariants.{Empty}
use Rattle.ded_theory.specs.Verdicts.{IsVerdict, IsSpan, IsAround}
use Rattle.ded_theory.specs.Both.{by_kind}
use Rattle.ded_theory.proofs.TwoKinds.{firsts_normal, seconds_normal}
use Rattle.ded_theory.proofs.PartLaws.{IsOfSort, only_rational, only_texts, nowhere_second, spans_joined, span_exact}
use Rattle.ded_theory.proofs.both.BothTheory.bounds.Goals as goal
use Rattle.ded_theory.proofs.both.BothTheory.bounds.Given.{Over}

first_laws : (g : Over) → IsOfSort g.A.Theory.holds g.A.Theory.mentions g.A.Theory.lines g.A.Theory.normal Rat
first_laws g = record {
  respects = g.met.A.Theory.respects;
  sort = λ a t n m. only_rational g.A.Theory.owned g.met.A.OfNumbers.no_texts t.sort (g.met.A.Theory.owned_slots a t n m);
  line_slots = g.met.A.Theory.line_slots;
}

second_laws : (g : Over) → IsOfSort g.B.Theory.holds g.B.Theory.mentions g.B.Theory.lines g.B.Theory.normal Text
second_laws g = record {
  respects = g.met.B.Theory.respects;
  sort = λ a t n m. only_texts g.B.Theory.owned g.met.B.OfTexts.no_numbers t.sort (g.met.B.Theory.owned_slots a t n m);
  line_slots = g.met.B.Theory.line_slots;
}

pub refute-requires : goal.refute-requires
refute-requires g c = record { normal = subst (AllByRecursion g.B.Theory.normal) (sym (c.deref.ensures.value ∙ c.in_ok-second_part.ensures)) (seconds_normal g.A.Theory.normal g.B.Theory.normal c.args.atoms.now c.requires.normal) }

pub returns-in-Empty-clause-span : goal.returns-in-Empty-clause-span
returns-in-Empty-clause-span g c =
    nowhere_second g.A.Theory.holds g.A.Theory.mentions g.A.Theory.lines g.A.Theory.normal (first_laws g) g.B.Theory.holds g.B.Theory.mentions g.B.Theory.lines g.B.Theory.normal (second_laws g) c.args.atoms.now c.requires.normal
    (subst (λ xs. IsVerdict g.B.Theory.holds g.B.Theory.mentions g.B.Theory.lines xs Empty) (c.deref.ensures.value ∙ c.in_ok-second_part.ensures)
    (subst (IsVerdict g.B.Theory.holds g.B.Theory.mentions g.B.Theory.lines c.deref.result.now) c.in-Empty.is c.in_ok-verdict.ensures.verdict))

pub bounds-requires-clause-normal : goal.bounds-requires-clause-normal
bounds-requires-clause-normal g c = subst (AllByRecursion g.A.Theory.normal) (sym (c.deref-2.ensures.value ∙ c.in_ok-first_part.ensures)) (firsts_normal g.A.Theory.normal g.B.Theory.normal c.args.atoms.now c.requires.normal)

pub returns-clause-span : goal.returns-clause-span
returns-clause-span g c =
    subst (IsSpan (by_kind g.A.Theory.holds g.B.Theory.holds) (by_kind g.A.Theory.mentions g.B.Theory.mentions) (by_kind g.A.Theory.lines g.B.Theory.lines) c.args.atoms.now c.args.slot) (sym c.joined_span.ensures)
    (spans_joined g.A.Theory.holds g.A.Theory.mentions g.A.Theory.lines g.A.Theory.normal (first_laws g) g.B.Theory.holds g.B.Theory.mentions g.B.Theory.lines g.B.Theory.normal (second_laws g) c.args.atoms.now c.requires.normal c.args.slot c.requires.rational c.in_ok-span.span c.in_ok-verdict.verdict
    (subst (λ xs. IsSpan g.A.Theory.holds g.A.Theory.mentions g.A.Theory.lines xs c.args.slot c.in_ok-span.span) (c.deref-2.ensures.value ∙ c.in_ok-first_part.ensures) c.in_ok-span.ensures.span)
    (subst (λ xs. IsVerdict g.B.Theory.holds g.B.Theory.mentions g.B.Theory.lines xs c.in_ok-verdict.verdict) (c.deref.ensures.value ∙ c.in_ok-second_part.ensures) c.in_ok-verdict.ensures.verdict))

pub returns-clause-exact : goal.returns-clause-exact
returns-clause-exact g c = λ d a. span_exact c.in_ok-span.span c.in_ok-verdict.verdict (c.in_ok-span.ensures.exact d.0) (c.in_ok-verdict.ensures.decided d.1) (subst IsAround c.joined_span.ensures a)
