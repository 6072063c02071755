use Rattle.std.proofs.Common.{arith, sym, ◌∙◌, refl, true≢false, ⊎_elim}
use Rattle.std.proofs.lemmas.List.{length-drop}
use Rattle.ded_lex.proofs.TokenLists.{front_at}
use Rattle.ded_syntax.proofs.Headers.{walk_none, walk_nothing, walk_more, walk_stops, walk_all, none_part, named_part}
use Rattle.ded_syntax.proofs.header.is_header.Goals as goal

pub loop-at-init : goal.loop-at-init
loop-at-init c = record { within = omega arith; walked = walk_none c.args.bytes.now }

pub returns-in_default : goal.returns-in_default
returns-in_default c = (
  λ e. absurd (true≢false (sym e)),
  λ h. absurd (walk_nothing c.args.bytes.now c.loop-at.at c.loop-at.progress c.loop-at.invariant.walked c.loop-at-test.true (front_at c.args.bytes.now c.loop-at.at _ (sym c.in_default.is ∙ c.front_of.ensures.value)) h),
)

pub returns-in_default-with_front : goal.returns-in_default-with_front
returns-in_default-with_front c = (
  λ e. absurd (true≢false (sym e)),
  λ h. absurd (walk_stops c.args.bytes.now c.loop-at.at c.loop-at.progress c.loop-at.invariant.walked c.in-Some.front (front_at c.args.bytes.now c.loop-at.at _ c.in-Some.ensures.value) (sym c.with_front.ensures ∙ c.in_default-with_front.is) h),
)

pub loop-at-preserved : goal.loop-at-preserved
loop-at-preserved c = record {
  within = omega (arith, c.loop-at.invariant.within, c.in-Some.ensures.within.1, length-drop c.loop-at.at c.args.bytes.now);
  walked = walk_more c.args.bytes.now c.loop-at.at c.loop-at.progress c.loop-at.invariant.walked c.in-Some.front c.in-Some-with_front.next (front_at c.args.bytes.now c.loop-at.at _ c.in-Some.ensures.value) (sym c.in-Some-with_front.ensures);
}

pub returns-in-Whole : goal.returns-in-Whole
returns-in-Whole c = (λ e. walk_all c.args.bytes.now c.loop-at.at c.loop-at.progress c.loop-at.invariant.walked c.loop-at-test.false c.in-Whole.is, λ h. refl)

pub returns-in-Nothing : goal.returns-in-Nothing
returns-in-Nothing c = (
  λ e. absurd (true≢false (sym e)),
  λ h. absurd (⊎_elim
      (λ e. none_part c.args.bytes.now c.loop-at.at c.loop-at.progress c.loop-at.invariant.walked c.loop-at-test.false e h)
      (λ e. named_part c.args.bytes.now c.loop-at.at c.loop-at.progress c.loop-at.invariant.walked c.loop-at-test.false e h)
      c.in-Nothing.is),
)
