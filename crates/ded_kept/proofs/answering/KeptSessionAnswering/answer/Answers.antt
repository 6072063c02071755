use Rattle.std.proofs.Common.{◌≡◌, sym, ◌∙◌, subst, true, false}
use Rattle.ded_dialogue.specs.Runs.{StandsFor}
use Rattle.ded_lex.specs.Pieces.{IsShortPiece}
use Rattle.ded_session.specs.Answered.{reply_form}
use Rattle.ded_kept.specs.Machine.{listed_in, state_of, listing_of}
use Rattle.ded_kept.proofs.Replies.{begun, whole_answered, long_answered, cut_answered}
use Rattle.ded_kept.proofs.answering.KeptSessionAnswering.answer.Goals as goal

pub returns-then-begins_script : goal.returns-then-begins_script
returns-then-begins_script c = λ s stands.
    let yes = c.begins_script.ensures.0 c.if-begins_script.true in
    begun (listed_in c.args.self.now) (state_of c.args.self.now) c.in-Whole.bytes.now s (subst (λ p. StandsFor p s) c.in-Whole.is stands) (subst (λ p. IsShortPiece p) c.in-Whole.is c.requires) yes.0 yes.1

pub returns-else-begins_script : goal.returns-else-begins_script
returns-else-begins_script c = λ s stands.
    whole_answered (listed_in c.args.self.now) (state_of c.args.self.now) c.in-Whole.bytes.now s (listing_of c.answer_whole.new.self) (reply_form c.answer_whole.result) (subst (λ p. StandsFor p s) c.in-Whole.is stands)
    (λ first header. differ (sym c.if-begins_script.false ∙ c.begins_script.ensures.1 (first, header)))
    c.answer_whole.ensures.step c.answer_whole.ensures.same c.answer_whole.ensures.listed
  where
    differ : false ≡ true → ⊥
    differ e = cc

pub returns-in-Long : goal.returns-in-Long
returns-in-Long c = λ s stands. long_answered (listed_in c.args.self.now) (state_of c.args.self.now) s (subst (λ p. StandsFor p s) c.in-Long.is stands)

pub returns-in-Cut : goal.returns-in-Cut
returns-in-Cut c = λ s stands. cut_answered (listed_in c.args.self.now) (state_of c.args.self.now) s (subst (λ p. StandsFor p s) c.in-Cut.is stands)
