use Rattle.ded_run.specs.Made.{line, lines, corner_question, other_corner_question, made_questions}
use Rattle.ded_dialogue.proofs.Feeding.{on_err, grows_both, grows_breaks}
use Rattle.ded_run.proofs.Making.{breaks_begun, grows_as, begun_one, begun_two, begun_three, begun_four, questions_are, first_question, two_questions, three_questions, all_questions, boxes, ok_on, err_on}
use Rattle.ded_run.proofs.made.feed_questions.Goals as goal

pub returns-in_err-feed-clause-breaks : goal.returns-in_err-feed-clause-breaks
returns-in_err-feed-clause-breaks g c =
    let n = c.args.size in
    on_err _ _ (breaks_begun _ _ _ _ _ first_question (lines (made_questions n)) (begun_one n) c.in_err-feed.ensures.breaks)

pub returns-in_err-feed_statement-clause-breaks : goal.returns-in_err-feed_statement-clause-breaks
returns-in_err-feed_statement-clause-breaks g c =
    let n = c.args.size in
    on_err _ _ (breaks_begun _ _ _ _ _ (two_questions n) (lines (made_questions n)) (begun_two n)
    (grows_breaks _ _ _ _ _ _ _ first_question (line (corner_question n)) c.in_ok-feed.ensures.grows c.in_err-feed_statement.ensures.breaks))

pub returns-in_err-feed_statement-2-clause-breaks : goal.returns-in_err-feed_statement-2-clause-breaks
returns-in_err-feed_statement-2-clause-breaks g c =
    let n = c.args.size in
    let two = grows_both _ _ _ _ _ _ _ _ first_question (line (corner_question n)) c.in_ok-feed.ensures.grows c.in_ok-feed_statement.ensures.grows in
    on_err _ _ (breaks_begun _ _ _ _ _ (three_questions n) (lines (made_questions n)) (begun_three n)
    (grows_breaks _ _ _ _ _ _ _ (two_questions n) (line (other_corner_question n)) two c.in_err-feed_statement-2.ensures.breaks))

pub returns-clause-grows : goal.returns-clause-grows
returns-clause-grows g c =
    let n = c.args.size in
    let two = grows_both _ _ _ _ _ _ _ _ first_question (line (corner_question n)) c.in_ok-feed.ensures.grows c.in_ok-feed_statement.ensures.grows in
    let three = grows_both _ _ _ _ _ _ _ _ (two_questions n) (line (other_corner_question n)) two c.in_ok-feed_statement-2.ensures.grows in
    ok_on c.feed-2.result _ _ (λ last. grows_as _ _ _ _ _ _ (all_questions n) (lines (made_questions n)) (questions_are n) (grows_both _ _ _ _ _ _ _ _ (three_questions n) boxes three last)) c.feed-2.ensures.grows

pub returns-clause-breaks : goal.returns-clause-breaks
returns-clause-breaks g c =
    let n = c.args.size in
    let two = grows_both _ _ _ _ _ _ _ _ first_question (line (corner_question n)) c.in_ok-feed.ensures.grows c.in_ok-feed_statement.ensures.grows in
    let three = grows_both _ _ _ _ _ _ _ _ (two_questions n) (line (other_corner_question n)) two c.in_ok-feed_statement-2.ensures.grows in
    err_on _ _ _ (λ last. breaks_begun _ _ _ _ _ (all_questions n) (lines (made_questions n)) (begun_four n) (grows_breaks _ _ _ _ _ _ _ (three_questions n) boxes three last)) c.feed-2.ensures.breaks
