use Rattle.ded_run.specs.Made.{lines, made_questions, made_script}
use Rattle.ded_dialogue.proofs.Feeding.{on_err, grows_both, grows_breaks}
use Rattle.ded_run.proofs.Making.{breaks_begun, grows_as, script_relations, script_lands, script_roads, script_view, script_all, script_is, relations, lands, roads, view, to_lands, to_roads, to_view, to_questions, ok_on, err_on}
use Rattle.ded_run.proofs.made.feed_script.Goals as goal

pub returns-in_err-feed-clause-breaks : goal.returns-in_err-feed-clause-breaks
returns-in_err-feed-clause-breaks g c =
    let n = c.args.size in
    on_err _ _ (breaks_begun _ _ _ _ _ relations (made_script n) (script_relations n) c.in_err-feed.ensures.breaks)

pub returns-in_err-feed_lands-clause-breaks : goal.returns-in_err-feed_lands-clause-breaks
returns-in_err-feed_lands-clause-breaks g c =
    let n = c.args.size in
    on_err _ _ (breaks_begun _ _ _ _ _ (to_lands n) (made_script n) (script_lands n)
    (grows_breaks _ _ _ _ _ _ _ relations (lands n) c.in_ok-feed.ensures.grows c.in_err-feed_lands.ensures.breaks))

pub returns-in_err-feed_roads-clause-breaks : goal.returns-in_err-feed_roads-clause-breaks
returns-in_err-feed_roads-clause-breaks g c =
    let n = c.args.size in
    let first = grows_both _ _ _ _ _ _ _ _ relations (lands n) c.in_ok-feed.ensures.grows c.in_ok-feed_lands.ensures.grows in
    on_err _ _ (breaks_begun _ _ _ _ _ (to_roads n) (made_script n) (script_roads n) (grows_breaks _ _ _ _ _ _ _ (to_lands n) (roads n) first c.in_err-feed_roads.ensures.breaks))

pub returns-in_err-feed-2-clause-breaks : goal.returns-in_err-feed-2-clause-breaks
returns-in_err-feed-2-clause-breaks g c =
    let n = c.args.size in
    let first = grows_both _ _ _ _ _ _ _ _ relations (lands n) c.in_ok-feed.ensures.grows c.in_ok-feed_lands.ensures.grows in
    let second = grows_both _ _ _ _ _ _ _ _ (to_lands n) (roads n) first c.in_ok-feed_roads.ensures.grows in
    on_err _ _ (breaks_begun _ _ _ _ _ (to_view n) (made_script n) (script_view n) (grows_breaks _ _ _ _ _ _ _ (to_roads n) view second c.in_err-feed-2.ensures.breaks))

pub returns-clause-grows : goal.returns-clause-grows
returns-clause-grows g c =
    let n = c.args.size in
    let first = grows_both _ _ _ _ _ _ _ _ relations (lands n) c.in_ok-feed.ensures.grows c.in_ok-feed_lands.ensures.grows in
    let second = grows_both _ _ _ _ _ _ _ _ (to_lands n) (roads n) first c.in_ok-feed_roads.ensures.grows in
    let third = grows_both _ _ _ _ _ _ _ _ (to_roads n) view second c.in_ok-feed-2.ensures.grows in
    ok_on c.feed_questions.result _ _ (λ last. grows_as _ _ _ _ _ _ (to_questions n) (made_script n) (script_is n) (grows_both _ _ _ _ _ _ _ _ (to_view n) (lines (made_questions n)) third last)) c.feed_questions.ensures.grows

pub returns-clause-breaks : goal.returns-clause-breaks
returns-clause-breaks g c =
    let n = c.args.size in
    let first = grows_both _ _ _ _ _ _ _ _ relations (lands n) c.in_ok-feed.ensures.grows c.in_ok-feed_lands.ensures.grows in
    let second = grows_both _ _ _ _ _ _ _ _ (to_lands n) (roads n) first c.in_ok-feed_roads.ensures.grows in
    let third = grows_both _ _ _ _ _ _ _ _ (to_roads n) view second c.in_ok-feed-2.ensures.grows in
    err_on _ _ _ (λ last. breaks_begun _ _ _ _ _ (to_questions n) (made_script n) (script_all n) (grows_breaks _ _ _ _ _ _ _ (to_view n) (lines (made_questions n)) third last)) c.feed_questions.ensures.breaks
