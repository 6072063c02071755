-- The texts of replies.
use Rattle.std.specs.Prelude.{ℕ, List}
use Rattle.std.specs.List.{flat_map}
use Rattle.ded_session.specs.Replies.{ReplyForm, done, number, truth, tuples, stored, boxes, steps, script, apart, meeting, refused}
use Rattle.ded_print.specs.Boxes.{box_text}
use Rattle.ded_print.specs.Certificates.{apart_text}
use Rattle.ded_print.specs.Lines.{done_text, number_reply_text, truth_text, script_text, meeting_text, refusal_text}
use Rattle.ded_print.specs.Plans.{plan_text}
use Rattle.ded_print.specs.Tuples.{answer_text, stored_text}

-- what is written of a reply
abbrev pub text_of : ReplyForm → List ℕ
text_of done = done_text
text_of (number k) = number_reply_text k
text_of (truth b) = truth_text b
text_of (tuples columns ts) = answer_text columns ts
text_of (stored columns ts) = stored_text columns ts
text_of (boxes columns r) = box_text columns r
text_of (steps plan) = plan_text plan
text_of (script lines) = script_text lines
text_of (apart es) = apart_text es
text_of (meeting i j) = meeting_text i j
text_of (refused r) = refusal_text r

-- the texts of replies, one after another
abbrev pub texts : List ReplyForm → List ℕ
texts replies = flat_map text_of replies
