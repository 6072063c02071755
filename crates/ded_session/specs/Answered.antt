-- What the program's replies stand for.
use Rattle.ded_model.specs.PlanForm.{plan_form}
use Rattle.ded_session.specs.declared.reply.Reply.{Reply}
use Rattle.ded_session.specs.declared.reply.Reply.TheVariants.{Done, Number, Truth, Tuples, Stored, Boxes, Steps, Script, Apart, Meet, Refused}
use Rattle.ded_session.specs.Replies.{ReplyForm, done, number, truth, tuples, stored, boxes, steps, script, apart, meeting, refused}

-- what a reply of the program says
abbrev pub reply_form : Reply → ReplyForm
reply_form Done = done
reply_form (Number k) = number k
reply_form (Truth b) = truth b
reply_form (Tuples a) = tuples a.heading a.tuples
reply_form (Stored h ts) = stored h ts
reply_form (Boxes h b) = boxes h b
reply_form (Steps plan) = steps (plan_form plan)
reply_form (Script lines) = script lines.items
reply_form (Apart entries) = apart entries.items
reply_form (Meet i j) = meeting i j
reply_form (Refused r) = refused r
