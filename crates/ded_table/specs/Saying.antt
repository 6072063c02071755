-- What is heard of a reply.
use Rattle.std.specs.Prelude.{false}
use Rattle.ded_dialogue.specs.Replies.{Said}
use Rattle.ded_run.specs.OneSession.{said_of}
use Rattle.ded_session.specs.Answered.{reply_form}
use Rattle.ded_table.specs.declared.tabled.TableReply.{TableReply}
use Rattle.ded_table.specs.declared.tabled.TableReply.TheVariants.{Plain, Table}

-- a plain reply is heard as in one session, and a table as its text, which is no refusal
abbrev pub said_by : TableReply → Said
said_by (Plain reply) = said_of (reply_form reply)
said_by (Table text) = record { text = text; refuses = false }
