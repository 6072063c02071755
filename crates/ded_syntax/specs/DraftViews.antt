-- The draft that a value of the reader stands for.
use Rattle.ded_model.specs.Command.{command_form}
use Rattle.ded_grammar.specs.Forms.{terminal_forms}
use Rattle.ded_syntax.specs.declared.draft.Head.{Head}
use Rattle.ded_syntax.specs.declared.draft.Head.TheVariants as head
use Rattle.ded_syntax.specs.declared.draft.Draft.{Draft}
use Rattle.ded_syntax.specs.declared.draft.Draft.TheVariants as draft
use Rattle.ded_syntax.specs.CommandReading as reading

-- the head that a value of the reader stands for
abbrev pub seen_head : Head → reading.Head
seen_head (head.View n h) = reading.view_head n h
seen_head head.Ask = reading.ask_head
seen_head (head.Query h) = reading.query_head h
seen_head (head.Explain h) = reading.explain_head h

-- the draft that a value of the reader stands for, with the terminals that its terminals stand for
abbrev pub seen_draft : Draft → reading.Draft
seen_draft (draft.Plain c) = reading.plain (command_form c)
seen_draft (draft.Formed h ps) = reading.formed (seen_head h) (terminal_forms ps.items)
