use Rattle.std.proofs.Common.{refl}
use Rattle.ded_lex.specs.Pieces as pieces
use Rattle.ded_dialogue.proofs.Feeding.{if_written, if_not, ends_blank, ends_rest, rest_stops}
use Rattle.ded_dialogue.proofs.dialogue.Dialogue.finish.Goals as goal

pub returns-in-Blank-clause-ends : goal.returns-in-Blank-clause-ends
returns-in-Blank-clause-ends g c = record {
  on = λ start silent before taken was s. ends_blank _ _ _ _ _ _ _ _ _ _ _ _ s.so_far refl (c.in-Blank.ensures.blank refl s.tail s.since);
}

pub returns-in-Cut-clause-ends : goal.returns-in-Cut-clause-ends
returns-in-Cut-clause-ends g c =
    let a = c.answer_at_once.ensures.replied in
    if_written _ _ _ _ _ _ _ a.written (λ w. record {
      on = λ start silent before taken was s.
          let rest = c.in-Cut.ensures.cut refl s.tail s.since in
          ends_rest _ _ _ _ _ _ _ _ _ _ _ _ s.so_far _ _ _ a.reply rest.0 (a.step (pieces.Unfinished s.tail) rest.1) a.refuses w;
    })

pub returns-in-Cut-clause-stopped : goal.returns-in-Cut-clause-stopped
returns-in-Cut-clause-stopped g c =
    let a = c.answer_at_once.ensures.replied in
    if_not _ _ _ _ _ _ _ a.written (λ unwritten w start silent before taken contents s.
    let rest = c.in-Cut.ensures.cut refl s.tail s.since in
    rest_stops _ _ _ _ _ _ _ _ _ _ _ _ s.so_far _ _ a.reply unwritten rest.0 (a.step (pieces.Unfinished s.tail) rest.1) w)

pub returns-in-CutLong-clause-ends : goal.returns-in-CutLong-clause-ends
returns-in-CutLong-clause-ends g c =
    let a = c.answer_at_once-in-CutLong.ensures.replied in
    if_written _ _ _ _ _ _ _ a.written (λ w. record {
      on = λ start silent before taken was s.
          let rest = c.in-CutLong.ensures.cut_long refl s.tail s.since in
          ends_rest _ _ _ _ _ _ _ _ _ _ _ _ s.so_far _ _ _ a.reply rest.0 (a.step (pieces.Unfinished s.tail) rest.1) a.refuses w;
    })

pub returns-in-CutLong-clause-stopped : goal.returns-in-CutLong-clause-stopped
returns-in-CutLong-clause-stopped g c =
    let a = c.answer_at_once-in-CutLong.ensures.replied in
    if_not _ _ _ _ _ _ _ a.written (λ unwritten w start silent before taken contents s.
    let rest = c.in-CutLong.ensures.cut_long refl s.tail s.since in
    rest_stops _ _ _ _ _ _ _ _ _ _ _ _ s.so_far _ _ a.reply unwritten rest.0 (a.step (pieces.Unfinished s.tail) rest.1) w)
