use Rattle.std.proofs.Common.{refl, sym, ap, ◌∙◌, [], ◌∷◌, ◌++◌}
use Rattle.ded_lex.specs.Pieces.{Whole}
use Rattle.ded_lex.specs.Splits.{ended_piece}
use Rattle.ded_dialogue.proofs.Feeding.{if_written, if_not, short_piece, byte_more, piece_ends, piece_stops}
use Rattle.ded_dialogue.proofs.dialogue.Dialogue.feed_byte.Goals as goal

pub answer-requires : goal.answer-requires
unfolding ended_piece
answer-requires g c = short_piece _ _ _ c.piece.ensures c.feed.new.self.last

pub returns-in-More-clause-grows : goal.returns-in-More-clause-grows
returns-in-More-clause-grows g c = record {
  on = λ start silent before taken was s.
      let more = c.in-More.ensures.more refl s.tail s.since in
      record { tail = s.tail ++ c.args.byte ∷ []; since = more.0; so_far = byte_more _ _ _ _ _ _ _ _ _ _ _ _ s.so_far _ more.1 };
}

pub returns-in-Ended-clause-grows : goal.returns-in-Ended-clause-grows
returns-in-Ended-clause-grows g c =
    let a = c.answer.ensures.replied in
    if_written _ _ _ _ _ _ _ a.written
    (λ w. record {
      on = λ start silent before taken was s.
          let end = c.in-Ended.ensures.ended refl s.tail s.since in
          record {
            tail = [];
            since = end.3;
            so_far = piece_ends _ _ _ _ _ _ _ _ _ _ _ _ s.so_far _ _ _ _ _ _ a.reply end.0 (a.step (Whole s.tail) (ap Whole (sym (c.piece.ensures ∙ end.2)))) a.refuses a.counts w;
          };
    })

pub returns-in-Ended-clause-breaks : goal.returns-in-Ended-clause-breaks
returns-in-Ended-clause-breaks g c =
    let a = c.answer.ensures.replied in
    if_not _ _ _ _ _ _ _ a.written
    (λ rest w. record {
      on = λ start silent before taken was s.
          let end = c.in-Ended.ensures.ended refl s.tail s.since in
          piece_stops _ _ _ _ _ _ _ _ _ _ _ _ s.so_far g.met.A.Answering.goes_on _ _ _ a.reply rest end.0 (a.step (Whole s.tail) (ap Whole (sym (c.piece.ensures ∙ end.2)))) w;
    })

pub returns-in-EndedLong-clause-grows : goal.returns-in-EndedLong-clause-grows
returns-in-EndedLong-clause-grows g c =
    let a = c.answer-in-EndedLong.ensures.replied in
    if_written _ _ _ _ _ _ _ a.written
    (λ w. record {
      on = λ start silent before taken was s.
          let end = c.in-EndedLong.ensures.ended_long refl s.tail s.since in
          record {
            tail = [];
            since = end.2;
            so_far = piece_ends _ _ _ _ _ _ _ _ _ _ _ _ s.so_far _ _ _ _ _ _ a.reply end.0 (a.step (Whole s.tail) end.1) a.refuses a.counts w;
          };
    })

pub returns-in-EndedLong-clause-breaks : goal.returns-in-EndedLong-clause-breaks
returns-in-EndedLong-clause-breaks g c =
    let a = c.answer-in-EndedLong.ensures.replied in
    if_not _ _ _ _ _ _ _ a.written
    (λ rest w. record {
      on = λ start silent before taken was s.
          let end = c.in-EndedLong.ensures.ended_long refl s.tail s.since in
          piece_stops _ _ _ _ _ _ _ _ _ _ _ _ s.so_far g.met.A.Answering.goes_on _ _ _ a.reply rest end.0 (a.step (Whole s.tail) end.1) w;
    })
