use Rattle.std.proofs.Common.{◌≡◌, drop}
use Rattle.ded_model.specs.declared.command.Language.TheVariants.{One}
use Rattle.ded_catalog.specs.State.{catalogue_of}
use Rattle.ded_session.specs.State.{catalogue_in, language_in}
use Rattle.ded_shared.proofs.PieceByPiece.{GoesAlong}
use Rattle.ded_shared.proofs.working.replayed.Given as goal

-- what the pieces that are left make of the session's catalogue, all make of the first one; and statements are read in the plain language
abbrev pub invariant-loop-piece : goal.invariant-loop-piece
invariant-loop-piece l = record {
  along : GoesAlong l.pieces (drop l.piece-index l.pieces) (catalogue_of l.catalogue) (catalogue_in l.session);
  language : language_in l.session ≡ One;
}
