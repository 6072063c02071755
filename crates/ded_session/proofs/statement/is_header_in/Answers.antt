use Rattle.ded_lex.specs.Pieces.{Whole}
use Rattle.ded_session.proofs.HeaderSteps.{header_told, never_header, other_no_header}
use Rattle.ded_session.proofs.statement.is_header_in.Goals as goal

pub returns-in-Opening : goal.returns-in-Opening
returns-in-Opening c = header_told c.args.language c.args.bytes.now c.is_header.result c.in-Opening.is c.requires c.is_header.ensures

pub returns-in-One : goal.returns-in-One
returns-in-One c = never_header c.args.language (Whole c.args.bytes.now) (other_no_header c.args.language (Whole c.args.bytes.now) c.in-One.is)
