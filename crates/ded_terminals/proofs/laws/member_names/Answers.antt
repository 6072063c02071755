use Rattle.ded_terminals.proofs.MemberNames.{named_member, member_named}
use Rattle.ded_terminals.proofs.laws.member_names.Goals as goal

pub returns-clause-made : goal.returns-clause-made
returns-clause-made c = named_member

pub returns-clause-spelled : goal.returns-clause-spelled
returns-clause-spelled c = member_named
