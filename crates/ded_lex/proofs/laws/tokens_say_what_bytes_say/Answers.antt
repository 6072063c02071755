use Rattle.ded_lex.proofs.Said.{tokens_say, said_by_tokens}
use Rattle.ded_lex.proofs.laws.tokens_say_what_bytes_say.Goals as goal

pub returns-clause-told : goal.returns-clause-told
returns-clause-told c = tokens_say

pub returns-clause-only : goal.returns-clause-only
returns-clause-only c = said_by_tokens
