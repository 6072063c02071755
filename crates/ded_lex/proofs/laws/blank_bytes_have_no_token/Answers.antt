use Rattle.ded_lex.proofs.BlankTokens.{blank_is_no_tokens}
use Rattle.ded_lex.proofs.laws.blank_bytes_have_no_token.Goals as goal

pub returns : goal.returns
returns c = blank_is_no_tokens
