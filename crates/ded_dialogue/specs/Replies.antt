-- Replies, as they are heard.
use Rattle.std.specs.Prelude.{ℕ, Bool, false, ◌||◌, List, [], ◌∷◌}
use Rattle.std.specs.List.{flat_map}

-- the text of a reply, and whether it is a refusal
pub record Said : Type 0 where
  pub text : List ℕ
  pub refuses : Bool

-- the text of a reply
abbrev pub text_of : Said → List ℕ
text_of reply = reply.text

-- the texts of replies, one after another
abbrev pub texts : List Said → List ℕ
texts replies = flat_map text_of replies

-- whether some reply is a refusal
abbrev pub some_refusal : List Said → Bool
some_refusal [] = false
some_refusal (reply ∷ replies) = reply.refuses || some_refusal replies
