-- The text that is written of each reply of shared sessions.
use Rattle.std.specs.Prelude.{ℕ, List, ◌∷◌, [], ◌++◌, codes}
use Rattle.std.specs.List.{flat_map}
use Rattle.ded_session.specs.Texts.{text_of}
use Rattle.ded_shared.specs.Forms.{SharedForm, plain, begun, not_begun, conflict}

-- what is written of a reply: as in one session, or one of the refusals 22 to 24, which only shared sessions give
abbrev pub shared_text : SharedForm → List ℕ
shared_text (plain reply) = text_of reply
shared_text begun = codes "refused 22 begun\n"
shared_text not_begun = codes "refused 23 not begun\n"
shared_text (conflict n) = codes "refused 24 conflict " ++ (n ++ 10 ∷ [])

-- the texts of replies, one after another
abbrev pub shared_texts : List SharedForm → List ℕ
shared_texts replies = flat_map shared_text replies
