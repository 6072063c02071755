-- Which catalogue kept statements define.
use Rattle.std.specs.Prelude.{◌≡◌, ℕ, false, List, ◌∷◌, map}
use Rattle.ded_lex.specs.Pieces.{Statement, Whole}
use Rattle.ded_model.specs.declared.command.Language.TheVariants.{Opening, Two}
use Rattle.ded_model.specs.Catalogue.{Catalogue}
use Rattle.ded_reread.specs.Lines.{header_text}
use Rattle.ded_session.specs.Replies.{ReplyForm, is_refusal, some_refusal}
use Rattle.ded_session.specs.Runs.{Steps, empty_catalogue}
use Rattle.ded_session.specs.Steps.{Step}
use Rattle.ded_kept.specs.Answering.{kept_text}

-- the header as it is kept
abbrev pub header_line : List ℕ
header_line = kept_text (Whole header_text)

-- The texts are the header and further whole pieces, each with its ; , and these are accepted in order by the rules of the session, from
-- the empty catalogue on, and leave this one.
pub record IsDefinedBy (limit : ℕ) (list : List (List ℕ)) (c : Catalogue) : Type 0 where
  pub first : ReplyForm
  pub begun : Catalogue
  pub begins : Step Opening (empty_catalogue limit) (Whole header_text) first begun
  pub is_begun : is_refusal first ≡ false
  pub pieces : List (List ℕ)
  pub texts : list ≡ header_line ∷ map (λ piece. kept_text (Whole piece)) pieces
  pub replies : List ReplyForm
  pub steps : Steps Two begun (map Whole pieces) replies c
  pub accepted : some_refusal replies ≡ false
