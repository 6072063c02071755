-- Which replies a script may get, and the catalogue that it leaves.
use Rattle.std.specs.Prelude.{◌≡◌, ◌⊎◌, ℕ, List, [], ◌∷◌, ◌++◌, if◌then◌else◌}
use Rattle.ded_lex.specs.Pieces.{Statement, AreStatements, statement_bytes}
use Rattle.ded_model.specs.declared.command.Language.{Language}
use Rattle.ded_model.specs.declared.command.Language.TheVariants.{Opening, One, Two}
use Rattle.ded_model.specs.Catalogue.{Catalogue}
use Rattle.ded_session.specs.Replies.{ReplyForm, is_refusal}
use Rattle.ded_session.specs.Steps.{IsHeaderIn, Step}

-- the language after a statement that isn't the header: the first one alone is read in the opening language
abbrev pub next_language : Language → Language
next_language Opening = One
next_language One = One
next_language Two = Two

-- the language after any statement
abbrev pub GoesOn : Language → Statement → Language → Type 0
GoesOn Opening s next = (IsHeaderIn Opening s × (next ≡ Two)) ⊎ ((IsHeaderIn Opening s → ⊥) × (next ≡ One))
GoesOn One s next = next ≡ One
GoesOn Two s next = next ≡ Two

-- one reply for each statement, in order, each over the catalogue that those before it left
abbrev pub Steps : Language → Catalogue → List Statement → List ReplyForm → Catalogue → Type 0
Steps language c [] [] d = d ≡ c
Steps language c [] (reply ∷ replies) d = ⊥
Steps language c (s ∷ ss) [] d = ⊥
Steps language c (s ∷ ss) (reply ∷ replies) d = (e : Catalogue) × (next : Language) × Step language c s reply e × GoesOn language s next × Steps next e ss replies d

-- the catalogue without entries
abbrev pub empty_catalogue : ℕ → Catalogue
empty_catalogue limit = record { limit = limit; entries = [] }

-- the script may get these replies, and then leaves the catalogue
pub record Run (limit : ℕ) (script : List ℕ) (replies : List ReplyForm) (last : Catalogue) : Type 0 where
  pub statements : List Statement
  pub cut : AreStatements script statements
  pub steps : Steps Opening (empty_catalogue limit) statements replies last

-- ---- without refusals

-- x before the list, unless the reply is a refusal
abbrev pub unless_refused : {A : Type 0} → ReplyForm → A → List A → List A
unless_refused reply x xs = if is_refusal reply then xs else x ∷ xs

-- the statements whose replies aren't refusals, in order
abbrev pub accepted : List Statement → List ReplyForm → List Statement
accepted (s ∷ ss) (reply ∷ replies) = unless_refused reply s (accepted ss replies)
accepted _ _ = []

-- the replies that aren't refusals, in order
abbrev pub accepted_replies : List ReplyForm → List ReplyForm
accepted_replies [] = []
accepted_replies (reply ∷ replies) = unless_refused reply reply (accepted_replies replies)

-- the statements, each followed by ;
abbrev pub script_of : List Statement → List ℕ
script_of [] = []
script_of (s ∷ ss) = statement_bytes s ++ 59 ∷ script_of ss
