-- What a run leaves in its source and its sink, whatever the protocol of the replies is.
use Rattle.std.specs.Prelude.{◌≡◌, ◌<◌, ◌≤◌, ℕ, List, ◌++◌, Bool, Option, length, take, drop, map, IfSome}
use Rattle.std.specs.Io.KnownBytes.{Appends, Consumes, IsAtEnd}
use Rattle.ded_io.specs.Devices.{Sent}
use Rattle.ded_lex.specs.Pieces.{Statement, Whole, IsCut}

-- Which replies the bytes of an input may get, and which statements may get in order, with what they leave; the text of replies, one
-- after another; and whether some of them is a refusal.
pub record Protocol (F M : Type 0) : Type 1 where
  pub runs : List ℕ → List F → M → Type 0
  pub steps : List Statement → List F → M → Type 0
  pub texts : List F → List ℕ
  pub refuses : List F → Bool

-- The texts of the replies were written, one for each statement of these bytes but the first so many.
pub record Concluded {F M : Type 0} (P : Protocol F M) (silent : ℕ) (bytes : List ℕ) (contents now : Option (List ℕ)) (refused : Bool) : Type 0 where
  pub replies : List F
  pub last : M
  pub run : P.runs bytes replies last
  pub written : Appends contents now (P.texts (drop silent replies))
  pub refuses : P.refuses replies ≡ refused

-- The same, and the last reply leaves that state.
abbrev pub ConcludedIn : {F M : Type 0} → Protocol F M → ℕ → List ℕ → Option (List ℕ) → Option (List ℕ) → Bool → M → Type 0
ConcludedIn P silent bytes contents now refused last = (c : Concluded P silent bytes contents now refused) × (c.last ≡ last)

-- Some bytes were taken, which are the whole input and at most so many, and the texts of the replies were written, one for each
-- statement.
pub record Answered {F M : Type 0} (P : Protocol F M) (input_limit : ℕ) (input left contents now : Option (List ℕ)) (refused : Bool) : Type 0 where
  pub taken : List ℕ
  pub takes : Consumes input left taken
  pub read : IsAtEnd left
  pub whole : IfSome input (λ script. script ≡ taken)
  pub within : length taken ≤ input_limit
  pub concluded : Concluded P 0 taken contents now refused

-- The same, and the last reply leaves that state.
abbrev pub AnsweredIn : {F M : Type 0} → Protocol F M → ℕ → Option (List ℕ) → Option (List ℕ) → Option (List ℕ) → Option (List ℕ) → Bool → M → Type 0
AnsweredIn P input_limit input left contents now refused last = (a : Answered P input_limit input left contents now refused) × (a.concluded.last ≡ last)

-- The texts of the replies to the whole pieces of these bytes were written, and nothing else.
pub record WholesAnswered {F M : Type 0} (P : Protocol F M) (bytes : List ℕ) (contents now : Option (List ℕ)) : Type 0 where
  pub pieces : List (List ℕ)
  pub rest : List ℕ
  pub cut : IsCut bytes pieces rest
  pub replies : List F
  pub last : M
  pub steps : P.steps (map Whole pieces) replies last
  pub written : Appends contents now (P.texts replies)

-- At most so many bytes were taken, and their whole pieces were answered.
pub record Unread {F M : Type 0} (P : Protocol F M) (input_limit : ℕ) (input left contents now : Option (List ℕ)) : Type 0 where
  pub taken : List ℕ
  pub takes : Consumes input left taken
  pub within : length taken ≤ input_limit
  pub answered : WholesAnswered P taken contents now

-- More than so many bytes were taken, and the whole pieces of the first so many were answered.
pub record Overlong {F M : Type 0} (P : Protocol F M) (input_limit : ℕ) (input left contents now : Option (List ℕ)) : Type 0 where
  pub taken : List ℕ
  pub takes : Consumes input left taken
  pub more : input_limit < length taken
  pub answered : WholesAnswered P (take input_limit taken) contents now

-- Of the texts of the replies to the statements of these bytes, but the first so many, a front was written.
pub record Interrupted {F M : Type 0} (P : Protocol F M) (silent : ℕ) (bytes : List ℕ) (contents now : Option (List ℕ)) : Type 0 where
  pub replies : List F
  pub last : M
  pub run : P.runs bytes replies last
  pub unwritten : List ℕ
  pub written : Sent contents now (P.texts (drop silent replies)) unwritten

-- Some bytes were taken, in the end those that the last read gave, where the source tells these. The texts of the replies to the whole
-- pieces of the bytes before were all written, and behind them a front of the texts of the other replies. So nothing that was to be
-- answered before the last read waited for it.
pub record Broken {F M : Type 0} (P : Protocol F M) (input left given contents now : Option (List ℕ)) : Type 0 where
  pub before : List ℕ
  pub chunk : List ℕ
  pub takes : Consumes input left (before ++ chunk)
  pub newest : IfSome given (λ bytes. chunk ≡ bytes)
  pub pieces : List (List ℕ)
  pub rest : List ℕ
  pub cut : IsCut before pieces rest
  pub replies : List F
  pub last : M
  pub run : P.runs (before ++ chunk) replies last
  pub between : Option (List ℕ)
  pub answered : Appends contents between (P.texts (take (length pieces) replies))
  pub unwritten : List ℕ
  pub written : Sent between now (P.texts (drop (length pieces) replies)) unwritten
