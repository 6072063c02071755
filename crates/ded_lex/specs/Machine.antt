-- The machine that finds the end of a piece, and sees whether the piece is blank so far.
-- The bytes below are ' (39), - (45), ; (59) and the line feed (10).
use Rattle.std.specs.Prelude.{ℕ, Bool, true, false, List, [], ◌∷◌, if◌then◌else◌, ◌==◌, ◌&&◌, ◌||◌, Option, Some, None}
use Rattle.ded_lex.specs.declared.state.State.{State}
use Rattle.ded_lex.specs.declared.state.State.TheVariants.{Plain, Dash, Quote, Comment}
use Rattle.ded_lex.specs.Gaps.{blank_byte}

-- the state after a byte, or none at the ; that ends the piece
abbrev pub turned : State → ℕ → Option State
turned Plain b = if b == 39 then Some Quote else (if b == 45 then Some Dash else (if b == 59 then None else Some Plain))
turned Dash b = if b == 39 then Some Quote else (if b == 45 then Some Comment else (if b == 59 then None else Some Plain))
turned Quote b = if b == 39 then Some Plain else Some Quote
turned Comment b = if b == 10 then Some Plain else Some Comment

-- the state after bytes in which no piece ends
abbrev pub walked : State → List ℕ → Option State
walked s [] = Some s
walked s (b ∷ bs) = elim (turned s b) [ None ↦ None | Some t ↦ walked t bs ]

-- the byte is a blank, or of a comment's opening dashes, or in a comment
abbrev pub stays_blank : State → ℕ → Bool
stays_blank Plain b = blank_byte b || (b == 45)
stays_blank Dash b = b == 45
stays_blank Quote b = false
stays_blank Comment b = true

-- a blank piece may end in this state
abbrev pub ends_blank : State → Bool
ends_blank Plain = true
ends_blank Dash = false
ends_blank Quote = false
ends_blank Comment = true

-- each of the bytes stays blank
abbrev pub all_stay_blank : State → List ℕ → Bool
all_stay_blank s [] = true
all_stay_blank s (b ∷ bs) = elim (turned s b) [ None ↦ false | Some t ↦ stays_blank s b && all_stay_blank t bs ]
