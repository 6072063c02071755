-- What is answered of a script that comes in parts.
use Rattle.std.specs.Prelude.{◌≡◌, ◌+◌, ◌⊎◌, ℕ, List, [], ◌++◌, Bool, false, ◌||◌, ◌-◌, zero, suc, Option, Result, length, drop, map}
use Rattle.std.specs.Io.KnownBytes.{Appends, Consumes}
use Rattle.ded_io.specs.Devices.{Sent}
use Rattle.ded_lex.specs.declared.piece.Piece.{Piece}
use Rattle.ded_lex.specs.Pieces.{Statement, Whole, IsCut}
use Rattle.ded_lex.specs.Splits.{Since}
use Rattle.ded_dialogue.specs.declared.dialogue.Dialogue.{Dialogue}
use Rattle.ded_dialogue.specs.Outcome.{Interrupted}
use Rattle.ded_dialogue.specs.Hearing.{heard_from}
use Rattle.ded_dialogue.specs.Replies.{Said, texts, some_refusal}
use Rattle.ded_dialogue.specs.Runs.{Answers, Run, Steps, StandsFor}
use Rattle.ded_dialogue.specs.Waiting.{WritesBehind}

-- what is written of a reply where so many more aren't written
abbrev pub spoken : ℕ → Said → List ℕ
spoken zero reply = reply.text
spoken (suc left) reply = []

-- some statement was answered and left this state
pub record IsBehind {M : Type 0} (R : Answers M) (m : M) : Type 0 where
  pub before : M
  pub statement : Statement
  pub reply : Said
  pub step : R before statement reply m

-- The whole pieces of the bytes taken are answered, and the tail stands behind them. Of the replies the first so many aren't
-- written, and so many of these are left; of their texts the last bytes may wait still. Some reply is a refusal, or some was before, as
-- `refused` says. Whatever replies further statements may get in this state, they may get them behind these.
pub record SoFar {M : Type 0} (R : Answers M) (start : M) (silent left : ℕ) (before : Bool) (taken tail : List ℕ) (m : M) (refused : Bool) (waiting : List ℕ) (contents now : Option (List ℕ)) : Type 0 where
  pub pieces : List (List ℕ)
  pub cut : IsCut taken pieces tail
  pub replies : List Said
  pub goes : (statements : List Statement) (more : List Said) (last : M)
      → Steps R m statements more last
      → Steps R start (map Whole pieces ++ statements) (replies ++ more) last
  pub counts : left ≡ silent - length replies
  pub written : Sent contents now (texts (drop silent replies)) waiting
  pub behind : (waiting ≡ []) ⊎ IsBehind R m
  pub refuses : before || some_refusal replies ≡ refused

-- a piece got a reply, whose text was written behind what waits where none is left that isn't, or a front of it where the sink failed
pub record IsReplied {M T E : Type 0} (R : Answers M) (piece : Piece) (m n : M) (before refused : Bool) (silent left : ℕ) (contents : Option (List ℕ)) (waiting : List ℕ) (now : Option (List ℕ)) (waits : List ℕ) (result : Result T E) : Type 0 where
  pub reply : Said
  pub step : (s : Statement) → StandsFor piece s → R m s reply n
  pub refuses : refused ≡ before || reply.refuses
  pub counts : left ≡ silent - 1
  pub written : WritesBehind contents waiting now waits result (spoken silent reply)

-- nothing was taken yet, and this machine will answer
pub record IsFresh {A : Type 0} (machine : A) (silent : ℕ) (d : Dialogue A) : Type 0 where
  pub since : Since d.splitter []
  pub answering : d.machine ≡ machine
  pub refused : d.refused ≡ false
  pub left : d.silent ≡ silent

-- the whole pieces of the bytes taken are answered, the splitter was fed the tail, and the last bytes of the texts wait
pub record Streaming {A M : Type 0} (R : Answers M) (state : A → M) (start : M) (silent : ℕ) (before : Bool) (d : Dialogue A) (taken waiting : List ℕ) (contents now : Option (List ℕ)) : Type 0 where
  pub tail : List ℕ
  pub since : Since d.splitter tail
  pub so_far : SoFar R start silent d.silent before taken tail (state d.machine) d.refused waiting contents now

-- the same where nothing waits
abbrev pub Streamed : {A M : Type 0} → Answers M → (A → M) → M → ℕ → Bool → Dialogue A → List ℕ → Option (List ℕ) → Option (List ℕ) → Type 0
Streamed R state start silent before d taken contents now = Streaming R state start silent before d taken [] contents now

-- the sink failed in these bytes, however the script goes on
abbrev pub Stopped : {M : Type 0} → Answers M → M → ℕ → List ℕ → Option (List ℕ) → Option (List ℕ) → Type 0
Stopped R start silent bytes contents now = (more : List ℕ) → Interrupted (heard_from R start) silent (bytes ++ more) contents now

-- the bytes were taken, and the statements that end in them are answered
pub record Grows {A M : Type 0} (R : Answers M) (state : A → M) (old new : Dialogue A) (contents now : Option (List ℕ)) (bytes : List ℕ) : Type 0 where
  pub on : (start : M) (silent : ℕ) (before : Bool) (taken : List ℕ) (was : Option (List ℕ)) → Streamed R state start silent before old taken was contents → Streamed R state start silent before new (taken ++ bytes) was now

-- the sink failed in the bytes
pub record Breaks {A M : Type 0} (R : Answers M) (state : A → M) (old : Dialogue A) (contents now : Option (List ℕ)) (bytes : List ℕ) : Type 0 where
  pub on : (start : M) (silent : ℕ) (before : Bool) (taken : List ℕ) (was : Option (List ℕ)) → Streamed R state start silent before old taken was contents → Stopped R start silent (taken ++ bytes) was now

-- the same of bytes before which some texts wait, and others behind them
pub record GrowsBehind {A M : Type 0} (R : Answers M) (state : A → M) (old new : Dialogue A) (contents : Option (List ℕ)) (waiting : List ℕ) (now : Option (List ℕ)) (waits bytes : List ℕ) : Type 0 where
  pub on : (start : M) (silent : ℕ) (before : Bool) (taken : List ℕ) (was : Option (List ℕ)) → Streaming R state start silent before old taken waiting was contents → Streaming R state start silent before new (taken ++ bytes) waits was now

-- the sink failed in bytes before which some texts wait
pub record BreaksBehind {A M : Type 0} (R : Answers M) (state : A → M) (old : Dialogue A) (contents : Option (List ℕ)) (waiting : List ℕ) (now : Option (List ℕ)) (bytes : List ℕ) : Type 0 where
  pub on : (start : M) (silent : ℕ) (before : Bool) (taken : List ℕ) (was : Option (List ℕ)) → Streaming R state start silent before old taken waiting was contents → Stopped R start silent (taken ++ bytes) was now

-- The script ended with these bytes: each of its statements is answered, the texts of the replies but the first so many are written, and
-- some of them is a refusal, or some was before, as `refused` says.
pub record EndsWith {M : Type 0} (R : Answers M) (start : M) (silent : ℕ) (before : Bool) (taken : List ℕ) (contents now : Option (List ℕ)) (refused : Bool) (last : M) : Type 0 where
  pub replies : List Said
  pub run : Run R start taken replies last
  pub written : Appends contents now (texts (drop silent replies))
  pub refuses : before || some_refusal replies ≡ refused

-- the statement that the end of the script cuts was answered, where there is one
pub record Ends {A M : Type 0} (R : Answers M) (state : A → M) (old : Dialogue A) (contents now : Option (List ℕ)) (refused : Bool) (last : M) : Type 0 where
  pub on : (start : M) (silent : ℕ) (before : Bool) (taken : List ℕ) (was : Option (List ℕ)) → Streamed R state start silent before old taken was contents → EndsWith R start silent before taken was now refused last

-- What was taken so far is answered, and so many bytes may still come.
pub record Reading {A M : Type 0} (R : Answers M) (state : A → M) (start : M) (input_limit room : ℕ) (d : Dialogue A) (input left contents now : Option (List ℕ)) : Type 0 where
  pub taken : List ℕ
  pub takes : Consumes input left taken
  pub counts : length taken + room ≡ input_limit
  pub streamed : Streamed R state start 0 false d taken contents now
