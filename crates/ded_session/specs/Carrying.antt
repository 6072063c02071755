-- What a command that is read may be answered, and what it then makes of a catalogue.
use Rattle.std.specs.Prelude.{◌≡◌, ◌<◌, true, false, Option, None}
use Rattle.std.specs.Option.{unwrap_or}
use Rattle.ded_model.specs.declared.command.Refusal.{Refusal}
use Rattle.ded_model.specs.declared.command.Refusal.TheVariants.{Memory, Wide}
use Rattle.ded_model.specs.Catalogue.{Catalogue}
use Rattle.ded_model.specs.Command.{CommandForm, insert}
use Rattle.ded_model.specs.LongRows.{has_long_row}
use Rattle.ded_model.specs.Plain.{IsPlainCommand}
use Rattle.ded_model.specs.Refusals.{refusal_number}
use Rattle.ded_resolve.specs.declared.checked.Checked.{Checked}
use Rattle.ded_sorts.specs.Causes.{has_cause, insert_refusal}
use Rattle.ded_sorts.specs.Checks.{HasNoCause}
use Rattle.ded_resolve.specs.Resolved.{IsResolved}
use Rattle.ded_resolve.specs.Storing.{IsStorable}
use Rattle.ded_session.specs.PlainNames.{NamesPlainly}
use Rattle.ded_session.specs.Replies.{ReplyForm, refused}
use Rattle.ded_session.specs.Steps.{Does, MayBeWide}

-- ---- of a command that the names accept

-- some command is this one by slots, and is accepted; it is plain, without long rows, and names words alone
pub record IsReady (c : Catalogue) (k : Checked) : Type 0 where
  pub written : CommandForm
  pub resolved : IsResolved c written k
  pub accepted : HasNoCause c written
  pub storable : IsStorable c k
  pub plain : IsPlainCommand written
  pub short : has_long_row written ≡ false
  pub named : NamesPlainly written

-- why it may still be refused: an insert into a relation that is full, or else spent
abbrev pub refusal_left : Catalogue → CommandForm → Option Refusal
refusal_left c (insert n fs) = insert_refusal c n
refusal_left c _ = None

-- it may be refused for that; as out of memory; or as too wide, where numbers may become too long
abbrev pub MayStillRefuse : Refusal → CommandForm → Catalogue → Type 0
MayStillRefuse Wide x c = MayBeWide x c
MayStillRefuse r x c = r ≡ unwrap_or (refusal_left c x) Memory

-- it is refused so, and then changes nothing; or it is done
abbrev pub Carries : CommandForm → Catalogue → ReplyForm → Catalogue → Type 0
Carries x c (refused r) d = MayStillRefuse r x c × (d ≡ c)
Carries x c reply d = (refusal_left c x ≡ None) × Does x c reply d

-- ---- of any command

-- the refusal has a cause in the command, and none of a lesser number has
pub record IsFirstCause (r : Refusal) (c : Catalogue) (x : CommandForm) : Type 0 where
  pub applies : has_cause r c x ≡ true
  pub least : (q : Refusal) → refusal_number q < refusal_number r → has_cause q c x ≡ false

-- none has
abbrev pub NoCause : Catalogue → CommandForm → Type 0
NoCause c x = (q : Refusal) → has_cause q c x ≡ false

-- it may be refused for the least of the causes; as out of memory; or as too wide, where no refusal has a cause and numbers
-- may become too long
abbrev pub MayRefuseFor : Refusal → CommandForm → Catalogue → Type 0
MayRefuseFor Wide x c = NoCause c x × MayBeWide x c
MayRefuseFor Memory x c = Unit {0}
MayRefuseFor r x c = IsFirstCause r c x

-- it is refused so, and then changes nothing; or it is done, and no refusal has a cause
abbrev pub Answers : CommandForm → Catalogue → ReplyForm → Catalogue → Type 0
Answers x c (refused r) d = MayRefuseFor r x c × (d ≡ c)
Answers x c reply d = NoCause c x × Does x c reply d
