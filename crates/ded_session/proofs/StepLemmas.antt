-- From what is read of bytes, and what their command is answered, to what the rules say of the statement; what they accept was read.
use Rattle.std.proofs.Common.{◌≡◌, ◌≢◌, ◌<◌, ◌≤◌, ℕ, Bool, true, false, arith, refl, sym, ap, ◌∙◌, true≢false, ◌⊎◌, inl, inr, ⊎_elim, List, length}
use Rattle.ded_lex.specs.Pieces.{Whole}
use Rattle.ded_model.specs.declared.command.Language.{Language}
use Rattle.ded_model.specs.declared.command.Refusal.{Refusal}
use Rattle.ded_model.specs.declared.command.Refusal.TheVariants.{LongStatement, Unfinished, Syntax, LongName, LongNumber, Deep, Many, Twice, Unknown, Taken, Kind, Arity, Unbound, WrongSort, Used, NoTuple, Full, Spent, Level, Wide, Memory}
use Rattle.ded_model.specs.Catalogue.{Catalogue}
use Rattle.ded_model.specs.Command.{CommandForm}
use Rattle.ded_model.specs.LongRows.{has_long_row}
use Rattle.ded_model.specs.Plain.{IsPlainCommand}
use Rattle.ded_model.specs.Refusals.{refusal_number}
use Rattle.ded_sorts.specs.Causes.{has_cause}
use Rattle.ded_syntax.specs.Spelling.{Spells, AppliesIn, IsRead, IsLeastIn}
use Rattle.ded_syntax.proofs.One.{one_command}
use Rattle.ded_syntax.proofs.PlainSums.{spelled_plain}
use Rattle.ded_session.specs.Carrying.{Answers, IsFirstCause, MayRefuseFor, NoCause}
use Rattle.ded_session.specs.Causes.{Commands, Applies, NoneApplies}
use Rattle.ded_session.specs.PlainNames.{NamesPlainly}
use Rattle.ded_session.specs.Replies.{ReplyForm, done, number, truth, tuples, stored, boxes, steps, script, apart, meeting, refused}
use Rattle.ded_session.specs.Steps.{IsHeaderIn, Step, MayRefuse, Accepted}
use Rattle.ded_session.proofs.PlainSpelling.{spelled_names}

-- ---- a command that is read

module _ (l : Language) (bytes : List ℕ) (x : CommandForm) (h : IsRead l bytes x) where
  -- it has no long row, since it would be refused for it
  pub read_short : has_long_row x ≡ false
  read_short = by (has_long_row x) refl
    where
      by : (b : Bool) → has_long_row x ≡ b → b ≡ false
      by false e = refl
      by true e = absurd (h.accepted LongNumber (inr (inr (record { command = x; depth = h.depth; spells = h.spells; long = e }))))

  pub read_plain : IsPlainCommand x
  read_plain = spelled_plain l bytes x h.depth h.spells

  pub read_named : NamesPlainly x
  read_named = spelled_names l bytes x h.depth h.spells

-- ---- a statement

module _ (l : Language) (bytes : List ℕ) (c : Catalogue) (short : length bytes ≤ 65536) where
  -- a cause in the command that the bytes spell applies to the statement
  cause_applies : (r : Refusal) (x : CommandForm) (depth : ℕ) → Spells l bytes x depth → has_cause r c x ≡ true → Applies r l (Whole bytes) c
  cause_applies Many x depth s e = record { command = x; depth = depth; spells = s; cause = e }
  cause_applies Twice x depth s e = record { command = x; depth = depth; spells = s; cause = e }
  cause_applies Unknown x depth s e = record { command = x; depth = depth; spells = s; cause = e }
  cause_applies Taken x depth s e = record { command = x; depth = depth; spells = s; cause = e }
  cause_applies Kind x depth s e = record { command = x; depth = depth; spells = s; cause = e }
  cause_applies Arity x depth s e = record { command = x; depth = depth; spells = s; cause = e }
  cause_applies Unbound x depth s e = record { command = x; depth = depth; spells = s; cause = e }
  cause_applies WrongSort x depth s e = record { command = x; depth = depth; spells = s; cause = e }
  cause_applies Used x depth s e = record { command = x; depth = depth; spells = s; cause = e }
  cause_applies NoTuple x depth s e = record { command = x; depth = depth; spells = s; cause = e }
  cause_applies Full x depth s e = record { command = x; depth = depth; spells = s; cause = e }
  cause_applies Spent x depth s e = record { command = x; depth = depth; spells = s; cause = e }
  cause_applies Level x depth s e = record { command = x; depth = depth; spells = s; cause = e }
  cause_applies _ x depth s e = absurd (true≢false (sym e))

  -- the causes of a statement whose bytes spell a command: those of the bytes, and those of this command
  module _ (x : CommandForm) (depth : ℕ) (spells : Spells l bytes x depth) where
    of_command : (q : Refusal) → Commands l bytes q c → has_cause q c x ≡ true
    of_command q h = ap (has_cause q c) (one_command l bytes x h.command depth h.depth spells h.spells).0 ∙ h.cause

    causes : (q : Refusal) → Applies q l (Whole bytes) c → (AppliesIn q l bytes) ⊎ (has_cause q c x ≡ true)
    causes LongStatement h = absurd (omega arith)
    causes Unfinished h = absurd h
    causes Syntax h = inl h
    causes LongName h = inl h
    causes LongNumber h = inl h
    causes Deep h = inl h
    causes Many h = inr (of_command Many h)
    causes Twice h = inr (of_command Twice h)
    causes Unknown h = inr (of_command Unknown h)
    causes Taken h = inr (of_command Taken h)
    causes Kind h = inr (of_command Kind h)
    causes Arity h = inr (of_command Arity h)
    causes Unbound h = inr (of_command Unbound h)
    causes WrongSort h = inr (of_command WrongSort h)
    causes Used h = inr (of_command Used h)
    causes NoTuple h = inr (of_command NoTuple h)
    causes Full h = inr (of_command Full h)
    causes Spent h = inr (of_command Spent h)
    causes Level h = inr (of_command Level h)
    causes Wide h = inr (of_command Wide h)
    causes Memory h = inr (of_command Memory h)

    -- a refusal that applies neither to the bytes nor to the command doesn't apply
    neither : (q : Refusal) → (AppliesIn q l bytes → ⊥) → has_cause q c x ≡ false → Applies q l (Whole bytes) c → ⊥
    neither q bare caused h = ⊎_elim bare (λ e. true≢false (sym e ∙ caused)) (causes q h)

  -- ---- refused by the bytes

  -- these refusals have the numbers 3 to 6
  low_number : (r : Refusal) → AppliesIn r l bytes → refusal_number r ≤ 6
  low_number Syntax h = omega arith
  low_number LongName h = omega arith
  low_number LongNumber h = omega arith
  low_number Deep h = omega arith
  low_number _ h = absurd h

  lesser : (r q : Refusal) → IsLeastIn r l bytes → refusal_number q < refusal_number r → Applies q l (Whole bytes) c → ⊥
  lesser r q h less a = go q (h.least q) (omega (arith, low_number r h.applies)) less a
    where
      go : (q : Refusal) → (refusal_number q < refusal_number r → AppliesIn q l bytes → ⊥) → refusal_number q < 6 → refusal_number q < refusal_number r → Applies q l (Whole bytes) c → ⊥
      go LongStatement below low less a = absurd (omega arith)
      go Unfinished below low less a = a
      go Syntax below low less a = below less a
      go LongName below low less a = below less a
      go LongNumber below low less a = below less a
      go Deep below low less a = below less a
      go _ below low less a = absurd (omega arith)

  pub may_refuse : (r : Refusal) → (IsHeaderIn l (Whole bytes) → ⊥) → (r ≢ Memory → IsLeastIn r l bytes) → MayRefuse r l (Whole bytes) c
  may_refuse Memory other h = (short, other)
  may_refuse Syntax other h = let k = h (λ e. cc) in record { applies = k.applies; least = λ q. lesser Syntax q k }
  may_refuse LongName other h = let k = h (λ e. cc) in record { applies = k.applies; least = λ q. lesser LongName q k }
  may_refuse LongNumber other h = let k = h (λ e. cc) in record { applies = k.applies; least = λ q. lesser LongNumber q k }
  may_refuse Deep other h = let k = h (λ e. cc) in record { applies = k.applies; least = λ q. lesser Deep q k }
  may_refuse _ other h = let k = h (λ e. cc) in absurd k.applies

  -- ---- answered as its command

  module _ (x : CommandForm) (h : IsRead l bytes x) where
    first_applies : (r : Refusal) → IsFirstCause r c x → MayRefuse r l (Whole bytes) c
    first_applies r k = go r (cause_applies r x h.depth h.spells k.applies) (λ q less. neither x h.depth h.spells q (h.accepted q) (k.least q less)) k.applies
      where
        go : (r : Refusal) → Applies r l (Whole bytes) c → ((q : Refusal) → refusal_number q < refusal_number r → Applies q l (Whole bytes) c → ⊥) → has_cause r c x ≡ true → MayRefuse r l (Whole bytes) c
        go Wide a least e = absurd (true≢false (sym e))
        go Memory a least e = absurd (true≢false (sym e))
        go _ a least e = record { applies = a; least = least }

    pub none_applies : NoCause c x → NoneApplies l (Whole bytes) c
    none_applies none q = neither x h.depth h.spells q (h.accepted q) (none q)

    refusal_step : (r : Refusal) → (IsHeaderIn l (Whole bytes) → ⊥) → MayRefuseFor r x c → MayRefuse r l (Whole bytes) c
    refusal_step Memory other k = (short, other)
    refusal_step Wide other k = record { none = none_applies k.0; command = x; depth = h.depth; spells = h.spells; so = k.1 }
    refusal_step _ other k = first_applies _ k

    pub step_read : (IsHeaderIn l (Whole bytes) → ⊥) → (reply : ReplyForm) (d : Catalogue) → Answers x c reply d → Step l c (Whole bytes) reply d
    step_read other (refused r) d k = (refusal_step r other k.0, k.1)
    step_read other done d k = record { none = none_applies k.0; command = x; depth = h.depth; spells = h.spells; so = k.1 }
    step_read other (number n) d k = record { none = none_applies k.0; command = x; depth = h.depth; spells = h.spells; so = k.1 }
    step_read other (truth b) d k = record { none = none_applies k.0; command = x; depth = h.depth; spells = h.spells; so = k.1 }
    step_read other (tuples columns ts) d k = record { none = none_applies k.0; command = x; depth = h.depth; spells = h.spells; so = k.1 }
    step_read other (stored columns ts) d k = record { none = none_applies k.0; command = x; depth = h.depth; spells = h.spells; so = k.1 }
    step_read other (boxes columns b) d k = record { none = none_applies k.0; command = x; depth = h.depth; spells = h.spells; so = k.1 }
    step_read other (steps plan) d k = record { none = none_applies k.0; command = x; depth = h.depth; spells = h.spells; so = k.1 }
    step_read other (script lines) d k = record { none = none_applies k.0; command = x; depth = h.depth; spells = h.spells; so = k.1 }
    step_read other (apart es) d k = record { none = none_applies k.0; command = x; depth = h.depth; spells = h.spells; so = k.1 }
    step_read other (meeting i j) d k = record { none = none_applies k.0; command = x; depth = h.depth; spells = h.spells; so = k.1 }

-- ---- what is accepted was read

in_applies : (l : Language) (bytes : List ℕ) (c : Catalogue) (q : Refusal) → AppliesIn q l bytes → Applies q l (Whole bytes) c
in_applies l bytes c Syntax h = h
in_applies l bytes c LongName h = h
in_applies l bytes c LongNumber h = h
in_applies l bytes c Deep h = h
in_applies l bytes c _ h = absurd h

pub accepted_read : (l : Language) (bytes : List ℕ) (c : Catalogue) (Fact : CommandForm → Type 0) → (a : Accepted l bytes c Fact) → IsRead l bytes a.command
accepted_read l bytes c Fact a = record { depth = a.depth; spells = a.spells; accepted = λ q h. a.none q (in_applies l bytes c q h) }
