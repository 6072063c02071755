-- A command has a first cause of a refusal over a catalogue, or none.
use Rattle.std.proofs.Common.{◌≡◌, ◌≢◌, ◌<◌, ◌+◌, ◌⊎◌, inl, inr, ⊎_elim, ℕ, Bool, true, false, ◌==◌, refl, sym, ap, ◌∙◌, true≢false, arith}
use Rattle.std.specs.Prelude.{if◌then◌else◌}
use Rattle.std.proofs.lemmas.Bool.Decides.{leb_tells}
use Rattle.ded_model.specs.declared.command.Refusal.{Refusal}
use Rattle.ded_model.specs.declared.command.Refusal.TheVariants.{LongStatement, Unfinished, Syntax, LongName, LongNumber, Deep, Many, Twice, Unknown, Taken, Kind, Arity, Unbound, WrongSort, Used, NoTuple, Full, Spent, Level, Wide, Memory}
use Rattle.ded_model.specs.Catalogue.{Catalogue}
use Rattle.ded_model.specs.Command.{CommandForm}
use Rattle.ded_model.specs.Refusals.{refusal_number}
use Rattle.ded_sorts.specs.Causes.{has_cause}
use Rattle.ded_session.specs.Carrying.{IsFirstCause, MayRefuseFor, NoCause}

-- ---- refusals by their numbers

refusal_of : ℕ → Refusal
refusal_of n =
    if n == 1 then LongStatement else if n == 2 then Unfinished else if n == 3 then Syntax else if n == 4 then LongName else if n == 5 then LongNumber
    else if n == 6 then Deep else if n == 7 then Many else if n == 8 then Twice else if n == 9 then Unknown else if n == 10 then Taken
    else if n == 11 then Kind else if n == 12 then Arity else if n == 13 then Unbound else if n == 14 then WrongSort else if n == 15 then Used
    else if n == 16 then NoTuple else if n == 17 then Full else if n == 18 then Spent else if n == 19 then Level else if n == 20 then Wide else Memory

numbered : (r : Refusal) → refusal_of (refusal_number r) ≡ r
unfolding refusal_of
numbered LongStatement = refl
numbered Unfinished = refl
numbered Syntax = refl
numbered LongName = refl
numbered LongNumber = refl
numbered Deep = refl
numbered Many = refl
numbered Twice = refl
numbered Unknown = refl
numbered Taken = refl
numbered Kind = refl
numbered Arity = refl
numbered Unbound = refl
numbered WrongSort = refl
numbered Used = refl
numbered NoTuple = refl
numbered Full = refl
numbered Spent = refl
numbered Level = refl
numbered Wide = refl
numbered Memory = refl

same_refusal : (q r : Refusal) → refusal_number q ≡ refusal_number r → q ≡ r
same_refusal q r e = sym (numbered q) ∙ ap refusal_of e ∙ numbered r

-- ---- causes

module _ (c : Catalogue) (x : CommandForm) where
  -- none of a number below n has a cause
  abbrev NoneBelow : ℕ → Type 0
  NoneBelow n = (q : Refusal) → refusal_number q < n → has_cause q c x ≡ false

  abbrev HasFirst : Type 0
  HasFirst = (r : Refusal) × IsFirstCause r c x

  step : (r : Refusal) → NoneBelow (refusal_number r) → HasFirst ⊎ NoneBelow (refusal_number r + 1)
  step r below = by (has_cause r c x) refl
    where
      by : (b : Bool) → has_cause r c x ≡ b → HasFirst ⊎ NoneBelow (refusal_number r + 1)
      by true e = inl (r, record { applies = e; least = below })
      by false e = inr (λ q less. ⊎_elim (λ t. let same = t.1 in ap (λ (p : Refusal). has_cause p c x) (same_refusal q r (omega (arith, less, same))) ∙ e) (λ f. below q f.1) (leb_tells (refusal_number r) (refusal_number q)))

  past : (r : Refusal) → (NoneBelow (refusal_number r + 1) → HasFirst ⊎ NoCause c x) → NoneBelow (refusal_number r) → HasFirst ⊎ NoCause c x
  past r next below = ⊎_elim (λ (f : HasFirst). inl f) next (step r below)

  bytes_alone : NoneBelow 7
  bytes_alone LongStatement less = refl
  bytes_alone Unfinished less = refl
  bytes_alone Syntax less = refl
  bytes_alone LongName less = refl
  bytes_alone LongNumber less = refl
  bytes_alone Deep less = refl
  bytes_alone Many less = absurd (omega (arith, less))
  bytes_alone Twice less = absurd (omega (arith, less))
  bytes_alone Unknown less = absurd (omega (arith, less))
  bytes_alone Taken less = absurd (omega (arith, less))
  bytes_alone Kind less = absurd (omega (arith, less))
  bytes_alone Arity less = absurd (omega (arith, less))
  bytes_alone Unbound less = absurd (omega (arith, less))
  bytes_alone WrongSort less = absurd (omega (arith, less))
  bytes_alone Used less = absurd (omega (arith, less))
  bytes_alone NoTuple less = absurd (omega (arith, less))
  bytes_alone Full less = absurd (omega (arith, less))
  bytes_alone Spent less = absurd (omega (arith, less))
  bytes_alone Level less = absurd (omega (arith, less))
  bytes_alone Wide less = absurd (omega (arith, less))
  bytes_alone Memory less = absurd (omega (arith, less))

  -- what stands behind 19 has no cause
  none_above : NoneBelow 20 → NoCause c x
  none_above none Wide = refl
  none_above none Memory = refl
  none_above none LongStatement = refl
  none_above none Unfinished = refl
  none_above none Syntax = refl
  none_above none LongName = refl
  none_above none LongNumber = refl
  none_above none Deep = refl
  none_above none Many = none Many (omega arith)
  none_above none Twice = none Twice (omega arith)
  none_above none Unknown = none Unknown (omega arith)
  none_above none Taken = none Taken (omega arith)
  none_above none Kind = none Kind (omega arith)
  none_above none Arity = none Arity (omega arith)
  none_above none Unbound = none Unbound (omega arith)
  none_above none WrongSort = none WrongSort (omega arith)
  none_above none Used = none Used (omega arith)
  none_above none NoTuple = none NoTuple (omega arith)
  none_above none Full = none Full (omega arith)
  none_above none Spent = none Spent (omega arith)
  none_above none Level = none Level (omega arith)

  causes_decided : HasFirst ⊎ NoCause c x
  causes_decided =
      past Many
      (past Twice
      (past Unknown
      (past Taken
      (past Kind
      (past Arity
      (past Unbound
      (past WrongSort
      (past Used
      (past NoTuple
      (past Full
      (past Spent
      (past Level (λ none. inr (none_above none)))))))))))))) bytes_alone

  may_refuse : (r : Refusal) → IsFirstCause r c x → (r ≢ Memory) × MayRefuseFor r x c
  may_refuse LongStatement k = ((λ e. cc), k)
  may_refuse Unfinished k = ((λ e. cc), k)
  may_refuse Syntax k = ((λ e. cc), k)
  may_refuse LongName k = ((λ e. cc), k)
  may_refuse LongNumber k = ((λ e. cc), k)
  may_refuse Deep k = ((λ e. cc), k)
  may_refuse Many k = ((λ e. cc), k)
  may_refuse Twice k = ((λ e. cc), k)
  may_refuse Unknown k = ((λ e. cc), k)
  may_refuse Taken k = ((λ e. cc), k)
  may_refuse Kind k = ((λ e. cc), k)
  may_refuse Arity k = ((λ e. cc), k)
  may_refuse Unbound k = ((λ e. cc), k)
  may_refuse WrongSort k = ((λ e. cc), k)
  may_refuse Used k = ((λ e. cc), k)
  may_refuse NoTuple k = ((λ e. cc), k)
  may_refuse Full k = ((λ e. cc), k)
  may_refuse Spent k = ((λ e. cc), k)
  may_refuse Level k = ((λ e. cc), k)
  may_refuse Wide k = absurd (true≢false (sym k.applies))
  may_refuse Memory k = absurd (true≢false (sym k.applies))

  -- a refusal that the rules give the command and that isn't want of memory, or none has a cause
  pub refusal_decided : ((r : Refusal) × (r ≢ Memory) × MayRefuseFor r x c) ⊎ NoCause c x
  refusal_decided = ⊎_elim (λ (f : HasFirst). let k = may_refuse f.0 f.1 in inl (f.0, k.0, k.1)) (λ n. inr n) causes_decided
