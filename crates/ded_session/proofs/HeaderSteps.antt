-- The header is accepted, changes nothing, and is never refused.
use Rattle.std.proofs.Common.{◌≡◌, inl, inr, ℕ, Bool, true, false, List, length, refl, sym, subst, ◌≤◌, ◌<◌, ◌⊎◌, ⊎_elim, true≢false, arith}
use Rattle.std.specs.Prelude.{◌↔◌}
use Rattle.std.proofs.lemmas.Bool.Decides.{leb_tells}
use Rattle.ded_lex.specs.Pieces.{Statement, Whole}
use Rattle.ded_lex.specs.Pieces as pieces
use Rattle.ded_model.specs.declared.command.Language.{Language}
use Rattle.ded_model.specs.declared.command.Language.TheVariants.{Opening, One, Two}
use Rattle.ded_model.specs.declared.command.Refusal.{Refusal}
use Rattle.ded_model.specs.declared.command.Refusal.TheVariants.{LongStatement, Unfinished, Syntax, LongName, LongNumber, Deep, Many, Twice, Unknown, Taken, Kind, Arity, Unbound, WrongSort, Used, NoTuple, Full, Spent, Level, Wide, Memory}
use Rattle.ded_model.specs.Catalogue.{Catalogue}
use Rattle.ded_model.specs.Command.{CommandForm, header}
use Rattle.ded_syntax.specs.Spelling.{IsHeader}
use Rattle.ded_syntax.proofs.Headers.{header_read, header_decided}
use Rattle.ded_syntax.proofs.One.{one_command}
use Rattle.ded_database.specs.State.{State}
use Rattle.ded_session.specs.Carrying.{NoCause}
use Rattle.ded_session.specs.Causes.{NoneApplies}
use Rattle.ded_session.specs.Keeping.{Upholds, UpholdsPiece}
use Rattle.ded_session.specs.Replies.{done, refused}
use Rattle.ded_session.specs.Runs.{GoesOn, next_language}
use Rattle.ded_session.specs.Steps.{MayBeWide, IsHeaderIn, Step}
use Rattle.ded_session.proofs.StepLemmas.{none_applies}
use Rattle.ded_session.proofs.Upheld.{same_lists}

no_cause : (c : Catalogue) → NoCause c header
no_cause c LongStatement = refl
no_cause c Unfinished = refl
no_cause c Syntax = refl
no_cause c LongName = refl
no_cause c LongNumber = refl
no_cause c Deep = refl
no_cause c Many = refl
no_cause c Twice = refl
no_cause c Unknown = refl
no_cause c Taken = refl
no_cause c Kind = refl
no_cause c Arity = refl
no_cause c Unbound = refl
no_cause c WrongSort = refl
no_cause c Used = refl
no_cause c NoTuple = refl
no_cause c Full = refl
no_cause c Spent = refl
no_cause c Level = refl
no_cause c Wide = refl
no_cause c Memory = refl

module _ (bytes : List ℕ) (c : Catalogue) (short : length bytes ≤ 65536) (h : IsHeader bytes) where
  accepted : NoneApplies Opening (Whole bytes) c
  accepted = none_applies Opening bytes c short header (header_read bytes h) (no_cause c)

  does : Step Opening c (Whole bytes) done c
  does = record { none = accepted; command = header; depth = 0; spells = h; so = refl }

  refuses : (r : Refusal) (d : Catalogue) → Step Opening c (Whole bytes) (refused r) d → ⊥
  refuses Wide d p = subst (λ (x : CommandForm). MayBeWide x c) (one_command Opening bytes p.0.command header p.0.depth 0 p.0.spells h).0 p.0.so
  refuses Memory d p = p.0.1 (short, h)
  refuses r d p = accepted r p.0.applies

-- ---- whether it is the header

pub header_told : (l : Language) (bytes : List ℕ) (b : Bool) → l ≡ Opening → length bytes ≤ 65536 → ((b ≡ true) ↔ IsHeader bytes) → (b ≡ true) ↔ IsHeaderIn l (Whole bytes)
header_told l bytes b e short told = subst (λ (m : Language). (b ≡ true) ↔ IsHeaderIn m (Whole bytes)) (sym e) (λ t. (short, told.0 t), λ h. told.1 h.1)

pub never_header : (l : Language) (s : Statement) → (IsHeaderIn l s → ⊥) → (false ≡ true) ↔ IsHeaderIn l s
never_header l s other = (λ t. absurd (true≢false (sym t)), λ h. absurd (other h))

pub other_no_header : (l : Language) (s : Statement) → (l ≡ One) ⊎ (l ≡ Two) → IsHeaderIn l s → ⊥
other_no_header l s (inl e) h = subst (λ (m : Language). IsHeaderIn m s) e h
other_no_header l s (inr e) h = subst (λ (m : Language). IsHeaderIn m s) e h

-- ---- steps

pub header_step : (l : Language) (bytes : List ℕ) (c : Catalogue) → IsHeaderIn l (Whole bytes) → Step l c (Whole bytes) done c
header_step Opening bytes c h = does bytes c h.0 h.1
header_step One bytes c h = absurd h
header_step Two bytes c h = absurd h

pub header_stays : (l : Language) (c d : Catalogue) (s : Statement) (r : Refusal) → Step l c s (refused r) d → IsHeaderIn l s → ⊥
header_stays Opening c d (Whole bytes) r p h = refuses bytes c h.0 h.1 r d p
header_stays Opening c d (pieces.Unfinished rest) r p h = h
header_stays One c d s r p h = h
header_stays Two c d s r p h = h

pub header_upholds : (l : Language) (bytes : List ℕ) (s : State) → IsHeaderIn l (Whole bytes) → UpholdsPiece l bytes done s s
header_upholds Opening bytes s h = record {
  spelled = λ x depth k. subst (λ (y : CommandForm). Upholds y done s s) (one_command Opening bytes header x 0 depth h.1 k).0 (same_lists s s refl);
  other = λ no_command. absurd (no_command header 0 h.1);
}
header_upholds One bytes s h = absurd h
header_upholds Two bytes s h = absurd h

pub header_goes : (l : Language) (s : Statement) → IsHeaderIn l s → GoesOn l s Two
header_goes Opening s h = inl (h, refl)
header_goes One s h = absurd h
header_goes Two s h = absurd h

pub other_goes : (l : Language) (s : Statement) → (IsHeaderIn l s → ⊥) → GoesOn l s (next_language l)
other_goes Opening s none = inr (none, refl)
other_goes One s none = refl
other_goes Two s none = refl

-- ---- the next language

pub header_in_decided : (l : Language) (s : Statement) → IsHeaderIn l s ⊎ (IsHeaderIn l s → ⊥)
header_in_decided Opening (Whole bytes) = ⊎_elim
    (λ t. ⊎_elim (λ (h : IsHeader bytes). inl (t.1, h)) (λ (none : IsHeader bytes → ⊥). inr (λ h. none h.1)) (header_decided bytes))
    (λ f. inr (λ h. no_longer f.1 h.0))
    (leb_tells (length bytes) 65536)
  where
    no_longer : 65536 < length bytes → length bytes ≤ 65536 → ⊥
    no_longer long few = absurd (omega (arith, long, few))
header_in_decided Opening (pieces.Unfinished rest) = inr (λ h. h)
header_in_decided One s = inr (λ h. h)
header_in_decided Two s = inr (λ h. h)

pub some_next : (l : Language) (s : Statement) → (next : Language) × GoesOn l s next
some_next l s = ⊎_elim (λ h. (Two, header_goes l s h)) (λ none. (next_language l, other_goes l s none)) (header_in_decided l s)
