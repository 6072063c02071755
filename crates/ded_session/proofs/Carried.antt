-- Which refusal has the least number.
--
-- The names decide all causes of 7 to 19 but two: that a relation is full, or has spent its numbers. These are of inserts
-- alone. A greater number is only that of a view of too high a level, which is of views alone. So where the names refuse a
-- command, theirs is the least; and where they accept it, an insert is refused for the lesser of these two.
use Rattle.std.proofs.Common.{◌≡◌, ◌≢◌, ◌<◌, ℕ, Bool, true, false, arith, refl, sym, ap, ◌∙◌, true≢false, ◌⊎◌, inl, inr, ⊎_elim, List}
use Rattle.std.specs.Prelude.{None, Some, if◌then◌else◌}
use Rattle.std.specs.Option.{unwrap_or}
use Rattle.ded_model.specs.declared.command.Refusal.{Refusal}
use Rattle.ded_model.specs.declared.command.Refusal.TheVariants.{LongStatement, Unfinished, Syntax, LongName, LongNumber, Deep, Many, Twice, Unknown, Taken, Kind, Arity, Unbound, WrongSort, Used, NoTuple, Full, Spent, Level, Wide, Memory}
use Rattle.ded_model.specs.Catalogue.{Catalogue}
use Rattle.ded_model.specs.Command.{CommandForm, header, relation, insert, delete, drop, view, keep, ask, query, show, box_of, explain, dump, disjoint, verify}
use Rattle.ded_model.specs.Form.{FormAtom}
use Rattle.ded_model.specs.Logic.{Logics}
use Rattle.ded_model.specs.Refusals.{refusal_number}
use Rattle.ded_sorts.specs.Causes.{has_cause, is_full, is_spent, is_too_high}
use Rattle.ded_sorts.specs.Checks.{HasNoCause, IsLeastCause, is_checked}
use Rattle.ded_session.specs.Carrying.{refusal_left, MayStillRefuse, Carries, IsFirstCause, NoCause, MayRefuseFor, Answers}
use Rattle.ded_session.specs.Replies.{ReplyForm, done, number, truth, tuples, stored, boxes, steps, script, apart, meeting, refused}
use Rattle.ded_session.specs.Steps.{Does, MayBeWide}

-- a refusal is decided by the names, or it is one of the two, or it has never a cause in a command
kinds : (q : Refusal) → (is_checked q ≡ true) ⊎ ((q ≡ Full) ⊎ ((q ≡ Spent) ⊎ ((c : Catalogue) (x : CommandForm) → has_cause q c x ≡ false)))
kinds Many = inl refl
kinds Twice = inl refl
kinds Unknown = inl refl
kinds Taken = inl refl
kinds Kind = inl refl
kinds Arity = inl refl
kinds Unbound = inl refl
kinds WrongSort = inl refl
kinds Used = inl refl
kinds NoTuple = inl refl
kinds Level = inl refl
kinds Full = inr (inl refl)
kinds Spent = inr (inr (inl refl))
kinds LongStatement = inr (inr (inr (λ c x. refl)))
kinds Unfinished = inr (inr (inr (λ c x. refl)))
kinds Syntax = inr (inr (inr (λ c x. refl)))
kinds LongName = inr (inr (inr (λ c x. refl)))
kinds LongNumber = inr (inr (inr (λ c x. refl)))
kinds Deep = inr (inr (inr (λ c x. refl)))
kinds Wide = inr (inr (inr (λ c x. refl)))
kinds Memory = inr (inr (inr (λ c x. refl)))

-- so that it has no cause is to be shown of the former three alone
by_kind : (c : Catalogue) (x : CommandForm) (q : Refusal) → (is_checked q ≡ true → has_cause q c x ≡ false) → (q ≡ Full → has_cause Full c x ≡ false) → (q ≡ Spent → has_cause Spent c x ≡ false) → has_cause q c x ≡ false
by_kind c x q checked full spent =
    ⊎_elim checked
    (⊎_elim (λ e. ap (λ (r : Refusal). has_cause r c x) e ∙ full e)
    (⊎_elim (λ e. ap (λ (r : Refusal). has_cause r c x) e ∙ spent e) (λ none. none c x)))
    (kinds q)

numbered : (q r : Refusal) → q ≡ r → refusal_number q ≡ refusal_number r
numbered q r e = ap refusal_number e

-- ---- refused by the names

-- of these the level of a view alone has a number above that of a full relation
level_alone : (r : Refusal) → is_checked r ≡ true → 16 < refusal_number r → r ≡ Level
level_alone Level checked above = refl
level_alone Many checked above = absurd (omega arith)
level_alone Twice checked above = absurd (omega arith)
level_alone Unknown checked above = absurd (omega arith)
level_alone Taken checked above = absurd (omega arith)
level_alone Kind checked above = absurd (omega arith)
level_alone Arity checked above = absurd (omega arith)
level_alone Unbound checked above = absurd (omega arith)
level_alone WrongSort checked above = absurd (omega arith)
level_alone Used checked above = absurd (omega arith)
level_alone NoTuple checked above = absurd (omega arith)
level_alone _ checked above = absurd (true≢false (sym checked))

-- and is no insert
no_insert : (c : Catalogue) (x : CommandForm) → is_too_high c x ≡ true → (has_cause Full c x ≡ false) × (has_cause Spent c x ≡ false)
no_insert c (view n h f) e = (refl, refl)
no_insert c _ e = absurd (true≢false (sym e))

pub first_of : (r : Refusal) (c : Catalogue) (x : CommandForm) → IsLeastCause r c x → IsFirstCause r c x
first_of r c x h = record { applies = h.applies; least = λ q less. by_kind c x q (λ checked. h.least q checked less) (λ e. (high q less (full q e)).0) (λ e. (high q less (spent q e)).1) }
  where
    full : (q : Refusal) → q ≡ Full → 16 < refusal_number q
    full q e = omega (arith, numbered q Full e)

    spent : (q : Refusal) → q ≡ Spent → 16 < refusal_number q
    spent q e = omega (arith, numbered q Spent e)

    high : (q : Refusal) → refusal_number q < refusal_number r → 16 < refusal_number q → (has_cause Full c x ≡ false) × (has_cause Spent c x ≡ false)
    high q less above = no_insert c x (sym (ap (λ (p : Refusal). has_cause p c x) (level_alone r h.checked (omega arith))) ∙ h.applies)

pub named : (r : Refusal) (c : Catalogue) (x : CommandForm) → (r ≢ Memory → IsLeastCause r c x) → MayRefuseFor r x c
named Memory c x h = tt
named Wide c x h = absurd (true≢false (sym (h (λ e. cc)).checked))
named _ c x h = first_of _ c x (h (λ e. cc))

-- ---- accepted by the names

-- an insert has room and numbers, or is refused for the lesser of both
room : (c : Catalogue) (n : List ℕ) (fs : Logics FormAtom) → refusal_left c (insert n fs) ≡ None → (is_full c n ≡ false) × (is_spent c n ≡ false)
room c n fs = by (is_full c n) (is_spent c n)
  where
    by : (b d : Bool) → (if b then Some Full else if d then Some Spent else None) ≡ None → (b ≡ false) × (d ≡ false)
    by true d e = absurd cc
    by false true e = absurd cc
    by false false e = (refl, refl)

room_left : (c : Catalogue) (x : CommandForm) → refusal_left c x ≡ None → (has_cause Full c x ≡ false) × (has_cause Spent c x ≡ false)
room_left c (insert n fs) e = room c n fs e
room_left c _ e = (refl, refl)

none_left : (c : Catalogue) (x : CommandForm) → HasNoCause c x → refusal_left c x ≡ None → NoCause c x
none_left c x h e q = let left = room_left c x e in by_kind c x q (h q) (λ _. left.0) (λ _. left.1)

refused_insert : (c : Catalogue) (n : List ℕ) (fs : Logics FormAtom) (r : Refusal) → HasNoCause c (insert n fs) → r ≡ unwrap_or (refusal_left c (insert n fs)) Memory → r ≢ Memory → IsFirstCause r c (insert n fs)
refused_insert c n fs r h e other = by (is_full c n) (is_spent c n) refl refl
  where
    by : (b d : Bool) → is_full c n ≡ b → is_spent c n ≡ d → IsFirstCause r c (insert n fs)
    by true d full spent =
        let is : r ≡ Full = e ∙ ap (λ (b : Bool). unwrap_or (if b then Some Full else if is_spent c n then Some Spent else None) Memory) full in
        record {
          applies = ap (λ (q : Refusal). has_cause q c (insert n fs)) is ∙ full;
          least = λ q less. by_kind c (insert n fs) q (h q) (λ s. absurd (omega (arith, numbered q Full s, numbered r Full is))) (λ s. absurd (omega (arith, numbered q Spent s, numbered r Full is)));
        }
    by false true full spent =
        let is : r ≡ Spent = e ∙ ap (λ (b : Bool). unwrap_or (if b then Some Full else if is_spent c n then Some Spent else None) Memory) full
        ∙ ap (λ (b : Bool). unwrap_or (if b then Some Spent else None) Memory) spent in
        record {
          applies = ap (λ (q : Refusal). has_cause q c (insert n fs)) is ∙ spent;
          least = λ q less. by_kind c (insert n fs) q (h q) (λ s. full) (λ s. absurd (omega (arith, numbered q Spent s, numbered r Spent is)));
        }
    by false false full spent =
        absurd
        (other
        (e ∙ ap (λ (b : Bool). unwrap_or (if b then Some Full else if is_spent c n then Some Spent else None) Memory) full
        ∙ ap (λ (b : Bool). unwrap_or (if b then Some Spent else None) Memory) spent))

refused_left : (c : Catalogue) (x : CommandForm) (r : Refusal) → HasNoCause c x → r ≡ unwrap_or (refusal_left c x) Memory → r ≢ Memory → IsFirstCause r c x
refused_left c (insert n fs) r h e other = refused_insert c n fs r h e other
refused_left c _ r h e other = absurd (other e)

-- what may be too wide is no insert
none_wide : (c : Catalogue) (x : CommandForm) → MayBeWide x c → refusal_left c x ≡ None
none_wide c (insert n fs) w = absurd w
none_wide c _ w = refl

still : (c : Catalogue) (x : CommandForm) (r : Refusal) → HasNoCause c x → MayStillRefuse r x c → MayRefuseFor r x c
still c x Wide h k = (none_left c x h (none_wide c x k), k)
still c x Memory h k = tt
still c x _ h k = refused_left c x _ h k (λ e. cc)

pub carried : (c d : Catalogue) (x : CommandForm) (reply : ReplyForm) → HasNoCause c x → Carries x c reply d → Answers x c reply d
carried c d x (refused r) h k = (still c x r h k.0, k.1)
carried c d x done h k = (none_left c x h k.0, k.1)
carried c d x (number n) h k = (none_left c x h k.0, k.1)
carried c d x (truth b) h k = (none_left c x h k.0, k.1)
carried c d x (tuples columns ts) h k = (none_left c x h k.0, k.1)
carried c d x (stored columns ts) h k = (none_left c x h k.0, k.1)
carried c d x (boxes columns b) h k = (none_left c x h k.0, k.1)
carried c d x (steps plan) h k = (none_left c x h k.0, k.1)
carried c d x (script lines) h k = (none_left c x h k.0, k.1)
carried c d x (apart es) h k = (none_left c x h k.0, k.1)
carried c d x (meeting i j) h k = (none_left c x h k.0, k.1)

-- ---- the replies of calls

-- an insert is refused for what the catalogue says
pub insert_refused : (r : Refusal) (c : Catalogue) (n : List ℕ) (fs : Logics FormAtom) → r ≡ unwrap_or (refusal_left c (insert n fs)) Memory → MayStillRefuse r (insert n fs) c
insert_refused Wide c n fs e = by (is_full c n) (is_spent c n) e
  where
    by : (b d : Bool) → Wide ≡ unwrap_or (if b then Some Full else if d then Some Spent else None) Memory → ⊥
    by true d e = cc
    by false true e = cc
    by false false e = cc
insert_refused _ c n fs e = e

no_refusal : (x : CommandForm) (c d : Catalogue) (r : Refusal) → Does x c (refused r) d → ⊥
no_refusal header c d r k = k
no_refusal (relation n h) c d r k = k
no_refusal (insert n fs) c d r k = k
no_refusal (delete n i) c d r k = k
no_refusal (drop n) c d r k = k
no_refusal (view n h f) c d r k = k
no_refusal (keep n) c d r k = k
no_refusal (ask f) c d r k = k
no_refusal (query h f) c d r k = k
no_refusal (show n) c d r k = k
no_refusal (box_of n) c d r k = k
no_refusal (explain h f) c d r k = k
no_refusal dump c d r k = k
no_refusal (disjoint n m) c d r k = k
no_refusal (verify n m es) c d r k = k

-- a command to which no refusal is left is carried out by what it does
pub carries : (x : CommandForm) (c d : Catalogue) (reply : ReplyForm) → refusal_left c x ≡ None → Does x c reply d → Carries x c reply d
carries x c d (refused r) left k = absurd (no_refusal x c d r k)
carries x c d done left k = (left, k)
carries x c d (number n) left k = (left, k)
carries x c d (truth b) left k = (left, k)
carries x c d (tuples columns ts) left k = (left, k)
carries x c d (stored columns ts) left k = (left, k)
carries x c d (boxes columns b) left k = (left, k)
carries x c d (steps plan) left k = (left, k)
carries x c d (script lines) left k = (left, k)
carries x c d (apart es) left k = (left, k)
carries x c d (meeting i j) left k = (left, k)
