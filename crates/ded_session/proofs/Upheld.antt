-- What a statement makes of marks and lists, by what it is answered.
use Rattle.std.proofs.Common.{◌≡◌, ℕ, List, refl, sym, ap, subst}
use Rattle.std.specs.Prelude.{Result, Ok, Err, OnOk, OnErr}
use Rattle.ded_model.specs.declared.command.Language.{Language}
use Rattle.ded_model.specs.declared.command.Refusal.{Refusal}
use Rattle.ded_model.specs.declared.command.Refusal.TheVariants.{Memory}
use Rattle.ded_model.specs.Command.{CommandForm, insert, delete}
use Rattle.ded_model.specs.Form.{FormAtom}
use Rattle.ded_model.specs.Logic.{Logics}
use Rattle.ded_syntax.specs.Spelling.{IsRead}
use Rattle.ded_syntax.proofs.One.{one_command}
use Rattle.ded_database.specs.State.{State, catalogue_at, is_kept}
use Rattle.ded_database.specs.Steps.{KeepsMarks, KeepsLists}
use Rattle.ded_database.specs.Held.{held_under}
use Rattle.ded_database.specs.Upkeep.{KeepsUp, LeavesOthers}
use Rattle.ded_session.specs.Keeping.{LosesLists, Upholds, UpholdsPiece}
use Rattle.ded_session.specs.Replies.{ReplyForm, done, refused}

-- nothing is changed
pub same_lists : (s t : State) → t ≡ s → KeepsLists s t
same_lists s t e = record { marks = λ n. ap (λ (u : State). is_kept u n) e; held = ap (λ (u : State). u.held) e }

-- then no list is lost
loses_none : (s t : State) (n : List ℕ) → KeepsLists s t → LosesLists s t n
loses_none s t n k = (k.marks, λ v h. ap (λ rs. held_under rs v) k.held)

-- a refusal that changes nothing upholds all
pub upholds_refused : (x : CommandForm) (r : Refusal) (s t : State) → KeepsLists s t → Upholds x (refused r) s t
upholds_refused (insert n fs) Memory s t k = loses_none s t n k
upholds_refused (delete n i) Memory s t k = loses_none s t n k
upholds_refused _ _ s t k = k

-- a change that may want memory
pub upheld : {E : Type 0} (x : CommandForm) (s t : State) (r : Result (Unit {0}) E) (reply : ReplyForm)
    → OnOk r (reply ≡ done) → OnErr r (reply ≡ refused Memory) → OnOk r (Upholds x done s t) → OnErr r (Upholds x (refused Memory) s t) → Upholds x reply s t
upheld x s t (Ok u) reply is wants ok err = subst (λ (y : ReplyForm). Upholds x y s t) (sym is) ok
upheld x s t (Err e) reply is wants ok err = subst (λ (y : ReplyForm). Upholds x y s t) (sym wants) err

-- one that leaves marks and lists, or does what it says of them
pub upheld_alike : {E : Type 0} (x : CommandForm) (s t : State) (r : Result (Unit {0}) E) (reply : ReplyForm)
    → OnOk r (reply ≡ done) → OnErr r (reply ≡ refused Memory) → Upholds x done s t → Upholds x (refused Memory) s t → Upholds x reply s t
upheld_alike x s t (Ok u) reply is wants ok err = subst (λ (y : ReplyForm). Upholds x y s t) (sym is) ok
upheld_alike x s t (Err e) reply is wants ok err = subst (λ (y : ReplyForm). Upholds x y s t) (sym wants) err

-- a delete
pub upheld_delete : {E : Type 0} (n : List ℕ) (k : ℕ) (s t : State) (r : Result (Unit {0}) E) (reply : ReplyForm)
    → OnOk r (reply ≡ done) → OnErr r (reply ≡ refused Memory) → KeepsMarks s t → OnOk r (KeepsUp (catalogue_at s) (catalogue_at t) n (is_kept s) s.held t.held) → LeavesOthers (catalogue_at s) n s.held t.held
    → Upholds (delete n k) reply s t
upheld_delete n k s t (Ok u) reply is wants marks kept left = subst (λ (y : ReplyForm). Upholds (delete n k) y s t) (sym is) (marks, kept)
upheld_delete n k s t (Err e) reply is wants marks kept left = subst (λ (y : ReplyForm). Upholds (delete n k) y s t) (sym wants) (marks, left)

-- a refused insert
pub upheld_insert : (n : List ℕ) (fs : Logics FormAtom) (s t : State) (r : Refusal) → KeepsMarks s t → LeavesOthers (catalogue_at s) n s.held t.held → ((r ≡ Memory → ⊥) → t.held ≡ s.held)
    → Upholds (insert n fs) (refused r) s t
upheld_insert n fs s t Memory marks left same = (marks, left)
upheld_insert n fs s t _ marks left same = record { marks = marks; held = same (λ e. cc) }

-- ---- a statement

-- a command that the bytes spell is the one that was read
pub upholds_read : (l : Language) (bytes : List ℕ) (x : CommandForm) → IsRead l bytes x → (reply : ReplyForm) (s t : State) → Upholds x reply s t → UpholdsPiece l bytes reply s t
upholds_read l bytes x h reply s t u = record {
  spelled = λ y depth k. subst (λ (z : CommandForm). Upholds z reply s t) (one_command l bytes x y h.depth depth h.spells k).0 u;
  other = λ none. absurd (none x h.depth h.spells);
}

-- bytes that aren't read change nothing
pub upholds_unread : (l : Language) (bytes : List ℕ) (r : Refusal) (s : State) → UpholdsPiece l bytes (refused r) s s
upholds_unread l bytes r s = record {
  spelled = λ y depth k. upholds_refused y r s s (same_lists s s refl);
  other = λ none. same_lists s s refl;
}
