-- Transactions since whose begin nothing was changed: their accepted changes make their own catalogue of the shared one.
use Rattle.std.proofs.Common.{◌≡◌, ◌≤◌, ◌-◌, ℕ, Bool, true, false, not, ◌&&◌, ◌||◌, List, [], ◌∷◌, ◌++◌, Option, Some, None, if◌then◌else◌, get_or, slice_set, length, IfSome, refl, sym, ap, ◌∙◌, subst, true≢false, bytes_eq}
use Rattle.std.proofs.lemmas.Bool.{and_parts, not-true}
use Rattle.ded_num.proofs.Tests.{and_false_left}
use Rattle.ded_lex.specs.Pieces.{Whole}
use Rattle.ded_model.specs.declared.command.Language.TheVariants.{One}
use Rattle.ded_model.specs.Catalogue.{Catalogue}
use Rattle.ded_model.specs.Command.{CommandForm, relation, insert, delete, drop, view, header, keep, ask, query, show, box_of, explain, dump, disjoint, verify}
use Rattle.ded_model.proofs.Bools.{bytes_eq-refl, or_false_left, or_false_right}
use Rattle.ded_syntax.specs.Spelling.{IsRead}
use Rattle.ded_catalog.specs.State.{Table, catalogue_of}
use Rattle.ded_shared.specs.Touching.{changes}
use Rattle.ded_session.specs.Replies.{ReplyForm, is_refusal, done}
use Rattle.ded_session.specs.Steps.{Step}
use Rattle.ded_shared.specs.Gathering.{changed_by}
use Rattle.ded_shared.specs.Forms.{SharedForm, plain}
use Rattle.ded_shared.specs.Parts.{ArePieces, transaction_in, Parts, IsWithin, AreKept, TakesOver}
use Rattle.ded_shared.specs.Rules.{is_change, Remembers, Replays}
use Rattle.ded_shared.specs.State.{is_among}
use Rattle.ded_shared.specs.declared.transaction.Transaction as declared
use Rattle.ded_shared.proofs.Changing.{Places, within_at, grown_kept, kept_set}
use Rattle.ded_shared.proofs.Noting.{accepted_changes}
use Rattle.ded_shared.proofs.Replaying.{no_change, replays_more}

-- ---- names

none_among : (ns : List (List ℕ)) → ((n : List ℕ) → is_among ns n ≡ false) → ns ≡ []
none_among [] h = refl
none_among (n ∷ ns) h = absurd (true≢false (sym (bytes_eq-refl n) ∙ or_false_left (bytes_eq n n) (is_among ns n) (h n)))

-- what changes no name is no change
changeless : (c : Catalogue) (x : CommandForm) → ((n : List ℕ) → changed_by c x n ≡ false) → is_change x ≡ false
changeless c (relation m h) none = absurd (true≢false (sym (bytes_eq-refl m) ∙ none m))
changeless c (insert m fs) none = absurd (true≢false (sym (bytes_eq-refl m) ∙ none m))
changeless c (delete m k) none = absurd (true≢false (sym (bytes_eq-refl m) ∙ none m))
changeless c (drop m) none = absurd (true≢false (sym (bytes_eq-refl m) ∙ or_false_left (bytes_eq m m) _ (none m)))
changeless c (view m h f) none = absurd (true≢false (sym (bytes_eq-refl m) ∙ or_false_left (bytes_eq m m) _ (none m)))
changeless c header none = refl
changeless c (keep m) none = refl
changeless c (ask f) none = refl
changeless c (query h f) none = refl
changeless c (show m) none = refl
changeless c (box_of m) none = refl
changeless c (explain h f) none = refl
changeless c dump none = refl
changeless c (disjoint m k) none = refl
changeless c (verify m k es) none = refl

-- ---- outside of transactions

-- a command that changes no name leaves the catalogue
pub unnamed_same : (c d : Catalogue) (bytes : List ℕ) (x : CommandForm) → IsRead One bytes x → (reply : ReplyForm) → Step One c (Whole bytes) reply d → (names : List (List ℕ))
    → ((n : List ℕ) → is_among names n ≡ changed_by c x n) → names ≡ [] → d ≡ c
unnamed_same c d bytes x read reply step names are none =
    no_change c d bytes x read.depth reply read.spells
    (and_false_left (is_change x) (not (is_refusal reply)) (changeless c x (λ n. sym (are n) ∙ ap (λ (l : List (List ℕ)). is_among l n) none))) step

-- ---- in a transaction

module _ (bytes : List ℕ) (x : CommandForm) (read : IsRead One bytes x) (reply : ReplyForm) (log : List (List ℕ)) (old new : declared.Transaction)
    (step : Step One (catalogue_of old.own) (Whole bytes) reply (catalogue_of new.own)) (remembers : Remembers bytes reply x (transaction_in log old) (transaction_in log new)) where
  none_there : new.changed.items ≡ [] → (n : List ℕ) → (is_among old.changed.items n || changes (catalogue_of old.own) x reply n) ≡ false
  none_there e n = sym (remembers.changed n) ∙ ap (λ (l : List (List ℕ)). is_among l n) e

  noted_by : new.changed.items ≡ [] → old.accepted.items ≡ [] → (b : Bool) → (is_change x && not (is_refusal reply)) ≡ b → new.accepted.items ≡ []
  noted_by e none true h =
      let parts = and_parts (is_change x) (not (is_refusal reply)) h in
      absurd (true≢false (sym parts.0 ∙ changeless (catalogue_of old.own) x
      (λ n. sym (accepted_changes (catalogue_of old.own) (catalogue_of new.own) n bytes x read.depth read.spells reply (not-true _ parts.1) step)
      ∙ or_false_right (is_among old.changed.items n) (changes (catalogue_of old.own) x reply n) (none_there e n))))
  noted_by e none false h = remembers.accepted ∙ ap (λ (b : Bool). if b then old.accepted.items ++ bytes ∷ [] else old.accepted.items) h ∙ none

  noted_more : (old.changed.items ≡ [] → old.accepted.items ≡ []) → new.changed.items ≡ [] → new.accepted.items ≡ []
  noted_more h e =
      noted_by e (h (none_among old.changed.items (λ n. or_false_left (is_among old.changed.items n) (changes (catalogue_of old.own) x reply n) (none_there e n))))
      (is_change x && not (is_refusal reply)) refl

  pub within_more : (c : Catalogue) (count : ℕ) → new.since ≡ old.since → (ArePieces old.accepted.items → ArePieces new.accepted.items) → IsWithin c count old → IsWithin c count new
  within_more c count since pieces w = record {
    since = subst (λ (n : ℕ). n ≤ count) (sym since) w.since;
    pieces = pieces w.pieces;
    replays = λ e.
        replays_more bytes x read.depth reply read.spells old.accepted.items new.accepted.items remembers.accepted c (catalogue_of old.own) (catalogue_of new.own) (w.replays (sym since ∙ e)) step;
    noted = noted_more w.noted;
  }

-- ---- commits

-- a commit that changes no name leaves the catalogue
pub grown_by : (s : Parts) (u : Table) (i : ℕ) (x : declared.Transaction) → AreKept s → get_or s.transactions i None ≡ Some x → Replays x.accepted.items (catalogue_of s.table) (catalogue_of u)
    → AreKept (record { table = u; transactions = s.transactions; log = s.log ++ x.changed.items })
grown_by s u i x kept at replays =
    grown_kept s.table u s.transactions s.log x.changed.items
    (λ none. subst (λ (l : List (List ℕ)). Replays l (catalogue_of s.table) (catalogue_of u)) ((within_at (catalogue_of s.table) (length s.log) s.transactions i x kept.within at).noted none) replays) kept

abbrev pub IsCurrent : Parts → ℕ → Type 0
IsCurrent s i = IfSome (get_or s.transactions i None) (λ x. x.since ≡ length s.log)

pub current_at : (s : Parts) (i : ℕ) (x : declared.Transaction) → get_or s.transactions i None ≡ Some x → x.since ≡ length s.log → IsCurrent s i
current_at s i x at e = subst (λ (o : Option declared.Transaction). IfSome o (λ y. y.since ≡ length s.log)) (sym at) e

-- the transaction's own catalogue becomes the shared one
module _ (s : Parts) (i : ℕ) (x : declared.Transaction) (kept : AreKept s) (at : get_or s.transactions i None ≡ Some x) (current : IsCurrent s i) where
  pub own_replays : Replays x.accepted.items (catalogue_of s.table) (catalogue_of x.own)
  own_replays =
      (within_at (catalogue_of s.table) (length s.log) s.transactions i x kept.within at).replays
      (subst (λ (o : Option declared.Transaction). IfSome o (λ y. y.since ≡ length s.log)) at current)

  pub taken_kept : (u : Parts) → u.table ≡ x.own → u.transactions ≡ slice_set s.transactions i None → u.log ≡ s.log ++ x.changed.items → AreKept u
  taken_kept u p q r =
      subst (λ (t : Table). AreKept (record { table = t; transactions = u.transactions; log = u.log })) (sym p)
      (subst (λ (xs : Places). AreKept (record { table = x.own; transactions = xs; log = u.log })) (sym q)
      (subst (λ (l : List (List ℕ)). AreKept (record { table = x.own; transactions = slice_set s.transactions i None; log = l })) (sym r)
      (kept_set x.own s.transactions (s.log ++ x.changed.items) i None (grown_by s x.own i x kept at own_replays) tt)))

-- ---- a commit takes the transaction's own table over, where nothing was changed since its begin

pub takes_over : (s u : Parts) (k : ℕ) (x : declared.Transaction) → get_or s.transactions (k - 1) None ≡ Some x → (x.since ≡ length s.log → u.table ≡ x.own) → (reply : SharedForm) → TakesOver k s reply u
takes_over s u k x at own reply is = subst (λ (o : Option declared.Transaction). IfSome o (λ y. y.since ≡ length s.log → u.table ≡ y.own)) (sym at) own

-- nothing is asked of another reply
pub takes_none : (s u : Parts) (k : ℕ) (reply other : SharedForm) → reply ≡ other → (other ≡ plain done → ⊥) → TakesOver k s reply u
takes_none s u k reply other is never e = absurd (never (sym is ∙ e))
