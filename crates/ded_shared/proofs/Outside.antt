-- A command outside of transactions, in the words of the parts.
use Rattle.std.proofs.Common.{◌≡◌, ℕ, true, false, List, [], ◌∷◌, ◌++◌, length, take, refl, sym, ap, ◌∙◌, subst}
use Rattle.ded_lex.specs.Pieces.{Whole}
use Rattle.ded_model.specs.declared.command.Language.TheVariants.{One}
use Rattle.ded_model.specs.Command.{CommandForm}
use Rattle.ded_syntax.specs.Spelling.{IsRead}
use Rattle.ded_catalog.specs.State.{Table, catalogue_of}
use Rattle.ded_session.specs.Replies.{ReplyForm, is_refusal}
use Rattle.ded_session.specs.Steps.{Step}
use Rattle.ded_shared.specs.Parts.{Parts, state_of, AreKept, Notes}
use Rattle.ded_shared.specs.Rules.{WorksOutside}
use Rattle.ded_shared.proofs.Changing.{Places, seen, grown_seen, grown_kept, same_kept}
use Rattle.ded_shared.proofs.Current.{unnamed_same}
use Rattle.ded_shared.proofs.Noting.{refused_outside, accepted_outside}
use Rattle.ded_session.proofs.Making.{refused_same}

pub front_of_both : (xs ys : List (List ℕ)) → take (length xs) (xs ++ ys) ≡ xs
front_of_both [] ys = refl
front_of_both (x ∷ xs) ys = ap (λ l. x ∷ l) (front_of_both xs ys)

-- ---- what is kept

noted_kept : (x : CommandForm) (s1 s2 : Parts) (t : Table) (notes : Notes x s1 s2) → (notes.names ≡ [] → catalogue_of t ≡ catalogue_of s1.table) → AreKept s1
    → AreKept (record { table = t; transactions = s2.transactions; log = s2.log })
noted_kept x s1 s2 t notes same kept =
    subst (λ (xs : Places). AreKept (record { table = t; transactions = xs; log = s2.log })) (sym notes.transactions)
    (subst (λ (l : List (List ℕ)). AreKept (record { table = t; transactions = s1.transactions; log = l })) (sym notes.log) (grown_kept s1.table t s1.transactions s1.log notes.names same kept))

shortened_kept : (x : CommandForm) (s1 s2 : Parts) (t : Table) → Notes x s1 s2 → catalogue_of t ≡ catalogue_of s1.table → AreKept s1
    → AreKept (record { table = t; transactions = s2.transactions; log = take (length s1.log) s2.log })
shortened_kept x s1 s2 t notes same kept =
    subst (λ (xs : Places). AreKept (record { table = t; transactions = xs; log = take (length s1.log) s2.log })) (sym notes.transactions)
    (subst (λ (l : List (List ℕ)). AreKept (record { table = t; transactions = s1.transactions; log = l })) (sym (ap (take (length s1.log)) notes.log ∙ front_of_both s1.log notes.names))
    (same_kept s1.table t s1.transactions s1.log same kept))

kept_by : (t : Table) (xs ys : Places) (l m : List (List ℕ)) → ys ≡ xs → m ≡ l → AreKept (record { table = t; transactions = xs; log = l }) → AreKept (record { table = t; transactions = ys; log = m })
kept_by t xs ys l m p q kept =
    subst (λ (zs : Places). AreKept (record { table = t; transactions = zs; log = m })) (sym p) (subst (λ (k : List (List ℕ)). AreKept (record { table = t; transactions = xs; log = k })) (sym q) kept)

-- ---- a command

-- the names of the command are noted, and then the statement is answered
module _ (s1 s2 f : Parts) (bytes : List ℕ) (x : CommandForm) (read : IsRead One bytes x) (reply : ReplyForm) (notes : Notes x s1 s2)
    (step : Step One (catalogue_of s2.table) (Whole bytes) reply (catalogue_of f.table)) (places : f.transactions ≡ s2.transactions) where
  step_here : Step One (catalogue_of s1.table) (Whole bytes) reply (catalogue_of f.table)
  step_here = subst (λ (t : Table). Step One (catalogue_of t) (Whole bytes) reply (catalogue_of f.table)) notes.table step

  places_here : f.transactions ≡ s1.transactions
  places_here = places ∙ notes.transactions

  pub outside_accepted : AreKept s1 → is_refusal reply ≡ false → f.log ≡ s2.log → WorksOutside bytes (state_of s1) reply (state_of f)
  outside_accepted kept e log = accepted_outside bytes x read reply (state_of s1) (state_of f) notes.names e step_here notes.changes
      (ap (seen f.log) places_here ∙ ap (λ (l : List (List ℕ)). seen l s1.transactions) (log ∙ notes.log) ∙ grown_seen (catalogue_of s1.table) s1.log notes.names s1.transactions kept.within)

  pub outside_refused : is_refusal reply ≡ true → f.log ≡ take (length s1.log) s2.log → WorksOutside bytes (state_of s1) reply (state_of f)
  outside_refused e log = refused_outside bytes x read reply (state_of s1) (state_of f) e step_here
      (ap (seen f.log) places_here ∙ ap (λ (l : List (List ℕ)). seen l s1.transactions) (log ∙ ap (take (length s1.log)) notes.log ∙ front_of_both s1.log notes.names))

  pub accepted_kept : AreKept s1 → f.log ≡ s2.log → AreKept f
  accepted_kept kept log = kept_by f.table s2.transactions f.transactions s2.log f.log places log
      (noted_kept x s1 s2 f.table notes (unnamed_same (catalogue_of s1.table) (catalogue_of f.table) bytes x read reply step_here notes.names notes.changes) kept)

  pub refused_kept : AreKept s1 → is_refusal reply ≡ true → f.log ≡ take (length s1.log) s2.log → AreKept f
  refused_kept kept e log = kept_by f.table s2.transactions f.transactions (take (length s1.log) s2.log) f.log places log
      (shortened_kept x s1 s2 f.table notes (refused_same One (catalogue_of s1.table) (catalogue_of f.table) (Whole bytes) reply e step_here) kept)
