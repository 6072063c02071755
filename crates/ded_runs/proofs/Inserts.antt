-- Each relation of a catalogue to which a run leads has accepted at most 2^32 - 1 inserts: one that has accepted as many is found by its
-- name, which no other entry of a well formed catalogue has, and is spent.
use Rattle.std.proofs.Common.{◌≡◌, ◌+◌, ◌≤◌, ℕ, nat_le, arith, false, List, [], ◌∷◌, ◌++◌, Option, sym, subst, ap, ◌∙◌}
use Rattle.std.specs.List.{AllByRecursion}
use Rattle.std.proofs.lemmas.Bool.{false_from_ne_true}
use Rattle.std.proofs.lemmas.Bool.Decides.{nat_tests}
use Rattle.ded_lex.specs.Pieces.{Statement, Whole}
use Rattle.ded_lex.specs.Pieces as pieces
use Rattle.ded_model.specs.declared.command.Language.{Language}
use Rattle.ded_model.specs.declared.command.Language.TheVariants.{Opening}
use Rattle.ded_model.specs.declared.command.Refusal.TheVariants.{Spent}
use Rattle.ded_model.specs.Catalogue.{Entry, Catalogue}
use Rattle.ded_model.specs.Catalogue as entry
use Rattle.ded_model.specs.Command.{CommandForm, header, relation, insert, delete, drop, view, keep, ask, query, show, box_of, explain, dump, disjoint, verify}
use Rattle.ded_model.specs.Entries.{entry_of, inserts_in}
use Rattle.ded_model.specs.Known.{IsWellFormed}
use Rattle.ded_model.specs.Row.{Atom}
use Rattle.ded_sorts.specs.Causes.{has_cause}
use Rattle.ded_sorts.specs.Changes.{AddsEntry, ChangesEntry, DropsEntry, Inserts}
use Rattle.ded_views.proofs.Changing.{entry_there}
use Rattle.ded_session.specs.Replies.{ReplyForm, done, number, truth, tuples, stored, boxes, steps, script, apart, meeting, refused}
use Rattle.ded_session.specs.Runs.{Steps, Run, empty_catalogue}
use Rattle.ded_session.specs.Steps.{Does, Accepts, Step}
use Rattle.ded_runs.specs.Few.{HasFewInserts, HaveFewInserts}

-- ---- each of a list

module _ {A : Type 0} (P : A → Type 0) where
  more : (xs ys : List A) → AllByRecursion P xs → AllByRecursion P ys → AllByRecursion P (xs ++ ys)
  more [] ys h k = k
  more (x ∷ xs) ys h k = (h.0, more xs ys h.1 k)

  front : (xs ys : List A) → AllByRecursion P (xs ++ ys) → AllByRecursion P xs
  front [] ys h = tt
  front (x ∷ xs) ys h = (h.0, front xs ys h.1)

  back : (xs ys : List A) → AllByRecursion P (xs ++ ys) → AllByRecursion P ys
  back [] ys h = h
  back (x ∷ xs) ys h = back xs ys h.1

-- ---- catalogues

module _ (c d : Catalogue) (formed : IsWellFormed c) (few : HaveFewInserts c) where
  same : d ≡ c → HaveFewInserts d
  same is = subst HaveFewInserts (sym is) few

  adds : (e : Entry) → HasFewInserts e → AddsEntry c d e → HaveFewInserts d
  adds e own k = subst HaveFewInserts (sym k) (more HasFewInserts c.entries (e ∷ []) few (own, tt))

  changes : (n : List ℕ) (old new : Entry) → (HasFewInserts old → HasFewInserts new) → ChangesEntry c d n old new → HaveFewInserts d
  changes n old new keeps k =
      let were = subst (AllByRecursion HasFewInserts) k.was few in
      let rest = back HasFewInserts k.before (old ∷ k.after) were in
      subst HaveFewInserts (sym k.is) (more HasFewInserts k.before (new ∷ k.after) (front HasFewInserts k.before (old ∷ k.after) were) (keeps rest.0, rest.1))

  drops : (n : List ℕ) → DropsEntry c d n → HaveFewInserts d
  drops n k =
      let were = subst (AllByRecursion HasFewInserts) k.was few in
      subst HaveFewInserts (sym k.is) (more HasFewInserts k.before k.after (front HasFewInserts k.before (k.old ∷ k.after) were) (back HasFewInserts k.before (k.old ∷ k.after) were).1)

  -- one more, where it isn't spent
  inserts : (n : List ℕ) (t : List Atom) (k : ℕ) → nat_le 4294967295 (inserts_in (entry_of c.entries n)) ≡ false → Inserts c d n t k → HaveFewInserts d
  inserts n t k spent x =
      let old = entry.relation n x.columns x.inserts x.present in
      let there = entry_there c x.changes.before x.changes.after old n formed x.changes.was x.changes.named in
      changes n old (entry.relation n x.columns k (x.present ++ (k, t) ∷ [])) (λ own. room k x.inserts x.number (sym (ap (λ (o : Option Entry). nat_le 4294967295 (inserts_in o)) there) ∙ spent)) x.changes
    where
      room : (j i : ℕ) → j ≡ i + 1 → nat_le 4294967295 i ≡ false → j ≤ 4294967295
      room j i e l = grind (arith, nat_tests)

  does_keep : (reply : ReplyForm) (x : CommandForm) → has_cause Spent c x ≡ false → Does x c reply d → HaveFewInserts d
  does_keep done header room k = same k
  does_keep done (relation n cs) room k = adds (entry.relation n cs 0 []) (omega arith) k
  does_keep done (delete n i) room k = changes n _ _ (λ own. own) k.changes
  does_keep done (drop n) room k = drops n k
  does_keep done (view n cs f) room k = adds (entry.view n cs f) tt k
  does_keep done (keep n) room k = same k
  does_keep done _ room k = absurd k
  does_keep (number i) (insert n fs) room k = inserts n _ i room k
  does_keep (number i) _ room k = absurd k
  does_keep (truth b) (ask f) room k = same k.1
  does_keep (truth b) (verify n m es) room k = same k.1
  does_keep (truth b) _ room k = absurd k
  does_keep (tuples g ts) (query g2 f) room k = same k.2
  does_keep (tuples g ts) _ room k = absurd k
  does_keep (stored g ts) (show n) room k = same k.2
  does_keep (stored g ts) _ room k = absurd k
  does_keep (boxes g b) (box_of n) room k = same k.2
  does_keep (boxes g b) _ room k = absurd k
  does_keep (steps plan) (explain g f) room k = same k.1
  does_keep (steps plan) _ room k = absurd k
  does_keep (script lines) dump room k = same k.1
  does_keep (script lines) _ room k = absurd k
  does_keep (apart es) (disjoint n m) room k = same k.1
  does_keep (apart es) _ room k = absurd k
  does_keep (meeting i j) (disjoint n m) room k = same k.1
  does_keep (meeting i j) _ room k = absurd k
  does_keep (refused r) header room k = absurd k
  does_keep (refused r) _ room k = absurd k

  accepted_keeps : (l : Language) (s : Statement) (reply : ReplyForm) → Accepts l s c (λ x. Does x c reply d) → HaveFewInserts d
  accepted_keeps l (Whole bytes) reply a =
      does_keep reply a.command
      (false_from_ne_true _ (λ e. a.none Spent (record { command = a.command; depth = a.depth; spells = a.spells; cause = e })))
      a.so
  accepted_keeps l (pieces.Unfinished rest) reply a = absurd a

-- ---- statements

pub few_step : (l : Language) (c d : Catalogue) (s : Statement) (reply : ReplyForm) → IsWellFormed c → HaveFewInserts c → Step l c s reply d → HaveFewInserts d
few_step l c d s done formed few p = accepted_keeps c d formed few l s done p
few_step l c d s (number k) formed few p = accepted_keeps c d formed few l s (number k) p
few_step l c d s (truth b) formed few p = accepted_keeps c d formed few l s (truth b) p
few_step l c d s (tuples g ts) formed few p = accepted_keeps c d formed few l s (tuples g ts) p
few_step l c d s (stored g ts) formed few p = accepted_keeps c d formed few l s (stored g ts) p
few_step l c d s (boxes g b) formed few p = accepted_keeps c d formed few l s (boxes g b) p
few_step l c d s (steps plan) formed few p = accepted_keeps c d formed few l s (steps plan) p
few_step l c d s (script lines) formed few p = accepted_keeps c d formed few l s (script lines) p
few_step l c d s (apart es) formed few p = accepted_keeps c d formed few l s (apart es) p
few_step l c d s (meeting i j) formed few p = accepted_keeps c d formed few l s (meeting i j) p
few_step l c d s (refused r) formed few p = same c d formed few p.1

-- ---- runs

module _ (formed_step : (l : Language) (c d : Catalogue) (s : Statement) (reply : ReplyForm) → IsWellFormed c → Step l c s reply d → IsWellFormed d) where
  steps_keep : (l : Language) (c d : Catalogue) (ss : List Statement) (replies : List ReplyForm) → IsWellFormed c → HaveFewInserts c → Steps l c ss replies d → HaveFewInserts d
  steps_keep l c d [] [] formed few p = same c d formed few p
  steps_keep l c d [] (reply ∷ replies) formed few p = absurd p
  steps_keep l c d (s ∷ ss) [] formed few p = absurd p
  steps_keep l c d (s ∷ ss) (reply ∷ replies) formed few p =
      steps_keep p.1 p.0 d ss replies (formed_step l c p.0 s reply formed p.2) (few_step l c p.0 s reply formed few p.2) p.4

  pub few_after : (limit : ℕ) (bytes : List ℕ) (replies : List ReplyForm) (last : Catalogue) → Run limit bytes replies last → HaveFewInserts last
  few_after limit bytes replies last r = steps_keep Opening (empty_catalogue limit) last r.statements replies tt tt r.steps
