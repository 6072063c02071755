-- A statement changes nothing of the names that its command doesn't change.
use Rattle.std.proofs.Common.{◌≡◌, ℕ, Bool, true, false, not, ◌||◌, List, [], ◌∷◌, ◌++◌, Some, None, refl, sym, ap, ◌∙◌, subst, true≢false, bytes_eq}
use Rattle.std.proofs.lemmas.Bool.{not-true, false_from_ne_true}
use Rattle.ded_lex.specs.Pieces.{Whole}
use Rattle.ded_model.specs.declared.command.Language.TheVariants.{One}
use Rattle.ded_model.specs.declared.command.Refusal.TheVariants.{Taken}
use Rattle.ded_model.specs.Catalogue.{Entry, Catalogue, entry_name}
use Rattle.ded_model.specs.Catalogue as entry
use Rattle.ded_model.specs.Command.{CommandForm, header, relation, insert, delete, drop, view, keep, ask, query, show, box_of, explain, dump, disjoint, verify}
use Rattle.ded_model.specs.Entries.{entry_of}
use Rattle.ded_model.specs.Form.{speaks_of}
use Rattle.ded_model.specs.Known.{IsWellFormed}
use Rattle.ded_model.proofs.Bools.{or_false_left, or_false_right}
use Rattle.ded_session.specs.Replies.{ReplyForm, done, number, truth, tuples, stored, boxes, steps, script, apart, meeting, refused}
use Rattle.ded_session.specs.Steps.{Does, Accepted, Step}
use Rattle.ded_sorts.specs.Causes.{takes_name}
use Rattle.ded_sorts.specs.Changes.{AddsEntry, ChangesEntry}
use Rattle.ded_syntax.specs.Spelling.{Spells}
use Rattle.ded_syntax.proofs.One.{one_command}
use Rattle.ded_views.proofs.Changing.{entry_there}
use Rattle.ded_shared.specs.Agreeing.{Agree}
use Rattle.ded_shared.specs.Touching.{uses_name, changes}
use Rattle.ded_shared.proofs.Doing.{no_entry}
use Rattle.ded_shared.proofs.Replaced.{added, changed, dropped, agree_beside, agree_itself}
use Rattle.ded_algebra.proofs.Names.{other_way}

module _ (c e : Catalogue) (w : IsWellFormed c) where
  same : (among : List ℕ → Bool) → e ≡ c → Agree c e among
  same among is = subst (λ y. Agree c y among) (sym is) (agree_itself c among)

  -- an entry more, of a name that no other one has
  adds : (x : Entry) (changed_name : List ℕ → Bool) → entry_of c.entries (entry_name x) ≡ None → AddsEntry c e x
      → ((k : List ℕ) → not (changed_name k) ≡ true → (bytes_eq (entry_name x) k ≡ false) × (uses_name (Some x) k ≡ false)) → Agree c e (λ k. not (changed_name k))
  adds x changed_name new a other = agree_beside c e (entry_name x) (Some x) changed_name (added c e x new a)
      (λ k h. (other_way (entry_name x) k (other k h).0, (other k h).1 ∙ ap (λ o. uses_name o k) (sym new)))

  -- a relation with other tuples
  alters : (n : List ℕ) (old new : Entry) → entry_name new ≡ n → ((k : List ℕ) → uses_name (Some new) k ≡ uses_name (Some old) k) → ChangesEntry c e n old new
      → Agree c e (λ k. not (bytes_eq n k))
  alters n old new named uses x = agree_beside c e n (Some new) (bytes_eq n) (changed c e n old new w named x)
      (λ k h. (other_way n k (not-true (bytes_eq n k) h), uses k ∙ ap (λ o. uses_name o k) (sym (entry_there c x.before x.after old n w x.was x.named))))

  kept : (x : CommandForm) (reply : ReplyForm) → takes_name c x ≡ false → Does x c reply e → Agree c e (λ n. not (changes c x reply n))
  kept header done new k = same _ k
  kept (relation m h) done new k =
      adds (entry.relation m h 0 []) (bytes_eq m) (no_entry c w m new) k (λ j o. (not-true (bytes_eq m j) o, refl))
  kept (insert m fs) (number i) new k = alters m _ (entry.relation m k.columns i (k.present ++ (i, _) ∷ [])) refl (λ j. refl) k.changes
  kept (delete m i) done new k = alters m _ (entry.relation m k.columns k.inserts (k.before ++ k.after)) refl (λ j. refl) k.changes
  kept (drop m) done new k = agree_beside c e m None (λ j. bytes_eq m j || uses_name (entry_of c.entries m) j) (dropped c e m w k)
      (λ j o. let none = not-true (bytes_eq m j || uses_name (entry_of c.entries m) j) o in (other_way m j (or_false_left _ _ none), sym (or_false_right (bytes_eq m j) _ none)))
  kept (view m h f) done new k = adds (entry.view m h f) (λ j. bytes_eq m j || speaks_of j f) (no_entry c w m new) k
      (λ j o. let none = not-true (bytes_eq m j || speaks_of j f) o in (or_false_left _ _ none, or_false_right (bytes_eq m j) _ none))
  kept (keep n) done new k = same _ k
  kept (ask f) (truth b) new k = same _ k.1
  kept (query h f) (tuples g ts) new k = same _ k.2
  kept (show n) (stored h ts) new k = same _ k.2
  kept (box_of n) (boxes h r) new k = same _ k.2
  kept (explain h f) (steps plan) new k = same _ k.1
  kept dump (script lines) new k = same _ k.1
  kept (disjoint n m) (apart es) new k = same _ k.1
  kept (disjoint n m) (meeting i j) new k = same _ k.1
  kept (verify n m es) (truth b) new k = same _ k.1
  kept _ _ new k = absurd k

  module _ (bytes : List ℕ) (x : CommandForm) (depth : ℕ) (spells : Spells One bytes x depth) where
    answered : (reply : ReplyForm) → Accepted One bytes c (λ y. Does y c reply e) → Agree c e (λ n. not (changes c x reply n))
    answered reply p =
        let is = (one_command One bytes p.command x p.depth depth p.spells spells).0 in
        kept x reply (false_from_ne_true (takes_name c x) (λ t. p.none Taken (record { command = x; depth = depth; spells = spells; cause = t }))) (subst (λ y. Does y c reply e) is p.so)

    pub step_keeps : (reply : ReplyForm) → Step One c (Whole bytes) reply e → Agree c e (λ n. not (changes c x reply n))
    step_keeps done p = answered done p
    step_keeps (number k) p = answered (number k) p
    step_keeps (truth b) p = answered (truth b) p
    step_keeps (tuples h ts) p = answered (tuples h ts) p
    step_keeps (stored h ts) p = answered (stored h ts) p
    step_keeps (boxes h b) p = answered (boxes h b) p
    step_keeps (steps plan) p = answered (steps plan) p
    step_keeps (script lines) p = answered (script lines) p
    step_keeps (apart es) p = answered (apart es) p
    step_keeps (meeting j k) p = answered (meeting j k) p
    step_keeps (refused r) p = same _ p.1

-- where no command is spelled
module _ (c e : Catalogue) (bytes : List ℕ) (none : (x : CommandForm) (depth : ℕ) → Spells One bytes x depth → false ≡ true) where
  never : (Fact : CommandForm → Type 0) → Accepted One bytes c Fact → e ≡ c
  never Fact p = absurd (true≢false (sym (none p.command p.depth p.spells)))

  pub nothing_changes : (reply : ReplyForm) → Step One c (Whole bytes) reply e → e ≡ c
  nothing_changes done p = never _ p
  nothing_changes (number k) p = never _ p
  nothing_changes (truth b) p = never _ p
  nothing_changes (tuples h ts) p = never _ p
  nothing_changes (stored h ts) p = never _ p
  nothing_changes (boxes h b) p = never _ p
  nothing_changes (steps plan) p = never _ p
  nothing_changes (script lines) p = never _ p
  nothing_changes (apart es) p = never _ p
  nothing_changes (meeting j k) p = never _ p
  nothing_changes (refused r) p = p.1
