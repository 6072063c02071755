-- Two runs of the same tagged statements that write the same bytes say the same and leave one shared catalogue.
--
-- Their states are alike all the way: what is shared is the same, and of each open transaction the same is remembered, if in another
-- order.
use Rattle.std.proofs.Common.{◌≡◌, ℕ, ◌-◌, Bool, true, false, not, ◌&&◌, ◌||◌, List, [], ◌∷◌, ◌++◌, map, Option, Some, None, if◌then◌else◌, refl, sym, ap, ap₂, ◌∙◌, subst}
use Rattle.std.specs.Prelude.{IfSome, slice_set}
use Rattle.std.specs.List.{AllByRecursion}
use Rattle.ded_lex.specs.Pieces.{Statement, Whole}
use Rattle.ded_model.specs.declared.command.Language.TheVariants.{One}
use Rattle.ded_model.specs.declared.command.Refusal.TheVariants.{Memory}
use Rattle.ded_model.specs.Catalogue.{Catalogue}
use Rattle.ded_model.specs.Command.{CommandForm}
use Rattle.ded_model.specs.Known.{IsWellFormed}
use Rattle.ded_syntax.specs.Spelling.{Spells}
use Rattle.ded_session.specs.PlainNames.{HasPlainNames}
use Rattle.ded_session.specs.Replies.{ReplyForm, is_refusal, done, tuples, steps, apart, refused}
use Rattle.ded_session.specs.Steps.{Step}
use Rattle.ded_session.proofs.Telling.{AreAlike, refused_alike, alike_after}
use Rattle.ded_shared.specs.Forms.{SharedForm, plain, begun, not_begun, conflict}
use Rattle.ded_shared.specs.Rules.{is_change, Replays, Works, Begins, Commits, Aborts, SharedStep, SharedSteps, Remembers}
use Rattle.ded_shared.specs.State.{Transaction, State, is_among, transaction_of, first_state, all_with_stale, begun_over, with_transaction}
use Rattle.ded_shared.specs.Tags.{Tagged, begins, commits, aborts, commands, other, SpellsCommand, AreTagged}
use Rattle.ded_shared.specs.Texts.{shared_text, shared_texts}
use Rattle.ded_shared.specs.Touching.{touches, changes, depends_on_names}
use Rattle.ded_shared.proofs.AlikeStates.{AreAmong, AlikeOpen, BothOpen, EachAlike, AlikeStates, alike_itself, each_at, each_put, each_aged}
use Rattle.ded_shared.proofs.Everywhere.{Everywhere, OfOpen, Keeps, at_place, first_everywhere, step_everywhere}
use Rattle.ded_shared.proofs.Noting.{accepted_changes, refused_changes}
use Rattle.ded_shared.proofs.Places.{Places, IsOfSession, of_sessions}
use Rattle.ded_shared.proofs.Replaying.{KeepsFormed, one_replay}
use Rattle.ded_shared.proofs.TextsApart.{SameForm, begins_kind, aborts_kind, commits_kind, word_same, forms_tell, same_texts}

-- ---- replies to one command

depends_alike : (r q : ReplyForm) → AreAlike r q → depends_on_names r ≡ depends_on_names q
depends_alike (tuples h ts) (tuples k us) a = refl
depends_alike (steps f) (steps g) a = refl
depends_alike (apart es) (apart fs) a = refl
depends_alike r q a = ap depends_on_names a

module _ (c d e : Catalogue) (bytes : List ℕ) (r q : ReplyForm) (alike : AreAlike r q) (p : Step One c (Whole bytes) r d) (o : Step One c (Whole bytes) q e) where
  -- they change the same names
  one_changed : (x : CommandForm) (depth : ℕ) → Spells One bytes x depth → (n : List ℕ) → changes c x r n ≡ changes c x q n
  one_changed x depth s n = by (is_refusal r) refl (sym (refused_alike r q alike))
    where
      by : (b : Bool) → is_refusal r ≡ b → is_refusal q ≡ is_refusal r → changes c x r n ≡ changes c x q n
      by true i j = refused_changes c x r n i ∙ sym (refused_changes c x q n (j ∙ i))
      by false i j = accepted_changes c d n bytes x depth s r i p ∙ sym (accepted_changes c e n bytes x depth s q (j ∙ i) o)

-- what is remembered of the command is the same
module _ (bytes : List ℕ) (x : CommandForm) (depth : ℕ) (s : Spells One bytes x depth) (r q : ReplyForm) (alike : AreAlike r q) (a b y z : Transaction) (both : AlikeOpen a b)
    (p : Step One a.own (Whole bytes) r y.own) (o : Step One a.own (Whole bytes) q z.own) (m : Remembers bytes r x a y) (k : Remembers bytes q x b z) where
  accepted_here : y.accepted ≡ z.accepted
  accepted_here =
      m.accepted
      ∙ ap₂ (λ (t : Bool) (l : List (List ℕ)). if is_change x && not t then l ++ bytes ∷ [] else l) (refused_alike r q alike) both.accepted ∙ sym k.accepted

  changes_here : (n : List ℕ) → changes a.own x r n ≡ changes b.own x q n
  changes_here n = one_changed a.own y.own z.own bytes r q alike p o x depth s n ∙ ap (λ (c : Catalogue). changes c x q n) both.own

  touched_here : (n : List ℕ) → (depends_on_names r && touches a.own x n) ≡ (depends_on_names q && touches b.own x n)
  touched_here n = ap₂ (λ (t : Bool) (c : Catalogue). t && touches c x n) (depends_alike r q alike) both.own

  remembered : IsWellFormed a.own → AlikeOpen y z
  remembered formed = record {
    own = alike_after One a.own y.own z.own (Whole bytes) r q alike formed p o;
    accepted = accepted_here;
    touched = λ n.
        m.touched n ∙ ap₂ (λ (t u : Bool). t || u) (ap₂ (λ (t u : Bool). t || u) (both.touched n) (touched_here n)) (changes_here n) ∙ sym (k.touched n);
    changed = λ n. m.changed n ∙ ap₂ (λ (t u : Bool). t || u) (both.changed n) (changes_here n) ∙ sym (k.changed n);
    stale = λ n. ap (λ l. is_among l n) m.stale ∙ both.stale n ∙ sym (ap (λ l. is_among l n) k.stale);
  }

-- ---- states

module _ (s1 s2 : State) (alike : AlikeStates s1 s2) where
  both_stay : (t u : State) → t ≡ s1 → u ≡ s2 → AlikeStates t u
  both_stay t u p q = subst (λ v. AlikeStates v u) (sym p) (subst (λ v. AlikeStates s1 v) (sym q) alike)

  both_put : (k : ℕ) (x y : Option Transaction) (t u : State) → BothOpen x y → t ≡ with_transaction s1 k x → u ≡ with_transaction s2 k y → AlikeStates t u
  both_put k x y t u both p q =
      subst (λ v. AlikeStates v u) (sym p) (subst (λ v. AlikeStates (with_transaction s1 k x) v) (sym q)
      (record { shared = alike.shared; each = each_put s1.transactions s2.transactions (k - 1) x y alike.each both }))

  both_begun : AlikeOpen (begun_over s1.shared) (begun_over s2.shared)
  both_begun = record { own = alike.shared; accepted = refl; touched = λ n. refl; changed = λ n. refl; stale = λ n. refl }

  begins_alike : (k : ℕ) (x y : Option Transaction) (r : SharedForm) (t u : State) → BothOpen x y → Begins k x s1 r t → Begins k y s2 r u → AlikeStates t u
  begins_alike k x y (plain (refused Memory)) t u both p q = both_stay t u p q
  begins_alike k None None (plain done) t u both p q = both_put k (Some (begun_over s1.shared)) (Some (begun_over s2.shared)) t u both_begun p q
  begins_alike k (Some x) (Some y) begun t u both p q = both_stay t u p q
  begins_alike k None (Some y) r t u both p q = absurd both
  begins_alike k (Some x) None r t u both p q = absurd both
  begins_alike k _ _ _ t u both p q = absurd p

  aborts_alike : (k : ℕ) (x y : Option Transaction) (r : SharedForm) (t u : State) → BothOpen x y → Aborts k x s1 r t → Aborts k y s2 r u → AlikeStates t u
  aborts_alike k x y (plain (refused Memory)) t u both p q = both_stay t u p q
  aborts_alike k None None not_begun t u both p q = both_stay t u p q
  aborts_alike k (Some x) (Some y) (plain done) t u both p q = both_put k None None t u tt p q
  aborts_alike k None (Some y) r t u both p q = absurd both
  aborts_alike k (Some x) None r t u both p q = absurd both
  aborts_alike k _ _ _ t u both p q = absurd p

  module _ (keeps : KeepsFormed) (formed : IsWellFormed s1.shared) where
    commits_alike : (k : ℕ) (x y : Option Transaction) (r : SharedForm) (t u : State) → BothOpen x y → Commits k x s1 r t → Commits k y s2 r u → AlikeStates t u
    commits_alike k x y (plain (refused Memory)) t u both p q = both_stay t u p q
    commits_alike k None None not_begun t u both p q = both_stay t u p q
    commits_alike k (Some x) (Some y) (plain done) t u both p q =
        record {
          shared = one_replay keeps x.accepted s1.shared t.shared u.shared formed p.replays
              (subst (λ l. Replays l s1.shared u.shared) (sym both.accepted) (subst (λ c. Replays y.accepted c u.shared) (sym alike.shared) q.replays));
          each = subst (λ xs. EachAlike xs u.transactions) (sym p.transactions) (subst (EachAlike (closed x s1)) (sym q.transactions)
              (each_put (all_with_stale x.changed s1.transactions) (all_with_stale y.changed s2.transactions) (k - 1) None None
              (each_aged x.changed y.changed s1.transactions s2.transactions both.changed alike.each) tt));
        }
      where
        closed : Transaction → State → Places
        closed z s = slice_set (all_with_stale z.changed s.transactions) (k - 1) None
    commits_alike k (Some x) (Some y) (conflict n) t u both p q = both_put k None None t u tt p.1 q.1
    commits_alike k None (Some y) r t u both p q = absurd both
    commits_alike k (Some x) None r t u both p q = absurd both
    commits_alike k _ _ _ t u both p q = absurd p

    works_alike : (k : ℕ) (bytes : List ℕ) → SpellsCommand bytes → (x y : Option Transaction) (r q : ReplyForm) (t u : State) → BothOpen x y → AreAlike r q → IfSome x (λ z. IsWellFormed z.own)
        → Works k bytes x s1 r t → Works k bytes y s2 q u → AlikeStates t u
    works_alike k bytes spells None None r q t u both same own a b =
        let here : Step One s1.shared (Whole bytes) q u.shared = subst (λ c. Step One c (Whole bytes) q u.shared) (sym alike.shared) b.step in
        let names : AreAmong a.names b.names = (λ n.
        a.are spells.command spells.depth spells.spells n
        ∙ one_changed s1.shared t.shared u.shared bytes r q same a.step here spells.command spells.depth spells.spells n
        ∙ ap (λ c. changes c spells.command q n) alike.shared ∙ sym (b.are spells.command spells.depth spells.spells n)) in
        record {
          shared = alike_after One s1.shared t.shared u.shared (Whole bytes) r q same formed a.step here;
          each = subst (λ xs. EachAlike xs u.transactions) (sym a.transactions)
              (subst (EachAlike (all_with_stale a.names s1.transactions)) (sym b.transactions) (each_aged a.names b.names s1.transactions s2.transactions names alike.each));
        }
    works_alike k bytes spells (Some x) (Some y) r q t u both same own a b =
        let here : Step One x.own (Whole bytes) q b.after.own = subst (λ c. Step One c (Whole bytes) q b.after.own) (sym both.own) b.step in
        both_put k (Some a.after) (Some b.after) t u
        (remembered bytes spells.command spells.depth spells.spells r q same x y a.after b.after both a.step here
        (a.remembers spells.command spells.depth spells.spells) (b.remembers spells.command spells.depth spells.spells) own) a.is b.is
    works_alike k bytes spells None (Some y) r q t u both same own a b = absurd both
    works_alike k bytes spells (Some x) None r q t u both same own a b = absurd both

-- ---- runs

-- what is so of each catalogue
record IsSound (c : Catalogue) : Type 0 where
  formed : IsWellFormed c
  names : HasPlainNames c

module _ (keeps : KeepsFormed) (plainly : Keeps HasPlainNames) where
  soundly : Keeps IsSound
  soundly c d s reply h p = record { formed = keeps One c d s reply h.formed p; names = plainly c d s reply h.names p }

  all_named : (xs : Places) → OfOpen IsSound xs → OfOpen HasPlainNames xs
  all_named [] h = tt
  all_named (None ∷ xs) h = (tt, all_named xs h.1)
  all_named (Some x ∷ xs) h = (h.0.names, all_named xs h.1)

  own_formed : (o : Option Transaction) → IfSome o (λ x. IsSound x.own) → IfSome o (λ x. IsWellFormed x.own)
  own_formed None h = tt
  own_formed (Some x) h = h.formed

  module _ (s1 s2 : State) (alike : AlikeStates s1 s2) (all : Everywhere IsSound s1) where
    here : (k : ℕ) → BothOpen (transaction_of s1 k) (transaction_of s2 k)
    here k = each_at s1.transactions s2.transactions (k - 1) alike.each

    -- a statement leaves alike states
    step_alike : (x : Tagged) → IsOfSession x → (r q : SharedForm) (t u : State) → SameForm r q → SharedStep s1 x r t → SharedStep s2 x q u → AlikeStates t u
    step_alike (begins k) i r q t u same a b =
        let e : r ≡ q = word_same [] [] r q (begins_kind k s1 (transaction_of s1 k) r t a) same in
        begins_alike s1 s2 alike k (transaction_of s1 k) (transaction_of s2 k) r t u (here k) a (subst (λ z. Begins k (transaction_of s2 k) s2 z u) (sym e) b)
    step_alike (commits k) i r q t u same a b =
        let e : r ≡ q = word_same _ _ r q (commits_kind k s1 (transaction_of s1 k) r t a) same in
        commits_alike s1 s2 alike keeps all.shared.formed k (transaction_of s1 k) (transaction_of s2 k) r t u (here k) a (subst (λ z. Commits k (transaction_of s2 k) s2 z u) (sym e) b)
    step_alike (aborts k) i r q t u same a b =
        let e : r ≡ q = word_same [] [] r q (aborts_kind k s1 (transaction_of s1 k) r t a) same in
        aborts_alike s1 s2 alike k (transaction_of s1 k) (transaction_of s2 k) r t u (here k) a (subst (λ z. Aborts k (transaction_of s2 k) s2 z u) (sym e) b)
    step_alike (commands k bytes) i (plain r) (plain q) t u same a b =
        works_alike s1 s2 alike keeps all.shared.formed k bytes i.1 (transaction_of s1 k) (transaction_of s2 k) r q t u (here k) same
        (own_formed (transaction_of s1 k) (at_place IsSound s1.transactions (k - 1) all.own)) a b
    step_alike (other z) i (plain r) (plain q) t u same a b = both_stay s1 s2 alike t u a.2 b.2
    step_alike (commands k bytes) i (plain r) _ t u same a b = absurd b
    step_alike (other z) i (plain r) _ t u same a b = absurd b
    step_alike _ i _ _ t u same a b = absurd a

    named : Everywhere HasPlainNames s1
    named = record { shared = all.shared.names; own = all_named s1.transactions all.own }

  one_steps : (xs : List Tagged) (rs qs : List SharedForm) (s1 s2 t u : State) → AlikeStates s1 s2 → Everywhere IsSound s1 → AllByRecursion IsOfSession xs
      → SharedSteps s1 xs rs t → SharedSteps s2 xs qs u → shared_texts rs ≡ shared_texts qs → (map shared_text rs ≡ map shared_text qs) × (t.shared ≡ u.shared)
  one_steps [] [] [] s1 s2 t u alike all of p q e = (refl, ap (λ (v : State). v.shared) p ∙ alike.shared ∙ sym (ap (λ (v : State). v.shared) q))
  one_steps [] [] (r ∷ qs) s1 s2 t u alike all of p q e = absurd q
  one_steps [] (r ∷ rs) qs s1 s2 t u alike all of p q e = absurd p
  one_steps (x ∷ xs) [] qs s1 s2 t u alike all of p q e = absurd p
  one_steps (x ∷ xs) (r ∷ rs) [] s1 s2 t u alike all of p q e = absurd q
  one_steps (x ∷ xs) (r ∷ rs) (z ∷ qs) s1 s2 t u alike all of p q e =
      let told = forms_tell s1 s2 p.0 q.0 alike (named s1 s2 alike all) x r z p.1 q.1 (shared_texts rs) (shared_texts qs) e in
      let next = step_alike s1 s2 alike all x of.0 r z p.0 q.0 told.0 p.1 q.1 in
      let more = one_steps xs rs qs p.0 q.0 t u next (step_everywhere IsSound soundly s1 all x r p.0 p.1) of.1 p.2 q.2 told.1 in
      (ap₂ (λ (l : List ℕ) (ls : List (List ℕ)). l ∷ ls) (same_texts r z told.0) more.0, more.1)

  pub one_run : (limit : ℕ) (statements : List Statement) (xs : List Tagged) (replies others : List SharedForm) (s t : State) → AreTagged statements xs
      → SharedSteps (first_state limit) xs replies s → SharedSteps (first_state limit) xs others t → shared_texts replies ≡ shared_texts others
      → (map shared_text replies ≡ map shared_text others) × (s.shared ≡ t.shared)
  one_run limit statements xs replies others s t tagged p q e =
      one_steps xs replies others (first_state limit) (first_state limit) s t (alike_itself (first_state limit))
      (first_everywhere IsSound limit (record { formed = tt; names = tt })) (of_sessions statements xs tagged) p q e
