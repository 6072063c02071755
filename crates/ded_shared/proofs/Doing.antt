-- What a command may be answered over one catalogue, it may be over another one that is alike on its names, and makes of it what agrees on as many names.
use Rattle.std.proofs.Common.{◌≡◌, ℕ, Bool, true, false, List, [], ◌∷◌, ◌++◌, Option, Some, None, is_some, refl, sym, ap, ◌∙◌, subst, true≢false}
use Rattle.std.specs.Prelude.{◌↔◌, IsTrue}
use Rattle.std.specs.List.{AllByRecursion}
use Rattle.ded_box.specs.Extents.{IsBox}
use Rattle.ded_cert.specs.Pairs.{AreEntriesOf, IsFirstMeeting, IsVerified}
use Rattle.ded_model.specs.Catalogue.{Entry, Catalogue, entry_name, tuples_of, origin}
use Rattle.ded_model.specs.Catalogue as entry
use Rattle.ded_model.specs.Command.{CommandForm, header, relation, insert, delete, drop, view, keep, ask, query, show, box_of, explain, dump, disjoint, verify}
use Rattle.ded_model.specs.Entries.{known, entry_of, columns_in}
use Rattle.ded_model.specs.Form.{FormAtom}
use Rattle.ded_model.specs.Known.{IsWellFormed}
use Rattle.ded_model.specs.Logic.{Logics}
use Rattle.ded_model.specs.Row.{tuples_hold}
use Rattle.ded_model.specs.Slotted.{tuple_of}
use Rattle.ded_session.specs.Replies.{ReplyForm, done, number, truth, tuples, stored, boxes, steps, script, apart, meeting}
use Rattle.ded_session.specs.Steps.{Does}
use Rattle.ded_sorts.specs.Causes.{takes_name}
use Rattle.ded_sorts.specs.Changes.{AddsEntry, ChangesEntry, DropsEntry, Inserts}
use Rattle.ded_sorts.specs.Checks.{forms_of}
use Rattle.ded_views.proofs.Changing.{entry_there}
use Rattle.ded_views.proofs.Views.{name_known}
use Rattle.ded_shared.specs.Agreeing.{Agree}
use Rattle.ded_shared.proofs.NamesAlike.{Covers, AreAlike, columns_alike, tuples_alike, pairs_alike}
use Rattle.ded_shared.proofs.QuestionsAlike.{holds_alike, answer_alike, plan_alike}
use Rattle.ded_shared.proofs.Replaced.{found, added, changed, dropped, agree_after}

-- of a name that isn't known there is no entry
pub no_entry : (c : Catalogue) → IsWellFormed c → (n : List ℕ) → is_some (known c n) ≡ false → entry_of c.entries n ≡ None
no_entry c w n h = by (entry_of c.entries n) refl
  where
    by : (o : Option Entry) → entry_of c.entries n ≡ o → o ≡ None
    by None e = refl
    by (Some x) e = absurd (true≢false (sym (ap is_some (name_known c w n x e)) ∙ h))

module _ (c d : Catalogue) (w : IsWellFormed c) (v : IsWellFormed d) (among : List ℕ → Bool) (agree : Agree c d among) where
  -- over the other catalogue, the reply leads to one that agrees
  abbrev pub Follows : CommandForm → ReplyForm → Catalogue → Type 0
  Follows x reply e = (f : Catalogue) × Does x d reply f × Agree e f among

  -- where nothing is changed
  stays : (e : Catalogue) → e ≡ c → Agree e d among
  stays e is = subst (λ y. Agree y d among) (sym is) agree

  module _ (e : Catalogue) (names : List ℕ → Bool) (s : AreAlike c d names) where
    -- ---- changes

    -- an entry more
    adds : (x : Entry) → names (entry_name x) ≡ true → is_some (known c (entry_name x)) ≡ false → AddsEntry c e x → (f : Catalogue) × AddsEntry d f x × Agree e f among
    adds x n new k =
        let none = no_entry c w (entry_name x) new in
        let f : Catalogue = record d { entries = d.entries ++ x ∷ [] } in
        (f, refl, agree_after c d e f among (entry_name x) (Some x) (added c e x none k) (added d f x (s.entries (entry_name x) n ∙ none) refl) agree)

    -- another entry of a name
    changes : (n : List ℕ) (old new : Entry) → names n ≡ true → entry_name new ≡ n → ChangesEntry c e n old new → (f : Catalogue) × ChangesEntry d f n old new × Agree e f among
    changes n old new i named k =
        let r = found d.entries n old (s.entries n i ∙ entry_there c k.before k.after old n w k.was k.named) in
        let f : Catalogue = record d { entries = r.before ++ new ∷ r.after } in
        let l : ChangesEntry d f n old new = record { before = r.before; after = r.after; was = r.parts; is = refl; named = r.named } in
        (f, l, agree_after c d e f among n (Some new) (changed c e n old new w named k) (changed d f n old new v named l) agree)

    -- an entry less
    drops : (n : List ℕ) → names n ≡ true → DropsEntry c e n → (f : Catalogue) × DropsEntry d f n × Agree e f among
    drops n i k =
        let r = found d.entries n k.old (s.entries n i ∙ entry_there c k.before k.after k.old n w k.was k.named) in
        let f : Catalogue = record d { entries = r.before ++ r.after } in
        let l : DropsEntry d f n = record { before = r.before; old = k.old; after = r.after; was = r.parts; is = refl; named = r.named } in
        (f, l, agree_after c d e f among n None (dropped c e n w k) (dropped d f n v l) agree)

    inserts : (n : List ℕ) (fs : Logics FormAtom) (k : ℕ) → names n ≡ true → Does (insert n fs) c (number k) e → Follows (insert n fs) (number k) e
    inserts n fs k i x =
        let t = tuple_of (columns_in c n) (forms_of fs) in
        let r = changes n (entry.relation n x.columns x.inserts x.present) (entry.relation n x.columns k (x.present ++ (k, t) ∷ [])) i refl x.changes in
        let l : Inserts d r.0 n t k = record { columns = x.columns; inserts = x.inserts; present = x.present; number = x.number; changes = r.1 } in
        (r.0, subst (λ h. Inserts d r.0 n (tuple_of h (forms_of fs)) k) (columns_alike c d names s n i) l, r.2)

    deletes : (n : List ℕ) (k : ℕ) → names n ≡ true → Does (delete n k) c done e → Follows (delete n k) done e
    deletes n k i x =
        let r = changes n (entry.relation n x.columns x.inserts (x.before ++ (k, x.tuple) ∷ x.after)) (entry.relation n x.columns x.inserts (x.before ++ x.after)) i refl x.changes in
        (r.0, record { columns = x.columns; inserts = x.inserts; before = x.before; tuple = x.tuple; after = x.after; changes = r.1 }, r.2)

    -- ---- commands

    pub does_over : (x : CommandForm) (reply : ReplyForm) → Covers names x → takes_name c x ≡ false → (x ≡ dump → ⊥) → Does x c reply e → Follows x reply e
    does_over header done p new nd k = (d, refl, stays e k)
    does_over (relation n h) done p new nd k = adds (entry.relation n h 0 []) p.beside.0 new k
    does_over (insert n fs) (number i) p new nd k = inserts n fs i p.beside.0 k
    does_over (delete n i) done p new nd k = deletes n i p.beside.0 k
    does_over (drop n) done p new nd k = drops n p.beside.0 k
    does_over (view n h f) done p new nd k = adds (entry.view n h f) p.beside.0 new k
    does_over (keep n) done p new nd k = (d, refl, stays e k)
    does_over (ask f) (truth b) p new nd k =
        let a = holds_alike c d names s [] f (p.spoken f refl) origin in
        (d, ((λ t. a.0 (k.0.0 t), λ h. k.0.1 (a.1 h)), refl), stays e k.1)
    does_over (query h f) (tuples g ts) p new nd k = (d, (k.0, answer_alike c d names s h f (p.spoken f refl) ts k.1, refl), stays e k.2)
    does_over (show n) (stored h ts) p new nd k = (d, (k.0 ∙ columns_alike c d names s n p.beside.0, k.1 ∙ tuples_alike c d names s n p.beside.0, refl), stays e k.2)
    does_over (box_of n) (boxes h r) p new nd k =
        (d, (k.0 ∙ columns_alike c d names s n p.beside.0, subst (λ us. IsBox (tuples_hold (tuples_of us)) h r) (tuples_alike c d names s n p.beside.0) k.1, refl), stays e k.2)
    does_over (explain h f) (steps plan) p new nd k = (d, (plan_alike c d names s h f (p.spoken f refl) plan k.0, refl), stays e k.1)
    does_over dump (script lines) p new nd k = absurd (nd refl)
    does_over (disjoint n m) (apart es) p new nd k = (d, (subst (λ ps. AreEntriesOf ps es) (pairs_alike c d names s n m p.beside.0 p.beside.1.0) k.0, refl), stays e k.1)
    does_over (disjoint n m) (meeting i j) p new nd k = (d, (subst (λ ps. IsFirstMeeting ps i j) (pairs_alike c d names s n m p.beside.0 p.beside.1.0) k.0, refl), stays e k.1)
    does_over (verify n m es) (truth b) p new nd k =
        (d, (subst (λ ps. IsTrue b ↔ AllByRecursion (IsVerified es) ps) (pairs_alike c d names s n m p.beside.0 p.beside.1.0) k.0, refl), stays e k.1)
    does_over _ _ p new nd k = absurd k
