-- The texts of the replies to one tagged statement: no one is a proper front of another.
use Rattle.std.proofs.Common.{◌≡◌, ◌≢◌, ℕ, ◌-◌, ◌&&◌, List, [], ◌++◌, get_or, refl, sym, ap, ap₂, ◌∙◌, subst}
use Rattle.std.specs.Prelude.{◌==◌, if◌then◌else◌, Option, Some, None, IfSome}
use Rattle.std.specs.declared.cmp.Ordering.{Ordering}
use Rattle.std.specs.declared.cmp.Ordering.TheVariants.{Less, Equal, Greater}
use Rattle.std.specs.Ordering.{nat_cmp, ordering_reverse}
use Rattle.std.specs.Cmp.Lexicographic.{slice_cmp}
use Rattle.std.proofs.lemmas.Cmp.{nat_list_cmp_total}
use Rattle.std.proofs.lemmas.List.{append_cancel_left}
use Rattle.std.proofs.lemmas.Map.Lookups.{exact_bytes}
use Rattle.ded_lex.specs.Pieces.{Statement, Whole}
use Rattle.ded_model.specs.declared.command.Language.TheVariants.{One}
use Rattle.ded_model.specs.declared.command.Refusal.TheVariants.{Memory}
use Rattle.ded_model.specs.Catalogue.{Catalogue}
use Rattle.ded_print.specs.Numbers.{number_text}
use Rattle.ded_session.specs.PlainNames.{HasPlainNames}
use Rattle.ded_session.specs.Replies.{ReplyForm, done, refused}
use Rattle.ded_session.specs.Steps.{Step}
use Rattle.ded_session.proofs.PlainNames.{plain_step}
use Rattle.ded_session.proofs.Telling.{AreAlike, alike_itself, texts_alike, replies_alike}
use Rattle.ded_shared.specs.Conflicts.{in_both, IsLeastInBoth}
use Rattle.ded_shared.specs.Forms.{SharedForm, plain, begun, not_begun, conflict}
use Rattle.ded_shared.specs.PlainNames.{HavePlainNames}
use Rattle.ded_shared.specs.Rules.{Works, Begins, Commits, Aborts, SharedStep}
use Rattle.ded_shared.specs.State.{Transaction, State, transaction_of, first_state}
use Rattle.ded_shared.specs.Tags.{Tagged, begins, commits, aborts, commands, other}
use Rattle.ded_shared.specs.Texts.{shared_text}
use Rattle.ded_shared.proofs.AlikeStates.{AreAmong, BothOpen, AlikeStates, each_at}
use Rattle.ded_shared.proofs.AlikeStates.{alike_itself as alike_states}
use Rattle.ded_shared.proofs.Everywhere.{Everywhere, Keeps, at_place, first_everywhere, step_everywhere}

-- where the texts begin the same bytes, the replies are the same, or as replies to one command are
abbrev pub SameForm : SharedForm → SharedForm → Type 0
SameForm (plain r) (plain q) = AreAlike r q
SameForm r q = r ≡ q

abbrev pub Tell : SharedForm → SharedForm → Type 0
Tell r q = (xs ys : List ℕ) → shared_text r ++ xs ≡ shared_text q ++ ys → SameForm r q × (xs ≡ ys)

same_form : (r : SharedForm) → SameForm r r
same_form (plain r) = alike_itself r
same_form begun = refl
same_form not_begun = refl
same_form (conflict n) = refl

same_reply : (r : SharedForm) → Tell r r
same_reply r xs ys e = (same_form r, append_cancel_left (shared_text r) xs ys e)

pub same_texts : (r q : SharedForm) → SameForm r q → shared_text r ≡ shared_text q
same_texts (plain r) (plain q) a = texts_alike r q a
same_texts r q a = ap shared_text a

-- ---- replies about transactions

-- done; the want of memory; begun; not begun; a conflict
pub data Kind : Type 0 where
  finished : Kind
  wanting : Kind
  opened : Kind
  unopened : Kind
  conflicting : Kind

abbrev pub reply_of : List ℕ → Kind → SharedForm
reply_of n finished = plain done
reply_of n wanting = plain (refused Memory)
reply_of n opened = begun
reply_of n unopened = not_begun
reply_of n conflicting = conflict n

-- what tells a kind in its text: the last digit of the number of a refusal
abbrev mark : Kind → ℕ
mark finished = 0
mark wanting = 49
mark opened = 50
mark unopened = 51
mark conflicting = 52

abbrev kind_of : ℕ → Kind
kind_of b = if b == 0 then finished else if b == 49 then wanting else if b == 50 then opened else if b == 51 then unopened else conflicting

marked : (k : Kind) → kind_of (mark k) ≡ k
marked finished = refl
marked wanting = refl
marked opened = refl
marked unopened = refl
marked conflicting = refl

abbrev seen : List ℕ → ℕ
seen bs = if get_or bs 0 0 == 111 then 0 else get_or bs 9 0

mark_seen : (n xs : List ℕ) (k : Kind) → seen (shared_text (reply_of n k) ++ xs) ≡ mark k
unfolding number_text
mark_seen n xs finished = refl
mark_seen n xs wanting = refl
mark_seen n xs opened = refl
mark_seen n xs unopened = refl
mark_seen n xs conflicting = refl

same_name : (n m : List ℕ) (k : Kind) → (k ≡ conflicting → n ≡ m) → reply_of n k ≡ reply_of m k
same_name n m finished h = refl
same_name n m wanting h = refl
same_name n m opened h = refl
same_name n m unopened h = refl
same_name n m conflicting h = ap conflict (h refl)

tell_kinds : (n m : List ℕ) (k j : Kind) → (k ≡ conflicting → j ≡ conflicting → n ≡ m) → Tell (reply_of n k) (reply_of m j)
tell_kinds n m k j h xs ys e =
    let same : k ≡ j = sym (marked k) ∙ ap kind_of (sym (mark_seen n xs k) ∙ ap seen e ∙ mark_seen m ys j) ∙ marked j in
    let is : reply_of n k ≡ reply_of m j = same_name n m k (λ c. h c (sym same ∙ c)) ∙ ap (reply_of m) same in
    subst (λ r. Tell (reply_of n k) r) is (same_reply (reply_of n k)) xs ys e

-- it is of some kind, and at a conflict the name is the least of these
pub record IsOfKind (touched stale : List (List ℕ)) (r : SharedForm) : Type 0 where
  pub name : List ℕ
  pub kind : Kind
  pub is : r ≡ reply_of name kind
  pub least : kind ≡ conflicting → IsLeastInBoth touched stale name

-- so it is the same as each reply that begins alike
kind_same : (n : List ℕ) (k : Kind) (q : SharedForm) → SameForm (reply_of n k) q → reply_of n k ≡ q
kind_same n finished (plain q) a = ap plain a
kind_same n finished _ a = a
kind_same n wanting (plain q) a = ap plain a
kind_same n wanting _ a = a
kind_same n opened q a = a
kind_same n unopened q a = a
kind_same n conflicting q a = a

pub word_same : (touched stale : List (List ℕ)) (r q : SharedForm) → IsOfKind touched stale r → SameForm r q → r ≡ q
word_same touched stale r q h a = h.is ∙ kind_same h.name h.kind q (subst (λ x. SameForm x q) h.is a)

-- two names of which neither is less than the other
same_order : (m n : List ℕ) (o p : Ordering) → slice_cmp nat_cmp m n ≡ o → slice_cmp nat_cmp n m ≡ p → o ≢ Less → p ≢ Less → m ≡ n
same_order m n Less p e f a b = absurd (a refl)
same_order m n Equal p e f a b = exact_bytes m n e
same_order m n Greater p e f a b = absurd (b (sym f ∙ nat_list_cmp_total.antisymm n m ∙ ap ordering_reverse e))

one_least : (touched stale : List (List ℕ)) (m n : List ℕ) → IsLeastInBoth touched stale m → IsLeastInBoth touched stale n → m ≡ n
one_least touched stale m n a b = same_order m n _ _ refl refl (b.least m a.both) (a.least n b.both)

tell : (touched stale : List (List ℕ)) (r q : SharedForm) → IsOfKind touched stale r → IsOfKind touched stale q → Tell r q
tell touched stale r q a b =
    let t : Tell (reply_of a.name a.kind) (reply_of b.name b.kind) = tell_kinds a.name b.name a.kind b.kind (λ c d. one_least touched stale a.name b.name (a.least c) (b.least d)) in
    subst (λ x. Tell x q) (sym a.is) (subst (λ x. Tell (reply_of a.name a.kind) x) (sym b.is) t)

-- the least name is the same in the same names
least_among : (ts us ns ms : List (List ℕ)) (n : List ℕ) → AreAmong ts us → AreAmong ns ms → IsLeastInBoth us ms n → IsLeastInBoth ts ns n
least_among ts us ns ms n a b h = record { both = same n ∙ h.both; least = λ m both. h.least m (sym (same m) ∙ both) }
  where
    same : (m : List ℕ) → in_both ts ns m ≡ in_both us ms m
    same m = ap₂ (λ x y. x && y) (a m) (b m)

kind_among : (ts us ns ms : List (List ℕ)) (r : SharedForm) → AreAmong ts us → AreAmong ns ms → IsOfKind us ms r → IsOfKind ts ns r
kind_among ts us ns ms r a b h = record { name = h.name; kind = h.kind; is = h.is; least = λ c. least_among ts us ns ms h.name a b (h.least c) }

no_conflict : (touched stale : List (List ℕ)) (r : SharedForm) (k : Kind) → k ≢ conflicting → r ≡ reply_of [] k → IsOfKind touched stale r
no_conflict touched stale r k h e = record { name = []; kind = k; is = e; least = λ c. absurd (h c) }

module _ (k : ℕ) (s : State) where
  pub begins_kind : (x : Option Transaction) (r : SharedForm) (u : State) → Begins k x s r u → IsOfKind [] [] r
  begins_kind x (plain (refused Memory)) u p = no_conflict [] [] _ wanting (λ e. cc) refl
  begins_kind None (plain done) u p = no_conflict [] [] _ finished (λ e. cc) refl
  begins_kind (Some x) begun u p = no_conflict [] [] _ opened (λ e. cc) refl
  begins_kind _ _ u p = absurd p

  pub aborts_kind : (x : Option Transaction) (r : SharedForm) (u : State) → Aborts k x s r u → IsOfKind [] [] r
  aborts_kind x (plain (refused Memory)) u p = no_conflict [] [] _ wanting (λ e. cc) refl
  aborts_kind None not_begun u p = no_conflict [] [] _ unopened (λ e. cc) refl
  aborts_kind (Some x) (plain done) u p = no_conflict [] [] _ finished (λ e. cc) refl
  aborts_kind _ _ u p = absurd p

  abbrev pub touched_in : Option Transaction → List (List ℕ)
  touched_in None = []
  touched_in (Some x) = x.touched

  abbrev pub stale_in : Option Transaction → List (List ℕ)
  stale_in None = []
  stale_in (Some x) = x.stale

  pub commits_kind : (x : Option Transaction) (r : SharedForm) (u : State) → Commits k x s r u → IsOfKind (touched_in x) (stale_in x) r
  commits_kind x (plain (refused Memory)) u p = no_conflict (touched_in x) (stale_in x) _ wanting (λ e. cc) refl
  commits_kind None not_begun u p = no_conflict [] [] _ unopened (λ e. cc) refl
  commits_kind (Some x) (plain done) u p = no_conflict x.touched x.stale _ finished (λ e. cc) refl
  commits_kind (Some x) (conflict n) u p = record { name = n; kind = conflicting; is = refl; least = λ c. p.0 }
  commits_kind _ _ u p = absurd p

  both_kinds : (x y : Option Transaction) (r : SharedForm) → BothOpen x y → IsOfKind (touched_in y) (stale_in y) r → IsOfKind (touched_in x) (stale_in x) r
  both_kinds None None r a h = h
  both_kinds None (Some y) r a h = absurd a
  both_kinds (Some x) None r a h = absurd a
  both_kinds (Some x) (Some y) r a h = kind_among x.touched y.touched x.stale y.stale r a.touched a.stale h

-- ---- replies to commands

plain_tell : (r q : ReplyForm) (c d e : Catalogue) (z : Statement) → HasPlainNames c → Step One c z r d → Step One c z q e → Tell (plain r) (plain q)
plain_tell r q c d e z names a b xs ys f = replies_alike One c d e z r q xs ys names a b f

over : (c d e : Catalogue) (z : Statement) (q : ReplyForm) → c ≡ d → Step One d z q e → Step One c z q e
over c d e z q same b = subst (λ g. Step One g z q e) (sym same) b

works_tell : (k : ℕ) (bytes : List ℕ) (s1 s2 t u : State) (x y : Option Transaction) (r q : ReplyForm) → s1.shared ≡ s2.shared → BothOpen x y → HasPlainNames s1.shared → IfSome x (λ z. HasPlainNames z.own)
    → Works k bytes x s1 r t → Works k bytes y s2 q u → Tell (plain r) (plain q)
works_tell k bytes s1 s2 t u None None r q same both shared own a b = plain_tell r q s1.shared t.shared u.shared (Whole bytes) shared a.step (over s1.shared s2.shared u.shared (Whole bytes) q same b.step)
works_tell k bytes s1 s2 t u None (Some y) r q same both shared own a b = absurd both
works_tell k bytes s1 s2 t u (Some x) None r q same both shared own a b = absurd both
works_tell k bytes s1 s2 t u (Some x) (Some y) r q same both shared own a b =
    plain_tell r q x.own a.after.own b.after.own (Whole bytes) own a.step (over x.own y.own b.after.own (Whole bytes) q both.own b.step)

-- replies to one tagged statement over alike states
module _ (s1 s2 t u : State) (alike : AlikeStates s1 s2) (names : Everywhere HasPlainNames s1) where
  pub forms_tell : (x : Tagged) (r q : SharedForm) → SharedStep s1 x r t → SharedStep s2 x q u → Tell r q
  forms_tell (begins k) r q a b = tell [] [] r q (begins_kind k s1 (transaction_of s1 k) r t a) (begins_kind k s2 (transaction_of s2 k) q u b)
  forms_tell (commits k) r q a b =
      tell _ _ r q (commits_kind k s1 (transaction_of s1 k) r t a)
      (both_kinds k s1 (transaction_of s1 k) (transaction_of s2 k) q (each_at s1.transactions s2.transactions (k - 1) alike.each) (commits_kind k s2 (transaction_of s2 k) q u b))
  forms_tell (aborts k) r q a b = tell [] [] r q (aborts_kind k s1 (transaction_of s1 k) r t a) (aborts_kind k s2 (transaction_of s2 k) q u b)
  forms_tell (commands k bytes) (plain r) (plain q) a b =
      works_tell k bytes s1 s2 t u (transaction_of s1 k) (transaction_of s2 k) r q alike.shared (each_at s1.transactions s2.transactions (k - 1) alike.each)
      names.shared (at_place HasPlainNames s1.transactions (k - 1) names.own) a b
  forms_tell (other z) (plain r) (plain q) a b =
      plain_tell r q s1.shared s1.shared s2.shared z names.shared a.0 (over s1.shared s2.shared s2.shared z q alike.shared b.0)
  forms_tell (commands k bytes) (plain r) _ a b = absurd b
  forms_tell (other z) (plain r) _ a b = absurd b
  forms_tell _ _ _ a b = absurd a

-- ---- over one state

abbrev pub everywhere : (s : State) → HavePlainNames s → Everywhere HasPlainNames s
everywhere s h = record { shared = h.shared; own = h.own }

pub texts_tell : (s t u : State) (names : HavePlainNames s) (x : Tagged) (r q : SharedForm) (xs ys : List ℕ) → SharedStep s x r t → SharedStep s x q u
    → shared_text r ++ xs ≡ shared_text q ++ ys → (shared_text r ≡ shared_text q) × (xs ≡ ys)
texts_tell s t u names x r q xs ys a b e =
    let told = forms_tell s s t u (alike_states s) (everywhere s names) x r q a b xs ys e in
    (same_texts r q told.0, told.1)

-- ---- plain names

plainly : Keeps HasPlainNames
plainly c d s reply h p = plain_step One c d s reply h p

pub first_plain : (limit : ℕ) → HavePlainNames (first_state limit)
first_plain limit = let h = first_everywhere HasPlainNames limit tt in record { shared = h.shared; own = h.own }

pub step_plain : (s : State) → HavePlainNames s → (x : Tagged) (r : SharedForm) (t : State) → SharedStep s x r t → HavePlainNames t
step_plain s names x r t p = let h = step_everywhere HasPlainNames plainly s (everywhere s names) x r t p in record { shared = h.shared; own = h.own }
