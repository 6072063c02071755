-- Each statement is some tagged one, which may get some reply in each state.
use Rattle.std.proofs.Common.{◌≡◌, ◌<◌, ◌≤◌, ◌-◌, ℕ, Bool, true, false, ◌&&◌, ◌||◌, List, [], ◌∷◌, ◌++◌, Option, Some, None, slice_set, length, drop, if◌then◌else◌, refl, sym, ap, ◌∙◌, subst, inl, inr, ⊎_elim, arith, append-nil, length-drop, true≢false}
use Rattle.std.proofs.lemmas.List.{set-get_or}
use Rattle.std.proofs.lemmas.Bool.Decides.{leb_tells}
use Rattle.ded_dialogue.specs.Replies.{Said}
use Rattle.ded_dialogue.specs.Runs.{SomeAnswer}
use Rattle.ded_lex.specs.Pieces.{Statement, Whole, statement_bytes}
use Rattle.ded_lex.specs.Pieces as pieces
use Rattle.ded_model.specs.declared.command.Language.TheVariants.{One}
use Rattle.ded_model.specs.declared.command.Refusal.{Refusal}
use Rattle.ded_model.specs.declared.command.Refusal.TheVariants.{LongStatement, Unfinished, Memory}
use Rattle.ded_model.specs.Catalogue.{Catalogue}
use Rattle.ded_model.specs.Command.{CommandForm, relation, insert, delete, drop as drops, view}
use Rattle.ded_shared.specs.Touching.{touches, changes, depends_on_names}
use Rattle.ded_session.specs.Following.{long_step, rest_step}
use Rattle.ded_session.specs.Replies.{refused}
use Rattle.ded_session.specs.Steps.{MayRefuse}
use Rattle.ded_shared.specs.Deciding.{some_tagged}
use Rattle.ded_shared.specs.Forms.{SharedForm, plain}
use Rattle.ded_shared.specs.Hearing.{MayAnswer, said_of}
use Rattle.ded_shared.specs.Rules.{is_change, Remembers, Works, SharedStep}
use Rattle.ded_shared.specs.State.{Transaction, State, is_among, transaction_of, with_stale, all_with_stale, with_transaction}
use Rattle.ded_shared.specs.Tags.{Tagged, begins, commits, aborts, commands, other, HasTag, IsTagged, IsTaggedPiece}

-- ---- refused commands

-- a refused command changes no name
pub no_change : (c : Catalogue) (x : CommandForm) (r : Refusal) (n : List ℕ) → changes c x (refused r) n ≡ false
no_change c (relation m h) r n = refl
no_change c (insert m fs) r n = refl
no_change c (delete m k) r n = refl
no_change c (view m h f) r n = refl
no_change c (drops m) r n = refl
no_change c _ r n = refl

-- no name more is stale
pub none_staler : (xs : List (Option Transaction)) → all_with_stale [] xs ≡ xs
none_staler [] = refl
none_staler (None ∷ xs) = ap (λ (ys : List (Option Transaction)). None ∷ ys) (none_staler xs)
none_staler (Some x ∷ xs) =
    ap (λ (ys : List (Option Transaction)). Some (with_stale [] x) ∷ ys) (none_staler xs) ∙ ap (λ (l : List (List ℕ)). Some (record x { stale = l }) ∷ xs) (append-nil x.stale)

-- the session's transaction stays as it is
pub same_place : (s : State) (k : ℕ) (x : Transaction) → transaction_of s k ≡ Some x → s ≡ with_transaction s k (Some x)
same_place s k x e = ap (λ (xs : List (Option Transaction)). record s { transactions = xs }) (sym (ap (slice_set s.transactions (k - 1)) (sym e) ∙ set-get_or s.transactions (k - 1) None))

-- a command may be refused by its bytes alone, and for want of memory, and then changes nothing
module _ (bytes : List ℕ) (r : Refusal) (blind : depends_on_names (refused r) ≡ false) (may : (c : Catalogue) → MayRefuse r One (Whole bytes) c) where
  remembers_nothing : (x : Transaction) (command : CommandForm) → Remembers bytes (refused r) command x x
  remembers_nothing x command = record {
    accepted = none_accepted (is_change command);
    touched = λ n. none_touched (is_among x.touched n) (depends_on_names (refused r)) (touches x.own command n) (changes x.own command (refused r) n) blind (no_change x.own command r n);
    changed = λ n. none_changed (is_among x.changed n) (changes x.own command (refused r) n) (no_change x.own command r n);
    stale = refl;
  }
    where
      none_accepted : (b : Bool) → x.accepted ≡ (if b && false then x.accepted ++ bytes ∷ [] else x.accepted)
      none_accepted true = refl
      none_accepted false = refl

      none_touched : (a d t c : Bool) → d ≡ false → c ≡ false → a ≡ (a || (d && t) || c)
      none_touched true d t c e f = refl
      none_touched false true t c e f = absurd (true≢false e)
      none_touched false false t true e f = absurd (true≢false f)
      none_touched false false t false e f = refl

      none_changed : (a c : Bool) → c ≡ false → a ≡ (a || c)
      none_changed true c f = refl
      none_changed false true f = absurd (true≢false f)
      none_changed false false f = refl

  -- a refusal that the command may get over each catalogue, and that doesn't depend on names, it may get in each state,
  -- in the open transaction of the session or outside, and then changes nothing
  pub works_refused : (s : State) (k : ℕ) (o : Option Transaction) → transaction_of s k ≡ o → Works k bytes o s (refused r) s
  works_refused s k (Some x) e = record {
    after = x;
    step = (may x.own, refl);
    remembers = λ command depth spells. remembers_nothing x command;
    is = same_place s k x e;
  }
  works_refused s k None e = record {
    step = (may s.shared, refl);
    names = [];
    are = λ command depth spells n. sym (no_change s.shared command r n);
    transactions = sym (none_staler s.transactions);
  }

-- ---- refused statements

-- what stands behind a tag has no more bytes
pub behind_tag : (bytes : List ℕ) (k : ℕ) (rest : List ℕ) → length bytes ≤ 65536 → HasTag bytes k rest → length rest ≤ 65536
behind_tag bytes k rest short h = subst (λ (l : List ℕ). length l ≤ 65536) (sym h.behind) (fewer h.colon.end (length-drop h.colon.end bytes))
  where
    fewer : (i : ℕ) → length (drop i bytes) ≡ length bytes - i → length (drop i bytes) ≤ 65536
    fewer i e = omega (arith, e, short)

-- for want of memory
pub want_step : (bytes : List ℕ) → length bytes ≤ 65536 → (x : Tagged) → IsTaggedPiece bytes x → (s : State) → SharedStep s x (plain (refused Memory)) s
want_step bytes short (begins k) p s = refl
want_step bytes short (commits k) p s = refl
want_step bytes short (aborts k) p s = refl
want_step bytes short (commands k rest) p s = works_refused rest Memory refl (λ c. (behind_tag bytes k rest short p.1.tag, λ h. h)) s k (transaction_of s k) refl
want_step bytes short (other z) (inl p) s = let long = p.0 in absurd (omega (arith, short, long))
want_step bytes short (other z) (inr p) s = subst (λ (t : Statement). SharedStep s (other t) (plain (refused Memory)) s) (sym p.2) (((nothing_short, λ h. h), refl), refl, refl)
  where
    nothing_short : 0 ≤ 65536
    nothing_short = omega arith

-- a statement of more than 65,536 bytes
pub long_reply : (statement : Statement) → 65536 < length (statement_bytes statement) → (x : Tagged) → IsTagged statement x → (s : State) → SharedStep s x (plain (refused LongStatement)) s
long_reply (Whole bytes) long (begins k) p s = let short = p.0 in absurd (omega (arith, short, long))
long_reply (Whole bytes) long (commits k) p s = let short = p.0 in absurd (omega (arith, short, long))
long_reply (Whole bytes) long (aborts k) p s = let short = p.0 in absurd (omega (arith, short, long))
long_reply (Whole bytes) long (commands k rest) p s = let short = p.0 in absurd (omega (arith, short, long))
long_reply (Whole bytes) long (other z) (inl p) s = subst (λ (t : Statement). SharedStep s (other t) (plain (refused LongStatement)) s) (sym p.1) (long_step One s.shared (Whole bytes) long, refl, refl)
long_reply (Whole bytes) long (other z) (inr p) s = let short = p.0 in absurd (omega (arith, short, long))
long_reply (pieces.Unfinished rest) long x p s =
    subst (λ (y : Tagged). SharedStep s y (plain (refused LongStatement)) s) (sym p) (long_step One s.shared (pieces.Unfinished rest) long, refl, refl)

-- a rest of at most so many
pub rest_reply : (rest : List ℕ) → length rest ≤ 65536 → (x : Tagged) → IsTagged (pieces.Unfinished rest) x → (s : State) → SharedStep s x (plain (refused Unfinished)) s
rest_reply rest short x p s = subst (λ (y : Tagged). SharedStep s y (plain (refused Unfinished)) s) (sym p) (rest_step One s.shared rest short, refl, refl)

-- a reply that a statement may get, and that changes nothing
some_reply : (statement : Statement) (x : Tagged) → IsTagged statement x → (s : State) → (reply : SharedForm) × SharedStep s x reply s
some_reply (Whole bytes) x p s = ⊎_elim (λ t. (plain (refused Memory), want_step bytes t.1 x p s)) (λ f. (plain (refused LongStatement), long_reply (Whole bytes) f.1 x p s)) (leb_tells (length bytes) 65536)
some_reply (pieces.Unfinished rest) x p s = ⊎_elim (λ t. (plain (refused Unfinished), rest_reply rest t.1 x p s)) (λ f. (plain (refused LongStatement), long_reply (pieces.Unfinished rest) f.1 x p s)) (leb_tells (length rest) 65536)

-- behind a statement that was answered any other may get some reply
pub any_next : (m n : State) (s next : Statement) (said : Said) → MayAnswer m s said n → SomeAnswer MayAnswer n next
any_next m n s next said a =
    let t = some_tagged next in
    let reply = some_reply next t.0 t.1 n in
    record {
      reply = said_of reply.0;
      after = n;
      is = record { reply = reply.0; step = record { tagged = t.0; is = t.1; step = reply.1 }; is = refl };
    }
