-- What stands behind a tag and is refused by its bytes alone.
use Rattle.std.proofs.Common.{◌≡◌, ◌≢◌, ◌<◌, ◌≤◌, ℕ, false, List, [], ◌∷◌, ◌++◌, length, drop, map, refl, sym, ap, ◌∙◌, subst, inl, inr, arith, Option, Some, None, is_some, MatchOption, true≢false}
use Rattle.ded_lex.specs.declared.token.Token.{Token}
use Rattle.ded_lex.specs.Pieces.{Statement, Whole}
use Rattle.ded_lex.specs.Tokens.{AreLexemes}
use Rattle.ded_lex.proofs.TokenLists.{one_token_list}
use Rattle.ded_model.specs.declared.command.Language.TheVariants.{One}
use Rattle.ded_model.specs.declared.command.Refusal.{Refusal}
use Rattle.ded_model.specs.declared.command.Refusal.TheVariants.{LongStatement, Unfinished, Syntax, LongName, LongNumber, Deep, Memory}
use Rattle.ded_model.specs.Catalogue.{Catalogue}
use Rattle.ded_model.specs.Command.{CommandForm}
use Rattle.ded_model.specs.Refusals.{refusal_number}
use Rattle.ded_syntax.specs.Commands.{Plain, opens, defines, inserts_none, inserts, deletes, drops, keeps, shows, boxes, dumps, certifies, verifies_none, verifies, Prefix, views, asks, queries, explains, spell_plain, spell_prefix, SpellsCommand as SpellsSymbols}
use Rattle.ded_terminals.specs.Literals.{exact}
use Rattle.ded_syntax.specs.Spelling.{Spells, AppliesIn, IsLeastIn, IsRead}
use Rattle.ded_terminals.specs.Symbols.{Symbol, symbol}
use Rattle.ded_terminals.proofs.Seen.{one_list}
use Rattle.ded_shared.specs.Touching.{depends_on_names}
use Rattle.ded_session.specs.Replies.{ReplyForm, refused}
use Rattle.ded_session.specs.Steps.{MayRefuse}
use Rattle.ded_session.proofs.StepLemmas.{may_refuse}
use Rattle.ded_shared.specs.Deciding.{some_tagged}
use Rattle.ded_shared.specs.Forms.{SharedForm, plain}
use Rattle.ded_shared.specs.Going.{behind_tag, want_step, works_refused}
use Rattle.ded_shared.specs.Pieces.{StepsTagged}
use Rattle.ded_shared.specs.Rules.{SharedStep, Works, Begins, Commits, Aborts}
use Rattle.ded_shared.specs.State.{State, transaction_of}
use Rattle.ded_shared.specs.Tags.{Tagged, begins, commits, aborts, commands, other, HasTag, IsWord, HasNoTag, IsTaggedPiece}
use Rattle.ded_shared.specs.Verbs.{verb_word}
use Rattle.ded_shared.specs.declared.tag.Verb.{Verb}
use Rattle.ded_shared.specs.declared.tag.Verb.TheVariants.{Begin, Commit, Abort}

-- ---- one tag

same_first : {X : Type 0} (x y z w : X) (xs ys : List X) → x ∷ z ∷ xs ≡ y ∷ w ∷ ys → z ≡ w
same_first x y z w xs ys e = cc

pub same_rest : (bytes : List ℕ) (k j : ℕ) (rest more : List ℕ) → HasTag bytes k rest → HasTag bytes j more → more ≡ rest
same_rest bytes k j rest more h g =
    let e : g.colon ≡ h.colon = same_first g.number h.number g.colon h.colon g.more h.more (one_token_list bytes (g.number ∷ g.colon ∷ g.more) (h.number ∷ h.colon ∷ h.more) g.are h.are) in
    g.behind ∙ ap (λ (t : Token). drop t.end bytes) e ∙ sym h.behind

-- ---- no bytes

nothing_plain : (p : Plain) → [] ≡ spell_plain p → ⊥
nothing_plain (opens d two) e = cc
nothing_plain (defines n h) e = cc
nothing_plain (inserts_none n) e = cc
nothing_plain (inserts n c cs) e = cc
nothing_plain (deletes n d) e = cc
nothing_plain (drops n) e = cc
nothing_plain (keeps n) e = cc
nothing_plain (shows n) e = cc
nothing_plain (boxes n) e = cc
nothing_plain dumps e = cc
nothing_plain (certifies n m) e = cc
nothing_plain (verifies_none n m) e = cc
nothing_plain (verifies n m x xs) e = cc

nothing_before : (p : Prefix) (rest : List Symbol) → [] ≡ spell_prefix p ++ rest → ⊥
nothing_before (views n h) rest e = cc
nothing_before asks rest e = cc
nothing_before (queries h) rest e = cc
nothing_before (explains h) rest e = cc

nothing_spelled : (x : CommandForm) (depth : ℕ) → SpellsSymbols exact [] x depth → ⊥
nothing_spelled x depth (inl p) = nothing_plain p.plain p.spelled
nothing_spelled x depth (inr p) = nothing_before p.before p.rest p.spelled

-- no bytes spell no command
no_bytes : (x : CommandForm) (depth : ℕ) → Spells One [] x depth → ⊥
no_bytes x depth s = nothing_spelled x depth (subst (λ (ts : List Symbol). SpellsSymbols exact ts x depth) (ap (map (symbol One)) (one_list [] s.lexemes [] s.are none)) s.command)
  where
    none : AreLexemes [] []
    none = record { cells = []; is = refl; each = tt; lexemes_are = refl }

empty_syntax : IsLeastIn Syntax One []
empty_syntax = record { applies = no_bytes; least = below }
  where
    below : (q : Refusal) → refusal_number q < 3 → AppliesIn q One [] → ⊥
    below Syntax lt a = absurd (omega (arith, lt))
    below LongName lt a = absurd (omega (arith, lt))
    below LongNumber lt a = absurd (omega (arith, lt))
    below Deep lt a = absurd (omega (arith, lt))
    below q lt a = a

-- ---- refused by the bytes

module _ (bytes : List ℕ) (short : length bytes ≤ 65536) (k : ℕ) (rest : List ℕ) (tag : HasTag bytes k rest) (no_word : (verb : Verb) → IsWord (verb_word verb) rest → ⊥) where
  module _ (r : Refusal) (least : r ≢ Memory → IsLeastIn r One rest) where
    blind : (q : Refusal) → (q ≢ Memory → IsLeastIn q One rest) → depends_on_names (refused q) ≡ false
    blind LongStatement h = refl
    blind Unfinished h = refl
    blind Syntax h = refl
    blind LongName h = refl
    blind LongNumber h = refl
    blind Deep h = refl
    blind Memory h = refl
    blind _ h = let k = h (λ e. cc) in absurd k.applies

    none_stands : (verb : Verb) (j : ℕ) (more : List ℕ) → HasTag bytes j more → IsWord (verb_word verb) more → ⊥
    none_stands verb j more g w = no_word verb (subst (IsWord (verb_word verb)) (same_rest bytes k j rest more tag g) w)

    unspelled : HasNoTag bytes → (x : CommandForm) (depth : ℕ) → Spells One rest x depth → ⊥
    unspelled none x depth s = none.commands k rest (record { tag = tag; spells = record { command = x; depth = depth; spells = s } })

    -- where it spells no command, the statement stands for one without bytes
    may_empty : (q : Refusal) → (q ≢ Memory → IsLeastIn q One rest) → HasNoTag bytes → (c : Catalogue) → MayRefuse q One (Whole []) c
    may_empty Memory h none c = (nothing_short, λ i. i)
      where
        nothing_short : 0 ≤ 65536
        nothing_short = omega arith
    may_empty Syntax h none c = may_refuse One [] c (omega arith) Syntax (λ i. i) (λ i. empty_syntax)
    may_empty LongName h none c = let k = h (λ e. cc) in absurd (k.least Syntax (omega arith) (unspelled none))
    may_empty LongNumber h none c = let k = h (λ e. cc) in absurd (k.least Syntax (omega arith) (unspelled none))
    may_empty Deep h none c = let k = h (λ e. cc) in absurd (k.least Syntax (omega arith) (unspelled none))
    may_empty _ h none c = let k = h (λ e. cc) in absurd k.applies

    refused_step : (x : Tagged) → IsTaggedPiece bytes x → (s : State) → SharedStep s x (plain (refused r)) s
    refused_step (begins j) p s = absurd (none_stands Begin j p.1.rest p.1.tag p.1.is_word)
    refused_step (commits j) p s = absurd (none_stands Commit j p.1.rest p.1.tag p.1.is_word)
    refused_step (aborts j) p s = absurd (none_stands Abort j p.1.rest p.1.tag p.1.is_word)
    refused_step (commands j more) p s = works_refused more r (blind r least) may s j (transaction_of s j) refl
      where
        same : more ≡ rest
        same = same_rest bytes k j rest more tag p.1.tag

        may : (c : Catalogue) → MayRefuse r One (Whole more) c
        may c = may_refuse One more c (behind_tag bytes j more short p.1.tag) r (λ i. i) (λ e. subst (IsLeastIn r One) (sym same) (least e))
    refused_step (other z) (inl p) s = let long = p.0 in absurd (omega (arith, short, long))
    refused_step (other z) (inr p) s = subst (λ (t : Statement). SharedStep s (other t) (plain (refused r)) s) (sym p.2) ((may_empty r least p.1 s.shared, refl), refl, refl)

    pub refused_tagged : (s : State) → StepsTagged bytes s (plain (refused r)) s
    refused_tagged s = let x = some_tagged (Whole bytes) in record { tagged = x.0; is = x.1; step = refused_step x.0 x.1 s }

-- for want of memory
pub wants_tagged : (bytes : List ℕ) → length bytes ≤ 65536 → (s : State) → StepsTagged bytes s (plain (refused Memory)) s
wants_tagged bytes short s = let x = some_tagged (Whole bytes) in record { tagged = x.0; is = x.1; step = want_step bytes short x.0 x.1 s }

-- where no number of a session and colon stand
pub untagged : (bytes : List ℕ) → length bytes ≤ 65536 → ((k : ℕ) (rest : List ℕ) → HasTag bytes k rest → ⊥) → (s : State) → StepsTagged bytes s (plain (refused Syntax)) s
untagged bytes short none s = record {
  tagged = other (Whole []);
  is = inr (
    short,
    record {
      begins = λ k t. none k t.rest t.tag;
      commits = λ k t. none k t.rest t.tag;
      aborts = λ k t. none k t.rest t.tag;
      commands = λ k rest t. none k rest t.tag;
    },
    refl,
  );
  step = ((may_refuse One [] s.shared (omega arith) Syntax (λ i. i) (λ i. empty_syntax), refl), refl, refl);
}

pub with_reply : (bytes : List ℕ) (s t : State) (form reply : SharedForm) → reply ≡ form → StepsTagged bytes s form t → StepsTagged bytes s reply t
with_reply bytes s t form reply e h = subst (λ (r : SharedForm). StepsTagged bytes s r t) (sym e) h

-- ---- what stands behind the tag

module _ (k : ℕ) (rest : List ℕ) (s t : State) (bytes : List ℕ) (short : length bytes ≤ 65536) (tag : HasTag bytes k rest) where
  pub worked_tagged : (x : CommandForm) → IsRead One rest x → (reply : ReplyForm) → Works k rest (transaction_of s k) s reply t → StepsTagged bytes s (plain reply) t
  worked_tagged x read reply h = record { tagged = commands k rest; is = (short, record { tag = tag; spells = record { command = x; depth = read.depth; spells = read.spells } }); step = h }

  pub begun_tagged : IsWord (verb_word Begin) rest → (reply : SharedForm) → Begins k (transaction_of s k) s reply t → StepsTagged bytes s reply t
  begun_tagged word reply h = record { tagged = begins k; is = (short, record { rest = rest; tag = tag; is_word = word }); step = h }

  pub committed_tagged : IsWord (verb_word Commit) rest → (reply : SharedForm) → Commits k (transaction_of s k) s reply t → StepsTagged bytes s reply t
  committed_tagged word reply h = record { tagged = commits k; is = (short, record { rest = rest; tag = tag; is_word = word }); step = h }

  pub aborted_tagged : IsWord (verb_word Abort) rest → (reply : SharedForm) → Aborts k (transaction_of s k) s reply t → StepsTagged bytes s reply t
  aborted_tagged word reply h = record { tagged = aborts k; is = (short, record { rest = rest; tag = tag; is_word = word }); step = h }

-- what is said of nothing
pub of_none : {A : Type 0} (o : Option A) (N : Type 0) (S : A → Type 0) → o ≡ None → MatchOption o N S → N
of_none None N S e h = h
of_none (Some x) N S e h = absurd (true≢false (ap is_some e))
