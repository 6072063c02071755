-- Accepted commands are done, and statements answered or refused.
use Rattle.std.proofs.Common.{◌≡◌, Bool, ◌≢◌, ◌≤◌, ◌⊎◌, inl, inr, ⊎_elim, ℕ, true, false, List, length, refl, sym, ap, ◌∙◌, true≢false}
use Rattle.std.specs.List.{AllByRecursion}
use Rattle.std.proofs.lemmas.Bool.{false_from_ne_true}
use Rattle.std.proofs.lemmas.Bool.Decides.{leb_tells}
use Rattle.ded_lex.specs.Pieces.{Statement, Whole}
use Rattle.ded_lex.specs.Pieces as pieces
use Rattle.ded_model.specs.declared.command.Language.{Language}
use Rattle.ded_model.specs.declared.command.Language.TheVariants.{Opening, One, Two}
use Rattle.ded_model.specs.declared.command.Refusal.{Refusal}
use Rattle.ded_model.specs.declared.command.Refusal.TheVariants.{LongStatement, Unfinished, Syntax, LongName, LongNumber, Deep, Many, Twice, Unknown, Taken, Kind, Arity, Unbound, WrongSort, Used, NoTuple, Full, Spent, Level, Wide, Memory}
use Rattle.ded_model.specs.declared.name.Column.{Column}
use Rattle.ded_model.specs.Catalogue.{Catalogue, origin, IsTruth}
use Rattle.ded_model.specs.Command.{CommandForm, header, relation, insert, delete, drop, view, keep, ask, query, show, box_of, explain, dump, disjoint, verify}
use Rattle.ded_model.specs.Entries.{columns_in, tuples_in}
use Rattle.ded_model.specs.Form.{Form}
use Rattle.ded_model.specs.Known.{IsWellFormed}
use Rattle.ded_model.specs.Measure.{goal_clashes, measures, IsTight}
use Rattle.ded_model.specs.ShortRows.{HasShortRows}
use Rattle.ded_model.specs.Slotted.{goal_of}
use Rattle.ded_laws.proofs.Decided.{Holds_decided}
use Rattle.ded_sorts.specs.Causes.{has_cause}
use Rattle.ded_syntax.specs.Spelling.{IsRead}
use Rattle.ded_syntax.proofs.Headers.{header_decided}
use Rattle.ded_cert.specs.Pairs.{pairs_of}
use Rattle.ded_dump.specs.Entries.{dump_lines}
use Rattle.ded_session.specs.Carrying.{NoCause}
use Rattle.ded_session.specs.Causes.{Applies}
use Rattle.ded_session.specs.Following.{long_step, rest_step}
use Rattle.ded_session.specs.Replies.{ReplyForm, done, number, truth, tuples, stored, boxes, steps, script, apart, meeting, refused, is_refusal}
use Rattle.ded_session.specs.Steps.{Does, MayBeWide, Accepted, Accepts, IsHeaderIn, Step}
use Rattle.ded_session.proofs.HeaderSteps.{header_step}
use Rattle.ded_session.proofs.StepLemmas.{none_applies, step_read, may_refuse, accepted_read, read_plain, read_short}
use Rattle.ded_progress.specs.Progress.{IsDone, IsAnswered, HasReply, IsTightQuery, IsTooWide, IsAnswerable}
use Rattle.ded_progress.proofs.Boxing.{box_decided, wide_box_decided}
use Rattle.ded_progress.proofs.Causing.{refusal_decided}
use Rattle.ded_progress.proofs.Disjoint.{wide_decided, disjoint_done}
use Rattle.ded_progress.proofs.Explaining.{AreNormalGoals, explain_done}
use Rattle.ded_progress.proofs.Refusing.{bytes_decided}
use Rattle.ded_progress.proofs.Updates.{relation_done, view_done, insert_done, delete_done, drop_done}
use Rattle.ded_progress.proofs.Verifying.{verify_done}
use Rattle.ded_progress.proofs.Wording.{read_words}

-- ---- commands

ask_done : (c : Catalogue) (f : Form) → IsDone c (ask f)
ask_done c f = ⊎_elim
    (λ (h : IsTruth c f). record { reply = truth true; next = c; does = ((λ t. h, λ k. refl), refl); answer = refl })
    (λ h. record { reply = truth false; next = c; does = ((λ t. absurd (true≢false (sym t)), λ k. absurd (h k)), refl); answer = refl })
    (Holds_decided c f origin)

module _ (goals : AreNormalGoals) (c : Catalogue) (w : IsWellFormed c) (views : AllByRecursion HasShortRows c.entries) (language : Language) (bytes : List ℕ) where
  command_done : (x : CommandForm) → IsRead language bytes x → NoCause c x → IsAnswerable c x → IsDone c x
  command_done header read none a = record { reply = done; next = c; does = refl; answer = refl }
  command_done (relation n h) read none a = relation_done c n h
  command_done (insert n fs) read none a = insert_done c w n fs none
  command_done (delete n k) read none a = delete_done c w n k none
  command_done (drop n) read none a = drop_done c w n none
  command_done (view n h f) read none a = view_done c n h f
  command_done (keep n) read none a = record { reply = done; next = c; does = refl; answer = refl }
  command_done (ask f) read none a = ask_done c f
  command_done (query h f) read none a = absurd (a.narrow a.other)
  command_done (show n) read none a = record { reply = stored (columns_in c n) (tuples_in c n); next = c; does = (refl, refl, refl); answer = refl }
  command_done (box_of n) read none a = ⊎_elim (λ (d : IsDone c (box_of n)). d) (λ wide. absurd (a.narrow wide)) (box_decided c w n)
  command_done (explain h f) read none a =
      explain_done goals c w views h f none (read_plain language bytes (explain h f) read) (read_short language bytes (explain h f) read) (read_words language bytes (explain h f) read)
  command_done dump read none a = record { reply = script (dump_lines c); next = c; does = (refl, refl); answer = refl }
  command_done (disjoint n m) read none a = disjoint_done c w n m a.narrow
  command_done (verify n m es) read none a = verify_done c w n m es

tight_decided : (c : Catalogue) (h : List Column) (f : Form) → IsTight c h f ⊎ (IsTight c h f → ⊥)
unfolding IsTight
tight_decided c h f = by (goal_clashes (measures c) (goal_of h f)) refl
  where
    by : (b : Bool) → goal_clashes (measures c) (goal_of h f) ≡ b → (goal_clashes (measures c) (goal_of h f) ≡ false) ⊎ (goal_clashes (measures c) (goal_of h f) ≡ false → ⊥)
    by false e = inl e
    by true e = inr (λ k. true≢false (sym e ∙ k))

query_decided : (c : Catalogue) (x : CommandForm) → IsTightQuery c x ⊎ (IsTightQuery c x → ⊥)
query_decided c (query h f) = tight_decided c h f
query_decided c header = inr (λ h. h)
query_decided c (relation n h) = inr (λ k. k)
query_decided c (insert n fs) = inr (λ h. h)
query_decided c (delete n k) = inr (λ h. h)
query_decided c (drop n) = inr (λ h. h)
query_decided c (view n h f) = inr (λ k. k)
query_decided c (keep n) = inr (λ h. h)
query_decided c (ask f) = inr (λ h. h)
query_decided c (show n) = inr (λ h. h)
query_decided c (box_of n) = inr (λ h. h)
query_decided c (explain h f) = inr (λ k. k)
query_decided c dump = inr (λ h. h)
query_decided c (disjoint n m) = inr (λ h. h)
query_decided c (verify n m es) = inr (λ h. h)

too_wide_decided : (c : Catalogue) (x : CommandForm) → IsTooWide c x ⊎ (IsTooWide c x → ⊥)
too_wide_decided c (disjoint n m) = wide_decided (pairs_of (tuples_in c n) (tuples_in c m))
too_wide_decided c header = inr (λ h. h)
too_wide_decided c (relation n h) = inr (λ k. k)
too_wide_decided c (insert n fs) = inr (λ h. h)
too_wide_decided c (delete n k) = inr (λ h. h)
too_wide_decided c (drop n) = inr (λ h. h)
too_wide_decided c (view n h f) = inr (λ k. k)
too_wide_decided c (keep n) = inr (λ h. h)
too_wide_decided c (ask f) = inr (λ h. h)
too_wide_decided c (query h f) = ⊎_elim (λ (t : IsTight c h f). inr (λ k. k t)) (λ n. inl n) (tight_decided c h f)
too_wide_decided c (show n) = inr (λ h. h)
too_wide_decided c (box_of n) = wide_box_decided c n
too_wide_decided c (explain h f) = inr (λ k. k)
too_wide_decided c dump = inr (λ h. h)
too_wide_decided c (verify n m es) = inr (λ h. h)

-- then it may be refused for it
may_be_wide : (c : Catalogue) (x : CommandForm) → IsTooWide c x → MayBeWide x c
may_be_wide c (disjoint n m) h = h
may_be_wide c (box_of n) h = h
may_be_wide c (query h f) k = k
may_be_wide c _ h = absurd h

-- ---- pieces

module _ (language : Language) (bytes : List ℕ) (c : Catalogue) where
  -- what an accepted command is answered, its piece is
  step_of : (Fact : CommandForm → Type 0) (a : Accepted language bytes c Fact) (reply : ReplyForm) (d : Catalogue) → is_refusal reply ≡ false → Does a.command c reply d → Step language c (Whole bytes) reply d
  step_of Fact a (refused r) d e does = absurd (true≢false e)
  step_of Fact a done d e does = record { none = a.none; command = a.command; depth = a.depth; spells = a.spells; so = does }
  step_of Fact a (number k) d e does = record { none = a.none; command = a.command; depth = a.depth; spells = a.spells; so = does }
  step_of Fact a (truth b) d e does = record { none = a.none; command = a.command; depth = a.depth; spells = a.spells; so = does }
  step_of Fact a (tuples h ts) d e does = record { none = a.none; command = a.command; depth = a.depth; spells = a.spells; so = does }
  step_of Fact a (stored h ts) d e does = record { none = a.none; command = a.command; depth = a.depth; spells = a.spells; so = does }
  step_of Fact a (boxes h b) d e does = record { none = a.none; command = a.command; depth = a.depth; spells = a.spells; so = does }
  step_of Fact a (steps plan) d e does = record { none = a.none; command = a.command; depth = a.depth; spells = a.spells; so = does }
  step_of Fact a (script lines) d e does = record { none = a.none; command = a.command; depth = a.depth; spells = a.spells; so = does }
  step_of Fact a (apart es) d e does = record { none = a.none; command = a.command; depth = a.depth; spells = a.spells; so = does }
  step_of Fact a (meeting i j) d e does = record { none = a.none; command = a.command; depth = a.depth; spells = a.spells; so = does }

  -- no refusal has a cause in it
  module _ (Fact : CommandForm → Type 0) (a : Accepted language bytes c Fact) where
    not_caused : (q : Refusal) → (has_cause q c a.command ≡ true → Applies q language (Whole bytes) c) → has_cause q c a.command ≡ false
    not_caused q applies = false_from_ne_true (has_cause q c a.command) (λ e. a.none q (applies e))

    pub no_cause : NoCause c a.command
    no_cause LongStatement = refl
    no_cause Unfinished = refl
    no_cause Syntax = refl
    no_cause LongName = refl
    no_cause LongNumber = refl
    no_cause Deep = refl
    no_cause Many = not_caused Many (λ e. record { command = a.command; depth = a.depth; spells = a.spells; cause = e })
    no_cause Twice = not_caused Twice (λ e. record { command = a.command; depth = a.depth; spells = a.spells; cause = e })
    no_cause Unknown = not_caused Unknown (λ e. record { command = a.command; depth = a.depth; spells = a.spells; cause = e })
    no_cause Taken = not_caused Taken (λ e. record { command = a.command; depth = a.depth; spells = a.spells; cause = e })
    no_cause Kind = not_caused Kind (λ e. record { command = a.command; depth = a.depth; spells = a.spells; cause = e })
    no_cause Arity = not_caused Arity (λ e. record { command = a.command; depth = a.depth; spells = a.spells; cause = e })
    no_cause Unbound = not_caused Unbound (λ e. record { command = a.command; depth = a.depth; spells = a.spells; cause = e })
    no_cause WrongSort = not_caused WrongSort (λ e. record { command = a.command; depth = a.depth; spells = a.spells; cause = e })
    no_cause Used = not_caused Used (λ e. record { command = a.command; depth = a.depth; spells = a.spells; cause = e })
    no_cause NoTuple = not_caused NoTuple (λ e. record { command = a.command; depth = a.depth; spells = a.spells; cause = e })
    no_cause Full = not_caused Full (λ e. record { command = a.command; depth = a.depth; spells = a.spells; cause = e })
    no_cause Spent = not_caused Spent (λ e. record { command = a.command; depth = a.depth; spells = a.spells; cause = e })
    no_cause Level = not_caused Level (λ e. record { command = a.command; depth = a.depth; spells = a.spells; cause = e })
    no_cause Wide = refl
    no_cause Memory = refl

  piece_answered : AreNormalGoals → IsWellFormed c → AllByRecursion HasShortRows c.entries → Accepted language bytes c (IsAnswerable c) → IsAnswered language c (Whole bytes)
  piece_answered goals w views a =
      let x = command_done goals c w views language bytes a.command (accepted_read language bytes c (IsAnswerable c) a) (no_cause (IsAnswerable c) a) a.so in
      record { reply = x.reply; next = x.next; step = step_of (IsAnswerable c) a x.reply x.next x.answer x.does; answer = x.answer }

-- ---- statements

pub answered : AreNormalGoals → (language : Language) (c : Catalogue) (s : Statement) → IsWellFormed c → AllByRecursion HasShortRows c.entries → Accepts language s c (IsAnswerable c) → IsAnswered language c s
answered goals language c (Whole bytes) w views a = piece_answered language bytes c goals w views a
answered goals language c (pieces.Unfinished rest) w views a = absurd a

-- the refusal of a reply
refusal_in : ReplyForm → Refusal
refusal_in (refused r) = r
refusal_in _ = Memory

other_refusal : (r : Refusal) → r ≢ Memory → refused r ≢ refused Memory
unfolding refusal_in
other_refusal r other e = other (ap refusal_in e)

no_want : (reply : ReplyForm) → is_refusal reply ≡ false → reply ≢ refused Memory
no_want reply e same = true≢false (sym (ap is_refusal same) ∙ e)

header_in : (language : Language) (bytes : List ℕ) → length bytes ≤ 65536 → IsHeaderIn language (Whole bytes) ⊎ (IsHeaderIn language (Whole bytes) → ⊥)
header_in Opening bytes short = ⊎_elim (λ h. inl (short, h)) (λ n. inr (λ k. n k.1)) (header_decided bytes)
header_in One bytes short = inr (λ h. h)
header_in Two bytes short = inr (λ h. h)

module _ (goals : AreNormalGoals) (language : Language) (bytes : List ℕ) (c : Catalogue) (w : IsWellFormed c) (views : AllByRecursion HasShortRows c.entries) (short : length bytes ≤ 65536) (other : IsHeaderIn language (Whole bytes) → ⊥) (searches : Accepts language (Whole bytes) c (IsTightQuery c) → ⊥) where
  answered_reply : Accepted language bytes c (IsAnswerable c) → HasReply language c (Whole bytes)
  answered_reply a =
      let r = piece_answered language bytes c goals w views a in
      record { reply = r.reply; next = r.next; step = r.step; other = no_want r.reply r.answer }

  accepted_reply : (x : CommandForm) → IsRead language bytes x → NoCause c x → HasReply language c (Whole bytes)
  accepted_reply x read none =
      let all = none_applies language bytes c short x read none in
      elim (too_wide_decided c x) [
        | inl wide ↦ record {
          reply = refused Wide;
          next = c;
          step = step_read language bytes c short x read other (refused Wide) c ((none, may_be_wide c x wide), refl);
          other = other_refusal Wide (λ e. cc);
        }
        | inr narrow ↦ elim (query_decided c x) [
          | inl i ↦ absurd (searches (record { none = all; command = x; depth = read.depth; spells = read.spells; so = i }))
          | inr i ↦ answered_reply (record { none = all; command = x; depth = read.depth; spells = read.spells; so = record { other = i; narrow = narrow } })
        ]
      ]

  read_reply : (x : CommandForm) → IsRead language bytes x → HasReply language c (Whole bytes)
  read_reply x read = elim (refusal_decided c x) [
    | inl r ↦ record { reply = refused r.0; next = c; step = step_read language bytes c short x read other (refused r.0) c (r.2, refl); other = other_refusal r.0 r.1 }
    | inr none ↦ accepted_reply x read none
  ]

  piece_reply : HasReply language c (Whole bytes)
  piece_reply = elim (bytes_decided language bytes) [
    | inl x ↦ read_reply x.0 x.1
    | inr r ↦ record { reply = refused r.0; next = c; step = (may_refuse language bytes c short r.0 other (λ e. r.2), refl); other = other_refusal r.0 r.1 }
  ]

pub replied : AreNormalGoals → (language : Language) (c : Catalogue) (s : Statement) → IsWellFormed c → AllByRecursion HasShortRows c.entries → (Accepts language s c (IsTightQuery c) → ⊥) → HasReply language c s
replied goals language c (Whole bytes) w views searches = elim (leb_tells (length bytes) 65536) [
  | inl t ↦ (elim (header_in language bytes t.1) [
    | inl h ↦ record { reply = done; next = c; step = header_step language bytes c h; other = λ e. no_want done refl e }
    | inr o ↦ piece_reply goals language bytes c w views t.1 o searches
  ])
  | inr f ↦ record { reply = refused LongStatement; next = c; step = long_step language c (Whole bytes) f.1; other = other_refusal LongStatement (λ e. cc) }
]
replied goals language c (pieces.Unfinished rest) w views searches = elim (leb_tells (length rest) 65536) [
  | inl t ↦ record { reply = refused Unfinished; next = c; step = rest_step language c rest t.1; other = other_refusal Unfinished (λ e. cc) }
  | inr f ↦ record { reply = refused LongStatement; next = c; step = long_step language c (pieces.Unfinished rest) f.1; other = other_refusal LongStatement (λ e. cc) }
]
