-- What an accepted command makes of a catalogue, whatever its reply.
use Rattle.std.proofs.Common.{◌≡◌, ℕ, true, false, [], sym, true≢false}
use Rattle.ded_lex.specs.Pieces.{Statement, Whole}
use Rattle.ded_lex.specs.Pieces as pieces
use Rattle.ded_model.specs.declared.command.Language.{Language}
use Rattle.ded_model.specs.Catalogue.{Catalogue}
use Rattle.ded_model.specs.Catalogue as entry
use Rattle.ded_model.specs.Command.{CommandForm, header, relation, insert, delete, drop, view, keep, ask, query, show, box_of, explain, dump, disjoint, verify}
use Rattle.ded_model.specs.Entries.{columns_in}
use Rattle.ded_model.specs.Slotted.{tuple_of}
use Rattle.ded_session.specs.Replies.{ReplyForm, is_refusal, done, number, truth, tuples, stored, boxes, steps, script, apart, meeting, refused}
use Rattle.ded_session.specs.Steps.{Does, Accepts, Step}
use Rattle.ded_sorts.specs.Changes.{AddsEntry, DropsEntry, Inserts, Deletes}
use Rattle.ded_sorts.specs.Checks.{forms_of}

-- what a command makes of a catalogue where it is accepted
abbrev pub Makes : CommandForm → Catalogue → Catalogue → Type 0
Makes (relation n h) c d = AddsEntry c d (entry.relation n h 0 [])
Makes (insert n fs) c d = (k : ℕ) × Inserts c d n (tuple_of (columns_in c n) (forms_of fs)) k
Makes (delete n k) c d = Deletes c d n k
Makes (drop n) c d = DropsEntry c d n
Makes (view n h f) c d = AddsEntry c d (entry.view n h f)
Makes _ c d = d ≡ c

made : (x : CommandForm) (c d : Catalogue) (reply : ReplyForm) → Does x c reply d → Makes x c d
made header c d done k = k
made (relation n h) c d done k = k
made (insert n fs) c d (number i) k = (i, k)
made (delete n i) c d done k = k
made (drop n) c d done k = k
made (view n h f) c d done k = k
made (keep n) c d done k = k
made (ask f) c d (truth b) k = k.1
made (query h f) c d (tuples g ts) k = k.2
made (show n) c d (stored h ts) k = k.2
made (box_of n) c d (boxes h r) k = k.2
made (explain h f) c d (steps plan) k = k.1
made dump c d (script lines) k = k.1
made (disjoint n m) c d (apart es) k = k.1
made (disjoint n m) c d (meeting i j) k = k.1
made (verify n m es) c d (truth b) k = k.1
made _ c d _ k = absurd k

-- ---- statements

module _ (language : Language) (c d : Catalogue) where
  accepted : (s : Statement) (reply : ReplyForm) → Accepts language s c (λ x. Does x c reply d) → Accepts language s c (λ x. Makes x c d)
  accepted (Whole bytes) reply a = record { none = a.none; command = a.command; depth = a.depth; spells = a.spells; so = made a.command c d reply a.so }
  accepted (pieces.Unfinished rest) reply a = absurd a

  pub step_makes : (s : Statement) (reply : ReplyForm) → is_refusal reply ≡ false → Step language c s reply d → Accepts language s c (λ x. Makes x c d)
  step_makes s done n p = accepted s done p
  step_makes s (number k) n p = accepted s (number k) p
  step_makes s (truth b) n p = accepted s (truth b) p
  step_makes s (tuples h ts) n p = accepted s (tuples h ts) p
  step_makes s (stored h ts) n p = accepted s (stored h ts) p
  step_makes s (boxes h b) n p = accepted s (boxes h b) p
  step_makes s (steps plan) n p = accepted s (steps plan) p
  step_makes s (script lines) n p = accepted s (script lines) p
  step_makes s (apart es) n p = accepted s (apart es) p
  step_makes s (meeting i j) n p = accepted s (meeting i j) p
  step_makes s (refused r) n p = absurd (true≢false n)

  -- what is refused leaves the catalogue
  pub refused_same : (s : Statement) (reply : ReplyForm) → is_refusal reply ≡ true → Step language c s reply d → d ≡ c
  refused_same s (refused r) h p = p.1
  refused_same s done h p = absurd (true≢false (sym h))
  refused_same s (number k) h p = absurd (true≢false (sym h))
  refused_same s (truth b) h p = absurd (true≢false (sym h))
  refused_same s (tuples g ts) h p = absurd (true≢false (sym h))
  refused_same s (stored g ts) h p = absurd (true≢false (sym h))
  refused_same s (boxes g b) h p = absurd (true≢false (sym h))
  refused_same s (steps plan) h p = absurd (true≢false (sym h))
  refused_same s (script lines) h p = absurd (true≢false (sym h))
  refused_same s (apart es) h p = absurd (true≢false (sym h))
  refused_same s (meeting i j) h p = absurd (true≢false (sym h))
