-- What a statement is answered, and what it makes of a catalogue.
use Rattle.std.specs.Prelude.{◌≡◌, ◌↔◌, ◌≤◌, ℕ, IsTrue, List, [], length}
use Rattle.std.specs.List.{AllByRecursion}
use Rattle.ded_lex.specs.Pieces.{Statement, Whole}
use Rattle.ded_lex.specs.Pieces as pieces
use Rattle.ded_model.specs.declared.command.Language.{Language}
use Rattle.ded_model.specs.declared.command.Language.TheVariants.{Opening}
use Rattle.ded_model.specs.declared.command.Refusal.{Refusal}
use Rattle.ded_model.specs.declared.command.Refusal.TheVariants.{Wide, Memory}
use Rattle.ded_model.specs.Catalogue.{Catalogue, tuples_of, IsTruth}
use Rattle.ded_model.specs.Catalogue as entry
use Rattle.ded_model.specs.Command.{CommandForm, header, relation, insert, delete, drop, view, keep, ask, query, show, box_of, explain, dump, disjoint, verify}
use Rattle.ded_model.specs.Entries.{tuples_in, columns_in}
use Rattle.ded_model.specs.Measure.{IsTight}
use Rattle.ded_model.specs.Row.{tuples_hold}
use Rattle.ded_model.specs.Slotted.{tuple_of}
use Rattle.ded_model.specs.Width.{IsBoxNarrow}
use Rattle.ded_box.specs.Extents.{IsBox}
use Rattle.ded_cert.specs.Pairs.{pairs_of, AreEntriesOf, IsFirstMeeting, IsLongCheck, IsVerified, IsWide, SomePair}
use Rattle.ded_syntax.specs.Spelling.{Spells, IsHeader}
use Rattle.ded_sorts.specs.Changes.{AddsEntry, DropsEntry, Inserts, Deletes}
use Rattle.ded_sorts.specs.Checks.{forms_of}
use Rattle.ded_atoms.specs.Orders.{AreOrderAtoms}
use Rattle.ded_plan.specs.Plans.{IsPlanOf}
use Rattle.ded_query.specs.Questions.{IsAnswer}
use Rattle.ded_dump.specs.Entries.{dump_lines}
use Rattle.ded_session.specs.Causes.{IsLeast, NoneApplies}
use Rattle.ded_session.specs.Replies.{ReplyForm, done, number, truth, tuples, stored, boxes, steps, script, apart, meeting, refused}

-- ---- commands

-- what an accepted command is answered, and what it makes of the catalogue
abbrev pub Does : CommandForm → Catalogue → ReplyForm → Catalogue → Type 0
Does header c done d = d ≡ c
Does (relation n h) c done d = AddsEntry c d (entry.relation n h 0 [])
Does (insert n fs) c (number k) d = Inserts c d n (tuple_of (columns_in c n) (forms_of fs)) k
Does (delete n k) c done d = Deletes c d n k
Does (drop n) c done d = DropsEntry c d n
Does (view n h f) c done d = AddsEntry c d (entry.view n h f)
Does (keep n) c done d = d ≡ c
Does (ask f) c (truth b) d = (IsTrue b ↔ IsTruth c f) × (d ≡ c)
Does (query h f) c (tuples k ts) d = (k ≡ h) × IsAnswer c h f ts × (d ≡ c)
Does (show n) c (stored h ts) d = (h ≡ columns_in c n) × (ts ≡ tuples_in c n) × (d ≡ c)
Does (box_of n) c (boxes h r) d = (h ≡ columns_in c n) × IsBox (tuples_hold (tuples_of (tuples_in c n))) h r × (d ≡ c)
Does (explain h f) c (steps plan) d = IsPlanOf c h f plan × (d ≡ c)
Does dump c (script lines) d = (lines ≡ dump_lines c) × (d ≡ c)
Does (disjoint n m) c (apart es) d = AreEntriesOf (pairs_of (tuples_in c n) (tuples_in c m)) es × (d ≡ c)
Does (disjoint n m) c (meeting i j) d = IsFirstMeeting (pairs_of (tuples_in c n) (tuples_in c m)) i j × (d ≡ c)
Does (verify n m es) c (truth b) d = (IsTrue b ↔ AllByRecursion (IsVerified es) (pairs_of (tuples_in c n) (tuples_in c m))) × (d ≡ c)
Does _ c reply d = ⊥

-- numbers may become too long where the formula isn't tight; the relation isn't narrow for its box and some stored row of it is no order
-- row; some pair of tuples is wide; or in the check of the first entry of some pair a number is too long
abbrev pub MayBeWide : CommandForm → Catalogue → Type 0
MayBeWide (ask f) c = IsTight c [] f → ⊥
MayBeWide (query h f) c = IsTight c h f → ⊥
MayBeWide (box_of n) c = (IsBoxNarrow (columns_in c n) (tuples_of (tuples_in c n)) → ⊥) × (AllByRecursion AreOrderAtoms (tuples_of (tuples_in c n)) → ⊥)
MayBeWide (disjoint n m) c = SomePair IsWide (pairs_of (tuples_in c n) (tuples_in c m))
MayBeWide (verify n m es) c = SomePair (IsLongCheck es) (pairs_of (tuples_in c n) (tuples_in c m))
MayBeWide _ c = ⊥

-- ---- statements

-- a whole piece spells a command, to which no refusal of 1 to 19 applies, and of which the fact is so
pub record Accepted (language : Language) (piece : List ℕ) (c : Catalogue) (Fact : CommandForm → Type 0) : Type 0 where
  pub none : NoneApplies language (Whole piece) c
  pub command : CommandForm
  pub depth : ℕ
  pub spells : Spells language piece command depth
  pub so : Fact command

-- the statement is such a piece; one that isn't whole never is
abbrev pub Accepts : Language → Statement → Catalogue → (CommandForm → Type 0) → Type 0
Accepts language (Whole piece) c Fact = Accepted language piece c Fact
Accepts language (pieces.Unfinished rest) c Fact = ⊥

-- a whole piece that isn't long and spells the header, in the language that has it
abbrev pub IsHeaderIn : Language → Statement → Type 0
IsHeaderIn Opening (Whole piece) = (length piece ≤ 65536) × IsHeader piece
IsHeaderIn _ s = ⊥

-- any whole piece may be refused as out of memory, that isn't long and isn't the header
abbrev pub MayWant : Language → Statement → Type 0
MayWant language (Whole piece) = (length piece ≤ 65536) × (IsHeaderIn language (Whole piece) → ⊥)
MayWant language (pieces.Unfinished rest) = ⊥

-- why a statement may get a refusal
abbrev pub MayRefuse : Refusal → Language → Statement → Catalogue → Type 0
MayRefuse Wide language s c = Accepts language s c (λ command. MayBeWide command c)
MayRefuse Memory language s c = MayWant language s
MayRefuse r language s c = IsLeast r language s c

-- a statement over a catalogue may get the reply, and then makes another catalogue of it. A refused one changes nothing.
abbrev pub Step : Language → Catalogue → Statement → ReplyForm → Catalogue → Type 0
Step language c s (refused r) d = MayRefuse r language s c × (d ≡ c)
Step language c s reply d = Accepts language s c (λ command. Does command c reply d)
