-- What is known of the replies that one statement may get over one catalogue, by the rules alone.
use Rattle.std.specs.Prelude.{◌≡◌, ◌<◌, Bool, true, false, ◌&&◌, List, length}
use Rattle.ded_model.specs.declared.bound.BoxReply.{BoxReply}
use Rattle.ded_model.specs.declared.bound.BoxReply.TheVariants.{Nowhere, NoRational, Spans}
use Rattle.ded_model.specs.declared.name.Column.{Column}
use Rattle.ded_model.specs.Logic.{atom, always, never, negation, every_of, some_of, implies, minus, exists, forall, Logics, none, also}
use Rattle.ded_model.specs.PlanForm.{PlanAtom, scan, rows, PlanForm}
use Rattle.ded_model.specs.Point.{Key, slot, name}
use Rattle.ded_model.specs.Width.{rational_columns}
use Rattle.ded_terminals.specs.MemberNames.{IsMemberName}
use Rattle.ded_session.specs.PlainNames.{ArePlainColumns}
use Rattle.ded_session.specs.Replies.{ReplyForm, done, number, truth, tuples, stored, boxes, steps, script, apart, meeting, refused}

-- ---- one reply

-- bounds, where the reply has them, are as many as the rational columns, of which there is at least one
abbrev pub FitsHeading : List Column → BoxReply → Type 0
FitsHeading h Nowhere = Unit {0}
FitsHeading h NoRational = Unit {0}
FitsHeading h (Spans bs) = (0 < rational_columns h) × (length bs ≡ rational_columns h)

-- the key is a slot, and no name
abbrev pub IsSlotKey : Key → Type 0
IsSlotKey (slot s) = Unit {0}
IsSlotKey (name x) = ⊥

-- a scan is of a word of the grammar, or of the closure or the interior of one; a list of atoms names nothing
abbrev pub IsPlainScan : PlanAtom → Type 0
IsPlainScan (scan n ss) = IsMemberName n
IsPlainScan (rows t) = Unit {0}

-- each scan is of a word of the grammar, or of the closure or the interior of one, and what is projected away is a
-- slot; nothing is said of implications and of what holds for all, which plans don't have
abbrev mutual
  pub IsPlainPlan : PlanForm → Type 0
  IsPlainPlan (atom a) = IsPlainScan a
  IsPlainPlan always = Unit {0}
  IsPlainPlan never = Unit {0}
  IsPlainPlan (negation f) = IsPlainPlan f
  IsPlainPlan (every_of fs) = ArePlainPlans fs
  IsPlainPlan (some_of fs) = ArePlainPlans fs
  IsPlainPlan (implies f g) = Unit {0}
  IsPlainPlan (minus f g) = IsPlainPlan f × IsPlainPlan g
  IsPlainPlan (exists s k f) = IsSlotKey k × IsPlainPlan f
  IsPlainPlan (forall s k f) = Unit {0}

  -- each of them is so
  pub ArePlainPlans : Logics PlanAtom → Type 0
  ArePlainPlans none = Unit {0}
  ArePlainPlans (also f fs) = IsPlainPlan f × ArePlainPlans fs

-- the names that the reply says are words of the grammar, or in a plan made of such words
abbrev pub SpeaksPlainly : ReplyForm → Type 0
SpeaksPlainly (tuples h ts) = ArePlainColumns h
SpeaksPlainly (boxes h r) = ArePlainColumns h × FitsHeading h r
SpeaksPlainly (steps plan) = IsPlainPlan plan
SpeaksPlainly _ = Unit {0}

-- ---- two replies

-- a reply that only says that something was done, a number, or whether something is so
abbrev pub is_short : ReplyForm → Bool
is_short done = true
is_short (number k) = true
is_short (truth b) = true
is_short _ = false

-- replies that one statement may both get. Of lists of tuples that are no stored ones no more is said than their heading:
-- a query may have many right answers. A box is one.
abbrev pub AreOfOne : ReplyForm → ReplyForm → Type 0
AreOfOne (refused r) _ = Unit {0}
AreOfOne _ (refused r) = Unit {0}
AreOfOne (tuples h ts) (tuples k us) = h ≡ k
AreOfOne (stored h ts) (stored k us) = (h ≡ k) × (ts ≡ us)
AreOfOne (boxes h b) (boxes k c) = (h ≡ k) × (b ≡ c)
AreOfOne (steps f) (steps g) = Unit {0}
AreOfOne (script ls) (script ks) = ls ≡ ks
AreOfOne (apart es) (apart fs) = Unit {0}
AreOfOne (apart es) (meeting i j) = Unit {0}
AreOfOne (meeting i j) (apart es) = Unit {0}
AreOfOne (meeting i j) (meeting k l) = Unit {0}
AreOfOne reply other = (is_short reply && is_short other) ≡ true
