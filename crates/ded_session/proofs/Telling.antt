-- The texts of the replies to one statement.
--
-- Replies of one line end at their one line feed. Lists of tuples and plans are compared line by line; they end with `end`, which
-- none of their lines is. A statement has one box at most.
use Rattle.std.proofs.Common.{◌≡◌, ◌<◌, ◌+◌, ℕ, Bool, true, false, List, [], ◌∷◌, ◌++◌, length, refl, sym, ap, ap₂, ◌∙◌, subst, true≢false, ⊎_elim, arith}
use Rattle.std.specs.Prelude.{◌&&◌, ◌==◌, nat_le, if◌then◌else◌, codes}
use Rattle.std.specs.List.{AllByRecursion}
use Rattle.std.proofs.lemmas.List.{append_cancel_left}
use Rattle.std.proofs.lemmas.Bool.Decides.{eqb_tells, leb_tells}
use Rattle.ded_lex.specs.Lexemes.{Each, letter_byte, digit_byte, word_byte}
use Rattle.ded_lex.specs.Pieces.{Statement}
use Rattle.ded_model.specs.declared.bound.BoxReply.{BoxReply}
use Rattle.ded_model.specs.declared.bound.BoxReply.TheVariants.{Nowhere, NoRational, Spans}
use Rattle.ded_model.specs.declared.command.Language.{Language}
use Rattle.ded_model.specs.declared.command.Refusal.{Refusal}
use Rattle.ded_model.specs.declared.name.Column.{Column}
use Rattle.ded_model.specs.declared.slot.Sort.TheVariants.{Rat}
use Rattle.ded_model.specs.Catalogue.{Catalogue}
use Rattle.ded_model.specs.Known.{IsWellFormed}
use Rattle.ded_model.specs.Made.{base}
use Rattle.ded_model.specs.Logic.{atom, always, never, negation, every_of, some_of, implies, minus, exists, forall, Logics, none, also}
use Rattle.ded_model.specs.PlanForm.{PlanAtom, scan, rows, PlanForm}
use Rattle.ded_model.specs.Point.{Key, slot, name, same_sort}
use Rattle.ded_model.specs.Width.{rational_columns}
use Rattle.ded_print.specs.Boxes.{box_text, rational_names}
use Rattle.ded_print.specs.Certificates.{apart_text}
use Rattle.ded_print.specs.Lines.{LineReply, reply_text, refusal_text}
use Rattle.ded_print.specs.Lines as line
use Rattle.ded_print.specs.Plans.{key_text, plan_text}
use Rattle.ded_print.specs.Quiet.{IsQuiet, AreQuiet, IsQuietPlan, AreQuietPlans}
use Rattle.ded_print.specs.Tuples.{answer_text}
use Rattle.ded_print.proofs.QuotedLines.{number_quiet}
use Rattle.ded_print.proofs.QuotedTexts.{one_answer, one_plan}
use Rattle.ded_print.proofs.CertificatesTold.{no_meeting, one_list}
use Rattle.ded_print.proofs.RefusalsApart.{no_answer, no_apart, no_box, no_nowhere, no_plan, no_rational, no_script}
use Rattle.ded_print.proofs.Telling.{first_reply, no_line}
use Rattle.ded_terminals.specs.MemberNames.{IsMemberName}
use Rattle.ded_session.specs.Pairs.{FitsHeading, IsSlotKey, IsPlainPlan, ArePlainPlans, SpeaksPlainly, AreOfOne}
use Rattle.ded_session.specs.PlainNames.{ArePlainColumns, HasPlainNames}
use Rattle.ded_session.specs.Replies.{ReplyForm, is_refusal, done, number, truth, tuples, stored, boxes, steps, script, apart, meeting, refused}
use Rattle.ded_session.specs.Steps.{Step}
use Rattle.ded_session.specs.Texts.{text_of}
use Rattle.ded_session.proofs.Making.{refused_same}
use Rattle.ded_session.proofs.OneCatalogue.{one_after}
use Rattle.ded_session.proofs.Pairs.{plain_reply, two_replies}
use Rattle.ded_model.proofs.Members.{or_split}
use Rattle.ded_model.proofs.Points.{and_left}

-- ---- plain names are quiet

from : (m b : ℕ) → 39 < m → nat_le m b ≡ true → 39 < b
from m b h e = ⊎_elim (λ t. let k = t.1 in omega (arith, h, k)) (λ t. absurd (true≢false (sym e ∙ t.0))) (leb_tells m b)

is_95 : (b : ℕ) → (b == 95) ≡ true → 39 < b
is_95 b e = ⊎_elim (λ t. let k = t.1 in omega (arith, k)) (λ t. absurd (true≢false (sym e ∙ t.0))) (eqb_tells b 95)

word_above : (b : ℕ) → word_byte b ≡ true → 39 < b
word_above b e = ⊎_elim
    (λ l. ⊎_elim
    (λ u. from 65 b (omega arith) (and_left (nat_le 65 b) _ u))
    (λ v. ⊎_elim (λ w. from 97 b (omega arith) (and_left (nat_le 97 b) _ w)) (λ w. is_95 b w) (or_split (nat_le 97 b && nat_le b 122) (b == 95) v))
    (or_split (nat_le 65 b && nat_le b 90) _ l))
    (λ d. from 48 b (omega arith) (and_left (nat_le 48 b) _ d))
    (or_split (letter_byte b) (digit_byte b) e)

each_quiet : (bs : List ℕ) → Each word_byte bs → IsQuiet bs
each_quiet [] h = tt
each_quiet (b ∷ bs) h = (word_above b h.0, each_quiet bs h.1)

quiet_behind : (p q : List ℕ) → IsQuiet p → IsQuiet q → IsQuiet (p ++ q)
quiet_behind [] q h k = k
quiet_behind (b ∷ p) q h k = (h.0, quiet_behind p q h.1 k)

quiet_front : (p : List ℕ) → AllByRecursion (λ b. nat_le 40 b ≡ true) p → IsQuiet p
quiet_front [] h = tt
quiet_front (b ∷ p) h = (from 40 b (omega arith) h.0, quiet_front p h.1)

-- a name between parentheses
made_quiet : (front n : List ℕ) → IsQuiet front → Each word_byte n → IsQuiet (front ++ (n ++ codes ")"))
made_quiet front n h k = quiet_behind front (n ++ codes ")") h (quiet_behind n (codes ")") (each_quiet n k) (omega arith, tt))

pub member_quiet : (n : List ℕ) → IsMemberName n → IsQuiet n
member_quiet n h = ⊎_elim
    (λ e. subst IsQuiet (sym e) (each_quiet (base n) h.word.1))
    (λ m. ⊎_elim
    (λ e. subst IsQuiet (sym e) (made_quiet (codes "closure(") (base n) (quiet_front (codes "closure(") (refl, (refl, (refl, (refl, (refl, (refl, (refl, (refl, tt))))))))) h.word.1))
    (λ e. subst IsQuiet (sym e) (made_quiet (codes "interior(") (base n) (quiet_front (codes "interior(") (refl, (refl, (refl, (refl, (refl, (refl, (refl, (refl, (refl, tt)))))))))) h.word.1))
    m)
    h.is

quiet_columns : (h : List Column) → ArePlainColumns h → AreQuiet h
quiet_columns [] p = tt
quiet_columns (c ∷ cs) p = (each_quiet c.name p.0.1, quiet_columns cs p.1)

quiet_key : (k : Key) → IsSlotKey k → IsQuiet (key_text k)
quiet_key (slot s) p = (omega arith, number_quiet s.number)
quiet_key (name x) p = absurd p

mutual
  quiet_plan : (f : PlanForm) → IsPlainPlan f → IsQuietPlan f
  quiet_plan (atom (scan n ss)) p = member_quiet n p
  quiet_plan (atom (rows t)) p = tt
  quiet_plan always p = tt
  quiet_plan never p = tt
  quiet_plan (negation f) p = quiet_plan f p
  quiet_plan (every_of fs) p = quiet_plans fs p
  quiet_plan (some_of fs) p = quiet_plans fs p
  quiet_plan (implies f g) p = tt
  quiet_plan (minus f g) p = (quiet_plan f p.0, quiet_plan g p.1)
  quiet_plan (exists s k f) p = (quiet_key k p.0, quiet_plan f p.1)
  quiet_plan (forall s k f) p = tt

  quiet_plans : (fs : Logics PlanAtom) → ArePlainPlans fs → AreQuietPlans fs
  quiet_plans none p = tt
  quiet_plans (also f fs) p = (quiet_plan f p.0, quiet_plans fs p.1)

-- ---- boxes

named : (t : Bool) (n : List ℕ) (ns : List (List ℕ)) (k : ℕ) → length ns ≡ k → length (if t then (n ∷ ns) else ns) ≡ (if t then 1 else 0) + k
named true n ns k e = omega (arith, e)
named false n ns k e = omega (arith, e)

names_many : (h : List Column) → length (rational_names h) ≡ rational_columns h
names_many [] = refl
names_many (c ∷ cs) = named (same_sort c.sort Rat) c.name (rational_names cs) (rational_columns cs) (names_many cs)

box_apart : (h : List Column) (q : BoxReply) (r : Refusal) (xs ys : List ℕ) → AreQuiet h → FitsHeading h q → box_text h q ++ xs ≡ refusal_text r ++ ys → ⊥
box_apart h Nowhere r xs ys n p e = no_nowhere r xs ys e
box_apart h NoRational r xs ys n p e = no_rational r xs ys e
box_apart h (Spans bs) r xs ys n p e =
    let some : 0 < length (rational_names h) = subst (λ k. 0 < k) (sym (names_many h)) p.0 in
    no_box h bs r xs ys n some (subst (λ k. 0 < k) (sym p.1) p.0) e

-- ---- replies

-- two replies that are the same, unless they are tuples, plans or certificates, which are written alike
abbrev pub AreAlike : ReplyForm → ReplyForm → Type 0
AreAlike (tuples h ts) (tuples k us) = (h ≡ k) × (answer_text h ts ≡ answer_text h us)
AreAlike (steps f) (steps g) = plan_text f ≡ plan_text g
AreAlike (apart es) (apart fs) = apart_text es ≡ apart_text fs
AreAlike reply other = reply ≡ other

pub alike_itself : (reply : ReplyForm) → AreAlike reply reply
alike_itself (tuples h ts) = (refl, refl)
alike_itself (steps f) = refl
alike_itself (apart es) = refl
alike_itself reply = refl

pub texts_alike : (reply other : ReplyForm) → AreAlike reply other → text_of reply ≡ text_of other
texts_alike (tuples h ts) (tuples k us) a = a.1 ∙ ap (λ g. answer_text g us) a.0
texts_alike (steps f) (steps g) a = a
texts_alike (apart es) (apart fs) a = a
texts_alike reply other a = ap text_of a

abbrev form : LineReply → ReplyForm
form line.done = done
form (line.truth b) = truth b
form (line.numbered k) = number k
form (line.met i j) = meeting i j
form (line.refused r) = refused r

module _ (xs ys : List ℕ) where
  lines : (a b : LineReply) → reply_text a ++ xs ≡ reply_text b ++ ys → (form a ≡ form b) × (xs ≡ ys)
  lines a b e = let both = first_reply a b xs ys e in (ap form both.0, both.1)

  -- the same text before both
  behind : (reply other : ReplyForm) → reply ≡ other → text_of reply ++ xs ≡ text_of other ++ ys → (reply ≡ other) × (xs ≡ ys)
  behind reply other same e = (same, append_cancel_left (text_of other) xs ys (ap (λ r. text_of r ++ xs) (sym same) ∙ e))

  by_kinds : (reply other : ReplyForm) → SpeaksPlainly reply → SpeaksPlainly other → AreOfOne reply other → text_of reply ++ xs ≡ text_of other ++ ys → AreAlike reply other × (xs ≡ ys)
  by_kinds (refused r) done p q m e = lines (line.refused r) line.done e
  by_kinds (refused r) (number k) p q m e = lines (line.refused r) (line.numbered k) e
  by_kinds (refused r) (truth b) p q m e = lines (line.refused r) (line.truth b) e
  by_kinds (refused r) (refused t) p q m e = lines (line.refused r) (line.refused t) e
  by_kinds (refused r) (tuples k us) p q m e = absurd (no_answer k us r ys xs (sym e))
  by_kinds (refused r) (stored k us) p q m e = absurd (no_line k us (line.refused r) ys xs (sym e))
  by_kinds (refused r) (boxes k b) p q m e = absurd (box_apart k b r ys xs (quiet_columns k q.0) q.1 (sym e))
  by_kinds (refused r) (steps g) p q m e = absurd (no_plan g r ys xs (sym e))
  by_kinds (refused r) (script ks) p q m e = absurd (no_script ks r ys xs (sym e))
  by_kinds (refused r) (apart fs) p q m e = absurd (no_apart fs r ys xs (sym e))
  by_kinds (refused r) (meeting k l) p q m e = lines (line.refused r) (line.met k l) e
  by_kinds done (refused r) p q m e = lines line.done (line.refused r) e
  by_kinds done done p q m e = lines line.done line.done e
  by_kinds done (number k) p q m e = lines line.done (line.numbered k) e
  by_kinds done (truth b) p q m e = lines line.done (line.truth b) e
  by_kinds done _ p q m e = absurd (true≢false (sym m))
  by_kinds (number j) (refused r) p q m e = lines (line.numbered j) (line.refused r) e
  by_kinds (number j) done p q m e = lines (line.numbered j) line.done e
  by_kinds (number j) (number k) p q m e = lines (line.numbered j) (line.numbered k) e
  by_kinds (number j) (truth b) p q m e = lines (line.numbered j) (line.truth b) e
  by_kinds (number j) _ p q m e = absurd (true≢false (sym m))
  by_kinds (truth a) (refused r) p q m e = lines (line.truth a) (line.refused r) e
  by_kinds (truth a) done p q m e = lines (line.truth a) line.done e
  by_kinds (truth a) (number k) p q m e = lines (line.truth a) (line.numbered k) e
  by_kinds (truth a) (truth b) p q m e = lines (line.truth a) (line.truth b) e
  by_kinds (truth a) _ p q m e = absurd (true≢false (sym m))
  by_kinds (tuples h ts) (refused r) p q m e = absurd (no_answer h ts r xs ys e)
  by_kinds (tuples h ts) (tuples k us) p q m e =
      let both = one_answer h ts us xs ys (quiet_columns h p) (e ∙ ap (λ g. answer_text g us ++ ys) (sym m)) in
      ((m, both.0), both.1)
  by_kinds (tuples h ts) _ p q m e = absurd (true≢false (sym m))
  by_kinds (stored h ts) (refused r) p q m e = absurd (no_line h ts (line.refused r) xs ys e)
  by_kinds (stored h ts) (stored k us) p q m e = behind (stored h ts) (stored k us) (ap₂ stored m.0 m.1) e
  by_kinds (stored h ts) _ p q m e = absurd (true≢false (sym m))
  by_kinds (boxes h b) (refused r) p q m e = absurd (box_apart h b r xs ys (quiet_columns h p.0) p.1 e)
  by_kinds (boxes h b) (boxes k a) p q m e = behind (boxes h b) (boxes k a) (ap₂ boxes m.0 m.1) e
  by_kinds (boxes h b) _ p q m e = absurd (true≢false (sym m))
  by_kinds (steps f) (refused r) p q m e = absurd (no_plan f r xs ys e)
  by_kinds (steps f) (steps g) p q m e = one_plan f g xs ys (quiet_plan f p) (quiet_plan g q) e
  by_kinds (steps f) _ p q m e = absurd (true≢false (sym m))
  by_kinds (script ls) (refused r) p q m e = absurd (no_script ls r xs ys e)
  by_kinds (script ls) (script ks) p q m e = behind (script ls) (script ks) (ap script m) e
  by_kinds (script ls) _ p q m e = absurd (true≢false (sym m))
  by_kinds (apart es) (refused r) p q m e = absurd (no_apart es r xs ys e)
  by_kinds (apart es) (apart fs) p q m e = one_list es fs xs ys e
  by_kinds (apart es) (meeting k l) p q m e = absurd (no_meeting es k l xs ys e)
  by_kinds (apart es) _ p q m e = absurd (true≢false (sym m))
  by_kinds (meeting i j) (refused r) p q m e = lines (line.met i j) (line.refused r) e
  by_kinds (meeting i j) (apart fs) p q m e = absurd (no_meeting fs i j ys xs (sym e))
  by_kinds (meeting i j) (meeting k l) p q m e = lines (line.met i j) (line.met k l) e
  by_kinds (meeting i j) _ p q m e = absurd (true≢false (sym m))

-- ---- a statement

-- whether both are refusals
pub refused_alike : (reply other : ReplyForm) → AreAlike reply other → is_refusal reply ≡ is_refusal other
refused_alike (tuples h ts) (tuples k us) a = refl
refused_alike (steps f) (steps g) a = refl
refused_alike (apart es) (apart fs) a = refl
refused_alike reply other a = ap is_refusal a

-- where they are alike, one catalogue is left
pub alike_after : (l : Language) (c d e : Catalogue) (s : Statement) (reply other : ReplyForm) → AreAlike reply other → IsWellFormed c → Step l c s reply d → Step l c s other e → d ≡ e
alike_after l c d e s reply other alike formed p q = by (is_refusal reply) refl (sym (refused_alike reply other alike))
  where
    by : (b : Bool) → is_refusal reply ≡ b → is_refusal other ≡ is_refusal reply → d ≡ e
    by true r o = refused_same l c d s reply r p ∙ sym (refused_same l c e s other (o ∙ r) q)
    by false r o = one_after l c d e s reply other formed p q r (o ∙ r)

module _ (l : Language) (c d e : Catalogue) (s : Statement) (reply other : ReplyForm) (xs ys : List ℕ) (names : HasPlainNames c) (p : Step l c s reply d) (q : Step l c s other e) (begins : text_of reply ++ xs ≡ text_of other ++ ys) where
  pub replies_alike : AreAlike reply other × (xs ≡ ys)
  replies_alike = by_kinds xs ys reply other (plain_reply l c d s reply names p) (plain_reply l c e s other names q) (two_replies l c d e s reply other p q) begins

  pub one_text : (text_of reply ≡ text_of other) × (xs ≡ ys)
  one_text = (texts_alike reply other replies_alike.0, replies_alike.1)

  pub catalogue_told : IsWellFormed c → d ≡ e
  catalogue_told formed = alike_after l c d e s reply other replies_alike.0 formed p q
