-- What is known of the replies that one statement may get over one catalogue.
--
-- Both are refusals or replies to one command, since bytes spell one command at most, and a command is answered in one way. Exact
-- bounds are one box.
use Rattle.std.proofs.Common.{◌≡◌, ◌+◌, ℕ, Bool, true, false, not, List, [], ◌∷◌, length, refl, sym, ◌∙◌, subst, ◌⊎◌, inl, inr, ⊎_elim, true≢false, arith}
use Rattle.std.specs.Prelude.{if◌then◌else◌}
use Rattle.std.proofs.lemmas.Slice.Eq.{bytes_eq-Decides}
use Rattle.ded_box.specs.Extents.{BoundsAt, AreBounds, IsBox}
use Rattle.ded_lex.specs.Pieces.{Statement, Whole}
use Rattle.ded_lex.specs.Pieces as pieces
use Rattle.ded_model.specs.declared.bound.Bound.{Bound}
use Rattle.ded_model.specs.declared.bound.BoxReply.{BoxReply}
use Rattle.ded_model.specs.declared.certificate.Entry.{Entry}
use Rattle.ded_model.specs.declared.bound.BoxReply.TheVariants.{Nowhere, NoRational, Spans}
use Rattle.ded_model.specs.declared.command.Language.{Language}
use Rattle.ded_model.specs.declared.command.Refusal.{Refusal}
use Rattle.ded_model.specs.declared.name.Column.{Column}
use Rattle.ded_model.specs.declared.slot.Sort.{Sort}
use Rattle.ded_model.specs.declared.slot.Sort.TheVariants.{Rat, Text}
use Rattle.ded_model.specs.Catalogue.{Catalogue, tuples_of}
use Rattle.ded_model.specs.Command.{CommandForm, header, relation, insert, delete, drop, view, keep, ask, query, show, box_of, explain, dump, disjoint, verify}
use Rattle.ded_model.specs.Entries.{tuples_in}
use Rattle.ded_model.specs.Form.{Form, FormAtom, compare, member, atom_uses}
use Rattle.ded_model.specs.Logic.{atom, always, never, negation, every_of, some_of, implies, minus, exists, forall, Logics, none, also, AllAtoms, AllAtomsOf, some_atom, some_atom_of, mentions, any_mentions}
use Rattle.ded_model.specs.PlanForm.{PlanAtom, scan, rows, PlanForm, in_plan_atom, plan_mentions}
use Rattle.ded_model.specs.Point.{Point, Key, slot, name, same_sort}
use Rattle.ded_model.specs.Pushed.{pushed, all_pushed, may_project, may_join, is_not, is_one}
use Rattle.ded_model.specs.Row.{Atom, tuples_hold}
use Rattle.ded_model.specs.Width.{rational_columns}
use Rattle.ded_model.proofs.Members.{or_split}
use Rattle.ded_plan.specs.Plans.{IsScanOf}
use Rattle.ded_terminals.specs.MemberNames.{IsMemberName}
use Rattle.ded_syntax.proofs.One.{one_command}
use Rattle.ded_session.specs.Pairs.{FitsHeading, IsSlotKey, IsPlainScan, IsPlainPlan, ArePlainPlans, SpeaksPlainly, AreOfOne}
use Rattle.ded_session.specs.PlainNames.{ArePlainColumns, HasPlainNames, IsPlainUse, UsesPlainNames, NamesPlainly}
use Rattle.ded_session.specs.Replies.{ReplyForm, done, number, truth, tuples, stored, boxes, steps, script, apart, meeting, refused}
use Rattle.ded_session.specs.Steps.{Does, Accepts, Step}
use Rattle.ded_session.proofs.OneBounds.{same_box}
use Rattle.ded_session.proofs.PlainNames.{plain_columns}
use Rattle.ded_session.proofs.PlainSpelling.{spelled_names}
use Rattle.ded_model.proofs.Points.{and_left, and_right}
use Rattle.std.proofs.lemmas.Bool.{or_from}
use Rattle.ded_num.proofs.Tests.{and_false}

-- ---- names that a formula uses

mutual
  used_plain : (n : List ℕ) (f : Form) → some_atom (atom_uses n) f ≡ true → AllAtoms IsPlainUse f → IsMemberName n
  used_plain n (atom (compare l op r)) e h = absurd (true≢false (sym e))
  used_plain n (atom (member m ts)) e h = subst IsMemberName (sym ((bytes_eq-Decides n m).0 e)) h
  used_plain n always e h = absurd (true≢false (sym e))
  used_plain n never e h = absurd (true≢false (sym e))
  used_plain n (negation f) e h = used_plain n f e h
  used_plain n (every_of fs) e h = used_plain_of n fs e h
  used_plain n (some_of fs) e h = used_plain_of n fs e h
  used_plain n (implies f g) e h = ⊎_elim (λ x. used_plain n f x h.0) (λ x. used_plain n g x h.1) (or_split _ _ e)
  used_plain n (minus f g) e h = ⊎_elim (λ x. used_plain n f x h.0) (λ x. used_plain n g x h.1) (or_split _ _ e)
  used_plain n (exists s k f) e h = used_plain n f e h
  used_plain n (forall s k f) e h = used_plain n f e h

  used_plain_of : (n : List ℕ) (fs : Logics FormAtom) → some_atom_of (atom_uses n) fs ≡ true → AllAtomsOf IsPlainUse fs → IsMemberName n
  used_plain_of n none e h = absurd (true≢false (sym e))
  used_plain_of n (also f fs) e h = ⊎_elim (λ x. used_plain n f x h.0) (λ x. used_plain_of n fs x h.1) (or_split _ _ e)

-- ---- plans mention no names

no_name : (x : List ℕ) (a : PlanAtom) → in_plan_atom a (name x) ≡ false
no_name x a = refl

mutual
  no_names : (x : List ℕ) (f : PlanForm) → mentions in_plan_atom f (name x) ≡ false
  no_names x (atom a) = no_name x a
  no_names x always = refl
  no_names x never = refl
  no_names x (negation f) = no_names x f
  no_names x (every_of fs) = no_names_of x fs
  no_names x (some_of fs) = no_names_of x fs
  no_names x (implies f g) = or_from _ _ (no_names x f) (no_names x g)
  no_names x (minus f g) = or_from _ _ (no_names x f) (no_names x g)
  no_names x (exists s k f) = and_false _ _ (no_names x f)
  no_names x (forall s k f) = and_false _ _ (no_names x f)

  no_names_of : (x : List ℕ) (fs : Logics PlanAtom) → any_mentions in_plan_atom fs (name x) ≡ false
  no_names_of x none = refl
  no_names_of x (also f fs) = or_from _ _ (no_names x f) (no_names_of x fs)

projects_mentioned : (k : Key) (f : PlanForm) → may_project k f ≡ true → plan_mentions f k ≡ true
projects_mentioned k (some_of fs) e = absurd (true≢false (sym e))
projects_mentioned k (every_of fs) e = and_left _ _ e
projects_mentioned k _ e = e

slot_key : (k : Key) (f : PlanForm) → may_project k f ≡ true → IsSlotKey k
slot_key (slot s) f e = tt
slot_key (name x) f e = true≢false (sym (projects_mentioned (name x) f e) ∙ no_names x f)

plain_scan : (c : Catalogue) (g : Form) (a : PlanAtom) → UsesPlainNames g → IsScanOf c g a → IsPlainScan a
plain_scan c g (scan n ss) u h = used_plain n g h.0 u
plain_scan c g (rows t) u h = tt

mutual
  plain_plan : (c : Catalogue) (g : Form) (f : PlanForm) → UsesPlainNames g → pushed f ≡ true → AllAtoms (IsScanOf c g) f → IsPlainPlan f
  plain_plan c g (atom a) u e h = plain_scan c g a u h
  plain_plan c g always u e h = tt
  plain_plan c g never u e h = tt
  plain_plan c g (negation f) u e h = plain_plan c g f u (and_right (not (is_not f)) _ e) h
  plain_plan c g (every_of fs) u e h = plain_plans c g fs u (and_right (may_join fs) _ e) h
  plain_plan c g (some_of fs) u e h = plain_plans c g fs u (and_right (not (is_one fs)) _ e) h
  plain_plan c g (implies f k) u e h = tt
  plain_plan c g (minus f k) u e h = (plain_plan c g f u (and_left _ _ e) h.0, plain_plan c g k u (and_right (pushed f) _ e) h.1)
  plain_plan c g (exists s k f) u e h = (slot_key k f (and_left _ _ e), plain_plan c g f u (and_right (may_project k f) _ e) h)
  plain_plan c g (forall s k f) u e h = tt

  plain_plans : (c : Catalogue) (g : Form) (fs : Logics PlanAtom) → UsesPlainNames g → all_pushed fs ≡ true → AllAtomsOf (IsScanOf c g) fs → ArePlainPlans fs
  plain_plans c g none u e h = tt
  plain_plans c g (also f fs) u e h = (plain_plan c g f u (and_left _ _ e) h.0, plain_plans c g fs u (and_right (pushed f) _ e) h.1)

-- ---- boxes

module _ (test : Point → Bool) where
  bounds_many : (i : ℕ) (h : List Column) (bs : List (Bound × Bound)) → AreBounds test i h bs → length bs ≡ rational_columns h
  bounds_many i [] [] k = refl
  bounds_many i [] (b ∷ bs) k = absurd k
  bounds_many i (c ∷ cs) bs k = sorted (λ xs j. bounds_many (i + 1) cs xs j) c.sort bs k
    where
      sorted : ((xs : List (Bound × Bound)) → AreBounds test (i + 1) cs xs → length xs ≡ rational_columns cs) → (s : Sort) (bs : List (Bound × Bound)) → BoundsAt test i s bs (AreBounds test (i + 1) cs) → length bs ≡ (if same_sort s Rat then 1 else 0) + rational_columns cs
      sorted more Text bs k = let e = more bs k in omega (arith, e)
      sorted more Rat [] k = absurd k
      sorted more Rat (b ∷ bs) k = let e = more bs k.3 in omega (arith, e)

  fits : (h : List Column) (r : BoxReply) → IsBox test h r → FitsHeading h r
  fits h Nowhere k = tt
  fits h NoRational k = tt
  fits h (Spans bs) k = (k.1, bounds_many 0 h bs k.2)

-- ---- one reply

module _ (c d : Catalogue) (h : HasPlainNames c) where
  speaks_plainly : (x : CommandForm) (reply : ReplyForm) → NamesPlainly x → Does x c reply d → SpeaksPlainly reply
  speaks_plainly x done p k = tt
  speaks_plainly x (number i) p k = tt
  speaks_plainly x (truth b) p k = tt
  speaks_plainly x (tuples cs ts) p k = go x p k
    where
      go : (x : CommandForm) → NamesPlainly x → Does x c (tuples cs ts) d → ArePlainColumns cs
      go (query g f) p k = subst ArePlainColumns (sym k.0) p.0
      go _ p k = absurd k
  speaks_plainly x (stored cs ts) p k = tt
  speaks_plainly x (boxes cs r) p k = go x k
    where
      go : (x : CommandForm) → Does x c (boxes cs r) d → ArePlainColumns cs × FitsHeading cs r
      go (box_of n) k = (subst ArePlainColumns (sym k.0) (plain_columns c n h), fits (tuples_hold (tuples_of (tuples_in c n))) cs r k.1)
      go _ k = absurd k
  speaks_plainly x (steps plan) p k = go x p k
    where
      go : (x : CommandForm) → NamesPlainly x → Does x c (steps plan) d → IsPlainPlan plan
      go (explain g f) p k = plain_plan c f plan p.1 k.0.pushed k.0.scans
      go _ p k = absurd k
  speaks_plainly x (script lines) p k = tt
  speaks_plainly x (apart es) p k = tt
  speaks_plainly x (meeting i j) p k = tt
  speaks_plainly x (refused r) p k = tt

  accepted_plainly : (l : Language) (s : Statement) (reply : ReplyForm) → Accepts l s c (λ x. Does x c reply d) → SpeaksPlainly reply
  accepted_plainly l (Whole bytes) reply a = speaks_plainly a.command reply (spelled_names l bytes a.command a.depth a.spells) a.so
  accepted_plainly l (pieces.Unfinished rest) reply a = absurd a

-- a reply is a refusal, or one to an accepted command
refusal_or : (l : Language) (c d : Catalogue) (s : Statement) (reply : ReplyForm) → Step l c s reply d → ((r : Refusal) × (reply ≡ refused r)) ⊎ Accepts l s c (λ x. Does x c reply d)
refusal_or l c d s done p = inr p
refusal_or l c d s (number k) p = inr p
refusal_or l c d s (truth b) p = inr p
refusal_or l c d s (tuples g ts) p = inr p
refusal_or l c d s (stored g ts) p = inr p
refusal_or l c d s (boxes g b) p = inr p
refusal_or l c d s (steps plan) p = inr p
refusal_or l c d s (script lines) p = inr p
refusal_or l c d s (apart es) p = inr p
refusal_or l c d s (meeting i j) p = inr p
refusal_or l c d s (refused r) p = inl (r, refl)

pub plain_reply : (l : Language) (c d : Catalogue) (s : Statement) (reply : ReplyForm) → HasPlainNames c → Step l c s reply d → SpeaksPlainly reply
plain_reply l c d s reply h p = ⊎_elim (λ r. subst SpeaksPlainly (sym r.1) tt) (λ a. accepted_plainly c d h l s reply a) (refusal_or l c d s reply p)

-- ---- two replies

module _ (c d e : Catalogue) where
  of_one_done : (x : CommandForm) (other : ReplyForm) → Does x c done d → Does x c other e → AreOfOne done other
  of_one_done header done p q = refl
  of_one_done header _ p q = absurd q
  of_one_done (relation n h) done p q = refl
  of_one_done (relation n h) _ p q = absurd q
  of_one_done (delete n i) done p q = refl
  of_one_done (delete n i) _ p q = absurd q
  of_one_done (drop n) done p q = refl
  of_one_done (drop n) _ p q = absurd q
  of_one_done (view n h f) done p q = refl
  of_one_done (view n h f) _ p q = absurd q
  of_one_done (keep n) done p q = refl
  of_one_done (keep n) _ p q = absurd q
  of_one_done _ other p q = absurd p

  of_one_number : (i : ℕ) (x : CommandForm) (other : ReplyForm) → Does x c (number i) d → Does x c other e → AreOfOne (number i) other
  of_one_number i (insert n fs) (number j) p q = refl
  of_one_number i (insert n fs) _ p q = absurd q
  of_one_number i _ other p q = absurd p

  of_one_truth : (b : Bool) (x : CommandForm) (other : ReplyForm) → Does x c (truth b) d → Does x c other e → AreOfOne (truth b) other
  of_one_truth b (ask f) (truth a) p q = refl
  of_one_truth b (ask f) _ p q = absurd q
  of_one_truth b (verify n m es) (truth a) p q = refl
  of_one_truth b (verify n m es) _ p q = absurd q
  of_one_truth b _ other p q = absurd p

  of_one_tuples : (h : List Column) (ts : List (List Atom)) (x : CommandForm) (other : ReplyForm) → Does x c (tuples h ts) d → Does x c other e → AreOfOne (tuples h ts) other
  of_one_tuples h ts (query g f) (tuples k us) p q = p.0 ∙ sym q.0
  of_one_tuples h ts (query g f) _ p q = absurd q
  of_one_tuples h ts _ other p q = absurd p

  of_one_stored : (h : List Column) (ts : List (ℕ × List Atom)) (x : CommandForm) (other : ReplyForm) → Does x c (stored h ts) d → Does x c other e → AreOfOne (stored h ts) other
  of_one_stored h ts (show n) (stored k us) p q = (p.0 ∙ sym q.0, p.1 ∙ sym q.1)
  of_one_stored h ts (show n) _ p q = absurd q
  of_one_stored h ts _ other p q = absurd p

  of_one_boxes : (h : List Column) (b : BoxReply) (x : CommandForm) (other : ReplyForm) → Does x c (boxes h b) d → Does x c other e → AreOfOne (boxes h b) other
  of_one_boxes h b (box_of n) (boxes k a) p q =
      let test = tuples_hold (tuples_of (tuples_in c n)) in
      let same : h ≡ k = p.0 ∙ sym q.0 in
      (same, same_box test h b a p.1 (subst (λ g. IsBox test g a) (sym same) q.1))
  of_one_boxes h b (box_of n) _ p q = absurd q
  of_one_boxes h b _ other p q = absurd p

  of_one_steps : (plan : PlanForm) (x : CommandForm) (other : ReplyForm) → Does x c (steps plan) d → Does x c other e → AreOfOne (steps plan) other
  of_one_steps plan (explain h f) (steps g) p q = tt
  of_one_steps plan (explain h f) _ p q = absurd q
  of_one_steps plan _ other p q = absurd p

  of_one_script : (ls : List (List ℕ)) (x : CommandForm) (other : ReplyForm) → Does x c (script ls) d → Does x c other e → AreOfOne (script ls) other
  of_one_script ls dump (script ks) p q = p.0 ∙ sym q.0
  of_one_script ls dump _ p q = absurd q
  of_one_script ls _ other p q = absurd p

  of_one_apart : (es : List Entry) (x : CommandForm) (other : ReplyForm) → Does x c (apart es) d → Does x c other e → AreOfOne (apart es) other
  of_one_apart es (disjoint n m) (apart fs) p q = tt
  of_one_apart es (disjoint n m) (meeting i j) p q = tt
  of_one_apart es (disjoint n m) _ p q = absurd q
  of_one_apart es _ other p q = absurd p

  of_one_meeting : (i j : ℕ) (x : CommandForm) (other : ReplyForm) → Does x c (meeting i j) d → Does x c other e → AreOfOne (meeting i j) other
  of_one_meeting i j (disjoint n m) (apart fs) p q = tt
  of_one_meeting i j (disjoint n m) (meeting k l) p q = tt
  of_one_meeting i j (disjoint n m) _ p q = absurd q
  of_one_meeting i j _ other p q = absurd p

  of_one_command : (x : CommandForm) (reply other : ReplyForm) → Does x c reply d → Does x c other e → AreOfOne reply other
  of_one_command x done other p q = of_one_done x other p q
  of_one_command x (number i) other p q = of_one_number i x other p q
  of_one_command x (truth b) other p q = of_one_truth b x other p q
  of_one_command x (tuples h ts) other p q = of_one_tuples h ts x other p q
  of_one_command x (stored h ts) other p q = of_one_stored h ts x other p q
  of_one_command x (boxes h b) other p q = of_one_boxes h b x other p q
  of_one_command x (steps plan) other p q = of_one_steps plan x other p q
  of_one_command x (script ls) other p q = of_one_script ls x other p q
  of_one_command x (apart es) other p q = of_one_apart es x other p q
  of_one_command x (meeting i j) other p q = of_one_meeting i j x other p q
  of_one_command x (refused r) other p q = tt

  both_accepted : (l : Language) (s : Statement) (reply other : ReplyForm) → Accepts l s c (λ x. Does x c reply d) → Accepts l s c (λ x. Does x c other e) → AreOfOne reply other
  both_accepted l (Whole bytes) reply other a b =
      let same = (one_command l bytes b.command a.command b.depth a.depth b.spells a.spells).0 in
      of_one_command a.command reply other a.so (subst (λ x. Does x c other e) same b.so)
  both_accepted l (pieces.Unfinished rest) reply other a b = absurd a

any_refused : (reply : ReplyForm) (r : Refusal) → AreOfOne reply (refused r)
any_refused done r = tt
any_refused (number k) r = tt
any_refused (truth b) r = tt
any_refused (tuples g ts) r = tt
any_refused (stored g ts) r = tt
any_refused (boxes g b) r = tt
any_refused (steps plan) r = tt
any_refused (script lines) r = tt
any_refused (apart es) r = tt
any_refused (meeting i j) r = tt
any_refused (refused q) r = tt

pub two_replies : (l : Language) (c d e : Catalogue) (s : Statement) (reply other : ReplyForm) → Step l c s reply d → Step l c s other e → AreOfOne reply other
two_replies l c d e s reply other p q =
    ⊎_elim
    (λ r. subst (λ x. AreOfOne x other) (sym r.1) tt)
    (λ a. ⊎_elim (λ r. subst (AreOfOne reply) (sym r.1) (any_refused reply r.0)) (λ b. both_accepted c d e l s reply other a b) (refusal_or l c e s other q))
    (refusal_or l c d s reply p)
