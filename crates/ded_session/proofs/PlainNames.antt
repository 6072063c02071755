-- A step over a catalogue of plain names leads to one of plain names.
use Rattle.std.proofs.Common.{◌≡◌, ℕ, Bool, true, false, List, [], ◌∷◌, ◌++◌, sym, subst}
use Rattle.std.specs.Prelude.{Option, None, Some, if◌then◌else◌}
use Rattle.std.specs.Str.{bytes_eq}
use Rattle.std.specs.List.{AllByRecursion}
use Rattle.ded_lex.specs.Pieces.{Statement, Whole}
use Rattle.ded_lex.specs.Pieces as pieces
use Rattle.ded_model.specs.declared.command.Language.{Language}
use Rattle.ded_model.specs.declared.command.Language.TheVariants.{Opening}
use Rattle.ded_model.specs.Catalogue.{Entry, Catalogue, entry_name}
use Rattle.ded_model.specs.Catalogue as entry
use Rattle.ded_model.specs.Command.{CommandForm, header, relation, insert, delete, drop, view, keep, ask, query, show, box_of, explain, dump, disjoint, verify}
use Rattle.ded_model.specs.Entries.{columns_in}
use Rattle.ded_model.specs.Known.{KnownNames, Known, columns_with, entry_known, with_known, known_from, known_of}
use Rattle.ded_sorts.specs.Changes.{AddsEntry, ChangesEntry, DropsEntry}
use Rattle.ded_session.specs.PlainNames.{ArePlainColumns, HasPlainEntry, HasPlainNames, NamesPlainly}
use Rattle.ded_session.specs.Replies.{ReplyForm, done, number, truth, tuples, stored, boxes, steps, script, apart, meeting, refused}
use Rattle.ded_session.specs.Runs.{Steps, Run, empty_catalogue}
use Rattle.ded_session.specs.Steps.{Does, Accepts, Step}
use Rattle.ded_session.proofs.PlainSpelling.{spelled_names}

-- ---- entries

abbrev ArePlain : List Entry → Type 0
ArePlain = AllByRecursion HasPlainEntry

both : (es fs : List Entry) → ArePlain es → ArePlain fs → ArePlain (es ++ fs)
both [] fs p q = q
both (e ∷ es) fs p q = (p.0, both es fs p.1 q)

front : (es fs : List Entry) → ArePlain (es ++ fs) → ArePlain es
front [] fs h = tt
front (e ∷ es) fs h = (h.0, front es fs h.1)

back : (es fs : List Entry) → ArePlain (es ++ fs) → ArePlain fs
back [] fs h = h
back (e ∷ es) fs h = back es fs h.1

adds : (c d : Catalogue) (e : Entry) → HasPlainNames c → HasPlainEntry e → AddsEntry c d e → HasPlainNames d
adds c d e h p is = subst HasPlainNames (sym is) (both c.entries (e ∷ []) h (p, tt))

-- an entry of the same name with the same columns is in the other's place
changes : (c d : Catalogue) (n : List ℕ) (old new : Entry) → (HasPlainEntry old → HasPlainEntry new) → HasPlainNames c → ChangesEntry c d n old new → HasPlainNames d
changes c d n old new keeps h k =
    let was = subst ArePlain k.was h in
    let rest = back k.before (old ∷ k.after) was in
    subst HasPlainNames (sym k.is) (both k.before (new ∷ k.after) (front k.before (old ∷ k.after) was) (keeps rest.0, rest.1))

drops : (c d : Catalogue) (n : List ℕ) → HasPlainNames c → DropsEntry c d n → HasPlainNames d
drops c d n h k =
    let was = subst ArePlain k.was h in
    subst HasPlainNames (sym k.is) (both k.before k.after (front k.before (k.old ∷ k.after) was) ((back k.before (k.old ∷ k.after) was).1))

same : (c d : Catalogue) → HasPlainNames c → d ≡ c → HasPlainNames d
same c d h is = subst HasPlainNames (sym is) h

-- ---- commands

module _ (c d : Catalogue) (h : HasPlainNames c) where
  after_done : (x : CommandForm) → NamesPlainly x → Does x c done d → HasPlainNames d
  after_done header p k = same c d h k
  after_done (relation n cs) p k = adds c d (entry.relation n cs 0 []) h p k
  after_done (delete n i) p k = changes c d n _ _ (λ q. q) h k.changes
  after_done (drop n) p k = drops c d n h k
  after_done (view n cs f) p k = adds c d (entry.view n cs f) h (p.0, p.1) k
  after_done (keep n) p k = same c d h k
  after_done _ p k = absurd k

  after_number : (i : ℕ) (x : CommandForm) → Does x c (number i) d → HasPlainNames d
  after_number i (insert n fs) k = changes c d n _ _ (λ q. q) h k.changes
  after_number i _ k = absurd k

  after_truth : (b : Bool) (x : CommandForm) → Does x c (truth b) d → HasPlainNames d
  after_truth b (ask f) k = same c d h k.1
  after_truth b (verify n m es) k = same c d h k.1
  after_truth b _ k = absurd k

  unchanged : (x : CommandForm) (reply : ReplyForm) → NamesPlainly x → Does x c reply d → HasPlainNames d
  unchanged x done p k = after_done x p k
  unchanged x (number i) p k = after_number i x k
  unchanged x (truth b) p k = after_truth b x k
  unchanged x (tuples cs ts) p k = go x k
    where
      go : (x : CommandForm) → Does x c (tuples cs ts) d → HasPlainNames d
      go (query g f) k = same c d h k.2
      go _ k = absurd k
  unchanged x (stored cs ts) p k = go x k
    where
      go : (x : CommandForm) → Does x c (stored cs ts) d → HasPlainNames d
      go (show n) k = same c d h k.2
      go _ k = absurd k
  unchanged x (boxes cs b) p k = go x k
    where
      go : (x : CommandForm) → Does x c (boxes cs b) d → HasPlainNames d
      go (box_of n) k = same c d h k.2
      go _ k = absurd k
  unchanged x (steps plan) p k = go x k
    where
      go : (x : CommandForm) → Does x c (steps plan) d → HasPlainNames d
      go (explain g f) k = same c d h k.1
      go _ k = absurd k
  unchanged x (script lines) p k = go x k
    where
      go : (x : CommandForm) → Does x c (script lines) d → HasPlainNames d
      go dump k = same c d h k.1
      go _ k = absurd k
  unchanged x (apart es) p k = go x k
    where
      go : (x : CommandForm) → Does x c (apart es) d → HasPlainNames d
      go (disjoint n m) k = same c d h k.1
      go _ k = absurd k
  unchanged x (meeting i j) p k = go x k
    where
      go : (x : CommandForm) → Does x c (meeting i j) d → HasPlainNames d
      go (disjoint n m) k = same c d h k.1
      go _ k = absurd k
  unchanged x (refused r) p k = go x k
    where
      go : (x : CommandForm) → Does x c (refused r) d → HasPlainNames d
      go (show n) k = absurd k
      go _ k = absurd k

  accepted : (l : Language) (s : Statement) (reply : ReplyForm) → Accepts l s c (λ x. Does x c reply d) → HasPlainNames d
  accepted l (Whole bytes) reply a = unchanged a.command reply (spelled_names l bytes a.command a.depth a.spells) a.so
  accepted l (pieces.Unfinished rest) reply a = absurd a

pub plain_step : (l : Language) (c d : Catalogue) (s : Statement) (reply : ReplyForm) → HasPlainNames c → Step l c s reply d → HasPlainNames d
plain_step l c d s done h p = accepted c d h l s done p
plain_step l c d s (number k) h p = accepted c d h l s (number k) p
plain_step l c d s (truth b) h p = accepted c d h l s (truth b) p
plain_step l c d s (tuples g ts) h p = accepted c d h l s (tuples g ts) p
plain_step l c d s (stored g ts) h p = accepted c d h l s (stored g ts) p
plain_step l c d s (boxes g b) h p = accepted c d h l s (boxes g b) p
plain_step l c d s (steps plan) h p = accepted c d h l s (steps plan) p
plain_step l c d s (script lines) h p = accepted c d h l s (script lines) p
plain_step l c d s (apart es) h p = accepted c d h l s (apart es) p
plain_step l c d s (meeting i j) h p = accepted c d h l s (meeting i j) p
plain_step l c d s (refused r) h p = same c d h p.1

pub plain_steps : (l : Language) (c d : Catalogue) (ss : List Statement) (replies : List ReplyForm) → HasPlainNames c → Steps l c ss replies d → HasPlainNames d
plain_steps l c d [] [] h p = same c d h p
plain_steps l c d [] (reply ∷ replies) h p = absurd p
plain_steps l c d (s ∷ ss) [] h p = absurd p
plain_steps l c d (s ∷ ss) (reply ∷ replies) h p = plain_steps p.1 p.0 d ss replies (plain_step l c p.0 s reply h p.2) p.4

pub plain_run : (limit : ℕ) (bytes : List ℕ) (replies : List ReplyForm) (last : Catalogue) → Run limit bytes replies last → HasPlainNames last
plain_run limit bytes replies last r = plain_steps Opening (empty_catalogue limit) last r.statements replies tt r.steps

-- ---- columns by name

chosen : (b : Bool) (k : Known) (o : Option Known) → ArePlainColumns k.columns → ArePlainColumns (columns_with o) → ArePlainColumns (columns_with (if b then Some k else o))
chosen true k o p q = p
chosen false k o p q = q

entry_plain : (K : KnownNames) (e : Entry) → HasPlainEntry e → ArePlainColumns ((entry_known K e).columns)
entry_plain K (entry.relation n h m ts) p = p.1
entry_plain K (entry.view n h f) p = p.1

columns_from : (K : KnownNames) (es : List Entry) → ((n : List ℕ) → ArePlainColumns (columns_with (K n))) → ArePlain es → (n : List ℕ) → ArePlainColumns (columns_with (known_from K es n))
columns_from K [] k p n = k n
columns_from K (e ∷ es) k p n = columns_from (with_known K e) es (λ m. chosen (bytes_eq m (entry_name e)) (entry_known K e) (K m) (entry_plain K e p.0) (k m)) p.1 n

pub plain_columns : (c : Catalogue) (n : List ℕ) → HasPlainNames c → ArePlainColumns (columns_in c n)
unfolding known_of
plain_columns c n h = columns_from (λ m. None) c.entries (λ m. tt) h n
