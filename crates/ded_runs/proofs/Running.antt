-- A dump's lines make one entry after another, and there is a run of them.
use Rattle.std.proofs.Common.{◌≡◌, ◌≤◌, ◌<◌, ℕ, suc, ◌+◌, nat_le, nat_lt, false, List, [], ◌∷◌, ◌++◌, map, length, arith, append_assoc, refl, sym, ap, ◌∙◌, subst}
use Rattle.std.specs.Prelude.{Some, None}
use Rattle.std.specs.List.{AllByRecursion}
use Rattle.std.proofs.lemmas.Bool.Decides.{nat_tests}
use Rattle.std.proofs.lemmas.List.{append-nil}
use Rattle.ded_lex.specs.Pieces.{Statement}
use Rattle.ded_model.specs.declared.command.Language.{Language}
use Rattle.ded_model.specs.declared.command.Language.TheVariants.{Two}
use Rattle.ded_model.specs.declared.name.Column.{Column}
use Rattle.ded_model.specs.Catalogue.{Entry, relation, view, Catalogue, entry_columns}
use Rattle.ded_model.specs.Command as command
use Rattle.ded_model.specs.Entries.{entry_of, stored_in, inserts_in, known, columns_in, tuples_in}
use Rattle.ded_model.specs.Form.{Form}
use Rattle.ded_model.specs.Known.{KnownNames, IsAccepted, known_of, with_known, level_of, has_twice, has_unbound, has_missorted, scope_of, columns_with}
use Rattle.ded_model.specs.Logic.{every_of, some_below}
use Rattle.ded_model.specs.Row.{Atom}
use Rattle.ded_model.specs.Slotted.{tuple_of}
use Rattle.ded_model.proofs.Entries.{known_of-append, known_own}
use Rattle.ded_sorts.specs.Causes.{is_rational_inequality}
use Rattle.ded_sorts.specs.Changes.{Inserts}
use Rattle.ded_sorts.specs.Checks.{forms_of}
use Rattle.ded_reread.specs.Formulas.{restored, restored_tuple}
use Rattle.ded_reread.specs.Lines.{relation_text, insert_text, view_text, IsLine}
use Rattle.ded_session.specs.Carrying.{NoCause}
use Rattle.ded_session.specs.Replies.{ReplyForm, done, number}
use Rattle.ded_session.specs.Runs.{Steps}
use Rattle.ded_session.specs.Steps.{Step}
use Rattle.ded_runs.specs.Remade.{numbered, remade_entry}
use Rattle.ded_runs.specs.Runs.{WantsNoMemory, WantsNone}
use Rattle.ded_runs.proofs.Causing.{IsOpenRelation, AreComparisons, relation_causes, insert_causes, view_causes, tuple_arity}
use Rattle.ded_runs.proofs.Cutting.{statement}
use Rattle.ded_runs.proofs.Ending.{unknown_none, last_found, last_only, numbered_length, numbered_behind, length_behind}
use Rattle.ded_runs.proofs.Items.{Item, insert_items, items, AreShort}
use Rattle.ded_runs.proofs.LinesBehind.{IsFront}
use Rattle.ded_runs.proofs.Lists.{one_behind, remade_behind, nothing_behind}
use Rattle.ded_runs.proofs.Knowing.{known_same}
use Rattle.ded_runs.proofs.Stepping.{IsInserted, accepted, answered, relation_does, view_does, insert_does}

-- what is so of a tuple over a heading, so that its line inserts it again
pub record IsReadyTuple (n : List ℕ) (h : List Column) (t : List Atom) : Type 0 where
  pub line : IsLine (insert_text n h t) (command.insert n (restored_tuple h t))
  pub same : tuple_of h (forms_of (restored_tuple h t)) ≡ t
  pub bound : has_unbound h (every_of (restored_tuple h t)) ≡ false
  pub sorted : (K : KnownNames) → has_missorted K h (every_of (restored_tuple h t)) ≡ false
  pub equalities : some_below is_rational_inequality (scope_of h) (every_of (restored_tuple h t)) ≡ false

-- statements may get replies, none of which is that memory is wanted, and then leave d
pub record CanRun (c : Catalogue) (ss : List Statement) (d : Catalogue) : Type 0 where
  pub replies : List ReplyForm
  pub steps : Steps Two c ss replies d
  pub wants : WantsNone replies

-- with one statement more before them
then_runs : (c e d : Catalogue) (s : Statement) (ss : List Statement) (reply : ReplyForm) → WantsNoMemory reply → Step Two c s reply e → CanRun e ss d → CanRun c (s ∷ ss) d
then_runs c e d s ss reply w p r = record { replies = reply ∷ r.replies; steps = (e, Two, p, refl, r.steps); wants = (w, r.wants) }

abbrev pub AreReadyTuples : List ℕ → List Column → List (ℕ × List Atom) → Type 0
AreReadyTuples n h ts = AllByRecursion (λ (t : ℕ × List Atom). IsReadyTuple n h t.1) ts

module _ (limit : ℕ) where
  -- what is so of an entry behind those of which K is known, so that its lines make it again
  pub record IsReadyRelation (K : KnownNames) (n : List ℕ) (h : List Column) (ts : List (ℕ × List Atom)) : Type 0 where
    pub new : K n ≡ None
    pub few : nat_lt 16 (length h) ≡ false
    pub once : has_twice h ≡ false
    pub room : length ts ≤ limit
    pub line : IsLine (relation_text n h) (command.relation n h)
    pub tuples : AreReadyTuples n h ts

  pub record IsReadyView (K : KnownNames) (n : List ℕ) (h : List Column) (f : Form) : Type 0 where
    pub new : K n ≡ None
    pub accepted : IsAccepted K h (restored h f)
    pub level : level_of K (restored h f) ≤ 16
    pub line : IsLine (view_text n h f) (command.view n h (restored h f))

  abbrev pub IsReadyEntry : KnownNames → Entry → Type 0
  IsReadyEntry K (relation n h m ts) = IsReadyRelation K n h ts
  IsReadyEntry K (view n h f) = IsReadyView K n h f

  abbrev pub AreReady : KnownNames → List Entry → Type 0
  AreReady K [] = Unit {0}
  AreReady K (e ∷ es) = IsReadyEntry K e × AreReady (with_known K e) es

  module _ (front : List ℕ) (is_front : IsFront front) (small : limit ≤ 1000000) (level : (K : KnownNames) (h : List Column) (f : Form) → level_of K (restored h f) ≡ level_of K f) where
    abbrev of : List Entry → Catalogue
    of es = record { limit = limit; entries = es }

    -- ---- inserts

    module _ (pre : List Entry) (n : List ℕ) (h : List Column) (new : known_of pre n ≡ None) where
      abbrev made : List (ℕ × List Atom) → Entry
      made ts = relation n h (length ts) (numbered 0 ts)

      abbrev with : List (ℕ × List Atom) → Catalogue
      with ts = of (pre ++ made ts ∷ [])

      there : (ts : List (ℕ × List Atom)) → entry_of (pre ++ made ts ∷ []) n ≡ Some (made ts)
      there ts = last_found pre (made ts) (unknown_none pre n new)

      known_there : (ts : List (ℕ × List Atom)) → known (with ts) n ≡ Some (record { is_view = false; columns = h; level = 0 })
      known_there ts = known_own pre (made ts)

      has_room : (ts : List (ℕ × List Atom)) → length ts < limit → IsOpenRelation (with ts) n h
      has_room ts few =
          let k : length (tuples_in (with ts) n) ≡ length ts = ap (λ o. length (stored_in o)) (there ts) ∙ numbered_length 0 ts in
          let i : inserts_in (entry_of (pre ++ made ts ∷ []) n) ≡ length ts = ap inserts_in (there ts) in
          record {
            known = known_there ts;
            room = ap (nat_le limit) k ∙ below limit (length ts) few;
            unspent = ap (nat_le 4294967295) i ∙ below 4294967295 (length ts) (omega (arith, few, small));
          }
        where
          below : (a b : ℕ) → b < a → nat_le a b ≡ false
          below a b h = grind (arith, nat_tests, h)

      inserted : (ts : List (ℕ × List Atom)) (t : ℕ × List Atom) (d : Catalogue) → IsReadyTuple n h t.1 → IsInserted (with ts) d n (restored_tuple h t.1) → d ≡ with (ts ++ t ∷ [])
      inserted ts t d ready i =
          let x = i.inserts in
          let u = tuple_of (columns_in (with ts) n) (forms_of (restored_tuple h t.1)) in
          let old = relation n x.columns x.inserts x.present in
          let last = last_only n pre (made ts) x.changes.before old x.changes.after (unknown_none pre n new) refl x.changes.was in
          let columns : x.columns ≡ h = ap entry_columns last.old_is in
          let inserts : x.inserts ≡ length ts = ap (λ e. inserts_in (Some e)) last.old_is in
          let present : x.present ≡ numbered 0 ts = ap (λ e. stored_in (Some e)) last.old_is in
          let tuple : u ≡ t.1 = ap (λ o. tuple_of (columns_with o) (forms_of (restored_tuple h t.1))) (known_there ts) ∙ ready.same in
          let at : i.at ≡ length ts + 1 = x.number ∙ ap (λ k. k + 1) inserts in
          let next : i.at ≡ suc (length ts) = at ∙ omega arith in
          let none_before : suc (length ts) ≡ suc (0 + length ts) = omega arith in
          let all : x.present ++ (i.at, u) ∷ [] ≡ numbered 0 (ts ++ t ∷ []) =
          ap (λ us. us ++ (i.at, u) ∷ []) present ∙ ap (λ k. numbered 0 ts ++ (k, u) ∷ []) next ∙ ap (λ v. numbered 0 ts ++ (suc (length ts), v) ∷ []) tuple
          ∙ ap (λ k. numbered 0 ts ++ (k, t.1) ∷ []) none_before ∙ sym (numbered_behind 0 ts t) in
          x.changes.is
          ∙ ap (λ es. of (es ++ relation n x.columns i.at (x.present ++ (i.at, u) ∷ []) ∷ x.changes.after)) last.before_is
          ∙ ap (λ es. of (pre ++ relation n x.columns i.at (x.present ++ (i.at, u) ∷ []) ∷ es)) last.after_is
          ∙ ap (λ k. of (pre ++ relation n k i.at (x.present ++ (i.at, u) ∷ []) ∷ [])) columns
          ∙ ap (λ k. of (pre ++ relation n h k (x.present ++ (i.at, u) ∷ []) ∷ [])) (at ∙ sym (length_behind ts t))
          ∙ ap (λ us. of (pre ++ relation n h (length (ts ++ t ∷ [])) us ∷ [])) all

      -- what is left behind the inserts
      record Left (made_of : List (ℕ × List Atom)) (more : List Item) (d : Catalogue) : Type 0 where
        replies : List ReplyForm
        steps : Steps Two (with made_of) (map (statement front) more) replies d
        wants : WantsNone replies
        short : AreShort front more

      free : (ts : List (ℕ × List Atom)) (t : ℕ × List Atom) → length ts < limit → IsReadyTuple n h t.1 → NoCause (with ts) (command.insert n (restored_tuple h t.1))
      free ts t few ready =
          let fs = restored_tuple h t.1 in
          let comparisons : AreComparisons (with ts) h fs = record { arity = tuple_arity (with ts) h t.1; bound = ready.bound; sorted = ready.sorted (known (with ts)); equalities = ready.equalities } in
          insert_causes (with ts) n h fs (has_room ts few) comparisons

      run_inserts : (past ts : List (ℕ × List Atom)) (more : List Item) → length past + length ts ≤ limit → AreReadyTuples n h ts → AreShort front (insert_items n h ts ++ more)
          → (replies : List ReplyForm) (d : Catalogue) → Steps Two (with past) (map (statement front) (insert_items n h ts ++ more)) replies d → WantsNone replies → Left (past ++ ts) more d
      run_inserts past [] more room ready short replies d steps wants =
          subst (λ us. Left us more d) (sym (append-nil past)) (record { replies = replies; steps = steps; wants = wants; short = short })
      run_inserts past (t ∷ ts) more room ready short [] d steps wants = absurd steps
      run_inserts past (t ∷ ts) more room ready short (reply ∷ replies) d steps wants =
          let fs = restored_tuple h t.1 in
          let x = command.insert n fs in
          let line = is_front.lines (insert_text n h t.1) x ready.0.line in
          let does = answered (with past) front (insert_text n h t.1) x line short.0 (free past t (omega (arith, room)) ready.0) (λ w. w) reply steps.0 wants.0 steps.2 in
          let is = inserted past t steps.0 ready.0 (insert_does n fs (with past) steps.0 reply does) in
          let ss = map (statement front) (insert_items n h ts ++ more) in
          let rest = subst (λ (l : Language). Steps l steps.0 ss replies d) steps.3 steps.4 in
          let counted : length (past ++ t ∷ []) + length ts ≤ limit = omega (arith, room, length_behind past t) in
          let left = run_inserts (past ++ t ∷ []) ts more counted ready.1 short.1 replies d (subst (λ (c : Catalogue). Steps Two c ss replies d) is rest) wants.1 in
          subst (λ us. Left us more d) (append_assoc past (t ∷ []) ts) left

      can_insert : (past ts : List (ℕ × List Atom)) (more : List Item) (d : Catalogue) → length past + length ts ≤ limit → AreReadyTuples n h ts → AreShort front (insert_items n h ts ++ more)
          → (AreShort front more → CanRun (with (past ++ ts)) (map (statement front) more) d) → CanRun (with past) (map (statement front) (insert_items n h ts ++ more)) d
      can_insert past [] more d room ready short goes = subst (λ us. CanRun (with us) (map (statement front) more) d) (append-nil past) (goes short)
      can_insert past (t ∷ ts) more d room ready short goes =
          let fs = restored_tuple h t.1 in
          let x = command.insert n fs in
          let u = tuple_of (columns_in (with past) n) (forms_of fs) in
          let k = length past + 1 in
          let e = of (pre ++ relation n h k (numbered 0 past ++ (k, u) ∷ []) ∷ []) in
          let i : Inserts (with past) e n u k =
          record { columns = h; inserts = length past; present = numbered 0 past; number = refl; changes = record { before = pre; after = []; was = refl; is = refl; named = refl } } in
          let is : e ≡ with (past ++ t ∷ []) = inserted past t e ready.0 (record { at = k; inserts = i }) in
          let line = is_front.lines (insert_text n h t.1) x ready.0.line in
          let step : Step Two (with past) (statement front (record { text = insert_text n h t.1; command = x })) (number k) e =
          accepted (with past) front (insert_text n h t.1) x line short.0 (free past t (omega (arith, room)) ready.0) (number k) e i in
          let ss = map (statement front) (insert_items n h ts ++ more) in
          let counted : length (past ++ t ∷ []) + length ts ≤ limit = omega (arith, room, length_behind past t) in
          let behind = subst (λ us. AreShort front more → CanRun (with us) (map (statement front) more) d) (sym (append_assoc past (t ∷ []) ts)) goes in
          let rest = can_insert (past ++ t ∷ []) ts more d counted ready.1 short.1 behind in
          then_runs (with past) e d (statement front (record { text = insert_text n h t.1; command = x })) ss (number k) tt step (subst (λ (c : Catalogue). CanRun c ss d) (sym is) rest)

    -- ---- entries

    known_made : (es : List Entry) → known_of (map remade_entry es) ≡ known_of es
    known_made es = known_same level es

    -- one entry more behind those so far
    ready_behind : (es : List Entry) (e : Entry) (rest : List Entry) → AreReady (with_known (known_of es) e) rest → AreReady (known_of (es ++ e ∷ [])) rest
    ready_behind es e rest ready = subst (λ (K : KnownNames). AreReady K rest) (sym (known_of-append es e)) ready

    steps_behind : (es : List Entry) (e : Entry) (ss : List Statement) (replies : List ReplyForm) (d : Catalogue) → Steps Two (of (map remade_entry es ++ remade_entry e ∷ [])) ss replies d
        → Steps Two (of (map remade_entry (es ++ e ∷ []))) ss replies d
    steps_behind es e ss replies d steps = subst (λ fs. Steps Two (of fs) ss replies d) (sym (remade_behind es e)) steps

    all_behind : (es : List Entry) (e : Entry) (rest : List Entry) (d : Catalogue) → d ≡ of (map remade_entry ((es ++ e ∷ []) ++ rest)) → d ≡ of (map remade_entry (es ++ e ∷ rest))
    all_behind es e rest d is = is ∙ ap (λ fs. of (map remade_entry fs)) (one_behind es e rest)

    runs_behind : (es : List Entry) (e : Entry) (rest : List Entry) → CanRun (of (map remade_entry (es ++ e ∷ []))) (map (statement front) (items rest)) (of (map remade_entry ((es ++ e ∷ []) ++ rest)))
        → CanRun (of (map remade_entry es ++ remade_entry e ∷ [])) (map (statement front) (items rest)) (of (map remade_entry (es ++ e ∷ rest)))
    runs_behind es e rest r =
        let ss = map (statement front) (items rest) in
        let here = subst (λ fs. CanRun (of fs) ss (of (map remade_entry ((es ++ e ∷ []) ++ rest)))) (remade_behind es e) r in
        subst (λ fs. CanRun (of (map remade_entry es ++ remade_entry e ∷ [])) ss (of (map remade_entry fs))) (one_behind es e rest) here

    unknown : (es : List Entry) (n : List ℕ) → known_of es n ≡ None → known_of (map remade_entry es) n ≡ None
    unknown es n new = ap (λ (K : KnownNames). K n) (known_made es) ∙ new

    free_view : (es : List Entry) (n : List ℕ) (h : List Column) (f : Form) → IsReadyView (known_of es) n h f → NoCause (of (map remade_entry es)) (command.view n h (restored h f))
    free_view es n h f r =
        let accepts = subst (λ (K : KnownNames). IsAccepted K h (restored h f)) (sym (known_made es)) r.accepted in
        let low = subst (λ (K : KnownNames). level_of K (restored h f) ≤ 16) (sym (known_made es)) r.level in
        view_causes (of (map remade_entry es)) n h (restored h f) accepts low (unknown es n r.new)

    -- the entries so far, and those that are left
    pub run_entries : (es rest : List Entry) → AreReady (known_of es) rest → AreShort front (items rest) → (replies : List ReplyForm) (d : Catalogue)
        → Steps Two (of (map remade_entry es)) (map (statement front) (items rest)) replies d → WantsNone replies → d ≡ of (map remade_entry (es ++ rest))
    run_entries es [] ready short [] d steps wants = steps ∙ ap (λ fs. of (map remade_entry fs)) (sym (nothing_behind es))
    run_entries es [] ready short (reply ∷ replies) d steps wants = absurd steps
    run_entries es (relation n h m ts ∷ rest) ready short [] d steps wants = absurd steps
    run_entries es (relation n h m ts ∷ rest) ready short (reply ∷ replies) d steps wants =
        let pre = map remade_entry es in
        let e = relation n h m ts in
        let r = ready.0 in
        let new = unknown es n r.new in
        let line = is_front.lines (relation_text n h) (command.relation n h) r.line in
        let does = answered (of pre) front (relation_text n h) (command.relation n h) line short.0 (relation_causes (of pre) n h r.few r.once new) (λ w. w) reply steps.0 wants.0 steps.2 in
        let is : steps.0 ≡ of (pre ++ relation n h 0 [] ∷ []) = relation_does n h (of pre) steps.0 reply does in
        let more = insert_items n h ts ++ items rest in
        let next = subst (λ (l : Language). Steps l steps.0 (map (statement front) more) replies d) steps.3 steps.4 in
        let left = run_inserts pre n h new [] ts (items rest) (omega (arith, r.room)) r.tuples short.1 replies d (subst (λ (c : Catalogue). Steps Two c (map (statement front) more) replies d) is next) wants.1 in
        all_behind es e rest d
        (run_entries (es ++ e ∷ []) rest (ready_behind es e rest ready.1) left.short left.replies d (steps_behind es e (map (statement front) (items rest)) left.replies d left.steps) left.wants)
    run_entries es (view n h f ∷ rest) ready short [] d steps wants = absurd steps
    run_entries es (view n h f ∷ rest) ready short (reply ∷ replies) d steps wants =
        let pre = map remade_entry es in
        let e = view n h f in
        let x = command.view n h (restored h f) in
        let line = is_front.lines (view_text n h f) x ready.0.line in
        let does = answered (of pre) front (view_text n h f) x line short.0 (free_view es n h f ready.0) (λ w. w) reply steps.0 wants.0 steps.2 in
        let is : steps.0 ≡ of (pre ++ view n h (restored h f) ∷ []) = view_does n h (restored h f) (of pre) steps.0 reply does in
        let ss = map (statement front) (items rest) in
        let next = subst (λ (l : Language). Steps l steps.0 ss replies d) steps.3 steps.4 in
        all_behind es e rest d
        (run_entries (es ++ e ∷ []) rest (ready_behind es e rest ready.1) short.1 replies d
        (steps_behind es e ss replies d (subst (λ (c : Catalogue). Steps Two c ss replies d) is next)) wants.1)

    -- the entries that are left can be made behind those so far
    pub can_run : (es rest : List Entry) → AreReady (known_of es) rest → AreShort front (items rest)
        → CanRun (of (map remade_entry es)) (map (statement front) (items rest)) (of (map remade_entry (es ++ rest)))
    can_run es [] ready short = record { replies = []; steps = ap (λ fs. of (map remade_entry fs)) (nothing_behind es); wants = tt }
    can_run es (relation n h m ts ∷ rest) ready short =
        let pre = map remade_entry es in
        let e = relation n h m ts in
        let r = ready.0 in
        let new = unknown es n r.new in
        let line = is_front.lines (relation_text n h) (command.relation n h) r.line in
        let made = of (pre ++ relation n h 0 [] ∷ []) in
        let all = of (map remade_entry (es ++ e ∷ rest)) in
        let step : Step Two (of pre) (statement front (record { text = relation_text n h; command = command.relation n h })) done made =
        accepted (of pre) front (relation_text n h) (command.relation n h) line short.0 (relation_causes (of pre) n h r.few r.once new) done made refl in
        let goes = λ (s : AreShort front (items rest)). runs_behind es e rest (can_run (es ++ e ∷ []) rest (ready_behind es e rest ready.1) s) in
        then_runs (of pre) made all (statement front (record { text = relation_text n h; command = command.relation n h })) (map (statement front) (insert_items n h ts ++ items rest)) done tt step
        (can_insert pre n h new [] ts (items rest) all (omega (arith, r.room)) r.tuples short.1 goes)
    can_run es (view n h f ∷ rest) ready short =
        let pre = map remade_entry es in
        let e = view n h f in
        let x = command.view n h (restored h f) in
        let line = is_front.lines (view_text n h f) x ready.0.line in
        let made = of (pre ++ view n h (restored h f) ∷ []) in
        let all = of (map remade_entry (es ++ e ∷ rest)) in
        let step : Step Two (of pre) (statement front (record { text = view_text n h f; command = x })) done made =
        accepted (of pre) front (view_text n h f) x line short.0 (free_view es n h f ready.0) done made refl in
        then_runs (of pre) made all (statement front (record { text = view_text n h f; command = x })) (map (statement front) (items rest)) done tt step
        (runs_behind es e rest (can_run (es ++ e ∷ []) rest (ready_behind es e rest ready.1) short.1))
