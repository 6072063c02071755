-- What the names accept of a command is what the calls of the catalogue ask for.
use Rattle.std.proofs.Common.{◌≡◌, ◌≤◌, ℕ, true, false, refl, sym, ap, ◌∙◌, subst, true≢false, arith, List, Vec, Global, length, not}
use Rattle.std.specs.Prelude.{None, Some, is_some, is_none, ◌==◌, ◌||◌, nat_lt}
use Rattle.std.specs.List.{list_any}
use Rattle.std.specs.declared.option.Option.{Option}
use Rattle.std.proofs.lemmas.Bool.Decides.{nat_tests}
use Rattle.ded_model.specs.declared.certificate.Entry.{Entry}
use Rattle.ded_model.specs.declared.command.Refusal.TheVariants.{Many, Twice, Unknown, Taken, Kind, Arity, Unbound, WrongSort, Used, NoTuple, Level}
use Rattle.ded_model.specs.declared.formula.Formula.{Formula}
use Rattle.ded_model.specs.declared.goal.Goal.{Goal}
use Rattle.ded_model.specs.declared.name.Column.{Column}
use Rattle.ded_model.specs.Catalogue.{Catalogue}
use Rattle.ded_model.specs.Command.{CommandForm, header, relation, insert, delete, drop, view, keep, show, box_of, dump, disjoint, verify}
use Rattle.ded_model.specs.Form.{Form, FormAtom, form}
use Rattle.ded_model.specs.Goal.{goal_form}
use Rattle.ded_model.specs.Known.{Known, IsNewName, IsAccepted, IsTupleOver, level_of, is_many, has_twice, uses_unknown, has_other_arity, has_unbound, has_missorted}
use Rattle.ded_model.specs.Logic.{Logics, some_atom}
use Rattle.ded_model.specs.LongRows.{is_long_atom, has_long_row}
use Rattle.ded_model.specs.Plain.{IsPlain, IsPlainCommand}
use Rattle.ded_model.specs.Row.{Atom}
use Rattle.ded_model.specs.Slotted.{goal_of, tuple_of}
use Rattle.ded_model.specs.Width.{tuple_length}
use Rattle.ded_resolve.specs.declared.checked.Checked.{Checked}
use Rattle.ded_resolve.specs.declared.checked.Checked.TheVariants as checked
use Rattle.ded_sorts.specs.Causes.{is_relation_with, is_view_with}
use Rattle.ded_sorts.specs.Checks.{HasNoCause, forms_of}
use Rattle.ded_resolve.specs.Resolved.{IsResolved}
use Rattle.ded_model.specs.Entries.{known, tuples_in, columns_in, entry_uses}
use Rattle.ded_terminals.proofs.MemberNames.{unmade_word}
use Rattle.ded_session.specs.Carrying.{IsReady, Carries}
use Rattle.ded_session.specs.PlainNames.{NamesPlainly}
use Rattle.ded_session.specs.Replies.{ReplyForm}
use Rattle.std.proofs.lemmas.Bool.{not-false}
use Rattle.ded_model.proofs.Bools.{or_false_left, or_false_right}

-- ---- tests

pub none_of : {A : Type 0} (o : Option A) → is_some o ≡ false → o ≡ None
none_of None e = refl
none_of (Some x) e = absurd (true≢false e)

some_of : {A : Type 0} (o : Option A) → is_none o ≡ false → is_some o ≡ true
some_of None e = absurd (true≢false e)
some_of (Some x) e = refl

relation_of : (o : Option Known) → is_none o ≡ false → is_view_with o ≡ false → is_relation_with o ≡ true
relation_of None e f = absurd (true≢false e)
relation_of (Some k) e f = ap not f

view_of : (o : Option Known) → is_none o ≡ false → is_relation_with o ≡ false → is_view_with o ≡ true
view_of None e f = absurd (true≢false e)
view_of (Some k) e f = not-false k.is_view f

pub at_most : (n : ℕ) → nat_lt 16 n ≡ false → n ≤ 16
at_most n e = grind (arith, nat_tests)

-- ---- commands

module _ (c : Catalogue) where
  pub new_relation : (n : List ℕ) (h : List Column) → HasNoCause c (relation n h) → NamesPlainly (relation n h) → IsNewName (known c) n × (length h ≤ 16)
  new_relation n h a p = ((none_of (known c n) (a Taken refl), unmade_word n p.0), at_most (length h) (a Many refl))

  into_relation : (n : List ℕ) (fs : Logics FormAtom) → HasNoCause c (insert n fs) → is_relation_with (known c n) ≡ true
  into_relation n fs a = relation_of (known c n) (a Unknown refl) (a Kind refl)

  of_relation : (n : List ℕ) → HasNoCause c (show n) → is_relation_with (known c n) ≡ true
  of_relation n a = relation_of (known c n) (a Unknown refl) (a Kind refl)

  of_box : (n : List ℕ) → HasNoCause c (box_of n) → is_relation_with (known c n) ≡ true
  of_box n a = relation_of (known c n) (a Unknown refl) (a Kind refl)

  relations_of : (n m : List ℕ) → (is_none (known c n) || is_none (known c m)) ≡ false → (is_view_with (known c n) || is_view_with (known c m)) ≡ false
      → (is_relation_with (known c n) ≡ true) × (is_relation_with (known c m) ≡ true)
  relations_of n m unknown kind = (
    relation_of (known c n) (or_false_left (is_none (known c n)) (is_none (known c m)) unknown) (or_false_left (is_view_with (known c n)) (is_view_with (known c m)) kind),
    relation_of (known c m) (or_false_right (is_none (known c n)) (is_none (known c m)) unknown) (or_false_right (is_view_with (known c n)) (is_view_with (known c m)) kind),
  )

  of_view : (n : List ℕ) → HasNoCause c (keep n) → is_view_with (known c n) ≡ true
  of_view n a = view_of (known c n) (a Unknown refl) (a Kind refl)

  present : (n : List ℕ) (k : ℕ) → HasNoCause c (delete n k) → list_any (λ t. t.0 == k) (tuples_in c n) ≡ true
  present n k a = not-false (list_any (λ t. t.0 == k) (tuples_in c n)) (a NoTuple refl)

  pub accepted : (h : List Column) (f : Form) → is_many h f ≡ false → has_twice h ≡ false → uses_unknown (known c) f ≡ false → has_other_arity (known c) f ≡ false
      → has_unbound h f ≡ false → (has_missorted (known c) h f || false) ≡ false → IsAccepted (known c) h f
  accepted h f many twice unknown arity unbound sort = record {
    few = many;
    once = twice;
    known = unknown;
    arity = arity;
    bound = unbound;
    sorted = or_false_left (has_missorted (known c) h f) false sort;
  }

  -- ---- by slots

  header_is : (x : CommandForm) → IsResolved c x checked.Header → x ≡ header
  header_is header r = refl
  header_is _ r = absurd r

  dump_is : (x : CommandForm) → IsResolved c x checked.Dump → x ≡ dump
  dump_is dump r = refl
  dump_is _ r = absurd r

  relation_is : (x : CommandForm) (n : List ℕ) (h : List Column) → IsResolved c x (checked.Relation n h) → x ≡ relation n h
  relation_is (relation m k) n h r = ap (λ (y : List ℕ). relation y k) (sym r.0) ∙ ap (relation n) (sym r.1)
  relation_is _ n h r = absurd r

  -- the comparisons of an insert, whose tuple by slots this is
  record Inserts (x : CommandForm) (n : List ℕ) (t : List Atom) : Type 0 where
    comparisons : Logics FormAtom
    is : x ≡ insert n comparisons
    tuple : t ≡ tuple_of (columns_in c n) (forms_of comparisons)

  insert_is : (x : CommandForm) (n : List ℕ) (t : List Atom) → IsResolved c x (checked.Insert n t) → Inserts x n t
  insert_is (insert m fs) n t r = record {
    comparisons = fs;
    is = ap (λ (y : List ℕ). insert y fs) (sym r.0);
    tuple = r.1 ∙ ap (λ (y : List ℕ). tuple_of (columns_in c y) (forms_of fs)) (sym r.0);
  }
  insert_is _ n t r = absurd r

  delete_is : (x : CommandForm) (n : List ℕ) (k : ℕ) → IsResolved c x (checked.Delete n k) → x ≡ delete n k
  delete_is (delete m j) n k r = ap (λ (y : List ℕ). delete y j) (sym r.0) ∙ ap (delete n) (sym r.1)
  delete_is _ n k r = absurd r

  drop_is : (x : CommandForm) (n : List ℕ) → IsResolved c x (checked.Drop n) → x ≡ drop n
  drop_is (drop m) n r = ap drop (sym r)
  drop_is _ n r = absurd r

  show_is : (x : CommandForm) (n : List ℕ) → IsResolved c x (checked.Show n) → x ≡ show n
  show_is (show m) n r = ap show (sym r)
  show_is _ n r = absurd r

  box_is : (x : CommandForm) (n : List ℕ) → IsResolved c x (checked.BoxOf n) → x ≡ box_of n
  box_is (box_of m) n r = ap box_of (sym r)
  box_is _ n r = absurd r

  disjoint_is : (x : CommandForm) (n m : List ℕ) → IsResolved c x (checked.Disjoint n m) → x ≡ disjoint n m
  disjoint_is (disjoint k l) n m r = ap (λ (y : List ℕ). disjoint y l) (sym r.0) ∙ ap (disjoint n) (sym r.1)
  disjoint_is _ n m r = absurd r

  verify_is : (x : CommandForm) (n m : List ℕ) (es : Vec Entry Global) → IsResolved c x (checked.Verify n m es) → x ≡ verify n m es.items
  verify_is (verify k l fs) n m es r = ap (λ (y : List ℕ). verify y l fs) (sym r.0) ∙ ap (λ (y : List ℕ). verify n y fs) (sym r.1) ∙ ap (verify n m) (sym r.2)
  verify_is _ n m es r = absurd r

  keep_is : (x : CommandForm) (n : List ℕ) → IsResolved c x (checked.Keep n) → x ≡ keep n
  keep_is (keep m) n r = ap keep (sym r)
  keep_is _ n r = absurd r

  view_is : (x : CommandForm) (n : List ℕ) (h : List Column) (f : Formula) (g : Goal) → IsResolved c x (checked.View n h f g) → (x ≡ view n h (form f)) × (goal_form g ≡ goal_of h (form f))
  view_is (view m k e) n h f g r = (
    ap (λ (y : List ℕ). view y k e) (sym r.0) ∙ ap (λ (y : List Column). view n y e) (sym r.1) ∙ ap (view n h) (sym r.2),
    r.3 ∙ ap (λ (y : List Column). goal_of y e) (sym r.1) ∙ ap (goal_of h) (sym r.2),
  )
  view_is _ n h f g r = absurd r

  -- ---- what stands behind a command by slots

  module _ (k : Checked) (ready : IsReady c k) where
    pub ready_relation : (n : List ℕ) (h : List Column) → k ≡ checked.Relation n h → IsNewName (known c) n × (length h ≤ 16)
    ready_relation n h e =
        let r = subst (IsReady c) e ready in
        let same = relation_is r.written n h r.resolved in
        new_relation n h (subst (HasNoCause c) same r.accepted) (subst NamesPlainly same r.named)

    pub ready_insert : (n : List ℕ) (t : List Atom) → k ≡ checked.Insert n t → (is_relation_with (known c n) ≡ true) × IsTupleOver (columns_in c n) t × (tuple_length t ≤ 63)
    ready_insert n t e =
        let r = subst (IsReady c) e ready in
        let i = insert_is r.written n t r.resolved in
        (into_relation n i.comparisons (subst (HasNoCause c) i.is r.accepted), r.storable.0, r.storable.1)

    pub ready_delete : (n : List ℕ) (i : ℕ) → k ≡ checked.Delete n i → list_any (λ t. t.0 == i) (tuples_in c n) ≡ true
    ready_delete n i e =
        let r = subst (IsReady c) e ready in
        present n i (subst (HasNoCause c) (delete_is r.written n i r.resolved) r.accepted)

    pub ready_drop : (n : List ℕ) → k ≡ checked.Drop n → (is_some (known c n) ≡ true) × (list_any (entry_uses n) c.entries ≡ false)
    ready_drop n e =
        let r = subst (IsReady c) e ready in
        let a = subst (HasNoCause c) (drop_is r.written n r.resolved) r.accepted in
        (some_of (known c n) (a Unknown refl), a Used refl)

    pub ready_show : (n : List ℕ) → k ≡ checked.Show n → is_relation_with (known c n) ≡ true
    ready_show n e =
        let r = subst (IsReady c) e ready in
        of_relation n (subst (HasNoCause c) (show_is r.written n r.resolved) r.accepted)

    pub ready_box : (n : List ℕ) → k ≡ checked.BoxOf n → is_relation_with (known c n) ≡ true
    ready_box n e =
        let r = subst (IsReady c) e ready in
        of_box n (subst (HasNoCause c) (box_is r.written n r.resolved) r.accepted)

    pub ready_disjoint : (n m : List ℕ) → k ≡ checked.Disjoint n m → (is_relation_with (known c n) ≡ true) × (is_relation_with (known c m) ≡ true)
    ready_disjoint n m e =
        let r = subst (IsReady c) e ready in
        let a = subst (HasNoCause c) (disjoint_is r.written n m r.resolved) r.accepted in
        relations_of n m (a Unknown refl) (a Kind refl)

    pub ready_verify : (n m : List ℕ) (es : Vec Entry Global) → k ≡ checked.Verify n m es → (is_relation_with (known c n) ≡ true) × (is_relation_with (known c m) ≡ true)
    ready_verify n m es e =
        let r = subst (IsReady c) e ready in
        let a = subst (HasNoCause c) (verify_is r.written n m es r.resolved) r.accepted in
        relations_of n m (a Unknown refl) (a Kind refl)

    pub ready_keep : (n : List ℕ) → k ≡ checked.Keep n → is_view_with (known c n) ≡ true
    ready_keep n e =
        let r = subst (IsReady c) e ready in
        of_view n (subst (HasNoCause c) (keep_is r.written n r.resolved) r.accepted)

    pub ready_view : (n : List ℕ) (h : List Column) (f : Formula) (g : Goal) → k ≡ checked.View n h f g
        → IsNewName (known c) n × IsAccepted (known c) h (form f) × (level_of (known c) (form f) ≤ 16) × (goal_form g ≡ goal_of h (form f)) × IsPlain (form f)
        × (some_atom is_long_atom (form f) ≡ false)
    ready_view n h f g e =
        let r = subst (IsReady c) e ready in
        let v = view_is r.written n h f g r.resolved in
        let a = subst (HasNoCause c) v.0 r.accepted in (
          (none_of (known c n) (a Taken refl), unmade_word n (subst NamesPlainly v.0 r.named).0),
          accepted h (form f) (a Many refl) (a Twice refl) (a Unknown refl) (a Arity refl) (a Unbound refl) (a WrongSort refl),
          at_most (level_of (known c) (form f)) (a Level refl),
          v.1,
          subst IsPlainCommand v.0 r.plain,
          sym (ap has_long_row v.0) ∙ r.short,
        )

    -- what such a command says, as it is written
    pub written_header : k ≡ checked.Header → (x : CommandForm) → IsResolved c x k → x ≡ header
    written_header e x r = header_is x (subst (IsResolved c x) e r)

    pub written_dump : k ≡ checked.Dump → (x : CommandForm) → IsResolved c x k → x ≡ dump
    written_dump e x r = dump_is x (subst (IsResolved c x) e r)

    pub written_relation : (n : List ℕ) (h : List Column) → k ≡ checked.Relation n h → (x : CommandForm) → IsResolved c x k → x ≡ relation n h
    written_relation n h e x r = relation_is x n h (subst (IsResolved c x) e r)

    pub written_delete : (n : List ℕ) (i : ℕ) → k ≡ checked.Delete n i → (x : CommandForm) → IsResolved c x k → x ≡ delete n i
    written_delete n i e x r = delete_is x n i (subst (IsResolved c x) e r)

    pub written_drop : (n : List ℕ) → k ≡ checked.Drop n → (x : CommandForm) → IsResolved c x k → x ≡ drop n
    written_drop n e x r = drop_is x n (subst (IsResolved c x) e r)

    pub written_show : (n : List ℕ) → k ≡ checked.Show n → (x : CommandForm) → IsResolved c x k → x ≡ show n
    written_show n e x r = show_is x n (subst (IsResolved c x) e r)

    pub written_box : (n : List ℕ) → k ≡ checked.BoxOf n → (x : CommandForm) → IsResolved c x k → x ≡ box_of n
    written_box n e x r = box_is x n (subst (IsResolved c x) e r)

    pub written_disjoint : (n m : List ℕ) → k ≡ checked.Disjoint n m → (x : CommandForm) → IsResolved c x k → x ≡ disjoint n m
    written_disjoint n m e x r = disjoint_is x n m (subst (IsResolved c x) e r)

    pub written_verify : (n m : List ℕ) (es : Vec Entry Global) → k ≡ checked.Verify n m es → (x : CommandForm) → IsResolved c x k → x ≡ verify n m es.items
    written_verify n m es e x r = verify_is x n m es (subst (IsResolved c x) e r)

    pub written_keep : (n : List ℕ) → k ≡ checked.Keep n → (x : CommandForm) → IsResolved c x k → x ≡ keep n
    written_keep n e x r = keep_is x n (subst (IsResolved c x) e r)

    pub written_view : (n : List ℕ) (h : List Column) (f : Formula) (g : Goal) → k ≡ checked.View n h f g → (x : CommandForm) → IsResolved c x k → x ≡ view n h (form f)
    written_view n h f g e x r = (view_is x n h f g (subst (IsResolved c x) e r)).0

  -- what is so of every insert is so of one that is an insert by slots
  pub written_as_insert : (k : Checked) (n : List ℕ) (t : List Atom) → k ≡ checked.Insert n t → (P : CommandForm → Type 0) → ((comparisons : Logics FormAtom) → P (insert n comparisons))
      → (x : CommandForm) → IsResolved c x k → P x
  written_as_insert k n t e P all x r =
      let i = insert_is x n t (subst (IsResolved c x) e r) in
      subst P (sym i.is) (all i.comparisons)

  -- one that is an insert by slots is carried out as the insert that it is written as
  pub written_insert : (d : Catalogue) (reply : ReplyForm) (k : Checked) (n : List ℕ) (t : List Atom) → k ≡ checked.Insert n t
      → ((comparisons : Logics FormAtom) → t ≡ tuple_of (columns_in c n) (forms_of comparisons) → Carries (insert n comparisons) c reply d)
      → (x : CommandForm) → IsResolved c x k → Carries x c reply d
  written_insert d reply k n t e does x r =
      let i = insert_is x n t (subst (IsResolved c x) e r) in
      subst (λ (y : CommandForm). Carries y c reply d) (sym i.is) (does i.comparisons i.tuple)
