-- Answers are read back.
use Rattle.std.proofs.Common.{◌≡◌, ℕ, ◌<◌, ◌≤◌, max, List, [], ◌∷◌, ◌++◌, length, map, refl, sym, ap, ◌∙◌, subst, arith, Bool, true, false, append_assoc, length-append}
use Rattle.std.specs.Prelude.{ℤ, Some, None, codes, if◌then◌else◌, ◌==◌}
use Rattle.std.specs.List.{AllByRecursion, list_any}
use Rattle.std.specs.Str.{bytes_eq}
use Rattle.std.proofs.lemmas.Slice.Eq.{bytes_eq-Decides}
use Rattle.ded_num.specs.Length.{IsShort, length_of}
use Rattle.ded_num.proofs.Lengths.{within_from_length}
use Rattle.ded_model.specs.declared.slot.Slot.{Slot}
use Rattle.ded_model.specs.declared.name.Column.{Column}
use Rattle.ded_model.specs.declared.tuple.ThemeAtom.{ThemeAtom}
use Rattle.ded_model.specs.declared.tuple.ThemeAtom.TheVariants.{EqText, NeText, EqSlot, NeSlot}
use Rattle.ded_model.specs.declared.tuple.BothAtom.TheVariants.{First, Second}
use Rattle.ded_model.specs.Point.{same_slot, stands_in}
use Rattle.ded_model.specs.Row.{Atom, row_mentions, theme_mentions, atom_mentions, tuple_mentions}
use Rattle.ded_model.specs.Normal.{IsNormalTuple}
use Rattle.ded_model.specs.Known.{heading_slots}
use Rattle.ded_model.specs.Width.{greatest_length, tuple_length}
use Rattle.ded_model.proofs.Points.{same_slot_refl}
use Rattle.ded_print.specs.Lines.{line_text, lines_text, is_one_line}
use Rattle.ded_print.specs.Numbers.{number_text}
use Rattle.ded_print.specs.Tuples.{column_names, tuple_text, answer_text}
use Rattle.ded_print.proofs.LineReplies.{number_line}
use Rattle.ded_model.proofs.Rows.{or_left, or_right}
use Rattle.ded_lex.proofs.Cases.{same_some, none_some}
use Rattle.ded_readback.specs.Plain.{IsPlainHeading}
use Rattle.ded_readback.specs.Spelling.{IsShortTuple, SpellsAnswer}
use Rattle.ded_readback.specs.Reading.{behind_line, tuples_at, answer_at}
use Rattle.ded_readback.proofs.Names.{IsNamed, named}
use Rattle.ded_readback.proofs.ThemesRead.{IsNamedTheme}
use Rattle.ded_readback.proofs.TuplesRead.{IsGood, IsGoodTuple, tuples_read, lines_length}

-- ---- the slots of tuples over a heading are named

abbrev pub AreOver : List Column → (Slot → Bool) → Type 0
AreOver h test = (s : Slot) → test s ≡ true → stands_in (heading_slots 0 h) s ≡ true

named_coefs : (h : List Column) (cs : List (Slot × ℤ)) → IsPlainHeading h → AreOver h (λ s. list_any (λ c. same_slot c.0 s) cs) → AllByRecursion (λ c. IsNamed h c.0) cs
named_coefs h [] plain over = tt
named_coefs h (c ∷ cs) plain over =
    (named h c.0 plain (over c.0 (or_left (same_slot c.0 c.0) _ (same_slot_refl c.0))), named_coefs h cs plain (λ s e. over s (or_right (same_slot c.0 s) _ e)))

named_theme : (h : List Column) (a : ThemeAtom) → IsPlainHeading h → AreOver h (theme_mentions a) → IsNamedTheme h a
unfolding theme_mentions
named_theme h (EqText s t) plain over = named h s plain (over s (same_slot_refl s))
named_theme h (NeText s t) plain over = named h s plain (over s (same_slot_refl s))
named_theme h (EqSlot s t) plain over = (named h s plain (over s (or_left (same_slot s s) _ (same_slot_refl s))), named h t plain (over t (or_right (same_slot s t) _ (same_slot_refl t))))
named_theme h (NeSlot s t) plain over = (named h s plain (over s (or_left (same_slot s s) _ (same_slot_refl s))), named h t plain (over t (or_right (same_slot s t) _ (same_slot_refl t))))

-- ---- the constants are short

constant_short : (z : ℤ) (zs : List ℤ) (n : ℕ) → max (max (length_of z) (greatest_length zs)) n ≤ 127 → IsShort z
constant_short z zs n h = within_from_length z 127 (omega (arith, h))

good_atoms : (h : List Column) (t : List Atom) → IsPlainHeading h → IsNormalTuple t → AreOver h (tuple_mentions t) → tuple_length t ≤ 127 → AllByRecursion (IsGood h) t
unfolding tuple_mentions atom_mentions row_mentions
good_atoms h [] plain normal over short = tt
good_atoms h (First r ∷ atoms) plain normal over short = (
  (normal.0, (named_coefs h r.coefs plain (λ s e. over s (or_left (list_any (λ c. same_slot c.0 s) r.coefs) _ e)), constant_short r.constant (map (λ c. c.1) r.coefs) (tuple_length atoms) short)),
  good_atoms h atoms plain normal.2 (λ s e. over s (or_right (list_any (λ c. same_slot c.0 s) r.coefs) _ e)) (omega (arith, short)),
)
good_atoms h (Second a ∷ atoms) plain normal over short = (
  (normal.0, named_theme h a plain (λ s e. over s (or_left (theme_mentions a s) _ e))),
  good_atoms h atoms plain normal.2 (λ s e. over s (or_right (theme_mentions a s) _ e)) short,
)

good_tuples : (h : List Column) (ts : List (List Atom)) → IsPlainHeading h → AllByRecursion (IsShortTuple h) ts → AllByRecursion (IsGoodTuple h) ts
good_tuples h [] plain each = tt
good_tuples h (t ∷ ts) plain each =
    ((each.0.0.normal, good_atoms h t plain each.0.0.normal each.0.0.slots each.0.1), good_tuples h ts plain each.1)

-- ---- the first line

line_passed : (p rest : List ℕ) → is_one_line p ≡ true → behind_line (p ++ (10 ∷ rest)) ≡ rest
line_passed [] rest h = refl
line_passed (b ∷ p) rest h = go (b == 10) refl h (line_passed p rest)
  where
    differ : false ≡ true → ⊥
    differ e = cc

    go : (t : Bool) → (b == 10) ≡ t → (if t then false else is_one_line p) ≡ true → (is_one_line p ≡ true → behind_line (p ++ (10 ∷ rest)) ≡ rest) → behind_line (b ∷ (p ++ (10 ∷ rest))) ≡ rest
    go true e h more = absurd (differ h)
    go false e h more = rw e (more h)

-- ---- answers

pub answer_read : (h : List Column) (ts : List (List Atom)) → IsPlainHeading h → AllByRecursion (IsShortTuple h) ts → answer_at h (answer_text h ts) ≡ Some ts
answer_read h ts plain each =
    let head = codes "answer" ++ (32 ∷ number_text (length ts)) in
    let lines = lines_text (map (tuple_text (column_names h)) ts) in
    let rest = lines ++ line_text (codes "end") in
    let few : length ts < length rest = omega (arith, lines_length h ts, length-append lines (line_text (codes "end"))) in
    ap (λ (l : List ℕ). tuples_at h (behind_line l)) (append_assoc head (10 ∷ []) rest)
    ∙ ap (tuples_at h) (line_passed head rest (number_line (length ts)))
    ∙ tuples_read h ts (length rest) [] plain (good_tuples h ts plain each) few

pub spelled_read : (bytes : List ℕ) (h : List Column) (ts : List (List Atom)) → IsPlainHeading h → SpellsAnswer bytes h ts → answer_at h bytes ≡ Some ts
spelled_read bytes h ts plain s = ap (answer_at h) s.text ∙ answer_read h ts plain s.each

pub one_list : (bytes : List ℕ) (h : List Column) (ts us : List (List Atom)) → IsPlainHeading h → SpellsAnswer bytes h ts → SpellsAnswer bytes h us → ts ≡ us
one_list bytes h ts us plain s t = same_some (sym (spelled_read bytes h ts plain s) ∙ spelled_read bytes h us plain t)

-- ---- where none is spelled

differ : true ≡ false → ⊥
differ e = cc

pub none_read : (bytes : List ℕ) (h k : List Column) (ts : List (List Atom)) → IsPlainHeading h → k ≡ h → answer_at k bytes ≡ None → SpellsAnswer bytes h ts → ⊥
none_read bytes h k ts plain same none s = none_some (sym none ∙ ap (λ (g : List Column). answer_at g bytes) same ∙ spelled_read bytes h ts plain s)

-- what is read is spelled, if anything is
read_same : (bytes : List ℕ) (h : List Column) (list ts : List (List Atom)) → IsPlainHeading h → answer_at h bytes ≡ Some list → SpellsAnswer bytes h ts → ts ≡ list
read_same bytes h list ts plain read s = same_some (sym (spelled_read bytes h ts plain s) ∙ read)

pub none_over : (bytes : List ℕ) (h k : List Column) (list us : List (List Atom)) (b : Bool) → IsPlainHeading h → k ≡ h → us ≡ list → answer_at k bytes ≡ Some list → (AllByRecursion (IsShortTuple k) us → b ≡ true) → b ≡ false
    → (ts : List (List Atom)) → SpellsAnswer bytes h ts → ⊥
none_over bytes h k list us b plain same is read all e ts s =
    let found : answer_at h bytes ≡ Some list = ap (λ (g : List Column). answer_at g bytes) (sym same) ∙ read in
    let each : AllByRecursion (IsShortTuple h) us = subst (AllByRecursion (IsShortTuple h)) (read_same bytes h list ts plain found s ∙ sym is) s.each in
    differ (sym (all (subst (λ g. AllByRecursion (IsShortTuple g) us) (sym same) each)) ∙ e)

pub none_printed : (bytes : List ℕ) (h k g : List Column) (list : List (List Atom)) (b : Bool) → IsPlainHeading h → k ≡ h → answer_at k bytes ≡ Some list → g ≡ h → b ≡ bytes_eq (answer_text g list) bytes → b ≡ false
    → (ts : List (List Atom)) → SpellsAnswer bytes h ts → ⊥
none_printed bytes h k g list b plain over read same is e ts s =
    let found : answer_at h bytes ≡ Some list = ap (λ (x : List Column). answer_at x bytes) (sym over) ∙ read in
    let text : answer_text g list ≡ bytes = ap (λ (x : List Column). answer_text x list) same ∙ ap (answer_text h) (sym (read_same bytes h list ts plain found s)) ∙ sym s.text in
    differ (sym ((bytes_eq-Decides (answer_text g list) bytes).1 text) ∙ sym is ∙ e)
